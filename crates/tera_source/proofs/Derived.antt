-- The text of an expression of a source has a derivation in a variable tag, whose one node is that expression, apart
-- from places.
use Rattle.std.proofs.Common.{◌≡◌, ℕ, ◌≤◌, Bool, false, List, [], Some, refl, sym, ap, subst, ◌∙◌, inl, arith}
use Rattle.tera_base.specs.declared.utils.Span.{Span}
use Rattle.tera_lexer.specs.grammar.Marks.{Marks, default_marks}
use Rattle.tera_lexer.specs.grammar.Tokens.{Items, Ended, Token, Start, Finish, AreTokensOf, tokens_of}
use Rattle.tera_lexer.specs.grammar.Division.{Complete}
use Rattle.tera_lexer.specs.declared.lexer.delimiters.Kind.TheVariants.{Variable}
use Rattle.tera_ast.specs.Tree as tree
use Rattle.tera_ast.specs.Tree.{Expr}
use Rattle.tera_tree.specs.Tree.{Output}
use Rattle.tera_grammar.specs.Limits.{Limits}
use Rattle.tera_grammar.specs.expressions.Concrete as concrete
use Rattle.tera_grammar.specs.expressions.Concrete.{Tree}
use Rattle.tera_grammar.specs.expressions.Conditions as conditions
use Rattle.tera_grammar.specs.expressions.Measures.{Within}
use Rattle.tera_grammar.specs.expressions.Output.{output}
use Rattle.tera_grammar.specs.statements.Expressions.{IsExpression}
use Rattle.tera_grammar.specs.statements.Grammar.{Shown, Body, Done, Then, Single, yield}
use Rattle.tera_grammar.specs.statements.Output.{output_of}
use Rattle.tera_grammar.specs.statements.Top.{IsTemplate, Derives}
use Rattle.tera_grammar.proofs.statements.Tops.{template_complete}
use Rattle.tera_grammar.proofs.statements.Wholes.{read_derives, derives_unique}
use Rattle.tera_spelling.specs.Spelling.{AreSpelled}
use Rattle.tera_spelling.specs.Sources.{in_tag, IsTagOf}
use Rattle.tera_spelling.proofs.Tags.{tag_read, default_valid}
use Rattle.tera_grammar.proofs.expressions.Bodiless.{has_body, output_bodiless}
use Rattle.tera_source.specs.Source.{source_of, tree_of, source_tree, source_text}
use Rattle.tera_source.specs.Placeless.{placeless}
use Rattle.tera_source.specs.InSources.{IsInSource}
use Rattle.tera_source.specs.Printing.{shown_alone, Shows, PrintsBack}
use Rattle.tera_source.specs.Outermost.{EachOfBody}
use Rattle.tera_source.specs.Nodes.{EachOfOutput}
use Rattle.tera_source.specs.Subexpressions.{EachPart}
use Rattle.tera_source.proofs.Subexpressions.{each_part}
use Rattle.tera_source.proofs.Outermost.{StandsAmong, template_sound}
use Rattle.tera_source.proofs.Shown.{of_whole, output_holds}
use Rattle.tera_source.proofs.Writables.{output_writable}
use Rattle.tera_source.proofs.WrittenOutputs.{source_bound}
use Rattle.tera_source.proofs.Backs.{source_output}
use Rattle.tera_source.proofs.InSources.{stands_given}
use Rattle.tera_source.proofs.Spelled.{paren_spelled}
use Rattle.tera_source.proofs.SpelledTree.{written_spelled}
use Rattle.tera_source.proofs.ReadBack.{moved, stands_within}

-- no expression is read as a component with a body
text_reported : (e : Expr) → has_body e ≡ false → source_of e ≡ Some (source_text e)
text_reported (tree.ComponentCall name es body false s) h = cc
text_reported _ h = refl

output_text : (l : Bool) (t : Tree) → source_of (output l t) ≡ Some (source_text (output l t))
output_text l t = text_reported (output l t) (output_bodiless l t)

-- one expression in a variable tag
abbrev alone : Span → Tree → Span → Body
alone start t end = Then (Single (Shown (record { dash = false; span = start }) t (record { dash = false; span = end }))) Done

alone_yield : (start end : Span) (t : Tree) →
    yield (alone start t end) Ended ≡ Token (Start Variable false) start (concrete.yield t (Token (Finish Variable false) end Ended))
alone_yield start end t = refl

alone_output : (start end : Span) (t : Tree) → output_of (alone start t end) ≡ shown_alone (output false t)
alone_output start end t = refl

expression_fits : (limits : Limits) (t : Tree) → conditions.IsExpression false t → Within limits t → IsExpression limits false t
unfolding IsExpression
expression_fits limits t is small = (is, small)

alone_template : (limits : Limits) (start end : Span) (t : Tree) → 1 ≤ limits.bodies → conditions.IsExpression false t → Within limits t →
    IsTemplate limits (yield (alone start t end) Ended) (alone start t end)
alone_template limits start end t some is small = record {
  tokens = refl;
  fits = (expression_fits limits t is small, tt);
  distinct = (tt, tt);
  top = inl (λ h. h, tt);
  low = some;
}

module _ (m : Marks) (source : List ℕ) (limits : Limits) (l : Bool) (e : Tree) (sound : IsInSource m source e) where
  source_spelled : AreSpelled (concrete.yield (source_tree (output l e)) Ended)
  source_spelled = paren_spelled 0 0 false (tree_of (output l e)) Ended (written_spelled l e (stands_given m source e sound)) tt

  module _ (is : conditions.IsExpression l e) (small : Within limits e) (some : 1 ≤ limits.bodies) where
    -- the derivation of tokens that are these in a tag
    tag_derives : (text : List ℕ) (read : Items) → AreTokensOf default_marks text read → IsTagOf (concrete.yield (source_tree (output l e)) Ended) read →
        (x : Expr) × Derives limits default_marks text (shown_alone x) × (placeless x ≡ placeless (output l e))
    tag_derives text read are (start, end, inside, begins, tokens) =
        let t = moved limits (source_tree (output l e)) inside (Token (Finish Variable false) end Ended)
        (source_bound l e is) (stands_within m source limits l e sound is small) tokens in
        let body = alone start t.tree end in
        let same : read ≡ yield body Ended = begins ∙ ap (Token (Start Variable false) start) t.tokens ∙ sym (alone_yield start end t.tree) in
        let fits = subst (λ ts. IsTemplate limits ts body) (sym same) (alone_template limits start end t.tree some t.bound t.within) in
        let derived = read_derives limits default_marks default_valid text read are body (template_complete limits read body fits) in (
          output false t.tree,
          subst (Derives limits default_marks text) (alone_output start end t.tree) derived,
          t.same ∙ source_output l e is,
        )

    source_derives : (x : Expr) × Derives limits default_marks (in_tag (source_text (output l e))) (shown_alone x) × (placeless x ≡ placeless (output l e))
    source_derives =
        let (read, are, is_tag) = tag_read (concrete.yield (source_tree (output l e)) Ended) source_spelled in
        tag_derives (in_tag (source_text (output l e))) read are is_tag

    -- whatever is derived is what is derived so
    each_derived : (read : Output) → Derives limits default_marks (in_tag (source_text (output l e))) read → Shows (output l e) read
    each_derived read derived =
        let (x, one, same) = source_derives in
        (x, derives_unique limits default_marks default_valid (in_tag (source_text (output l e))) read (shown_alone x) derived one, same)

    pub prints_back : PrintsBack limits (output l e)
    prints_back = record {
      text = output_text l e;
      writable = output_writable l e;
      exists = (shown_alone source_derives.0, source_derives.1);
      each = λ read derived. each_derived read derived;
    }

-- each expression in a derivation is printed back
module _ (m : Marks) (source : List ℕ) (limits : Limits) where
  abbrev Printed : Bool → Tree → Type 0
  Printed in_loop e = PrintsBack limits (output in_loop e)

  each_printed : (items : Items) → AreTokensOf m source items → 1 ≤ limits.bodies → (in_loop : Bool) (e : Tree) → StandsAmong limits items in_loop e → Printed in_loop e
  each_printed items are some in_loop e among =
      prints_back m source limits in_loop e
      (record { before = among.before; following = among.following; tokens = subst (AreTokensOf m source) among.is are }) among.bound among.within some

  pub each_prints_back : (read : Output) (d : Derives limits m source read) → EachOfBody (λ in_loop e. EachPart (Printed in_loop) e) false d.2.0
  each_prints_back read (pieces, division, (b, is, same)) =
      let items = tokens_of m [] [] pieces Complete in
      let printed = each_printed items (pieces, Complete, division, refl) (omega (arith, is.low)) in
      template_sound limits items (λ in_loop e. EachPart (Printed in_loop) e)
      (λ in_loop e among. each_part limits items in_loop (Printed in_loop) (printed in_loop) e among) b is.tokens is.fits

  -- and so is each in the nodes of its output
  pub each_node_prints_back : (read : Output) → Derives limits m source read → EachOfOutput (PrintsBack limits) read
  each_node_prints_back read d =
      subst (EachOfOutput (PrintsBack limits)) (sym d.2.2)
      (output_holds (λ in_loop e. EachPart (Printed in_loop) e) (PrintsBack limits) (λ in_loop e each. of_whole (Printed in_loop) e each)
      d.2.0 (each_prints_back read d))
