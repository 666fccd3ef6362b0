-- From the tokens of a whole source to its derivation.
use Rattle.std.proofs.Common.{◌≡◌, ℕ, false, List, [], map, Some, subst, sym, refl, ap, ◌∙◌}
use Rattle.tera_lexer.specs.grammar.Marks.{Marks, IsValid}
use Rattle.tera_lexer.specs.grammar.Division.{Complete, IsDivision}
use Rattle.tera_lexer.specs.grammar.Tokens.{Items, tokens_of, AreTokensOf}
use Rattle.tera_lexer.proofs.Lefts.{tokens_one}
use Rattle.tera_ast.specs.View.{nodes_of}
use Rattle.tera_tree.specs.Tree.{Output}
use Rattle.tera_grammar.specs.statements.Expressions.{Limits}
use Rattle.tera_grammar.specs.statements.Grammar.{Body}
use Rattle.tera_grammar.specs.statements.Names.{Names}
use Rattle.tera_grammar.specs.statements.Output.{output_of}
use Rattle.tera_grammar.specs.statements.Places.{Places, places, texts}
use Rattle.tera_grammar.proofs.plain.statements.Reading.{template}
use Rattle.tera_grammar.specs.statements.Top.{IsTemplate, Derives, DerivesNames}
use Rattle.tera_grammar.specs.statements.Trees.{blocks}
use Rattle.tera_grammar.proofs.statements.Closed.{ends_in_nothing}
use Rattle.tera_grammar.proofs.statements.Names.{same_names}
use Rattle.tera_grammar.proofs.statements.Trees.{same_blocks, same_components}
use Rattle.tera_grammar.proofs.statements.Tops.{template_sound, template_complete, one_template}

module _ (l : Limits) (m : Marks) (source : List ℕ) where
  -- a derivation with names is one
  pub derived : (output : Output) (ns : Places) → DerivesNames l m source output ns → Derives l m source output
  derived output ns (pieces, division, (b, is, same, named)) = (pieces, division, (b, is, same))

  -- and each has names
  pub names_derived : (output : Output) → Derives l m source output → (ns : Places) × DerivesNames l m source output ns
  names_derived output (pieces, division, (b, is, same)) = (places b, (pieces, division, (b, is, same, refl)))

  -- the names are those of the blocks and of the components of the output
  pub names_reported : (output : Output) (ns : Places) → DerivesNames l m source output ns
      → (texts ns.blocks ≡ blocks (nodes_of output.nodes)) × (texts ns.components ≡ map (λ d. d.name) output.definitions)
  names_reported output ns (pieces, division, (b, is, same, named)) = (
    ap (λ (p : Places). texts p.blocks) named ∙ ap (λ (n : Names). n.blocks) (same_names b) ∙ sym (same_blocks b l [] false is.fits) ∙ ap (λ (o : Output). blocks (nodes_of o.nodes)) (sym same),
    ap (λ (p : Places). texts p.components) named ∙ ap (λ (n : Names). n.components) (same_names b) ∙ sym (same_components b l is.fits) ∙ ap (λ (o : Output). map (λ d. d.name) o.definitions) (sym same),
  )

module _ (l : Limits) (m : Marks) (valid : IsValid m) (source : List ℕ) where
  -- what is derived is a template of the tokens of the source
  derived_template : (items : Items) → AreTokensOf m source items → (output : Output) (d : Derives l m source output) → IsTemplate l items d.2.0
  derived_template items are output (pieces, division, (b, is, same)) =
      subst (λ ts. IsTemplate l ts b) (sym (tokens_one m valid source items (tokens_of m [] [] pieces Complete) are (pieces, Complete, division, refl))) is

  pub derives_unique : (one other : Output) → Derives l m source one → Derives l m source other → one ≡ other
  derives_unique one other d d' =
      let same = derived_template (tokens_of m [] [] d.0 Complete) (d.0, Complete, d.1, refl) other d' in
      d.2.2 ∙ ap output_of (one_template l (tokens_of m [] [] d.0 Complete) d.2.0 d'.2.0 d.2.1 same) ∙ sym d'.2.2

  -- no source has two outputs with their names
  pub names_unique : (one other : Output) (ns ms : Places) → DerivesNames l m source one ns → DerivesNames l m source other ms → (one ≡ other) × (ns ≡ ms)
  names_unique one other ns ms (pieces, division, (b, is, same, named)) (pieces', division', (b', is', same', named')) =
      let both = one_template l (tokens_of m [] [] pieces Complete) b b' is
      (derived_template (tokens_of m [] [] pieces Complete) (pieces, Complete, division, refl) other (pieces', division', (b', is', same'))) in
      (same ∙ ap output_of both ∙ sym same', named ∙ ap places both ∙ sym named')

  -- of the tokens of the source
  module _ (items : Items) (are : AreTokensOf m source items) where
    -- what is read of them is derived
    pub read_names : (b : Body) → template l items ≡ Some b → DerivesNames l m source (output_of b) (places b)
    read_names b read =
        let (pieces, ending, division, same) = are in
        let is = template_sound l items b read in
        let nothing : ending ≡ Complete = ends_in_nothing m pieces ending b (sym same ∙ is.tokens) in (
          pieces,
          subst (λ e. IsDivision m pieces e source) nothing division,
          (b, subst (λ ts. IsTemplate l ts b) (same ∙ ap (tokens_of m [] [] pieces) nothing) is, refl, refl),
        )

    pub read_derives : (b : Body) → template l items ≡ Some b → Derives l m source (output_of b)
    read_derives b read = derived l m source (output_of b) (places b) (read_names b read)

    -- what is derived is read
    pub derives_read : (output : Output) → Derives l m source output → (b : Body) × (template l items ≡ Some b) × (output ≡ output_of b)
    derives_read output d = (d.2.0, template_complete l items d.2.0 (derived_template items are output d), d.2.2)
