-- What is written for an expression is the text of its tree.
use Rattle.std.proofs.Common.{◌≡◌, ℕ, suc, Bool, true, false, cond, List, ◌∷◌, ◌++◌, codes, refl, sym, ap, ◌∙◌, append_assoc, append-nil}
use Rattle.tera_spelling.specs.Spelling.{in_quotes, is_special, spaced, spelling}
use Rattle.std.specs.Prelude.{pos, negsuc}
use Rattle.std.specs.List.{list_any}
use Rattle.std.specs.Str.{bytes_eq}
use Rattle.tera_base.specs.Values as values
use Rattle.tera_base.specs.Values.{KeyVal, TextKey, I64Key, TruthKey, Val, Vals, Pairs}
use Rattle.tera_lexer.specs.grammar.Tokens.{Items, Ended}
use Rattle.tera_lexer.specs.code.Cursors.{nowhere}
use Rattle.tera_ast.specs.Text.{binary_text}
use Rattle.tera_ast.specs.Tree as tree
use Rattle.tera_ast.specs.Tree.{Expr}
use Rattle.tera_ast.specs.declared.ast.BinaryOperator.{BinaryOperator}
use Rattle.tera_ast.specs.declared.ast.BinaryOperator.TheVariants as binary
use Rattle.tera_ast.specs.declared.ast.UnaryOperator.TheVariants as unary
use Rattle.tera_grammar.specs.expressions.Marks.{mark, RightParen, RightBracket, RightBrace, Colon, If}
use Rattle.tera_grammar.specs.expressions.Concrete.{Simple, Escaped, Single, of_arguments, of_items, of_entries, Tree, Atomic, Chain, Links, no_links, field, item, Sub, index, slice, plain, spread, pair, argument, Attributes, bare, valued, literal_token, quote_token, yield, name_yield, joint_yield, bracket_yield, op_yield, links_yield, sub_yield, part_yield, extra_yield, attributes_yield, args_yield}
use Rattle.tera_source.specs.declared.context.Context.{Context}
use Rattle.tera_source.specs.Contexts.{free, above, before, following, after_prefix, left_of, right_of, takes_negation}
use Rattle.tera_source.specs.Source as source
use Rattle.tera_source.specs.Source.{word, quote, key_literal, value_tree, values_row, pairs_row, operator_for, joint_for, bracket_for, with_field, with_sub, negation_of, attribute, tree_of, part_of, extra_of, arguments_row, args_of, items_row, entries_row, attributes_of, paren_links, paren_sub, paren_part, paren_extra, paren_attributes, paren_args, source_text}
use Rattle.tera_source.specs.Writable.{IsOperator, MayLink, IsConstant, AreConstants, AreConstantPairs, IsWritable, MaybeWritable, AreWritableArgs, AreWritableItems, AreWritableEntries, AreWritableAttributes}
use Rattle.tera_source.specs.Writing.{key_source, constant_text, vals_text, pairs_text, dot_text, bracket_text, names_text, operator_text, optional_args, attribute_text, dotted, text, maybe_text, args_text, items_text, entries_text, attributes_text, written}
use Rattle.tera_source.proofs.Trails.{from_spaced, after, at, opened, at_is, by_bar, begun, row_more, names_written, path_written, is_barred}
use Rattle.tera_source.proofs.Barred.{IsChainTree, chain_tree, plain_negation, barred_is}

-- strings and keys
quote_by : (b : Bool) (text : List ℕ) → spelling (quote_token (cond b (Escaped text) (Simple text))) ≡ in_quotes text
quote_by true text = refl
quote_by false text = refl

quote_lexeme : (text : List ℕ) → spelling (quote_token (quote text)) ≡ in_quotes text
quote_lexeme text = quote_by (list_any is_special text) text

key_lexeme : (k : KeyVal) → spelling (literal_token (key_literal k)) ≡ key_source k
key_lexeme (TextKey text) = quote_lexeme text
key_lexeme (I64Key n) = refl
key_lexeme (TruthKey true) = refl
key_lexeme (TruthKey false) = refl

-- constants
value_at : (v : Val) → at free (value_tree v) ≡ opened free (value_tree v)
value_at (values.I64 (pos n)) = refl
value_at (values.I64 (negsuc n)) = refl
value_at v = refl

mutual
  value_opened : (v : Val) → IsConstant v → (c : Context) (r : Items) → spaced (yield (opened c (value_tree v)) r) ≡ 32 ∷ (constant_text v ++ spaced r)
  value_opened values.Nothing h c r = refl
  value_opened (values.Truth true) h c r = refl
  value_opened (values.Truth false) h c r = refl
  value_opened (values.I64 (pos n)) h c r = refl
  value_opened (values.I64 (negsuc n)) h c r = refl
  value_opened (values.Text text) h c r = ap (λ l. 32 ∷ (l ++ spaced r)) (quote_lexeme text)
  value_opened (values.Array vs) h c r =
      ap (λ l. 32 ∷ 91 ∷ l) (values_written vs h false r ∙ sym (append_assoc (vals_text false vs) (codes " ]") (spaced r)))
  value_opened (values.Map ps) h c r =
      ap (λ l. 32 ∷ 123 ∷ l) (pairs_written ps h false r ∙ sym (append_assoc (pairs_text false ps) (codes " }") (spaced r)))
  value_opened values.Undefined h c r = absurd h
  value_opened (values.U64 n) h c r = absurd h
  value_opened (values.I128 n) h c r = absurd h
  value_opened (values.U128 n) h c r = absurd h
  value_opened (values.Bytes bs) h c r = absurd h

  values_written : (vs : Vals) → AreConstants vs → (later : Bool) (r : Items)
      → spaced (begun later of_items (values_row vs) r) ≡ vals_text later vs ++ spaced (mark RightBracket nowhere r)
  values_written values.NoVals h true r = refl
  values_written values.NoVals h false r = refl
  values_written (values.OneVal v vs) h later r =
      row_more later of_items (plain (value_tree v)) (values_row vs) r (constant_text v) (vals_text true vs) (spaced (mark RightBracket nowhere r))
      (ap (λ t. spaced (yield t (begun true of_items (values_row vs) r))) (value_at v) ∙ value_opened v h.0 free _)
      (values_written vs h.1 true r)

  pairs_written : (ps : Pairs) → AreConstantPairs ps → (later : Bool) (r : Items)
      → spaced (begun later of_entries (pairs_row ps) r) ≡ pairs_text later ps ++ spaced (mark RightBrace nowhere r)
  pairs_written values.NoPairs h true r = refl
  pairs_written values.NoPairs h false r = refl
  pairs_written (values.OnePair k v ps) h later r =
      row_more later of_entries (pair (key_literal k) nowhere nowhere (value_tree v)) (pairs_row ps) r
      (key_source k ++ (codes " : " ++ constant_text v)) (pairs_text true ps) (spaced (mark RightBrace nowhere r))
      (ap (λ l. 32 ∷ (l ++ (32 ∷ 58 ∷ spaced (yield (at free (value_tree v)) (begun true of_entries (pairs_row ps) r))))) (key_lexeme k)
      ∙ ap (λ l. 32 ∷ l) (after (key_source k) (codes " : " ++ constant_text v) _
      (ap (λ l. 32 ∷ 58 ∷ l) (ap (λ t. spaced (yield t (begun true of_entries (pairs_row ps) r))) (value_at v) ∙ value_opened v h.0 free _))))
      (pairs_written ps h.1 true r)

-- fields and subscripts, of a chain and of another operand
links_after : (ls last : Links) (r : Items)
    → links_yield (paren_links (source.following ls last)) r ≡ links_yield (paren_links ls) (links_yield (paren_links last) r)
links_after no_links last r = refl
links_after (field d n ls) last r = ap (λ x. joint_yield d (name_yield n x)) (links_after ls last r)
links_after (item b s ls) last r = ap (λ x. bracket_yield b (sub_yield (paren_sub s) x)) (links_after ls last r)

field_yield : (c : Context) (t : Tree) (o : Bool) (name : List ℕ) (r : Items) → IsChainTree t
    → yield (opened c (with_field t o name)) r ≡ yield (at (before 21 c) t) (joint_yield (joint_for o) (name_yield (word name) r))
field_yield c (Atomic (Chain n ls)) o name r h = ap (name_yield n) (links_after ls (field (joint_for o) (word name) no_links) r)
field_yield c t o name r h = absurd h

sub_of : (c : Context) (t : Tree) (o : Bool) (s : Sub) (r : Items) → (o ≡ true → IsChainTree t)
    → yield (opened c (with_sub t o s)) r ≡ yield (at (before 21 c) t) (bracket_yield (bracket_for o) (sub_yield (paren_sub s) r))
sub_of c (Atomic (Chain n ls)) o s r h = ap (name_yield n) (links_after ls (item (bracket_for o) s no_links) r)
sub_of c t false s r h = refl
sub_of c t true s r h = absurd (h refl)

may_link : (o : Bool) (e : Expr) → MayLink o e → o ≡ true → IsChainTree (tree_of e)
may_link true e h is = chain_tree e h
may_link false e h is = cc

dot_written : (o : Bool) (name : List ℕ) (r : Items)
    → spaced (joint_yield (joint_for o) (name_yield (word name) r)) ≡ (dot_text o ++ name) ++ spaced r
dot_written true name r = refl
dot_written false name r = refl

bracket_written : (o : Bool) (r : Items) → spaced (bracket_yield (bracket_for o) r) ≡ bracket_text o ++ spaced r
bracket_written true r = refl
bracket_written false r = refl

operator_written : (o : BinaryOperator) (r : Items) → IsOperator o
    → spaced (op_yield (Single (operator_for o) nowhere) r) ≡ 32 ∷ (binary_text o ++ spaced r)
operator_written binary.Is r h = absurd h
operator_written binary.Pipe r h = absurd h
operator_written o r h = refl

-- texts alone, put together
operator_glue : (x y z : List ℕ) → 32 ∷ (x ++ (32 ∷ (y ++ z))) ≡ ((codes " " ++ (x ++ codes " ")) ++ y) ++ z
operator_glue x y z = simp append_assoc

choice_glue : (x y z : List ℕ) → codes " if " ++ (x ++ (codes " else " ++ (y ++ z))) ≡ (codes " if " ++ (x ++ (codes " else " ++ y))) ++ z
choice_glue x y z = simp append_assoc

list_glue : (e n t c z : List ℕ) → codes "[ " ++ (e ++ (codes " for " ++ (n ++ (codes " in " ++ (t ++ (c ++ (codes " ]" ++ z)))))))
    ≡ (codes "[ " ++ (e ++ (codes " for " ++ (n ++ (codes " in " ++ (t ++ (c ++ codes " ]"))))))) ++ z
list_glue e n t c z = simp append_assoc

slice_glue : (o a b x z : List ℕ) → o ++ (a ++ (codes " :" ++ (b ++ (x ++ (codes " ]" ++ z)))))
    ≡ (o ++ (a ++ (codes " :" ++ (b ++ (x ++ codes " ]"))))) ++ z
slice_glue o a b x z = simp append_assoc

index_glue : (o i z : List ℕ) → o ++ (codes " " ++ (i ++ (codes " ]" ++ z))) ≡ (o ++ (codes " " ++ (i ++ codes " ]"))) ++ z
index_glue o i z = simp append_assoc

value_glue : (n w a z : List ℕ) → n ++ (codes " = { " ++ (w ++ (codes " }" ++ (a ++ z)))) ≡ ((n ++ (codes " = " ++ (codes "{ " ++ (w ++ codes " }")))) ++ a) ++ z
value_glue n w a z = simp append_assoc

text_glue : (n w a z : List ℕ) → n ++ (codes " = " ++ (w ++ (a ++ z))) ≡ ((n ++ (codes " = " ++ w)) ++ a) ++ z
text_glue n w a z = simp append_assoc

spread_glue : (w a z : List ℕ) → w ++ (codes " }" ++ (a ++ z)) ≡ ((w ++ codes " }") ++ a) ++ z
spread_glue w a z = simp append_assoc

-- an expression where it is
abbrev Opens : Expr → Type 0
Opens e = (c : Context) (r : Items) → spaced (yield (opened c (tree_of e)) r) ≡ 32 ∷ (text false e c ++ spaced r)

closes : (e : Expr) → IsWritable e → Opens e → (c : Context) (r : Items)
    → spaced (yield (at c (tree_of e)) r) ≡ 32 ∷ (written e c ++ spaced r)
closes e h each c r =
    ap (λ t. spaced (yield t r)) (at_is c (tree_of e))
    ∙ by_bar (tree_of e) (is_barred c (tree_of e)) c r (text false e free) (text false e c) (each free (mark RightParen nowhere r)) (each c r)
    ∙ ap (λ b. 32 ∷ (cond b (codes "( " ++ (text false e free ++ codes " )")) (text false e c) ++ spaced r)) (barred_is c e h)

-- a `not` that is a prefix
prefix_opened : (e : Expr) → IsWritable e → takes_negation e ≡ false → Opens e → (c : Context) (r : Items)
    → spaced (yield (opened c (negation_of (tree_of e))) r) ≡ 32 ∷ ((codes "not " ++ written e (after_prefix 5 c)) ++ spaced r)
prefix_opened e h is each c r =
    ap (λ t. spaced (yield (opened c t) r)) (plain_negation e h is)
    ∙ ap (λ l. 32 ∷ 110 ∷ 111 ∷ 116 ∷ l) (closes e h each (after_prefix 5 c) r)

-- an attribute in front of others
attribute_valued : (n : List ℕ) (e : Expr) (ats : Attributes) (more : List ℕ) (r : Items)
    → ((s : Items) → spaced (yield (at free (tree_of e)) s) ≡ 32 ∷ (written e free ++ spaced s))
    → spaced (attributes_yield (paren_attributes ats) r) ≡ more ++ spaced r
    → spaced (attributes_yield (paren_attributes (valued (word n) nowhere nowhere (tree_of e) nowhere ats)) r)
    ≡ 32 ∷ (((n ++ (codes " = " ++ (codes "{ " ++ (written e free ++ codes " }")))) ++ more) ++ spaced r)
attribute_valued n e ats more r h rest =
    ap (λ l. 32 ∷ (n ++ (32 ∷ 61 ∷ 32 ∷ 123 ∷ l))) (h _ ∙ ap (λ l. 32 ∷ (written e free ++ (32 ∷ 125 ∷ l))) rest)
    ∙ ap (λ l. 32 ∷ l) (value_glue n (written e free) more (spaced r))

bare_by : (b : Bool) (n : List ℕ) (t : Tree) (ats : Attributes) (x more : List ℕ) (r : Items)
    → spaced (attributes_yield (paren_attributes ats) r) ≡ more ++ spaced r
    → spaced (attributes_yield (paren_attributes (valued (word n) nowhere nowhere t nowhere ats)) r) ≡ 32 ∷ ((x ++ more) ++ spaced r)
    → spaced (attributes_yield (paren_attributes (cond b (bare (word n) ats) (valued (word n) nowhere nowhere t nowhere ats))) r)
    ≡ 32 ∷ ((cond b n x ++ more) ++ spaced r)
bare_by true n t ats x more r rest h = ap (λ l. 32 ∷ l) (after n more (spaced r) rest)
bare_by false n t ats x more r rest h = h

attribute_written : (n : List ℕ) (e : Expr) (ats : Attributes) (more : List ℕ) (r : Items)
    → ((s : Items) → spaced (yield (at free (tree_of e)) s) ≡ 32 ∷ (written e free ++ spaced s))
    → spaced (attributes_yield (paren_attributes ats) r) ≡ more ++ spaced r
    → spaced (attributes_yield (paren_attributes (attribute n e (tree_of e) ats)) r)
    ≡ 32 ∷ ((attribute_text (TextKey n) e (written e free) ++ more) ++ spaced r)
attribute_written n (tree.Var name s) ats more r h rest =
    bare_by (bytes_eq n name) n (tree_of (tree.Var name s)) ats _ more r rest (attribute_valued n (tree.Var name s) ats more r h rest)
attribute_written n (tree.Const (values.Text t) s) ats more r h rest =
    ap (λ l. 32 ∷ (n ++ (32 ∷ 61 ∷ 32 ∷ (l ++ spaced (attributes_yield (paren_attributes ats) r))))) (quote_lexeme t)
    ∙ ap (λ l. 32 ∷ (n ++ (32 ∷ 61 ∷ 32 ∷ (in_quotes t ++ l)))) rest
    ∙ ap (λ l. 32 ∷ l) (text_glue n (in_quotes t) more (spaced r))
attribute_written n e ats more r h rest = attribute_valued n e ats more r h rest

mutual
  opens : (e : Expr) → IsWritable e → Opens e
  opens (tree.Const v s) h c r = value_opened v h c r
  opens (tree.Var name s) h c r = refl
  opens (tree.GetAttr e name o s) h c r =
      ap spaced (field_yield c (tree_of e) o name r (chain_tree e h.1))
      ∙ closes e h.0 (opens e h.0) (before 21 c) _
      ∙ ap (λ l. 32 ∷ l) (after (written e (before 21 c)) (dot_text o ++ name) (spaced r) (dot_written o name r))
  opens (tree.GetItem e i o s) h c r =
      ap spaced (sub_of c (tree_of e) o (index (tree_of i) nowhere) r (may_link o e h.2))
      ∙ closes e h.0 (opens e h.0) (before 21 c) _
      ∙ ap (λ l. 32 ∷ l) (after (written e (before 21 c)) (bracket_text o ++ (codes " " ++ (written i free ++ codes " ]"))) (spaced r)
      (bracket_written o _ ∙ ap (λ l. bracket_text o ++ l) (closes i h.1 (opens i h.1) free _) ∙ index_glue (bracket_text o) (written i free) (spaced r)))
  opens (tree.Slice e a b x o s) h c r =
      ap spaced (sub_of c (tree_of e) o (slice (part_of a) nowhere (part_of b) (extra_of x) nowhere) r (may_link o e h.4))
      ∙ closes e h.0 (opens e h.0) (before 21 c) _
      ∙ ap (λ l. 32 ∷ l) (after (written e (before 21 c)) (bracket_text o ++ (maybe_text (codes " ") 0 a ++ (codes " :" ++ (maybe_text (codes " ") 0 b ++ (maybe_text (codes " : ") 0 x ++ codes " ]"))))) (spaced r)
      (bracket_written o _
      ∙ ap (λ l. bracket_text o ++ l) (part_written a h.1 _
      ∙ ap (λ l. maybe_text (codes " ") 0 a ++ (codes " :" ++ l)) (part_written b h.2 _
      ∙ ap (λ l. maybe_text (codes " ") 0 b ++ l) (step_written x h.3 (mark RightBracket nowhere r))))
      ∙ slice_glue (bracket_text o) (maybe_text (codes " ") 0 a) (maybe_text (codes " ") 0 b) (maybe_text (codes " : ") 0 x) (spaced r)))
  opens (tree.Filter e name g s) h c r =
      closes e h.0 (opens e h.0) (before 18 c) _
      ∙ ap (λ l. 32 ∷ l) (after (written e (before 18 c)) (codes " | " ++ (name ++ optional_args g (args_text false g))) (spaced r)
      (ap (λ l. codes " | " ++ l) (after name (optional_args g (args_text false g)) (spaced r) (args_written g h.1 r))))
  opens (tree.Test e name g s) h c r =
      closes e h.0 (opens e h.0) (before 6 c) _
      ∙ ap (λ l. 32 ∷ l) (after (written e (before 6 c)) (codes " is " ++ (name ++ optional_args g (args_text false g))) (spaced r)
      (ap (λ l. codes " is " ++ l) (after name (optional_args g (args_text false g)) (spaced r) (args_written g h.1 r))))
  opens (tree.Ternary e a b s) h c r =
      closes a h.1 (opens a h.1) (before 1 c) _
      ∙ ap (λ l. 32 ∷ l) (after (written a (before 1 c)) (codes " if " ++ (written e free ++ (codes " else " ++ written b (following 0 c)))) (spaced r)
      (ap (λ l. 32 ∷ 105 ∷ 102 ∷ l) (closes e h.0 (opens e h.0) free _
      ∙ ap (λ l. 32 ∷ (written e free ++ (32 ∷ 101 ∷ 108 ∷ 115 ∷ 101 ∷ l))) (closes b h.2 (opens b h.2) (following 0 c) r))
      ∙ choice_glue (written e free) (written b (following 0 c)) (spaced r)))
  opens (tree.ListComprehension e k v t x s) h c r =
      ap (λ l. 32 ∷ 91 ∷ l) (closes e h.0 (opens e h.0) free _
      ∙ ap (λ l. 32 ∷ (written e free ++ (32 ∷ 102 ∷ 111 ∷ 114 ∷ l))) (names_written k v _
      ∙ ap (λ l. 32 ∷ (names_text k v ++ (32 ∷ 105 ∷ 110 ∷ l))) (closes t h.1 (opens t h.1) (above 1) _
      ∙ ap (λ l. 32 ∷ (written t (above 1) ++ l)) (guard_written x h.2 (mark RightBracket nowhere r)))))
      ∙ ap (λ l. 32 ∷ l) (list_glue (written e free) (names_text k v) (written t (above 1)) (maybe_text (codes " if ") 1 x) (spaced r))
  opens (tree.ComponentCall name es body closed s) h c r =
      ap (λ l. 32 ∷ 60 ∷ l) (path_written name _
      ∙ ap (λ l. 32 ∷ l) (after (dotted name) (attributes_text es ++ codes " / >") (spaced r)
      (attributes_written es h.0 _ ∙ sym (append_assoc (attributes_text es) (codes " / >") (spaced r)))))
  opens (tree.FunctionCall name g s) h c r =
      ap (λ l. 32 ∷ l) (after name (codes " (" ++ (args_text false g ++ codes " )")) (spaced r)
      (ap (λ l. 32 ∷ 40 ∷ l) (arguments_written g h false r ∙ sym (append_assoc (args_text false g) (codes " )") (spaced r)))))
  opens (tree.Array es s) h c r =
      ap (λ l. 32 ∷ 91 ∷ l) (items_written es h false r ∙ sym (append_assoc (items_text false es) (codes " ]") (spaced r)))
  opens (tree.Map es s) h c r =
      ap (λ l. 32 ∷ 123 ∷ l) (entries_written es h false r ∙ sym (append_assoc (entries_text false es) (codes " }") (spaced r)))
  opens (tree.UnaryOperation unary.Minus e s) h c r = ap (λ l. 32 ∷ 45 ∷ l) (closes e h (opens e h) (after_prefix 20 c) r)
  opens (tree.UnaryOperation unary.Not (tree.Test e name g s) t) h c r =
      closes e h.0 (opens e h.0) (before 6 c) _
      ∙ ap (λ l. 32 ∷ l) (after (written e (before 6 c)) (codes " is not " ++ (name ++ optional_args g (args_text false g))) (spaced r)
      (ap (λ l. codes " is not " ++ l) (after name (optional_args g (args_text false g)) (spaced r) (args_written g h.1 r))))
  opens (tree.UnaryOperation unary.Not (tree.BinaryOperation binary.In a b s) t) h c r =
      closes a h.0 (opens a h.0) (before 6 c) _
      ∙ ap (λ l. 32 ∷ l) (after (written a (before 6 c)) (codes " not in " ++ written b (following 6 c)) (spaced r)
      (ap (λ l. 32 ∷ 110 ∷ 111 ∷ 116 ∷ 32 ∷ 105 ∷ 110 ∷ l) (closes b h.1 (opens b h.1) (following 6 c) r)))
  opens (tree.UnaryOperation unary.Not e t) h c r = prefix_opened e h refl (opens e h) c r
  opens (tree.BinaryOperation o a b s) h c r =
      closes a h.0 (opens a h.0) (before (suc (left_of o)) c) _
      ∙ ap (λ l. 32 ∷ l) (after (written a (before (suc (left_of o)) c)) (operator_text false o ++ written b (following (right_of o) c)) (spaced r)
      (operator_written o _ h.2
      ∙ ap (λ l. 32 ∷ (binary_text o ++ l)) (closes b h.1 (opens b h.1) (following (right_of o) c) r)
      ∙ operator_glue (binary_text o) (written b (following (right_of o) c)) (spaced r)))

  part_written : (x : tree.MaybeExpr) → MaybeWritable x → (r : Items)
      → spaced (part_yield (paren_part (part_of x)) r) ≡ maybe_text (codes " ") 0 x ++ spaced r
  part_written tree.NoExpr h r = refl
  part_written (tree.OneExpr e) h r = closes e h (opens e h) free r

  step_written : (x : tree.MaybeExpr) → MaybeWritable x → (r : Items)
      → spaced (extra_yield Colon (paren_extra 0 (extra_of x)) r) ≡ maybe_text (codes " : ") 0 x ++ spaced r
  step_written tree.NoExpr h r = refl
  step_written (tree.OneExpr e) h r = ap (λ l. 32 ∷ 58 ∷ l) (closes e h (opens e h) free r)

  guard_written : (x : tree.MaybeExpr) → MaybeWritable x → (r : Items)
      → spaced (extra_yield If (paren_extra 1 (extra_of x)) r) ≡ maybe_text (codes " if ") 1 x ++ spaced r
  guard_written tree.NoExpr h r = refl
  guard_written (tree.OneExpr e) h r = ap (λ l. 32 ∷ 105 ∷ 102 ∷ l) (closes e h (opens e h) (above 1) r)

  arguments_written : (g : tree.Args) → AreWritableArgs g → (later : Bool) (r : Items)
      → spaced (begun later of_arguments (arguments_row g) r) ≡ args_text later g ++ spaced (mark RightParen nowhere r)
  arguments_written tree.NoArgs h true r = refl
  arguments_written tree.NoArgs h false r = refl
  arguments_written (tree.Arg name e g) h later r =
      row_more later of_arguments (argument (word name) nowhere (tree_of e)) (arguments_row g) r
      (name ++ (codes " = " ++ written e free)) (args_text true g) (spaced (mark RightParen nowhere r))
      (ap (λ l. 32 ∷ l) (after name (codes " = " ++ written e free) _ (ap (λ l. 32 ∷ 61 ∷ l) (closes e h.0 (opens e h.0) free _))))
      (arguments_written g h.1 true r)

  args_written : (g : tree.Args) → AreWritableArgs g → (r : Items)
      → spaced (args_yield (paren_args (args_of g)) r) ≡ optional_args g (args_text false g) ++ spaced r
  args_written tree.NoArgs h r = refl
  args_written (tree.Arg name e g) h r =
      ap (λ l. 32 ∷ 40 ∷ l) (row_more false of_arguments (argument (word name) nowhere (tree_of e)) (arguments_row g) r
      (name ++ (codes " = " ++ written e free)) (args_text true g) (spaced (mark RightParen nowhere r))
      (ap (λ l. 32 ∷ l) (after name (codes " = " ++ written e free) _ (ap (λ l. 32 ∷ 61 ∷ l) (closes e h.0 (opens e h.0) free _))))
      (arguments_written g h.1 true r)
      ∙ sym (append_assoc (args_text false (tree.Arg name e g)) (codes " )") (spaced r)))

  items_written : (es : tree.Items) → AreWritableItems es → (later : Bool) (r : Items)
      → spaced (begun later of_items (items_row es) r) ≡ items_text later es ++ spaced (mark RightBracket nowhere r)
  items_written tree.NoItems h true r = refl
  items_written tree.NoItems h false r = refl
  items_written (tree.Item e es) h later r =
      row_more later of_items (plain (tree_of e)) (items_row es) r (written e free) (items_text true es) (spaced (mark RightBracket nowhere r))
      (closes e h.0 (opens e h.0) free _) (items_written es h.1 true r)
  items_written (tree.SpreadItem e es) h later r =
      row_more later of_items (spread nowhere (tree_of e)) (items_row es) r (codes "... " ++ written e free) (items_text true es) (spaced (mark RightBracket nowhere r))
      (ap (λ l. 32 ∷ 46 ∷ 46 ∷ 46 ∷ l) (closes e h.0 (opens e h.0) free _)) (items_written es h.1 true r)

  entries_written : (es : tree.Entries) → AreWritableEntries es → (later : Bool) (r : Items)
      → spaced (begun later of_entries (entries_row es) r) ≡ entries_text later es ++ spaced (mark RightBrace nowhere r)
  entries_written tree.NoEntries h true r = refl
  entries_written tree.NoEntries h false r = refl
  entries_written (tree.Entry k e es) h later r =
      row_more later of_entries (pair (key_literal k) nowhere nowhere (tree_of e)) (entries_row es) r
      (key_source k ++ (codes " : " ++ written e free)) (entries_text true es) (spaced (mark RightBrace nowhere r))
      (ap (λ l. 32 ∷ (l ++ (32 ∷ 58 ∷ spaced (yield (at free (tree_of e)) (begun true of_entries (entries_row es) r))))) (key_lexeme k)
      ∙ ap (λ l. 32 ∷ l) (after (key_source k) (codes " : " ++ written e free) _ (ap (λ l. 32 ∷ 58 ∷ l) (closes e h.0 (opens e h.0) free _))))
      (entries_written es h.1 true r)
  entries_written (tree.SpreadEntry e es) h later r =
      row_more later of_entries (spread nowhere (tree_of e)) (entries_row es) r (codes "... " ++ written e free) (entries_text true es) (spaced (mark RightBrace nowhere r))
      (ap (λ l. 32 ∷ 46 ∷ 46 ∷ 46 ∷ l) (closes e h.0 (opens e h.0) free _)) (entries_written es h.1 true r)

  attributes_written : (es : tree.Entries) → AreWritableAttributes es → (r : Items)
      → spaced (attributes_yield (paren_attributes (attributes_of es)) r) ≡ attributes_text es ++ spaced r
  attributes_written tree.NoEntries h r = refl
  attributes_written (tree.Entry (TextKey n) e es) h r =
      attribute_written n e (attributes_of es) (attributes_text es) r (closes e h.1 (opens e h.1) free) (attributes_written es h.2 r)
  attributes_written (tree.Entry (I64Key n) e es) h r = absurd h.0
  attributes_written (tree.Entry (TruthKey b) e es) h r = absurd h.0
  attributes_written (tree.SpreadEntry e es) h r =
      ap (λ l. 32 ∷ 123 ∷ 32 ∷ 46 ∷ 46 ∷ 46 ∷ l) (closes e h.0 (opens e h.0) free _
      ∙ ap (λ l. 32 ∷ (written e free ++ (32 ∷ 125 ∷ l))) (attributes_written es h.1 r)
      ∙ ap (λ l. 32 ∷ l) (spread_glue (written e free) (attributes_text es) (spaced r)))

-- what is written for an expression by itself is its source text
pub written_source : (e : Expr) → IsWritable e → written e free ≡ source_text e
written_source e h =
    sym (from_spaced _ (written e free) (closes e h (opens e h) free Ended ∙ ap (λ l. 32 ∷ l) (append-nil (written e free))))
