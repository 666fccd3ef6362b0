-- The names, literals and strings of what is written for an expression can be spelled, where those of the expression
-- are of a source.
use Rattle.std.proofs.Common.{◌≡◌, ℕ, zero, suc, Bool, true, false, cond, nat_eq, List, [], ◌∷◌, ◌++◌, Option, Some, None, bytes_eq, refl, sym, ap, subst, ◌∙◌, arith, codes}
use Rattle.std.specs.Prelude.{ℤ, pos, negsuc, neg_ℤ}
use Rattle.std.specs.List.{AllByRecursion, list_any}
use Rattle.std.specs.Ordering.{nat_cmp}
use Rattle.std.specs.Cmp.Lexicographic.{slice_cmp}
use Rattle.std.proofs.lemmas.Bool.Decides.{nat_tests}
use Rattle.std.proofs.lemmas.List.{append-nil}
use Rattle.std.proofs.lemmas.Bool.{eqb-true, false_from_ne_true}
use Rattle.tera_base.specs.Same.{key_eq}
use Rattle.tera_base.specs.Values as values
use Rattle.tera_base.specs.Values.{KeyVal, Val, Pairs}
use Rattle.tera_base.specs.declared.utils.Span.{Span}
use Rattle.tera_lexer.specs.code.Cursors.{nowhere}
use Rattle.tera_lexer.specs.grammar.Lexeme.{begins_name, goes_on_name}
use Rattle.tera_lexer.specs.grammar.Tokens.{Ident}
use Rattle.tera_ast.specs.Tree as tree
use Rattle.tera_ast.specs.Tree.{Expr}
use Rattle.tera_grammar.specs.expressions.Operators.{In}
use Rattle.tera_grammar.specs.expressions.Concrete.{Name, Simple, Escaped, Lit, Number, Quoted, Truth, Sign, Negative, Negates, Joint, plainly, negated, Second, no_second, second, Single, NotIn, Tree, Atomic, Prefix, Suffixed, Infix, Atom, Literal, Null, Chain, Call, Paren, Array, Comprehension, Map, Component, Links, no_links, field, item, Sub, index, slice, Part, absent, present, Extra, no_extra, extra, Row, ended, only, then, Element, plain, spread, pair, argument, Attributes, no_attributes, bare, quoted, valued, spreading, Suffix, Test, Filter, Subscript, Args, no_args, args, Binary, Condition, Dotted, no_dots, dots, quote_token, literal_token}
use Rattle.tera_grammar.specs.expressions.Companions.{Path}
use Rattle.tera_grammar.specs.expressions.Spans.{spanning, sign_span, first, last, row_end}
use Rattle.tera_grammar.specs.expressions.Output.{quote_text, literal_value, key_of, put_pair, put_arg, constant_entries, map_made, prefixed, is_optional_joint, is_optional_bracket, of_loop, field_output, dotted_text, key_variable, value_variable, output, links_output, sub_output, part_output, extra_output, arguments_output, argument_output, items_output, item_output, entries_output, entry_output, attributes_output, suffix_output, args_output}
use Rattle.tera_spelling.specs.Spelling.{IsName, IsSpelled}
use Rattle.tera_spelling.specs.Given.{IsGiven}
use Rattle.tera_spelling.specs.Spelling.{is_special}
use Rattle.tera_source.specs.Source.{word, quote, key_literal, number_tree, in_front, value_tree, pairs_row, following, joint_for, bracket_for, with_field, with_sub, negation_of, first_variable, second_variable, longer, path_from, attribute, tree_of, part_of, extra_of, arguments_row, args_of, items_row, entries_row, attributes_of}
use Rattle.tera_source.proofs.Signs.{array_tree}
use Rattle.tera_source.proofs.Sorted.{by_ordering}
use Rattle.tera_source.proofs.Holds.{HoldsName, HoldsSecond, HoldsDotted, Holds, HoldsAtom, HoldsLinks, HoldsSub, HoldsPart, HoldsExtra, HoldsRow, HoldsElement, HoldsAttributes, HoldsSuffix, HoldsArgs}

abbrev IsSpelledName : List ℕ → Type 0
IsSpelledName name = IsSpelled (Ident name)

-- Constants

quote_cond : (b : Bool) (text : List ℕ) → list_any is_special text ≡ b → IsSpelled (quote_token (cond b (Escaped text) (Simple text)))
quote_cond true text h = h
quote_cond false text h = h

quote_spelled : (text : List ℕ) → IsSpelled (quote_token (quote text))
quote_spelled text = quote_cond (list_any is_special text) text refl

value_spelled : (x : Lit) (s : Span) → IsGiven (literal_token x) → Holds IsSpelled (tree_of (tree.Const (literal_value x) s))
value_spelled (Number (pos n)) s h = h
value_spelled (Number (negsuc n)) s (k, is, small) = cc
value_spelled (Quoted q) s h = quote_spelled (quote_text q)
value_spelled (Truth b) s h = tt

key_spelled : (x : Lit) → IsGiven (literal_token x) → IsSpelled (literal_token (key_literal (key_of x)))
key_spelled (Number n) h = h
key_spelled (Quoted q) h = quote_spelled (quote_text q)
key_spelled (Truth b) h = tt

number_negated : (n : ℤ) → Holds IsSpelled (number_tree n) → Holds IsSpelled (number_tree (neg_ℤ n))
number_negated (pos zero) h = h
number_negated (pos (suc n)) h = h
number_negated (negsuc n) h = h

none_spelled : IsSpelledName (codes "none")
none_spelled = ((refl, (refl, (refl, (refl, tt)))), refl)

-- Rows

in_front_spelled : (x : Element) (row : Row) → HoldsElement IsSpelled x → HoldsRow IsSpelled row → HoldsRow IsSpelled (in_front x row)
in_front_spelled x (ended s) h r = h
in_front_spelled x (only y s) h r = (h, r)
in_front_spelled x (then y s ys) h r = (h, r)

abbrev SpelledArgs : tree.Args → Type 0
SpelledArgs tree.NoArgs = Unit {0}
SpelledArgs (tree.Arg n e g) = IsSpelledName n × Holds IsSpelled (tree_of e) × SpelledArgs g

put_spelled : (n : List ℕ) (e : Expr) (g : tree.Args) → IsSpelledName n → Holds IsSpelled (tree_of e) → SpelledArgs g → SpelledArgs (put_arg n e g)
put_spelled n e tree.NoArgs is h v = (is, h, tt)
put_spelled n e (tree.Arg k f rest) is h v =
    by_ordering SpelledArgs (slice_cmp nat_cmp n k) (tree.Arg n e (tree.Arg k f rest)) (tree.Arg k e rest) (tree.Arg k f (put_arg n e rest))
    (λ o. (is, h, v)) (λ o. (v.0, h, v.2)) (λ o. (v.0, v.1, put_spelled n e rest is h v.2))

arguments_spelled : (g : tree.Args) → SpelledArgs g → HoldsRow IsSpelled (arguments_row g)
arguments_spelled tree.NoArgs v = tt
arguments_spelled (tree.Arg n e g) v =
    in_front_spelled (argument (word n) nowhere (tree_of e)) (arguments_row g) (v.0, v.1) (arguments_spelled g v.2)

args_spelled : (g : tree.Args) → SpelledArgs g → HoldsArgs IsSpelled (args_of g)
args_spelled tree.NoArgs v = tt
args_spelled (tree.Arg n e g) v = arguments_spelled (tree.Arg n e g) v

-- Maps

abbrev SpelledEntries : tree.Entries → Type 0
SpelledEntries tree.NoEntries = Unit {0}
SpelledEntries (tree.Entry k e es) = IsSpelled (literal_token (key_literal k)) × Holds IsSpelled (tree_of e) × SpelledEntries es
SpelledEntries (tree.SpreadEntry e es) = Holds IsSpelled (tree_of e) × SpelledEntries es

abbrev SpelledPairs : Pairs → Type 0
SpelledPairs values.NoPairs = Unit {0}
SpelledPairs (values.OnePair k v ps) = IsSpelled (literal_token (key_literal k)) × Holds IsSpelled (value_tree v) × SpelledPairs ps

entries_spelled : (es : tree.Entries) → SpelledEntries es → HoldsRow IsSpelled (entries_row es)
entries_spelled tree.NoEntries h = tt
entries_spelled (tree.Entry k e es) h =
    in_front_spelled (pair (key_literal k) nowhere nowhere (tree_of e)) (entries_row es) (h.0, h.1) (entries_spelled es h.2)
entries_spelled (tree.SpreadEntry e es) h = in_front_spelled (spread nowhere (tree_of e)) (entries_row es) h.0 (entries_spelled es h.1)

pairs_spelled : (ps : Pairs) → SpelledPairs ps → HoldsRow IsSpelled (pairs_row ps)
pairs_spelled values.NoPairs h = tt
pairs_spelled (values.OnePair k v ps) h =
    in_front_spelled (pair (key_literal k) nowhere nowhere (value_tree v)) (pairs_row ps) (h.0, h.1) (pairs_spelled ps h.2)

pairs_cond : (b : Bool) (ps qs : Pairs) → SpelledPairs ps → SpelledPairs qs → SpelledPairs (cond b ps qs)
pairs_cond true ps qs h g = h
pairs_cond false ps qs h g = g

put_pair_spelled : (k : KeyVal) (v : Val) (ps : Pairs) → IsSpelled (literal_token (key_literal k)) → Holds IsSpelled (value_tree v) → SpelledPairs ps →
    SpelledPairs (put_pair k v ps)
put_pair_spelled k v values.NoPairs is h p = (is, h, tt)
put_pair_spelled k v (values.OnePair j u ps) is h p =
    pairs_cond (key_eq k j) (values.OnePair j v ps) (values.OnePair j u (put_pair k v ps)) (p.0, h, p.2)
    (p.0, p.1, put_pair_spelled k v ps is h p.2)

abbrev SpelledConstants : Option Pairs → Type 0
SpelledConstants None = Unit {0}
SpelledConstants (Some ps) = SpelledPairs ps

constants_spelled : (es : tree.Entries) (ps : Pairs) → SpelledEntries es → SpelledPairs ps → SpelledConstants (constant_entries es ps)
constants_spelled tree.NoEntries ps h p = p
constants_spelled (tree.Entry k (tree.Const v s) es) ps h p = constants_spelled es (put_pair k v ps) h.2 (put_pair_spelled k v ps h.0 h.1 p)
constants_spelled _ ps h p = tt

map_spelled : (es : tree.Entries) (span : Span) (o : Option Pairs) → SpelledEntries es → SpelledConstants o → Holds IsSpelled (tree_of (map_made es span o))
map_spelled es span None h p = entries_spelled es h
map_spelled es span (Some ps) h p = pairs_spelled ps p

-- Prefixes, links and subscripts

negation_spelled : (t : Tree) → Holds IsSpelled t → Holds IsSpelled (negation_of t)
negation_spelled (Suffixed a (Test s plainly w g)) h = h
negation_spelled (Infix a (Binary (Single In s)) b) h = h
negation_spelled _ h = h

prefix_spelled : (s : Sign) (e : Expr) (span : Span) → Holds IsSpelled (tree_of e) → Holds IsSpelled (tree_of (prefixed s e span))
prefix_spelled (Negative s) (tree.Const (values.I64 n) t) span h = number_negated n h
prefix_spelled (Negative s) _ span h = h
prefix_spelled (Negates s) e span h = negation_spelled (tree_of e) h

after_spelled : (ls last : Links) → HoldsLinks IsSpelled ls → HoldsLinks IsSpelled last → HoldsLinks IsSpelled (following ls last)
after_spelled no_links last h g = g
after_spelled (field d n ls) last h g = (h.0, after_spelled ls last h.1 g)
after_spelled (item b s ls) last h g = (h.0, after_spelled ls last h.1 g)

with_field_spelled : (t : Tree) (o : Bool) (n : List ℕ) → IsSpelledName n → Holds IsSpelled t → Holds IsSpelled (with_field t o n)
with_field_spelled (Atomic (Chain m ls)) o n is h = (h.0, after_spelled ls (field (joint_for o) (word n) no_links) h.1 (is, tt))
with_field_spelled _ o n is h = h

with_sub_spelled : (t : Tree) (o : Bool) (s : Sub) → Holds IsSpelled t → HoldsSub IsSpelled s → Holds IsSpelled (with_sub t o s)
with_sub_spelled (Atomic (Chain m ls)) o s h g = (h.0, after_spelled ls (item (bracket_for o) s no_links) h.1 (g, tt))
with_sub_spelled _ o s h g = (h, g)

-- the variable of a loop's field
goes_on : (b : ℕ) → begins_name b ≡ true → goes_on_name b ≡ true
goes_on b h = grind (arith, nat_tests)

all_of_name : (text : List ℕ) → IsName text → AllByRecursion (λ c. goes_on_name c ≡ true) text
all_of_name [] h = absurd h
all_of_name (b ∷ bs) h = (goes_on b h.0, h.1)

loop_name : (text : List ℕ) → IsSpelledName text → IsSpelledName (codes "__tera_loop_" ++ text)
loop_name text h =
    ((refl, (refl, (refl, (refl, (refl, (refl, (refl, (refl, (refl, (refl, (refl, (refl, all_of_name text h.0)))))))))))), refl)

field_spelled : (c : Bool) (e : Expr) (d : Joint) (n : Name) → IsSpelledName n.text → Holds IsSpelled (tree_of e) → Holds IsSpelled (tree_of (field_output c e d n))
field_spelled true e d n is h = (loop_name n.text is, tt)
field_spelled false e d n is h = with_field_spelled (tree_of e) (is_optional_joint d) n.text is h

key_variable_spelled : (n : Name) (m : Second) → HoldsName IsSpelled n → HoldsSecond IsSpelled m →
    HoldsName IsSpelled (first_variable (key_variable n m) (value_variable n m)) × HoldsSecond IsSpelled (second_variable (key_variable n m) (value_variable n m))
key_variable_spelled n no_second h g = (h, tt)
key_variable_spelled n (second s m) h g = (h, g)

second_given : (m : Second) → HoldsSecond IsGiven m → HoldsSecond IsSpelled m
second_given no_second h = h
second_given (second s n) h = h

-- Components: no name has a dot

no_dot : (b : ℕ) → goes_on_name b ≡ true → nat_eq b 46 ≡ false
no_dot b h = false_from_ne_true (nat_eq b 46) (λ dot. let same : b ≡ 46 = eqb-true b 46 dot in let not : goes_on_name 46 ≡ true = subst (λ c. goes_on_name c ≡ true) same h in cc)

names_from : (text more : List ℕ) → AllByRecursion (λ c. goes_on_name c ≡ true) text →
    ((path_from (text ++ more)).name.text ≡ text ++ (path_from more).name.text) × ((path_from (text ++ more)).further ≡ (path_from more).further)
names_from [] more h = (refl, refl)
names_from (b ∷ bs) more h =
    let p = path_from (bs ++ more) in
    let whole : Path = record { name = word []; further = dots nowhere p.name p.further } in
    let rest = names_from bs more h.1 in (
      ap (λ c. (cond c whole (longer b p)).name.text) (no_dot b h.0) ∙ ap (λ x. b ∷ x) rest.0,
      ap (λ c. (cond c whole (longer b p)).further) (no_dot b h.0) ∙ rest.1,
    )

abbrev SpelledPath : Path → Type 0
SpelledPath p = HoldsName IsSpelled p.name × HoldsDotted IsSpelled p.further

-- the names after a name
abbrev SpelledFurther : Dotted → Type 0
SpelledFurther ds = ((path_from (dotted_text ds)).name.text ≡ []) × HoldsDotted IsSpelled (path_from (dotted_text ds)).further

name_path : (text : List ℕ) (ds : Dotted) → IsSpelledName text → SpelledFurther ds → SpelledPath (path_from (text ++ dotted_text ds))
name_path text ds h more =
    let from = names_from text (dotted_text ds) (all_of_name text h.0) in (
      subst IsSpelledName (sym (from.0 ∙ ap (λ x. text ++ x) more.0 ∙ append-nil text)) h,
      subst (HoldsDotted IsSpelled) (sym from.1) more.1,
    )

dotted_path : (ds : Dotted) → HoldsDotted IsGiven ds → SpelledFurther ds
dotted_path no_dots g = (refl, tt)
dotted_path (dots s n ds) g = (refl, name_path n.text ds g.0 (dotted_path ds g.1))

-- Attributes

named_cond : (b : Bool) (ats other : Attributes) → HoldsAttributes IsSpelled ats → HoldsAttributes IsSpelled other → HoldsAttributes IsSpelled (cond b ats other)
named_cond true ats other h g = h
named_cond false ats other h g = g

attribute_spelled : (n : List ℕ) (e : Expr) (t : Tree) (ats : Attributes) → IsSpelledName n → Holds IsSpelled t → HoldsAttributes IsSpelled ats →
    HoldsAttributes IsSpelled (attribute n e t ats)
attribute_spelled n (tree.Var m s) t ats is h g =
    named_cond (bytes_eq n m) (bare (word n) ats) (valued (word n) nowhere nowhere t nowhere ats) (is, g) (is, h, g)
attribute_spelled n (tree.Const (values.Text text) s) t ats is h g = (is, quote_spelled text, g)
attribute_spelled n _ t ats is h g = (is, h, g)

mutual
  pub written_spelled : (l : Bool) (t : Tree) → Holds IsGiven t → Holds IsSpelled (tree_of (output l t))
  written_spelled l (Atomic a) h = atom_written l a h
  written_spelled l (Prefix s e) h = prefix_spelled s (output l e) (spanning (sign_span s) (last e)) (written_spelled l e h)
  written_spelled l (Suffixed a s) h = suffix_written l (first a) (output l a) s (written_spelled l a h.0) h.1
  written_spelled l (Infix a (Binary (Single o s)) b) h = (written_spelled l a h.0, tt, written_spelled l b h.2)
  written_spelled l (Infix a (Binary (NotIn s t)) b) h = (written_spelled l a h.0, tt, written_spelled l b h.2)
  written_spelled l (Infix a (Condition s c t) b) h = (written_spelled l a h.0, written_spelled l c h.1, written_spelled l b h.2)

  atom_written : (l : Bool) (a : Atom) → HoldsAtom IsGiven a → Holds IsSpelled (tree_of (output l (Atomic a)))
  atom_written l (Literal x s) h = value_spelled x s h
  atom_written l (Null n) h = none_spelled
  atom_written l (Chain n ls) h = links_written l (of_loop l n) (tree.Var n.text n.span) ls h.1 (h.0, tt)
  atom_written l (Call n s row) h = (h.0, arguments_spelled (arguments_output l row tree.NoArgs) (arguments_written l row tree.NoArgs h.1 tt))
  atom_written l (Paren s e t) h = written_spelled l e h
  atom_written l (Array s row) h =
      subst (Holds IsSpelled) (sym (array_tree (items_output l row) (spanning s (row_end row)))) (items_written l row h)
  atom_written l (Comprehension s e f n m i t g c) h =
      let names = key_variable_spelled n m h.3 (second_given m h.4) in
      (written_spelled l e h.0, written_spelled l t h.1, extra_written l g h.2, names.0, names.1)
  atom_written l (Map s row) h =
      let es = entries_written l row h in
      map_spelled (entries_output l row) (spanning s (row_end row)) (constant_entries (entries_output l row) values.NoPairs) es
      (constants_spelled (entries_output l row) values.NoPairs es tt)
  atom_written l (Component s n ds ats t u) h =
      let path = name_path n.text ds h.1 (dotted_path ds h.2) in (attributes_written l ats h.0, path.0, path.1)

  links_written : (l c : Bool) (e : Expr) (ls : Links) → HoldsLinks IsGiven ls → Holds IsSpelled (tree_of e) → Holds IsSpelled (tree_of (links_output l c e ls))
  links_written l c e no_links h g = g
  links_written l c e (field d n ls) h g = links_written l c (field_output c e d n) ls h.1 (field_spelled c e d n h.0 g)
  links_written l c e (item b s ls) h g =
      links_written l c (sub_output l (is_optional_bracket b) e s) ls h.1 (sub_written l (is_optional_bracket b) e s h.0 g)

  sub_written : (l o : Bool) (e : Expr) (s : Sub) → HoldsSub IsGiven s → Holds IsSpelled (tree_of e) → Holds IsSpelled (tree_of (sub_output l o e s))
  sub_written l o e (index i c) h g = with_sub_spelled (tree_of e) o (index (tree_of (output l i)) nowhere) g (written_spelled l i h)
  sub_written l o e (slice a s b x c) h g =
      with_sub_spelled (tree_of e) o (slice (part_of (part_output l a)) nowhere (part_of (part_output l b)) (extra_of (extra_output l x)) nowhere) g
      (part_written l a h.0, part_written l b h.1, extra_written l x h.2)

  part_written : (l : Bool) (a : Part) → HoldsPart IsGiven a → HoldsPart IsSpelled (part_of (part_output l a))
  part_written l absent h = tt
  part_written l (present e) h = written_spelled l e h

  extra_written : (l : Bool) (x : Extra) → HoldsExtra IsGiven x → HoldsExtra IsSpelled (extra_of (extra_output l x))
  extra_written l no_extra h = tt
  extra_written l (extra s e) h = written_spelled l e h

  arguments_written : (l : Bool) (row : Row) (g : tree.Args) → HoldsRow IsGiven row → SpelledArgs g → SpelledArgs (arguments_output l row g)
  arguments_written l (ended s) g h v = v
  arguments_written l (only x s) g h v = argument_written l x g h v
  arguments_written l (then x s xs) g h v = arguments_written l xs (argument_output l x g) h.1 (argument_written l x g h.0 v)

  argument_written : (l : Bool) (x : Element) (g : tree.Args) → HoldsElement IsGiven x → SpelledArgs g → SpelledArgs (argument_output l x g)
  argument_written l (argument n s e) g h v = put_spelled n.text (output l e) g h.0 (written_spelled l e h.1) v
  argument_written l (plain e) g h v = v
  argument_written l (spread s e) g h v = v
  argument_written l (pair x s t e) g h v = v

  items_written : (l : Bool) (row : Row) → HoldsRow IsGiven row → HoldsRow IsSpelled (items_row (items_output l row))
  items_written l (ended s) h = tt
  items_written l (only x s) h = item_written l x tree.NoItems h tt
  items_written l (then x s xs) h = item_written l x (items_output l xs) h.0 (items_written l xs h.1)

  item_written : (l : Bool) (x : Element) (is : tree.Items) → HoldsElement IsGiven x → HoldsRow IsSpelled (items_row is) →
      HoldsRow IsSpelled (items_row (item_output l x is))
  item_written l (plain e) is h g = in_front_spelled (plain (tree_of (output l e))) (items_row is) (written_spelled l e h) g
  item_written l (spread s e) is h g = in_front_spelled (spread nowhere (tree_of (output l e))) (items_row is) (written_spelled l e h) g
  item_written l (pair x s t e) is h g = g
  item_written l (argument n s e) is h g = g

  entries_written : (l : Bool) (row : Row) → HoldsRow IsGiven row → SpelledEntries (entries_output l row)
  entries_written l (ended s) h = tt
  entries_written l (only x s) h = entry_written l x tree.NoEntries h tt
  entries_written l (then x s xs) h = entry_written l x (entries_output l xs) h.0 (entries_written l xs h.1)

  entry_written : (l : Bool) (x : Element) (es : tree.Entries) → HoldsElement IsGiven x → SpelledEntries es → SpelledEntries (entry_output l x es)
  entry_written l (pair x s t e) es h g = (key_spelled x h.0, written_spelled l e h.1, g)
  entry_written l (spread s e) es h g = (written_spelled l e h, g)
  entry_written l (plain e) es h g = g
  entry_written l (argument n s e) es h g = g

  attributes_written : (l : Bool) (ats : Attributes) → HoldsAttributes IsGiven ats → HoldsAttributes IsSpelled (attributes_of (attributes_output l ats))
  attributes_written l no_attributes h = tt
  attributes_written l (bare n ats) h =
      attribute_spelled n.text (tree.Var n.text n.span) (tree_of (tree.Var n.text n.span)) (attributes_of (attributes_output l ats)) h.0 (h.0, tt)
      (attributes_written l ats h.1)
  attributes_written l (quoted n s q t ats) h = (h.0, quote_spelled (quote_text q), attributes_written l ats h.2)
  attributes_written l (valued n s b e c ats) h =
      attribute_spelled n.text (output l e) (tree_of (output l e)) (attributes_of (attributes_output l ats)) h.0 (written_spelled l e h.1)
      (attributes_written l ats h.2)
  attributes_written l (spreading b s e c ats) h = (written_spelled l e h.0, attributes_written l ats h.1)

  suffix_written : (l : Bool) (start : Span) (e : Expr) (s : Suffix) → Holds IsSpelled (tree_of e) → HoldsSuffix IsGiven s →
      Holds IsSpelled (tree_of (suffix_output l start e s))
  suffix_written l start e (Test s plainly w g) h x = (h, (x.0, args_written l g x.1))
  suffix_written l start e (Test s (negated n) w g) h x = (h, (x.0, args_written l g x.1))
  suffix_written l start e (Filter s w g) h x = (h, (x.0, args_written l g x.1))
  suffix_written l start e (Subscript s b) h x = sub_written l false e b x h

  args_written : (l : Bool) (g : Args) → HoldsArgs IsGiven g → HoldsArgs IsSpelled (args_of (args_output l g))
  args_written l no_args h = tt
  args_written l (args s row) h = args_spelled (arguments_output l row tree.NoArgs) (arguments_written l row tree.NoArgs h tt)
