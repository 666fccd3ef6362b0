-- What is written for an output is read as that output, except where it is.
use Rattle.std.proofs.Common.{◌≡◌, ℕ, Bool, true, false, cond, nat_eq, List, [], ◌∷◌, Option, Some, None, bytes_eq, Less, Greater, refl, sym, ap, ap₂, subst, ◌∙◌}
use Rattle.std.specs.Prelude.{ℤ, pos, negsuc, neg_ℤ}
use Rattle.std.specs.List.{list_any}
use Rattle.std.specs.Ordering.{nat_cmp, match_ordering}
use Rattle.std.specs.Cmp.Lexicographic.{slice_cmp}
use Rattle.tera_base.specs.declared.utils.Span.{Span}
use Rattle.tera_lexer.specs.code.Cursors.{nowhere}
use Rattle.tera_base.specs.Same.{key_eq}
use Rattle.tera_base.specs.Values as values
use Rattle.tera_ast.specs.declared.ast.UnaryOperator.TheVariants as unary
use Rattle.tera_ast.specs.declared.ast.BinaryOperator.TheVariants as binary
use Rattle.tera_ast.specs.Tree as tree
use Rattle.tera_base.specs.Values.{KeyVal, Val, Pairs}
use Rattle.tera_grammar.specs.expressions.Operators.{In, operator_made}
use Rattle.tera_ast.specs.Tree.{Expr}
use Rattle.tera_grammar.specs.expressions.Concrete.{Name, Joint, Kind, of_arguments, of_items, of_entries, Simple, Escaped, Lit, Number, Quoted, Truth, Sign, Negative, Negates, plainly, negated, Second, no_second, second, dots, Single, NotIn, Tree, Atomic, Prefix, Suffixed, Infix, Atom, Literal, Null, Chain, Call, Paren, Array, Comprehension, Map, Component, Links, no_links, field, item, Sub, index, slice, Part, absent, present, Extra, no_extra, extra, Row, ended, only, then, Element, plain, spread, pair, argument, Attributes, no_attributes, bare, quoted, valued, spreading, Test, Filter, Subscript, Args, no_args, args, Binary, Condition}
use Rattle.tera_grammar.specs.expressions.Spans.{spanning, sign_span, first, last, row_end}
use Rattle.tera_grammar.specs.expressions.Conditions.{IsExpression, IsAtom, AreLinks, IsSub, IsPart, IsExtra, IsRow, IsElement, AreAttributes, AreArgs}
use Rattle.tera_grammar.specs.expressions.Output.{quote_text, literal_value, put_pair, put_arg, constant_entries, array_of, map_made, map_of, field_output, key_of, prefixed, is_optional_bracket, of_loop, component_text, key_variable, value_variable, is_optional_joint, output, links_output, sub_output, part_output, extra_output, arguments_output, argument_output, items_output, item_output, entries_output, entry_output, attributes_output, args_output}
use Rattle.tera_spelling.specs.Spelling.{is_special}
use Rattle.tera_source.specs.Source.{longer, path_from, first_variable, second_variable, word, quote, key_literal, number_tree, in_front, value_tree, pairs_row, following, joint_for, bracket_for, with_field, with_sub, negation_of, tree_of, part_of, extra_of, arguments_row, args_of, items_row, entries_row, attributes_of, source_tree}
use Rattle.std.proofs.lemmas.Slice.Eq.{bytes_eq-Decides}
use Rattle.std.proofs.lemmas.Bool.{eqb-true}
use Rattle.std.proofs.lemmas.Cmp.{nat_list_cmp_total}
use Rattle.std.specs.Ordering.{ordering_reverse}
use Rattle.tera_grammar.specs.expressions.Companions.{Path}
use Rattle.tera_source.proofs.Signs.{array_tree, infix_tree, IsChain, chain_field, chain_sub}
use Rattle.tera_source.proofs.Sorted.{Below, Sorted, by_ordering, sorted_put}
use Rattle.tera_source.proofs.Unplaced.{prefixed_placeless, array_placeless, map_placeless, put_placeless, paren_output}
use Rattle.tera_source.specs.Placeless.{placeless, placeless_part, placeless_args, placeless_items, placeless_entries}

-- what is written for it is read as it
abbrev pub Back : Expr → Type 0
Back e = placeless (output false (tree_of e)) ≡ placeless e

-- Constants

quote_cond : (b : Bool) (text : List ℕ) → quote_text (cond b (Escaped text) (Simple text)) ≡ text
quote_cond true text = refl
quote_cond false text = refl

quote_back : (text : List ℕ) → quote_text (quote text) ≡ text
quote_back text = quote_cond (list_any is_special text) text

key_back : (k : KeyVal) → key_of (key_literal k) ≡ k
key_back (values.TextKey text) = ap values.TextKey (quote_back text)
key_back (values.I64Key n) = refl
key_back (values.TruthKey b) = refl

number_back : (n : ℤ) → placeless (output false (number_tree n)) ≡ tree.Const (values.I64 n) nowhere
number_back (pos n) = refl
number_back (negsuc n) = refl

value_back : (x : Lit) (s : Span) → Back (tree.Const (literal_value x) s)
value_back (Number n) s = number_back n
value_back (Quoted q) s = ap (λ x. tree.Const (values.Text x) nowhere) (quote_back (quote_text q))
value_back (Truth b) s = refl

-- Arguments

abbrev BackArgs : tree.Args → Type 0
BackArgs tree.NoArgs = Unit {0}
BackArgs (tree.Arg n e g) = Back e × BackArgs g

put_back : (n : List ℕ) (e : Expr) (g : tree.Args) → Back e → BackArgs g → BackArgs (put_arg n e g)
put_back n e tree.NoArgs h v = (h, tt)
put_back n e (tree.Arg k f rest) h v =
    by_ordering BackArgs (slice_cmp nat_cmp n k) (tree.Arg n e (tree.Arg k f rest)) (tree.Arg k e rest) (tree.Arg k f (put_arg n e rest))
    (λ o. (h, v)) (λ o. (h, v.1)) (λ o. (v.0, put_back n e rest h v.1))

abbrev followed : tree.Args → tree.Args → tree.Args
followed tree.NoArgs g = g
followed (tree.Arg n e more) g = tree.Arg n e (followed more g)

-- the name comes after all of these, and all names of the second after all of the first
abbrev After : List ℕ → tree.Args → Type 0
After n tree.NoArgs = Unit {0}
After n (tree.Arg m e g) = (slice_cmp nat_cmp n m ≡ Greater) × After n g

abbrev AllAfter : tree.Args → tree.Args → Type 0
AllAfter tree.NoArgs done = Unit {0}
AllAfter (tree.Arg n e g) done = After n done × AllAfter g done

put_last : (n : List ℕ) (e : Expr) (done : tree.Args) → After n done → put_arg n e done ≡ followed done (tree.Arg n e tree.NoArgs)
put_last n e tree.NoArgs h = refl
put_last n e (tree.Arg m f done) h =
    ap (λ o. match_ordering o (tree.Arg n e (tree.Arg m f done)) (tree.Arg m e done) (tree.Arg m f (put_arg n e done))) h.0
    ∙ ap (tree.Arg m f) (put_last n e done h.1)

after_more : (k n : List ℕ) (e : Expr) (done : tree.Args) → slice_cmp nat_cmp n k ≡ Less → After k done → After k (followed done (tree.Arg n e tree.NoArgs))
after_more k n e tree.NoArgs less h = (nat_list_cmp_total.antisymm k n ∙ ap ordering_reverse less, tt)
after_more k n e (tree.Arg m f done) less h = (h.0, after_more k n e done less h.1)

all_after_more : (g : tree.Args) (n : List ℕ) (e : Expr) (done : tree.Args) → Below n g → AllAfter g done → AllAfter g (followed done (tree.Arg n e tree.NoArgs))
all_after_more tree.NoArgs n e done b h = tt
all_after_more (tree.Arg k f g) n e done b h = (after_more k n e done b.0 h.0, all_after_more g n e done b.1 h.1)

followed_twice : (x y z : tree.Args) → followed (followed x y) z ≡ followed x (followed y z)
followed_twice tree.NoArgs y z = refl
followed_twice (tree.Arg n e x) y z = ap (tree.Arg n e) (followed_twice x y z)

followed_none : (x : tree.Args) → followed x tree.NoArgs ≡ x
followed_none tree.NoArgs = refl
followed_none (tree.Arg n e x) = ap (tree.Arg n e) (followed_none x)

in_front_arguments : (x : Element) (row : Row) (g : tree.Args) → arguments_output false (in_front x row) g ≡ arguments_output false row (argument_output false x g)
in_front_arguments x (ended s) g = refl
in_front_arguments x (only y s) g = refl
in_front_arguments x (then y s ys) g = refl

-- sorted arguments, put after others, come back in their order
arguments_after : (g done : tree.Args) → Sorted g → BackArgs g → (front : tree.Args) → placeless_args done ≡ front → AllAfter g front →
    placeless_args (arguments_output false (arguments_row g) done) ≡ followed front (placeless_args g)
arguments_after tree.NoArgs done s b front same h = same ∙ sym (followed_none front)
arguments_after (tree.Arg n e g) done s b front same h =
    ap placeless_args (in_front_arguments (argument (word n) nowhere (tree_of e)) (arguments_row g) done)
    ∙ arguments_after g (put_arg n (output false (tree_of e)) done) s.1 b.1 (followed front (tree.Arg n (placeless e) tree.NoArgs))
    (put_placeless n (output false (tree_of e)) done ∙ ap₂ (put_arg n) b.0 same ∙ put_last n (placeless e) front h.0)
    (all_after_more g n (placeless e) front s.0 h.1)
    ∙ followed_twice front (tree.Arg n (placeless e) tree.NoArgs) (placeless_args g)

none_after : (g : tree.Args) → AllAfter g tree.NoArgs
none_after tree.NoArgs = tt
none_after (tree.Arg n e g) = (tt, none_after g)

record Ordered (g : tree.Args) : Type 0 where
  sorted : Sorted g
  back : BackArgs g

none_ordered : Ordered tree.NoArgs
none_ordered = record { sorted = tt; back = tt }

arguments_back : (g : tree.Args) → Ordered g → placeless_args (arguments_output false (arguments_row g) tree.NoArgs) ≡ placeless_args g
arguments_back g o = arguments_after g tree.NoArgs o.sorted o.back tree.NoArgs refl (none_after g)

args_back : (g : tree.Args) → Ordered g → placeless_args (args_output false (args_of g)) ≡ placeless_args g
args_back tree.NoArgs o = refl
args_back (tree.Arg n e g) o = arguments_back (tree.Arg n e g) o

-- Items

in_front_items : (x : Element) (row : Row) → items_output false (in_front x row) ≡ item_output false x (items_output false row)
in_front_items x (ended s) = refl
in_front_items x (only y s) = refl
in_front_items x (then y s ys) = refl

abbrev BackItems : tree.Items → Type 0
BackItems is = placeless_items (items_output false (items_row is)) ≡ placeless_items is

item_back : (e : Expr) (is : tree.Items) → Back e → BackItems is → BackItems (tree.Item e is)
item_back e is h g = ap placeless_items (in_front_items (plain (tree_of e)) (items_row is)) ∙ ap₂ tree.Item h g

spread_back : (e : Expr) (is : tree.Items) → Back e → BackItems is → BackItems (tree.SpreadItem e is)
spread_back e is h g = ap placeless_items (in_front_items (spread nowhere (tree_of e)) (items_row is)) ∙ ap₂ tree.SpreadItem h g

array_back : (is : tree.Items) (span : Span) → BackItems is → Back (array_of is span)
array_back is span h =
    ap (λ t. placeless (output false t)) (array_tree is span)
    ∙ array_placeless (items_output false (items_row is)) _ ∙ ap (λ js. array_of js nowhere) h ∙ sym (array_placeless is span)

-- Links and subscripts

after_output : (e : Expr) (ls more : Links) → links_output false false e (following ls more) ≡ links_output false false (links_output false false e ls) more
after_output e no_links more = refl
after_output e (field d n ls) more = after_output (field_output false e d n) ls more
after_output e (item b s ls) more = after_output (sub_output false (is_optional_bracket b) e s) ls more

joint_back : (o : Bool) → is_optional_joint (joint_for o) ≡ o
joint_back true = refl
joint_back false = refl

bracket_back : (o : Bool) → is_optional_bracket (bracket_for o) ≡ o
bracket_back true = refl
bracket_back false = refl

field_back : (c : Bool) (e : Expr) (d : Joint) (n : Name) → IsChain e → Back e → Back (field_output c e d n)
field_back true e d n chain h = refl
field_back false e d n chain h =
    let o = is_optional_joint d in
    let last = field (joint_for o) (word n.text) no_links in
    ap (λ t. placeless (output false (with_field t o n.text))) chain.is
    ∙ ap placeless (after_output (tree.Var chain.name.text chain.name.span) chain.links last)
    ∙ ap₂ (λ x b. tree.GetAttr x n.text b nowhere) (sym (ap (λ t. placeless (output false t)) chain.is) ∙ h) (joint_back o)

-- the subscript is on the expression, by a chain or not
abbrev SubOutput : Tree → Bool → Sub → Type 0
SubOutput t o s = placeless (output false (with_sub t o s)) ≡ placeless (sub_output false o (output false t) s)

chain_sub_output : (n : Name) (ls : Links) (o : Bool) (s : Sub) → SubOutput (Atomic (Chain n ls)) o s
chain_sub_output n ls o s =
    ap placeless (after_output (tree.Var n.text n.span) ls (item (bracket_for o) s no_links))
    ∙ ap (λ b. placeless (sub_output false b (links_output false false (tree.Var n.text n.span) ls) s)) (bracket_back o)

plain_sub_output : (t : Tree) (s : Sub) → SubOutput t false s
plain_sub_output (Atomic (Chain n ls)) s = chain_sub_output n ls false s
plain_sub_output _ s = refl

linked_sub_output : (e : Expr) (o : Bool) (s : Sub) → IsChain e → SubOutput (tree_of e) o s
linked_sub_output e o s chain = subst (λ t. SubOutput t o s) (sym chain.is) (chain_sub_output chain.name chain.links o s)

-- Negations and prefixes

negation_back : (t : Tree) → placeless (output false (negation_of t)) ≡ tree.UnaryOperation unary.Not (placeless (output false t)) nowhere
negation_back (Suffixed a (Test s plainly v g)) = refl
negation_back (Infix a (Binary (Single In s)) b) = refl
negation_back _ = refl

prefix_back : (s : Sign) (e : Expr) (span : Span) → Back e → Back (prefixed s e span)
prefix_back (Negative s) (tree.Const (values.I64 n) t) span h = number_back (neg_ℤ n)
prefix_back (Negative s) e span h =
    prefixed_placeless (Negative nowhere) (output false (tree_of e)) (spanning nowhere (last (tree_of e)))
    ∙ ap (λ x. prefixed (Negative nowhere) x nowhere) h ∙ sym (prefixed_placeless (Negative s) e span)
prefix_back (Negates s) e span h = negation_back (tree_of e) ∙ ap (λ x. tree.UnaryOperation unary.Not x nowhere) h

-- Components

joined_cond : (b : Bool) (x : ℕ) (p : Path) → (b ≡ true → x ≡ 46) →
    (let q = cond b (record { name = word []; further = dots nowhere p.name p.further }) (longer x p) in component_text q.name q.further) ≡ (x ∷ component_text p.name p.further)
joined_cond true x p h = ap (λ y. y ∷ component_text p.name p.further) (sym (h refl))
joined_cond false x p h = refl

path_back : (text : List ℕ) → component_text (path_from text).name (path_from text).further ≡ text
path_back [] = refl
path_back (b ∷ bs) = joined_cond (nat_eq b 46) b (path_from bs) (λ h. eqb-true b 46 h) ∙ ap (λ x. b ∷ x) (path_back bs)

abbrev BackAttributes : tree.Entries → Type 0
BackAttributes es = placeless_entries (attributes_output false (attributes_of es)) ≡ placeless_entries es

variable_cond : (b : Bool) (n v : List ℕ) (t : Tree) (ats : Attributes) (es : tree.Entries) → (b ≡ true → n ≡ v) → placeless (output false t) ≡ tree.Var v nowhere →
    placeless_entries (attributes_output false ats) ≡ placeless_entries es →
    placeless_entries (attributes_output false (cond b (bare (word n) ats) (valued (word n) nowhere nowhere t nowhere ats)))
    ≡ tree.Entry (values.TextKey n) (tree.Var v nowhere) (placeless_entries es)
variable_cond true n v t ats es h back g = ap₂ (λ x y. tree.Entry (values.TextKey n) (tree.Var x nowhere) y) (h refl) g
variable_cond false n v t ats es h back g = ap₂ (tree.Entry (values.TextKey n)) back g

attribute_back : (n : List ℕ) (e : Expr) (es : tree.Entries) → Back e → BackAttributes es → BackAttributes (tree.Entry (values.TextKey n) e es)
attribute_back n (tree.Var v s) es h g =
    variable_cond (bytes_eq n v) n v (tree_of (tree.Var v s)) (attributes_of es) es (λ same. (bytes_eq-Decides n v).0 same) h g
attribute_back n (tree.Const (values.Text text) s) es h g =
    ap₂ (λ x y. tree.Entry (values.TextKey n) (tree.Const (values.Text x) nowhere) y) (quote_back text) g
attribute_back n _ es h g = ap₂ (tree.Entry (values.TextKey n)) h g

variable_back : (n : Name) (m : Second) → (key_variable (first_variable (key_variable n m) (value_variable n m)) (second_variable (key_variable n m) (value_variable n m)) ≡ key_variable n m)
    × (value_variable (first_variable (key_variable n m) (value_variable n m)) (second_variable (key_variable n m) (value_variable n m)) ≡ value_variable n m)
variable_back n no_second = (refl, refl)
variable_back n (second s m) = (refl, refl)

-- Maps

in_front_entries : (x : Element) (row : Row) → entries_output false (in_front x row) ≡ entry_output false x (entries_output false row)
in_front_entries x (ended s) = refl
in_front_entries x (only y s) = refl
in_front_entries x (then y s ys) = refl

abbrev BackEntries : tree.Entries → Type 0
BackEntries tree.NoEntries = Unit {0}
BackEntries (tree.Entry k e es) = Back e × BackEntries es
BackEntries (tree.SpreadEntry e es) = Back e × BackEntries es

entries_back : (es : tree.Entries) → BackEntries es → placeless_entries (entries_output false (entries_row es)) ≡ placeless_entries es
entries_back tree.NoEntries h = refl
entries_back (tree.Entry k e es) h =
    ap placeless_entries (in_front_entries (pair (key_literal k) nowhere nowhere (tree_of e)) (entries_row es))
    ∙ ap (λ j. tree.Entry j (placeless (output false (tree_of e))) (placeless_entries (entries_output false (entries_row es)))) (key_back k)
    ∙ ap₂ (tree.Entry k) h.0 (entries_back es h.1)
entries_back (tree.SpreadEntry e es) h =
    ap placeless_entries (in_front_entries (spread nowhere (tree_of e)) (entries_row es)) ∙ ap₂ tree.SpreadEntry h.0 (entries_back es h.1)

-- the key is none of these
abbrev Apart : KeyVal → Pairs → Type 0
Apart k values.NoPairs = Unit {0}
Apart k (values.OnePair m v ps) = (key_eq k m ≡ false) × Apart k ps

-- the key of none of these is the given one, as they are put one after another
abbrev NoneIs : KeyVal → Pairs → Type 0
NoneIs m values.NoPairs = Unit {0}
NoneIs m (values.OnePair k v ps) = (key_eq k m ≡ false) × NoneIs m ps

abbrev Distinct : Pairs → Type 0
Distinct values.NoPairs = Unit {0}
Distinct (values.OnePair k v ps) = NoneIs k ps × Distinct ps

abbrev BackPairs : Pairs → Type 0
BackPairs values.NoPairs = Unit {0}
BackPairs (values.OnePair k v ps) = Back (tree.Const v nowhere) × BackPairs ps

by_key : (P : Pairs → Type 0) (b : Bool) (x y : Pairs) → (b ≡ true → P x) → (b ≡ false → P y) → P (cond b x y)
by_key P true x y f g = f refl
by_key P false x y f g = g refl

none_put : (m k : KeyVal) (v : Val) (ps : Pairs) → key_eq k m ≡ false → NoneIs m ps → NoneIs m (put_pair k v ps)
none_put m k v values.NoPairs h n = (h, tt)
none_put m k v (values.OnePair l u ps) h n =
    by_key (NoneIs m) (key_eq k l) (values.OnePair l v ps) (values.OnePair l u (put_pair k v ps)) (λ b. n) (λ b. (n.0, none_put m k v ps h n.1))

distinct_put : (k : KeyVal) (v : Val) (ps : Pairs) → Distinct ps → Distinct (put_pair k v ps)
distinct_put k v values.NoPairs d = (tt, tt)
distinct_put k v (values.OnePair l u ps) d =
    by_key Distinct (key_eq k l) (values.OnePair l v ps) (values.OnePair l u (put_pair k v ps)) (λ b. d) (λ b. (none_put l k v ps b d.0, distinct_put k v ps d.1))

back_put : (k : KeyVal) (v : Val) (ps : Pairs) → Back (tree.Const v nowhere) → BackPairs ps → BackPairs (put_pair k v ps)
back_put k v values.NoPairs h b = (h, tt)
back_put k v (values.OnePair l u ps) h b =
    by_key BackPairs (key_eq k l) (values.OnePair l v ps) (values.OnePair l u (put_pair k v ps)) (λ c. (h, b.1)) (λ c. (b.0, back_put k v ps h b.1))

record Kept (ps : Pairs) : Type 0 where
  distinct : Distinct ps
  back : BackPairs ps

abbrev KeptConstants : Option Pairs → Type 0
KeptConstants None = Unit {0}
KeptConstants (Some ps) = Kept ps

constants_kept : (es : tree.Entries) (ps : Pairs) → BackEntries es → Kept ps → KeptConstants (constant_entries es ps)
constants_kept tree.NoEntries ps h p = p
constants_kept (tree.Entry k (tree.Const v s) es) ps h p =
    constants_kept es (put_pair k v ps) h.1 (record { distinct = distinct_put k v ps p.distinct; back = back_put k v ps h.0 p.back })
constants_kept _ ps h p = tt

abbrev as_entries : Pairs → tree.Entries
as_entries values.NoPairs = tree.NoEntries
as_entries (values.OnePair k v ps) = tree.Entry k (tree.Const v nowhere) (as_entries ps)

pairs_back : (ps : Pairs) → BackPairs ps → placeless_entries (entries_output false (pairs_row ps)) ≡ as_entries ps
pairs_back values.NoPairs h = refl
pairs_back (values.OnePair k v ps) h =
    ap placeless_entries (in_front_entries (pair (key_literal k) nowhere nowhere (value_tree v)) (pairs_row ps))
    ∙ ap (λ j. tree.Entry j (placeless (output false (value_tree v))) (placeless_entries (entries_output false (pairs_row ps)))) (key_back k)
    ∙ ap₂ (tree.Entry k) h.0 (pairs_back ps h.1)

abbrev joined : Pairs → Pairs → Pairs
joined values.NoPairs qs = qs
joined (values.OnePair k v ps) qs = values.OnePair k v (joined ps qs)

abbrev AllApart : Pairs → Pairs → Type 0
AllApart values.NoPairs done = Unit {0}
AllApart (values.OnePair k v ps) done = Apart k done × AllApart ps done

put_apart : (k : KeyVal) (v : Val) (done : Pairs) → Apart k done → put_pair k v done ≡ joined done (values.OnePair k v values.NoPairs)
put_apart k v values.NoPairs h = refl
put_apart k v (values.OnePair l u ps) h =
    ap (λ b. cond b (values.OnePair l v ps) (values.OnePair l u (put_pair k v ps))) h.0 ∙ ap (values.OnePair l u) (put_apart k v ps h.1)

apart_more : (j k : KeyVal) (v : Val) (done : Pairs) → key_eq j k ≡ false → Apart j done → Apart j (joined done (values.OnePair k v values.NoPairs))
apart_more j k v values.NoPairs h a = (h, tt)
apart_more j k v (values.OnePair l u ps) h a = (a.0, apart_more j k v ps h a.1)

all_apart_more : (ps : Pairs) (k : KeyVal) (v : Val) (done : Pairs) → NoneIs k ps → AllApart ps done → AllApart ps (joined done (values.OnePair k v values.NoPairs))
all_apart_more values.NoPairs k v done n a = tt
all_apart_more (values.OnePair j u ps) k v done n a = (apart_more j k v done n.0 a.0, all_apart_more ps k v done n.1 a.1)

joined_twice : (x y z : Pairs) → joined (joined x y) z ≡ joined x (joined y z)
joined_twice values.NoPairs y z = refl
joined_twice (values.OnePair k v x) y z = ap (values.OnePair k v) (joined_twice x y z)

joined_none : (x : Pairs) → joined x values.NoPairs ≡ x
joined_none values.NoPairs = refl
joined_none (values.OnePair k v x) = ap (values.OnePair k v) (joined_none x)

constants_joined : (ps done : Pairs) → Distinct ps → AllApart ps done → constant_entries (as_entries ps) done ≡ Some (joined done ps)
constants_joined values.NoPairs done d a = ap Some (sym (joined_none done))
constants_joined (values.OnePair k v ps) done d a =
    ap (constant_entries (as_entries ps)) (put_apart k v done a.0)
    ∙ constants_joined ps (joined done (values.OnePair k v values.NoPairs)) d.1 (all_apart_more ps k v done d.0 a.1)
    ∙ ap Some (joined_twice done (values.OnePair k v values.NoPairs) ps)

none_apart : (ps : Pairs) → AllApart ps values.NoPairs
none_apart values.NoPairs = tt
none_apart (values.OnePair k v ps) = (tt, none_apart ps)

map_back : (es : tree.Entries) (span : Span) (o : Option Pairs) → constant_entries es values.NoPairs ≡ o → BackEntries es → KeptConstants o → Back (map_made es span o)
map_back es span None same h k =
    map_placeless (entries_output false (entries_row es)) _ ∙ ap (λ fs. map_of fs nowhere) (entries_back es h) ∙ sym (map_placeless es span)
    ∙ ap (λ o. placeless (map_made es span o)) same
map_back es span (Some ps) same h k =
    map_placeless (entries_output false (pairs_row ps)) _ ∙ ap (λ fs. map_of fs nowhere) (pairs_back ps k.back)
    ∙ ap (map_made (as_entries ps) nowhere) (constants_joined ps values.NoPairs k.distinct (none_apart ps))

-- what is between the brackets, as it is written
abbrev written_sub : Bool → Sub → Sub
written_sub l (index i c) = index (tree_of (output l i)) nowhere
written_sub l (slice a s b x c) = slice (part_of (part_output l a)) nowhere (part_of (part_output l b)) (extra_of (extra_output l x)) nowhere

mutual
  -- the tree that is written without parentheses is read as the output
  pub written_back : (l : Bool) (t : Tree) → IsExpression l t → Back (output l t)
  written_back l (Atomic a) h = atom_back l a h
  written_back l (Prefix s e) h = prefix_back s (output l e) (spanning (sign_span s) (last e)) (written_back l e h.2)
  written_back l (Suffixed a (Test s plainly v g)) h =
      ap₂ (λ x y. tree.Test x v.text y nowhere) (written_back l a h.1) (args_go_back l g h.2.1)
  written_back l (Suffixed a (Test s (negated u) v g)) h =
      ap₂ (λ x y. tree.UnaryOperation unary.Not (tree.Test x v.text y nowhere) nowhere) (written_back l a h.1) (args_go_back l g h.2.1)
  written_back l (Suffixed a (Filter s v g)) h =
      ap₂ (λ x y. tree.Filter x v.text y nowhere) (written_back l a h.1) (args_go_back l g h.2)
  written_back l (Suffixed a (Subscript s b)) h =
      sub_back l false (output l a) b h.2 (plain_sub_output (tree_of (output l a)) (written_sub l b)) (written_back l a h.1)
  written_back l (Infix a (Binary (Single o s)) b) h =
      ap (λ t. placeless (output false t)) (infix_tree o (output l a) (output l b) (spanning (first a) (last b)))
      ∙ ap₂ (λ x y. tree.BinaryOperation (operator_made o) x y nowhere) (written_back l a h.3) (written_back l b h.5)
  written_back l (Infix a (Binary (NotIn s t)) b) h =
      ap₂ (λ x y. tree.UnaryOperation unary.Not (tree.BinaryOperation binary.In x y nowhere) nowhere) (written_back l a h.3) (written_back l b h.5)
  written_back l (Infix a (Condition s c t) b) h =
      let one = written_back l c h.4 in let two = written_back l a h.3 in let three = written_back l b h.5 in rw (one, two, three) refl

  atom_back : (l : Bool) (a : Atom) → IsAtom l a → Back (output l (Atomic a))
  atom_back l (Literal x s) h = value_back x s
  atom_back l (Null n) h = refl
  atom_back l (Chain n ls) h =
      links_back l (of_loop l n) (tree.Var n.text n.span) ls h.1 (record { name = word n.text; links = no_links; is = refl }) refl
  atom_back l (Call n s row) h =
      ap (λ g. tree.FunctionCall n.text g nowhere) (arguments_back (arguments_output l row tree.NoArgs) (arguments_go l row tree.NoArgs h.1 none_ordered))
  atom_back l (Paren s e t) h = written_back l e h
  atom_back l (Array s row) h = array_back (items_output l row) (spanning s (row_end row)) (items_go l row h)
  atom_back l (Comprehension s e f n m i t g c) h =
      let one = written_back l e h.2 in
      let two = written_back l t h.3 in
      let three = extra_go l 1 g h.4 in
      let names = variable_back n m in
      rw (one, two, three, names.0, names.1) refl
  atom_back l (Map s row) h =
      let es = entries_go l row h in
      map_back (entries_output l row) (spanning s (row_end row)) (constant_entries (entries_output l row) values.NoPairs) refl es
      (constants_kept (entries_output l row) values.NoPairs es (record { distinct = tt; back = tt }))
  atom_back l (Component s n ds ats t u) h =
      ap₂ (λ x es. tree.ComponentCall x es tree.NoNodes true nowhere) (path_back (component_text n ds)) (attributes_go l ats h)

  links_back : (l c : Bool) (e : Expr) (ls : Links) → AreLinks l c ls → IsChain e → Back e → Back (links_output l c e ls)
  links_back l c e no_links h chain b = b
  links_back l c e (field d n ls) h chain b =
      links_back l c (field_output c e d n) ls h.1 (chain_field c e d n chain) (field_back c e d n chain b)
  links_back l c e (item x s ls) h chain b =
      links_back l c (sub_output l (is_optional_bracket x) e s) ls h.1 (chain_sub l (is_optional_bracket x) e s chain)
      (sub_back l (is_optional_bracket x) e s h.0 (linked_sub_output e (is_optional_bracket x) (written_sub l s) chain) b)

  sub_back : (l o : Bool) (e : Expr) (s : Sub) → IsSub l s → SubOutput (tree_of e) o (written_sub l s) → Back e → Back (sub_output l o e s)
  sub_back l o e (index i c) h same b = same ∙ ap₂ (λ x y. tree.GetItem x y o nowhere) b (written_back l i h)
  sub_back l o e (slice a s x y c) h same b =
      let one = part_go l a h.0 in
      let two = part_go l x h.1 in
      let three = extra_go l 0 y h.2 in
      same ∙ rw (b, one, two, three) refl

  part_go : (l : Bool) (a : Part) → IsPart l a → placeless_part (part_output false (part_of (part_output l a))) ≡ placeless_part (part_output l a)
  part_go l absent h = refl
  part_go l (present e) h = ap tree.OneExpr (written_back l e h)

  extra_go : (l : Bool) (m : ℕ) (x : Extra) → IsExtra l m x → placeless_part (extra_output false (extra_of (extra_output l x))) ≡ placeless_part (extra_output l x)
  extra_go l m no_extra h = refl
  extra_go l m (extra s e) h = ap tree.OneExpr (written_back l e h.1)

  arguments_go : (l : Bool) (row : Row) (g : tree.Args) → IsRow l of_arguments row → Ordered g → Ordered (arguments_output l row g)
  arguments_go l (ended s) g h o = o
  arguments_go l (only x s) g h o = argument_go l of_arguments x g h o
  arguments_go l (then x s xs) g h o = arguments_go l xs (argument_output l x g) h.1 (argument_go l of_arguments x g h.0 o)

  argument_go : (l : Bool) (k : Kind) (x : Element) (g : tree.Args) → IsElement l k x → Ordered g → Ordered (argument_output l x g)
  argument_go l k (argument n s e) g h o =
      record { sorted = sorted_put n.text (output l e) g o.sorted; back = put_back n.text (output l e) g (written_back l e h.1) o.back }
  argument_go l k (plain e) g h o = o
  argument_go l k (spread s e) g h o = o
  argument_go l k (pair x s t e) g h o = o

  args_go_back : (l : Bool) (g : Args) → AreArgs l g → placeless_args (args_output false (args_of (args_output l g))) ≡ placeless_args (args_output l g)
  args_go_back l no_args h = refl
  args_go_back l (args s row) h = args_back (arguments_output l row tree.NoArgs) (arguments_go l row tree.NoArgs h.0 none_ordered)

  items_go : (l : Bool) (row : Row) → IsRow l of_items row → BackItems (items_output l row)
  items_go l (ended s) h = refl
  items_go l (only x s) h = item_go l of_items x tree.NoItems h refl
  items_go l (then x s xs) h = item_go l of_items x (items_output l xs) h.0 (items_go l xs h.1)

  item_go : (l : Bool) (k : Kind) (x : Element) (is : tree.Items) → IsElement l k x → BackItems is → BackItems (item_output l x is)
  item_go l k (plain e) is h b = item_back (output l e) is (written_back l e h.1) b
  item_go l k (spread s e) is h b = spread_back (output l e) is (written_back l e h.1) b
  item_go l k (pair x s t e) is h b = b
  item_go l k (argument n s e) is h b = b

  entries_go : (l : Bool) (row : Row) → IsRow l of_entries row → BackEntries (entries_output l row)
  entries_go l (ended s) h = tt
  entries_go l (only x s) h = entry_go l of_entries x tree.NoEntries h tt
  entries_go l (then x s xs) h = entry_go l of_entries x (entries_output l xs) h.0 (entries_go l xs h.1)

  entry_go : (l : Bool) (k : Kind) (x : Element) (es : tree.Entries) → IsElement l k x → BackEntries es → BackEntries (entry_output l x es)
  entry_go l k (pair x s t e) es h b = (written_back l e h.1, b)
  entry_go l k (spread s e) es h b = (written_back l e h.1, b)
  entry_go l k (plain e) es h b = b
  entry_go l k (argument n s e) es h b = b

  attributes_go : (l : Bool) (ats : Attributes) → AreAttributes l ats → BackAttributes (attributes_output l ats)
  attributes_go l no_attributes h = refl
  attributes_go l (bare n ats) h = attribute_back n.text (tree.Var n.text n.span) (attributes_output l ats) refl (attributes_go l ats h)
  attributes_go l (quoted n s x t ats) h =
      attribute_back n.text (tree.Const (values.Text (quote_text x)) t) (attributes_output l ats) (value_back (Quoted x) t) (attributes_go l ats h)
  attributes_go l (valued n s b e c ats) h =
      attribute_back n.text (output l e) (attributes_output l ats) (written_back l e h.0) (attributes_go l ats h.1)
  attributes_go l (spreading b s e c ats) h = ap₂ tree.SpreadEntry (written_back l e h.0) (attributes_go l ats h.1)

-- what is written for an output is read as that output, except where it is
pub source_output : (l : Bool) (t : Tree) → IsExpression l t → placeless (output false (source_tree (output l t))) ≡ placeless (output l t)
source_output l t h = paren_output false 0 0 false (tree_of (output l t)) ∙ written_back l t h
