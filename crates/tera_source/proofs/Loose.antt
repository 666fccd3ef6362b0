-- Parentheses, put exactly where a power asks for them, make an expression of any tree that meets all other conditions.
use Rattle.std.proofs.Common.{◌≡◌, ℕ, ◌<◌, ◌≤◌, zero-le, suc, Bool, true, false, cond, ◌||◌, [], ◌∷◌, refl, sym, ap, subst, ◌∙◌, arith, ltb-false}
use Rattle.std.specs.Prelude.{ltb}
use Rattle.std.specs.List.{AllByRecursion}
use Rattle.tera_grammar.specs.expressions.Operators.{BinaryOperator, Mul, Div, Mod, Plus, Minus, FloorDiv, Power, LessThan, GreaterThan, LessThanOrEqual, GreaterThanOrEqual, Equal, NotEqual, And, Or, StrConcat, In}
use Rattle.tera_grammar.specs.expressions.Concrete.{Sign, Negative, Negates, Single, NotIn, Kind, of_arguments, of_items, of_entries, Tree, Atomic, Prefix, Suffixed, Infix, Atom, Literal, Null, Chain, Call, Paren, Array, Comprehension, Map, Component, Links, no_links, field, item, Sub, index, slice, Part, absent, present, Extra, no_extra, extra, Row, ended, only, then, Element, plain, spread, pair, argument, Attributes, no_attributes, bare, quoted, valued, spreading, Suffix, Test, Filter, Subscript, Args, no_args, args, Operator, Binary, Condition}
use Rattle.tera_grammar.specs.expressions.Powers.{right_of, sign_power, left_power, right_power, right_spine, AtLeast, Above, Carries, BeginsPlain, NoChain}
use Rattle.tera_grammar.specs.Words.{is_none, AreDistinct}
use Rattle.tera_grammar.specs.expressions.Conditions.{IsFirst, NamesTest, AreVariables, is_element_of, argument_names, is_refused, IsExpression, IsAtom, AreLinks, IsSub, IsPart, IsExtra, IsRow, IsElement, AreAttributes, IsSuffix, AreArgs, IsOperator}
use Rattle.tera_source.specs.Source.{asked, kept_out, paren, paren_atom, paren_links, paren_sub, paren_part, paren_extra, paren_row, paren_element, paren_attributes, paren_suffix, paren_args, paren_operator}
use Rattle.tera_source.proofs.Signs.{kind_of, refuses, refused_in}

-- a subscript comes after no chain
abbrev pub KeepsChain : Tree → Suffix → Type 0
KeepsChain a (Subscript s b) = NoChain a
KeepsChain a _ = Unit {0}

-- The conditions on an expression outside of loops, the powers and the prefixes apart.
abbrev mutual
  pub IsLoose : Tree → Type 0
  IsLoose (Atomic a) = IsLooseAtom a
  IsLoose (Prefix s e) = IsLoose e
  IsLoose (Suffixed a s) = KeepsChain a s × IsLoose a × IsLooseSuffix s
  IsLoose (Infix a o b) = (refuses o (kind_of b) ≡ false) × IsLoose a × IsLooseOperator o × IsLoose b

  pub IsLooseAtom : Atom → Type 0
  IsLooseAtom (Literal x s) = Unit {0}
  IsLooseAtom (Null n) = is_none n.text ≡ true
  IsLooseAtom (Chain n ls) = IsFirst n × AreLooseLinks ls
  IsLooseAtom (Call n s row) = IsFirst n × IsLooseRow of_arguments row × AreDistinct (argument_names row)
  IsLooseAtom (Paren s e t) = IsLoose e
  IsLooseAtom (Array s row) = IsLooseRow of_items row
  IsLooseAtom (Comprehension s e f n m i t g c) = AreVariables n m × IsLoose e × IsLoose t × IsLooseExtra g
  IsLooseAtom (Map s row) = IsLooseRow of_entries row
  IsLooseAtom (Component s n ds ats t u) = AreLooseAttributes ats

  pub AreLooseLinks : Links → Type 0
  AreLooseLinks no_links = Unit {0}
  AreLooseLinks (field d n ls) = AreLooseLinks ls
  AreLooseLinks (item b s ls) = IsLooseSub s × AreLooseLinks ls

  pub IsLooseSub : Sub → Type 0
  IsLooseSub (index e c) = IsLoose e
  IsLooseSub (slice a s b x c) = IsLoosePart a × IsLoosePart b × IsLooseExtra x

  pub IsLoosePart : Part → Type 0
  IsLoosePart absent = Unit {0}
  IsLoosePart (present e) = IsLoose e

  pub IsLooseExtra : Extra → Type 0
  IsLooseExtra no_extra = Unit {0}
  IsLooseExtra (extra s e) = IsLoose e

  pub IsLooseRow : Kind → Row → Type 0
  IsLooseRow k (ended s) = Unit {0}
  IsLooseRow k (only x s) = (is_element_of k x ≡ true) × IsLooseElement x
  IsLooseRow k (then x s xs) = (is_element_of k x ≡ true) × IsLooseElement x × IsLooseRow k xs

  pub IsLooseElement : Element → Type 0
  IsLooseElement (plain e) = IsLoose e
  IsLooseElement (spread s e) = IsLoose e
  IsLooseElement (pair x s t e) = IsLoose e
  IsLooseElement (argument n s e) = IsLoose e

  pub AreLooseAttributes : Attributes → Type 0
  AreLooseAttributes no_attributes = Unit {0}
  AreLooseAttributes (bare n ats) = AreLooseAttributes ats
  AreLooseAttributes (quoted n s x t ats) = AreLooseAttributes ats
  AreLooseAttributes (valued n s b e c ats) = IsLoose e × AreLooseAttributes ats
  AreLooseAttributes (spreading b s e c ats) = IsLoose e × AreLooseAttributes ats

  pub IsLooseSuffix : Suffix → Type 0
  IsLooseSuffix (Test s n w g) = NamesTest n w × AreLooseArgs g
  IsLooseSuffix (Filter s w g) = AreLooseArgs g
  IsLooseSuffix (Subscript s b) = IsLooseSub b

  pub AreLooseArgs : Args → Type 0
  AreLooseArgs no_args = Unit {0}
  AreLooseArgs (args s row) = IsLooseRow of_arguments row × AreDistinct (argument_names row)

  pub IsLooseOperator : Operator → Type 0
  IsLooseOperator (Binary o) = Unit {0}
  IsLooseOperator (Condition s c t) = IsLoose c

-- each node on the right spine has a right power of at least q
abbrev pub RightAtLeast : ℕ → Tree → Type 0
RightAtLeast q t = AllByRecursion (λ r. q ≤ r) (right_spine t)

abbrev pub PlainIf : Bool → Tree → Type 0
PlainIf true t = BeginsPlain t
PlainIf false t = Unit {0}

-- an expression that meets what the nodes above it ask for
pub record Fits (m q : ℕ) (p : Bool) (t : Tree) : Type 0 where
  pub bound : IsExpression false t
  pub left : AtLeast m t
  pub right : RightAtLeast q t
  pub plain : PlainIf p t

plain_if : (b : Bool) (t : Tree) → BeginsPlain t → PlainIf b t
plain_if true t h = h
plain_if false t h = tt

atomic_fits : (m q : ℕ) (b : Bool) (a : Atom) → IsAtom false a → Fits m q b (Atomic a)
atomic_fits m q b a h = record { bound = h; left = tt; right = tt; plain = plain_if b (Atomic a) tt }

fits_cond : (m q : ℕ) (p c : Bool) (x y : Tree) → Fits m q p x → (c ≡ false → Fits m q p y) → Fits m q p (cond c x y)
fits_cond m q p true x y one two = one
fits_cond m q p false x y one two = two refl

neither : (a b : Bool) → (a || b) ≡ false → (a ≡ false) × (b ≡ false)
neither true b h = cc
neither false b h = (refl, h)

plain_through : (b : Bool) (t u : Tree) → (BeginsPlain t → BeginsPlain u) → PlainIf b t → PlainIf b u
plain_through true t u f h = f h
plain_through false t u f h = tt

right_small : (o : BinaryOperator) → right_of o < 21
right_small Mul = omega arith
right_small Div = omega arith
right_small Mod = omega arith
right_small Plus = omega arith
right_small Minus = omega arith
right_small FloorDiv = omega arith
right_small Power = omega arith
right_small LessThan = omega arith
right_small GreaterThan = omega arith
right_small LessThanOrEqual = omega arith
right_small GreaterThanOrEqual = omega arith
right_small Equal = omega arith
right_small NotEqual = omega arith
right_small And = omega arith
right_small Or = omega arith
right_small StrConcat = omega arith
right_small In = omega arith

closed_at : (t : Tree) → RightAtLeast 21 t → right_spine t ≡ []
closed_at (Atomic a) h = refl
closed_at (Prefix (Negative s) e) h = absurd (omega arith)
closed_at (Prefix (Negates s) e) h = absurd (omega arith)
closed_at (Suffixed a s) h = refl
closed_at (Infix a (Binary (Single o s)) b) h = let k = right_small o in absurd (omega arith)
closed_at (Infix a (Binary (NotIn s t)) b) h = absurd (omega arith)
closed_at (Infix a (Condition s c t) b) h = absurd (omega arith)

-- what is not a chain becomes none
unchained_cond : (c : Bool) (x y : Tree) → NoChain x → NoChain y → NoChain (cond c x y)
unchained_cond true x y one two = one
unchained_cond false x y one two = two

unchained : (m q : ℕ) (p : Bool) (t : Tree) → NoChain t → NoChain (paren m q p t)
unchained m q p (Atomic (Literal x s)) h = tt
unchained m q p (Atomic (Null n)) h = tt
unchained m q p (Atomic (Chain n ls)) h = h
unchained m q p (Atomic (Call n s row)) h = tt
unchained m q p (Atomic (Paren s e t)) h = tt
unchained m q p (Atomic (Array s row)) h = tt
unchained m q p (Atomic (Comprehension s e f n v i t g c)) h = tt
unchained m q p (Atomic (Map s row)) h = tt
unchained m q p (Atomic (Component s n ds ats t u)) h = tt
unchained m q p (Prefix s e) h = unchained_cond (p || ltb (sign_power s) q) _ _ tt tt
unchained m q p (Suffixed a s) h = unchained_cond (kept_out m s) _ _ tt tt
unchained m q p (Infix a o b) h = unchained_cond (ltb (left_power o) m || ltb (right_power o) q) _ _ tt tt

carries : (s : Suffix) (a : Tree) (m q : ℕ) (p : Bool) → KeepsChain a s → RightAtLeast (asked s) (paren m q p a) → Carries (paren m q p a) (paren_suffix s)
carries (Test s n w g) a m q p k h = h
carries (Filter s w g) a m q p k h = h
carries (Subscript s b) a m q p k h = (closed_at (paren m q p a) h, unchained m q p a k)

suffix_left : (s : Suffix) (a : Tree) (m : ℕ) → kept_out m s ≡ false → AtLeast m a → AtLeast m (Suffixed a (paren_suffix s))
suffix_left (Test s n w g) a m h l = (ltb-false _ _ h, l)
suffix_left (Filter s w g) a m h l = (ltb-false _ _ h, l)
suffix_left (Subscript s b) a m h l = l

same_left : (o : Operator) → left_power (paren_operator o) ≡ left_power o
same_left (Binary o) = refl
same_left (Condition s c t) = refl

same_right : (o : Operator) → right_power (paren_operator o) ≡ right_power o
same_right (Binary o) = refl
same_right (Condition s c t) = refl

-- a suffix is kept out by no power 0
not_kept : (s : Suffix) → kept_out 0 s ≡ false
not_kept (Test s n w g) = refl
not_kept (Filter s w g) = refl
not_kept (Subscript s b) = refl

same_element : (k : Kind) (x : Element) → is_element_of k (paren_element x) ≡ is_element_of k x
same_element of_arguments (plain e) = refl
same_element of_arguments (spread s e) = refl
same_element of_arguments (pair x s t e) = refl
same_element of_arguments (argument n s e) = refl
same_element of_items (plain e) = refl
same_element of_items (spread s e) = refl
same_element of_items (pair x s t e) = refl
same_element of_items (argument n s e) = refl
same_element of_entries (plain e) = refl
same_element of_entries (spread s e) = refl
same_element of_entries (pair x s t e) = refl
same_element of_entries (argument n s e) = refl

same_names : (row : Row) → argument_names (paren_row row) ≡ argument_names row
same_names (ended s) = refl
same_names (only (plain e) t) = refl
same_names (only (spread s e) t) = refl
same_names (only (pair x s u e) t) = refl
same_names (only (argument n s e) t) = refl
same_names (then (plain e) t xs) = same_names xs
same_names (then (spread s e) t xs) = same_names xs
same_names (then (pair x s u e) t xs) = same_names xs
same_names (then (argument n s e) t xs) = ap (λ ns. n.text ∷ ns) (same_names xs)

suffixed_fits : (m q k : ℕ) (p r : Bool) (a : Tree) (s : Suffix) → kept_out m s ≡ false → KeepsChain a s → Fits m (asked s) p (paren k (asked s) r a) →
    IsSuffix false (paren_suffix s) → Fits m q p (Suffixed (paren k (asked s) r a) (paren_suffix s))
suffixed_fits m q k p r a s out chain f b = record {
  bound = (carries s a k (asked s) r chain f.right, f.bound, b);
  left = suffix_left s (paren k (asked s) r a) m out f.left;
  right = tt;
  plain = plain_through p (paren k (asked s) r a) (Suffixed (paren k (asked s) r a) (paren_suffix s)) (λ h. h) f.plain;
}

infix_fits : (m q : ℕ) (p : Bool) (a b : Tree) (o : Operator) → m ≤ left_power o → q ≤ right_power o → is_refused false (paren_operator o) b ≡ false →
    Fits m (suc (left_power o)) p a → IsOperator false (paren_operator o) → Fits (right_power o) q false b → Fits m q p (Infix a (paren_operator o) b)
infix_fits m q p a b o low high free f c g = record {
  bound = (subst (λ v. Above v a) (sym (same_left o)) f.right, subst (λ v. AtLeast v b) (sym (same_right o)) g.left, free, f.bound, c, g.bound);
  left = (subst (λ v. m ≤ v) (sym (same_left o)) low, f.left);
  right = (subst (λ v. q ≤ v) (sym (same_right o)) high, g.right);
  plain = plain_through p a (Infix a (paren_operator o) b) (λ h. h) f.plain;
}

prefix_fits : (m q : ℕ) (p : Bool) (s : Sign) (e : Tree) → (p || ltb (sign_power s) q) ≡ false → Fits (sign_power s) q true e → Fits m q p (Prefix s e)
prefix_fits m q true s e h f = cc
prefix_fits m q false s e h f = record { bound = (f.left, f.plain, f.bound); left = tt; right = (ltb-false _ _ h, f.right); plain = tt }

mutual
  pub paren_fits : (t : Tree) (m q : ℕ) (p : Bool) → IsLoose t → Fits m q p (paren m q p t)
  paren_fits (Atomic a) m q p h = atomic_fits m q p (paren_atom a) (atom_fits a h)
  paren_fits (Prefix s e) m q p h =
      fits_cond m q p (p || ltb (sign_power s) q) _ _
      (atomic_fits m q p _ (let f = paren_fits e (sign_power s) 0 true h in (f.left, f.plain, f.bound)))
      (λ c. prefix_fits m q p s _ c (paren_fits e (sign_power s) q true h))
  paren_fits (Suffixed a s) m q p h =
      let inner = suffix_fits s h.2 in
      fits_cond m q p (kept_out m s) _ _
      (atomic_fits m q p _ (suffixed_fits 0 0 0 false false a s (not_kept s) h.0 (paren_fits a 0 (asked s) false h.1) inner).bound)
      (λ c. suffixed_fits m q m p p a s c h.0 (paren_fits a m (asked s) p h.1) inner)
  paren_fits (Infix a o b) m q p h =
      let inner = operator_fits o h.2 in
      fits_cond m q p (ltb (left_power o) m || ltb (right_power o) q) _ _
      (atomic_fits m q p _ (infix_fits 0 0 false _ _ o zero-le zero-le (refused_in (right_power o) 0 false o b h.0)
      (paren_fits a 0 (suc (left_power o)) false h.1) inner (paren_fits b (right_power o) 0 false h.3)).bound)
      (λ c. let (low, high) = neither _ _ c in
      infix_fits m q p _ _ o (ltb-false _ _ low) (ltb-false _ _ high) (refused_in (right_power o) q false o b h.0)
      (paren_fits a m (suc (left_power o)) p h.1) inner (paren_fits b (right_power o) q false h.3))

  atom_fits : (a : Atom) → IsLooseAtom a → IsAtom false (paren_atom a)
  atom_fits (Literal x s) h = h
  atom_fits (Null n) h = h
  atom_fits (Chain n ls) h = (h.0, links_fit ls h.1)
  atom_fits (Call n s row) h = (h.0, row_fits of_arguments row h.1, subst AreDistinct (sym (same_names row)) h.2)
  atom_fits (Paren s e t) h = (paren_fits e 0 0 false h).bound
  atom_fits (Array s row) h = row_fits of_items row h
  atom_fits (Comprehension s e f n m i t g c) h =
      let inner = paren_fits t 1 0 false h.2 in
      (h.0, inner.left, (paren_fits e 0 0 false h.1).bound, inner.bound, extra_fits 1 g h.3)
  atom_fits (Map s row) h = row_fits of_entries row h
  atom_fits (Component s n ds ats t u) h = attributes_fit ats h

  links_fit : (ls : Links) → AreLooseLinks ls → AreLinks false false (paren_links ls)
  links_fit no_links h = tt
  links_fit (field d n ls) h = (refl, links_fit ls h)
  links_fit (item b s ls) h = (sub_fits s h.0, links_fit ls h.1)

  sub_fits : (s : Sub) → IsLooseSub s → IsSub false (paren_sub s)
  sub_fits (index e c) h = (paren_fits e 0 0 false h).bound
  sub_fits (slice a s b x c) h = (part_fits a h.0, part_fits b h.1, extra_fits 0 x h.2)

  part_fits : (a : Part) → IsLoosePart a → IsPart false (paren_part a)
  part_fits absent h = tt
  part_fits (present e) h = (paren_fits e 0 0 false h).bound

  extra_fits : (m : ℕ) (x : Extra) → IsLooseExtra x → IsExtra false m (paren_extra m x)
  extra_fits m no_extra h = tt
  extra_fits m (extra s e) h = let inner = paren_fits e m 0 false h in (inner.left, inner.bound)

  row_fits : (k : Kind) (row : Row) → IsLooseRow k row → IsRow false k (paren_row row)
  row_fits k (ended s) h = tt
  row_fits k (only x s) h = element_fits k x (same_element k x ∙ h.0) h.1
  row_fits k (then x s xs) h = (element_fits k x (same_element k x ∙ h.0) h.1, row_fits k xs h.2)

  element_fits : (k : Kind) (x : Element) → is_element_of k (paren_element x) ≡ true → IsLooseElement x → IsElement false k (paren_element x)
  element_fits k (plain e) is h = (is, (paren_fits e 0 0 false h).bound)
  element_fits k (spread s e) is h = (is, (paren_fits e 0 0 false h).bound)
  element_fits k (pair x s t e) is h = (is, (paren_fits e 0 0 false h).bound)
  element_fits k (argument n s e) is h = (is, (paren_fits e 0 0 false h).bound)

  attributes_fit : (ats : Attributes) → AreLooseAttributes ats → AreAttributes false (paren_attributes ats)
  attributes_fit no_attributes h = tt
  attributes_fit (bare n ats) h = attributes_fit ats h
  attributes_fit (quoted n s x t ats) h = attributes_fit ats h
  attributes_fit (valued n s b e c ats) h = ((paren_fits e 0 0 false h.0).bound, attributes_fit ats h.1)
  attributes_fit (spreading b s e c ats) h = ((paren_fits e 0 0 false h.0).bound, attributes_fit ats h.1)

  suffix_fits : (s : Suffix) → IsLooseSuffix s → IsSuffix false (paren_suffix s)
  suffix_fits (Test s n w g) h = (h.0, args_fit g h.1)
  suffix_fits (Filter s w g) h = args_fit g h
  suffix_fits (Subscript s b) h = sub_fits b h

  args_fit : (g : Args) → AreLooseArgs g → AreArgs false (paren_args g)
  args_fit no_args h = tt
  args_fit (args s row) h = (row_fits of_arguments row h.0, subst AreDistinct (sym (same_names row)) h.1)

  operator_fits : (o : Operator) → IsLooseOperator o → IsOperator false (paren_operator o)
  operator_fits (Binary o) h = tt
  operator_fits (Condition s c t) h = (paren_fits c 0 0 false h).bound
