-- Which trees are expressions: the powers on their spines, and the conditions beside them.
use Rattle.std.specs.Prelude.{◌≡◌, ℕ, Bool, true, false, List, [], ◌∷◌}
use Rattle.tera_grammar.specs.expressions.Operators.{StrConcat}
use Rattle.tera_grammar.specs.expressions.Concrete.{Name, Negation, plainly, negated, Second, no_second, second, Single, Kind, of_arguments, of_items, of_entries, Tree, Atomic, Prefix, Suffixed, Infix, Atom, Literal, Null, Chain, Call, Paren, Array, Comprehension, Map, Component, Links, no_links, field, item, Sub, index, slice, Part, absent, present, Extra, no_extra, extra, Row, ended, only, then, Element, plain, spread, pair, argument, Attributes, no_attributes, bare, quoted, valued, spreading, Suffix, Test, Filter, Subscript, Args, no_args, args, Operator, Binary, Condition}
use Rattle.tera_grammar.specs.expressions.Powers.{sign_power, left_power, right_power, AtLeast, Above, Carries, BeginsPlain}
use Rattle.tera_grammar.specs.Words.{is_none, is_not, is_reserved, is_loop_field, AreDistinct}
use Rattle.tera_grammar.specs.expressions.Output.{of_loop, output, is_unary}

-- the first name of a chain or a call
abbrev pub IsFirst : Name → Type 0
IsFirst n = (is_none n.text ≡ false) × (is_not n.text ≡ false)

-- directly after `is` the word `not` is the negation
abbrev pub NamesTest : Negation → Name → Type 0
NamesTest plainly n = is_not n.text ≡ false
NamesTest (negated s) n = Unit {0}

-- where a chain begins with `loop` in a loop, each of its fields is one of five
abbrev pub is_field_of : Bool → List ℕ → Bool
is_field_of true name = is_loop_field name
is_field_of false name = true

-- the variables of a comprehension are not reserved
abbrev pub AreVariables : Name → Second → Type 0
AreVariables n no_second = is_reserved n.text ≡ false
AreVariables n (second s m) = (is_reserved n.text ≡ false) × (is_reserved m.text ≡ false)

-- which elements a row of a kind holds
abbrev pub is_element_of : Kind → Element → Bool
is_element_of of_items (plain e) = true
is_element_of of_items (spread s e) = true
is_element_of of_entries (pair l s t e) = true
is_element_of of_entries (spread s e) = true
is_element_of of_arguments (argument n s e) = true
is_element_of _ _ = false

abbrev pub argument_names : Row → List (List ℕ)
argument_names (ended s) = []
argument_names (only (argument n s e) t) = n.text ∷ []
argument_names (only x t) = []
argument_names (then (argument n s e) t xs) = n.text ∷ argument_names xs
argument_names (then x t xs) = argument_names xs

-- after `~` is nothing that is read as a minus or a negation
abbrev pub is_refused : Bool → Operator → Tree → Bool
is_refused in_loop (Binary (Single StrConcat s)) e = is_unary (output in_loop e)
is_refused in_loop _ e = false

-- The expressions, in a loop or not, by conditions on whole parts. A target and a condition of a comprehension are read
-- at power 1, so no ternary is bare in them.
abbrev mutual
  pub IsExpression : Bool → Tree → Type 0
  IsExpression in_loop (Atomic a) = IsAtom in_loop a
  IsExpression in_loop (Prefix s e) = AtLeast (sign_power s) e × BeginsPlain e × IsExpression in_loop e
  IsExpression in_loop (Suffixed a s) = Carries a s × IsExpression in_loop a × IsSuffix in_loop s
  IsExpression in_loop (Infix a o b) =
      Above (left_power o) a × AtLeast (right_power o) b × (is_refused in_loop o b ≡ false) × IsExpression in_loop a × IsOperator in_loop o
      × IsExpression in_loop b

  pub IsAtom : Bool → Atom → Type 0
  IsAtom in_loop (Literal x s) = Unit {0}
  IsAtom in_loop (Null n) = is_none n.text ≡ true
  IsAtom in_loop (Chain n ls) = IsFirst n × AreLinks in_loop (of_loop in_loop n) ls
  IsAtom in_loop (Call n s row) = IsFirst n × IsRow in_loop of_arguments row × AreDistinct (argument_names row)
  IsAtom in_loop (Paren s e t) = IsExpression in_loop e
  IsAtom in_loop (Array s row) = IsRow in_loop of_items row
  IsAtom in_loop (Comprehension s element f n m i target guard c) =
      AreVariables n m × AtLeast 1 target × IsExpression in_loop element × IsExpression in_loop target × IsExtra in_loop 1 guard
  IsAtom in_loop (Map s row) = IsRow in_loop of_entries row
  IsAtom in_loop (Component s n ds ats t u) = AreAttributes in_loop ats

  -- the second truth says whether the fields are those of a loop
  pub AreLinks : Bool → Bool → Links → Type 0
  AreLinks in_loop looping no_links = Unit {0}
  AreLinks in_loop looping (field d n ls) = (is_field_of looping n.text ≡ true) × AreLinks in_loop looping ls
  AreLinks in_loop looping (item b s ls) = IsSub in_loop s × AreLinks in_loop looping ls

  pub IsSub : Bool → Sub → Type 0
  IsSub in_loop (index e c) = IsExpression in_loop e
  IsSub in_loop (slice start s stop step c) = IsPart in_loop start × IsPart in_loop stop × IsExtra in_loop 0 step

  pub IsPart : Bool → Part → Type 0
  IsPart in_loop absent = Unit {0}
  IsPart in_loop (present e) = IsExpression in_loop e

  -- an expression that is read at this power
  pub IsExtra : Bool → ℕ → Extra → Type 0
  IsExtra in_loop m no_extra = Unit {0}
  IsExtra in_loop m (extra s e) = AtLeast m e × IsExpression in_loop e

  pub IsRow : Bool → Kind → Row → Type 0
  IsRow in_loop k (ended s) = Unit {0}
  IsRow in_loop k (only x s) = IsElement in_loop k x
  IsRow in_loop k (then x s xs) = IsElement in_loop k x × IsRow in_loop k xs

  pub IsElement : Bool → Kind → Element → Type 0
  IsElement in_loop k (plain e) = (is_element_of k (plain e) ≡ true) × IsExpression in_loop e
  IsElement in_loop k (spread s e) = (is_element_of k (spread s e) ≡ true) × IsExpression in_loop e
  IsElement in_loop k (pair x s t e) = (is_element_of k (pair x s t e) ≡ true) × IsExpression in_loop e
  IsElement in_loop k (argument n s e) = (is_element_of k (argument n s e) ≡ true) × IsExpression in_loop e

  pub AreAttributes : Bool → Attributes → Type 0
  AreAttributes in_loop no_attributes = Unit {0}
  AreAttributes in_loop (bare n ats) = AreAttributes in_loop ats
  AreAttributes in_loop (quoted n s q t ats) = AreAttributes in_loop ats
  AreAttributes in_loop (valued n s b e c ats) = IsExpression in_loop e × AreAttributes in_loop ats
  AreAttributes in_loop (spreading b s e c ats) = IsExpression in_loop e × AreAttributes in_loop ats

  pub IsSuffix : Bool → Suffix → Type 0
  IsSuffix in_loop (Test s n w g) = NamesTest n w × AreArgs in_loop g
  IsSuffix in_loop (Filter s w g) = AreArgs in_loop g
  IsSuffix in_loop (Subscript s b) = IsSub in_loop b

  pub AreArgs : Bool → Args → Type 0
  AreArgs in_loop no_args = Unit {0}
  AreArgs in_loop (args s row) = IsRow in_loop of_arguments row × AreDistinct (argument_names row)

  pub IsOperator : Bool → Operator → Type 0
  IsOperator in_loop (Binary o) = Unit {0}
  IsOperator in_loop (Condition s c t) = IsExpression in_loop c
