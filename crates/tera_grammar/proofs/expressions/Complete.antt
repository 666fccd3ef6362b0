-- Each expression is read from its tokens, so no other has the same tokens.
use Rattle.std.proofs.Common.{◌≡◌, ℕ, zero, suc, ◌+◌, ◌<◌, ◌≤◌, zero-le, Bool, true, false, List, [], ◌∷◌, Some, None, refl, sym, ap, subst, ◌∙◌, inl, inr, arith, le_trans, lt-ltb, le-ltb}
use Rattle.std.specs.List.{AllByRecursion}
use Rattle.tera_base.specs.declared.utils.Span.{Span}
use Rattle.tera_lexer.specs.grammar.Tokens.{Items, Token, Ident}
use Rattle.tera_lexer.specs.code.Cursors.{size}
use Rattle.tera_grammar.specs.expressions.Operators.{BinaryOperator, Mul, Div, Mod, Plus, Minus, FloorDiv, Power, LessThan, GreaterThan, LessThanOrEqual, GreaterThanOrEqual, Equal, NotEqual, And, Or, StrConcat, In}
use Rattle.tera_grammar.specs.expressions.Marks.{Mark, RightParen, LeftBracket, RightBracket, RightBrace, Comma, Colon, Dot, Spread, Not, If, Else, For, Operation, mark_token, mark}
use Rattle.tera_grammar.specs.expressions.Concrete.{Name, Sign, Negative, Negates, plainly, negated, Second, Op, Single, NotIn, Kind, of_arguments, of_items, of_entries, Tree, Atomic, Prefix, Suffixed, Infix, Atom, Literal, Null, Chain, Call, Paren, Array, Comprehension, Map, Component, Links, no_links, field, item, Sub, index, slice, Part, absent, present, Extra, no_extra, extra, Row, ended, only, then, Element, plain, spread, pair, argument, Attributes, no_attributes, bare, quoted, valued, spreading, Suffix, Test, Filter, Subscript, Args, no_args, args, Operator, Binary, Condition, literal_token, name_yield, joint_yield, bracket_yield, negation_yield, second_yield, yield, atom_yield, links_yield, sub_yield, part_yield, extra_yield, row_yield, attributes_yield, suffix_yield, args_yield, operator_yield}
use Rattle.tera_grammar.specs.expressions.Powers.{right_of, op_right, left_power, right_power, sign_power, AtLeast, Above, Carries}
use Rattle.tera_grammar.specs.Words.{is_not, AreDistinct}
use Rattle.tera_grammar.specs.expressions.Conditions.{AreVariables, argument_names, is_refused, IsExpression, IsAtom, AreLinks, IsSub, IsPart, IsExtra, IsRow, IsElement, AreAttributes, IsSuffix, AreArgs, IsOperator}
use Rattle.tera_grammar.specs.expressions.Measures.{measure, atom_measure, links_measure, sub_measure, part_measure, extra_measure, row_measure, element_measure, attributes_measure, suffix_measure, args_measure, operator_measure, openings, subscripts, arrays, links, linking, EachElement, EachRow, EachAttribute}
use Rattle.tera_grammar.specs.expressions.Output.{of_loop}
use Rattle.tera_grammar.specs.Options.{◌>>=◌}
use Rattle.tera_grammar.specs.expressions.Reading.Front.{Place, at, same_token, no_link, link_of, Lead, leads_binary, leads_condition, ends_test, ends_filter, ends_subscript, lead_power, keeps_out, head_mark}
use Rattle.tera_grammar.proofs.plain.expressions.Reading.Front.{Reads, takes, skip, Front, nothing, joins, closes, misplaced, front}
use Rattle.tera_grammar.specs.expressions.Reading.Rooms.{Room, room}
use Rattle.tera_grammar.proofs.plain.expressions.Reading.Bracketed.{extra_of, part_of, slice_of, sub_at, sub_of, row_of, arguments_of, args_of, links_by, links_of, attributes_of}
use Rattle.tera_grammar.proofs.plain.expressions.Reading.Atoms.{array_at, head_of}
use Rattle.tera_grammar.specs.expressions.Reading.Loop.{by_operator, by_suffix, grow}
use Rattle.tera_grammar.proofs.plain.expressions.Reading.Loop.{operator_of, test_at, suffix_in, join_of, close_of, step, go_on, expr, loop_with, loop}
use Rattle.tera_grammar.proofs.expressions.Fronts.{skip_mark, skip_past, bump_read, name_read, lead_tokens, front_lead, front_ending, apart_lead, apart_test, apart_filter, ends_mark}
use Rattle.tera_grammar.proofs.expressions.Quiet.{StopsAt, Stops, QuietAtom, QuietArgs, QuietSuffix, Quiet, Quiet-above, Quiet-ends, ends_stops, Quiet-closed}
use Rattle.tera_grammar.proofs.expressions.Longer.{longer_joint, longer_bracket, longer_sub}
use Rattle.tera_grammar.proofs.expressions.FoundRows.{row_toll_links, attributes_toll_links}
use Rattle.tera_grammar.proofs.expressions.FoundLoop.{ending_of}
use Rattle.tera_grammar.proofs.expressions.Unrolled.{loop_steps}
use Rattle.tera_grammar.proofs.expressions.ReadRows.{Whole, Bars, free, NoAttribute, dotted_read, row_read, arguments_read, attributes_read}
use Rattle.tera_grammar.proofs.expressions.ReadParts.{EachPart, within, extra_read, no_extra_read, part_read, slice_read, index_read, start_read, sub_read, no_args_read, args_read, no_links_read, field_read, item_link_read, prefix_read, sign_head, paren_read, map_read, array_head, array_row, comprehension_read, component_read, literal_head_read, nothing_read, chain_read, call_read, chain_open, plain_to}

-- what is this deep fits where so many expressions may open, in some room
abbrev pub Fits : ℕ → Room → ℕ → ℕ → ℕ → Type 0
Fits d w high nested inner = (high ≤ d) × (nested ≤ w.subscripts) × (inner ≤ w.arrays)

abbrev pub FitsTree : ℕ → Room → Tree → Type 0
FitsTree d w t = Fits d w (measure openings t) (measure subscripts t) (measure arrays t)

pub expr_bars : (d : ℕ) → Bars (expr d)
unfolding expr head_mark
expr_bars zero m h w n k s r = refl
expr_bars (suc d) RightParen h w n k s r = refl
expr_bars (suc d) RightBracket h w n k s r = refl
expr_bars (suc d) RightBrace h w n k s r = refl
expr_bars (suc d) Comma h w n k s r = refl
expr_bars (suc d) Colon h w n k s r = refl
expr_bars (suc d) Spread h w n k s r = refl
expr_bars (suc d) _ h w n k s r = absurd h

pub at_zero : (ps : List ℕ) → AllByRecursion (λ p. 0 ≤ p) ps
at_zero [] = tt
at_zero (p ∷ ps) = (zero-le, at_zero ps)

step_stops_at : (d : ℕ) (w : Room) (m k : ℕ) (fr : Front) → StopsAt m fr → step (expr d) w m k fr ≡ Some None
unfolding step
step_stops_at d w m k nothing h = refl
step_stops_at d w m k (joins e us) h = rw (lt-ltb _ _ h)
step_stops_at d w m k (closes (ends_test s) us) h = rw (lt-ltb _ _ h)
step_stops_at d w m k (closes (ends_filter s) us) h = rw (lt-ltb _ _ h)
step_stops_at d w m k (closes (ends_subscript s) us) h = absurd h
step_stops_at d w m k misplaced h = rw (lt-ltb _ _ h)

pub loop_stops : (d : ℕ) (w : Room) (m : ℕ) (l : Tree) (p : Place) → Stops m p.tokens → loop d w m l p ≡ Some (l, p)
loop_stops d w m l p h = loop_steps d w m l p ∙ ap (λ o. o >>= λ g. go_on grow (loop d w m) l p g)
    (step_stops_at d w m p.links (front p.tokens) h)

head_done : (d : ℕ) (w : Room) (m : ℕ) (p : Place) (t : Tree) (q : Place) → head_of (expr d) w p ≡ Some (t, q)
    → expr (suc d) w m p ≡ loop d w m t q
unfolding expr loop_with
head_done d w m p t q h = ap (λ o. o >>= λ x. loop d w m x.0 x.1) h

lead_of : Operator → Lead
lead_of (Binary o) = leads_binary o
lead_of (Condition s c t) = leads_condition s

operator_rest : Operator → Items → Items
operator_rest (Binary o) r = r
operator_rest (Condition s c t) r = yield c (mark Else t r)

suffix_rest : Suffix → Items → Items
suffix_rest (Test s n x g) r = negation_yield n (name_yield x (args_yield g r))
suffix_rest (Filter s x g) r = name_yield x (args_yield g r)
suffix_rest (Subscript s b) r = sub_yield b r

suffix_cost : Suffix → ℕ
suffix_cost (Test s n x g) = args_measure linking g
suffix_cost (Filter s x g) = args_measure linking g
suffix_cost (Subscript s b) = sub_measure linking b

front_suffix : (s : Suffix) (r : Items) → front (suffix_yield s r) ≡ closes (ending_of s) (suffix_rest s r)
unfolding suffix_rest
front_suffix (Test s n x g) r = front_ending (ends_test s) _
front_suffix (Filter s x g) r = front_ending (ends_filter s) _
front_suffix (Subscript s b) r = front_ending (ends_subscript s) _

front_operator : (o : Operator) (r : Items) → front (operator_yield o r) ≡ joins (lead_of o) (operator_rest o r)
unfolding lead_of operator_rest
front_operator (Binary o) r = front_lead (leads_binary o) r
front_operator (Condition s c t) r = front_lead (leads_condition s) _

lead_power_is : (o : Operator) → lead_power (lead_of o) ≡ left_power o
unfolding lead_of
lead_power_is (Binary o) = refl
lead_power_is (Condition s c t) = refl

-- what comes after an operand lets it end
before_suffix : (a : Tree) (s : Suffix) (r : Items) → Carries a s → Quiet a (suffix_yield s r)
before_suffix a (Test s n x g) r h =
    Quiet-above a 5 _ (λ m k. subst (StopsAt m) (sym (front_ending (ends_test s) (negation_yield n (name_yield x (args_yield g r))))) k)
    (apart_test s _) h
before_suffix a (Filter s x g) r h = Quiet-above a 17 _ (λ m k. subst (StopsAt m)
    (sym (front_ending (ends_filter s) (name_yield x (args_yield g r)))) k) (apart_filter s _) h
before_suffix a (Subscript s b) r h = Quiet-closed a _ refl h.1 h.0

before_lead : (a : Tree) (e : Lead) (us : Items) → Above (lead_power e) a → Quiet a (lead_tokens e us)
before_lead a e us h = Quiet-above a (lead_power e) _ (λ m k. subst (StopsAt m) (sym (front_lead e us)) k) (apart_lead e us) h

before_operator : (a : Tree) (o : Operator) (r : Items) → Above (left_power o) a → Quiet a (operator_yield o r)
before_operator a (Binary o) r h = before_lead a (leads_binary o) r h
before_operator a (Condition s c t) r h = before_lead a (leads_condition s) (yield c (mark Else t r)) h

let_in : (a : Tree) (s : Suffix) (m : ℕ) → AtLeast m (Suffixed a s) → (keeps_out m (ending_of s) ≡ false) × AtLeast m a
let_in a (Test s n x g) m h = (le-ltb _ _ h.0, h.1)
let_in a (Filter s x g) m h = (le-ltb _ _ h.0, h.1)
let_in a (Subscript s b) m h = (refl, h)

-- the loop goes on with a suffix, and with an operator and its right operand
step_suffix : (d : ℕ) (w : Room) (m : ℕ) (s : Suffix) (j k : ℕ) (us r : Items) → keeps_out m (ending_of s) ≡ false
    → suffix_in (expr d) w (ending_of s) (at j us) ≡ Some (s, at k r)
    → step (expr d) w m (suc j) (closes (ending_of s) us) ≡ Some (Some (by_suffix s, at k r))
unfolding step close_of
step_suffix d w m s j k us r inside read = rw (inside, bump_read j us, read)

goes_on_suffix : (d : ℕ) (w : Room) (m : ℕ) (a : Tree) (s : Suffix) (j k : ℕ) (r : Items) → keeps_out m (ending_of s) ≡ false
    → suffix_in (expr d) w (ending_of s) (at j (suffix_rest s r)) ≡ Some (s, at k r)
    → loop d w m a (at (suc j) (suffix_yield s r)) ≡ loop d w m (Suffixed a s) (at k r)
goes_on_suffix d w m a s j k r inside read =
    loop_steps d w m a _
    ∙ ap (λ fr. step (expr d) w m (suc j) fr >>= λ g. go_on grow (loop d w m) a (at (suc j) (suffix_yield s r)) g) (front_suffix s r)
    ∙ ap (λ o. o >>= λ g. go_on grow (loop d w m) a (at (suc j) (suffix_yield s r)) g)
    (step_suffix d w m s j k (suffix_rest s r) r inside read)

step_operator : (d : ℕ) (w : Room) (m : ℕ) (o : Operator) (e : Tree) (i j k : ℕ) (us vs r : Items) → m ≤ lead_power (lead_of o)
    → operator_of (expr d) w (lead_of o) (at i us) ≡ Some (o, at j vs)
    → expr d w (right_power o) (at j vs) ≡ Some (e, at k r) → is_refused w.in_loop o e ≡ false
    → step (expr d) w m i (joins (lead_of o) us) ≡ Some (Some (by_operator o e, at k r))
unfolding step join_of
step_operator d w m o e i j k us vs r low read right fits = rw (le-ltb _ _ low, read, right, fits)

goes_on_operator : (d : ℕ) (w : Room) (m : ℕ) (a : Tree) (o : Operator) (e : Tree) (i j k : ℕ) (r : Items) → m ≤ left_power o
    → operator_of (expr d) w (lead_of o) (at i (operator_rest o (yield e r))) ≡ Some (o, at j (yield e r))
    → expr d w (right_power o) (at j (yield e r)) ≡ Some (e, at k r) → is_refused w.in_loop o e ≡ false
    → loop d w m a (at i (operator_yield o (yield e r))) ≡ loop d w m (Infix a o e) (at k r)
goes_on_operator d w m a o e i j k r inside read right fits =
    loop_steps d w m a _
    ∙ ap (λ fr. step (expr d) w m i fr >>= λ g. go_on grow (loop d w m) a (at i (operator_yield o (yield e r))) g)
    (front_operator o (yield e r))
    ∙ ap (λ x. x >>= λ g. go_on grow (loop d w m) a (at i (operator_yield o (yield e r))) g)
    (step_operator d w m o e i j k (operator_rest o (yield e r)) (yield e r) r (subst (λ p. m ≤ p) (sym (lead_power_is o)) inside)
    read right fits)

test_plain : (d : ℕ) (w : Room) (s : Span) (x : Name) (g : Args) (j k : ℕ) (us r : Items) → is_not x.text ≡ false
    → args_of (expr d) w (at j us) ≡ Some (g, at k r)
    → suffix_in (expr d) w (ends_test s) (at j (name_yield x us)) ≡ Some (Test s plainly x g, at k r)
unfolding suffix_in
test_plain d w s x g j k us r argument_names h = ap (test_at (expr d) w s _) (skip_past Not j (Ident x.text) x.span us argument_names)
    ∙ rw (name_read x j us, h)

test_negated : (d : ℕ) (w : Room) (s t : Span) (x : Name) (g : Args) (j k : ℕ) (us r : Items)
    → args_of (expr d) w (at j us) ≡ Some (g, at k r)
    → suffix_in (expr d) w (ends_test s) (at j (mark Not t (name_yield x us))) ≡ Some (Test s (negated t) x g, at k r)
unfolding suffix_in
test_negated d w s t x g j k us r h = ap (test_at (expr d) w s _) (skip_mark Not refl j t (name_yield x us)) ∙ rw (name_read x j us, h)

filter_read : (d : ℕ) (w : Room) (s : Span) (x : Name) (g : Args) (j k : ℕ) (us r : Items)
    → args_of (expr d) w (at j us) ≡ Some (g, at k r)
    → suffix_in (expr d) w (ends_filter s) (at j (name_yield x us)) ≡ Some (Filter s x g, at k r)
unfolding suffix_in
filter_read d w s x g j k us r h = rw (name_read x j us, h)

subscript_read : (d : ℕ) (w : Room) (s : Span) (b : Sub) (j k : ℕ) (us r : Items) → sub_of (expr d) w (at j us) ≡ Some (b, at k r)
    → suffix_in (expr d) w (ends_subscript s) (at j us) ≡ Some (Subscript s b, at k r)
unfolding suffix_in
subscript_read d w s b j k us r h = rw h

binary_read : (d : ℕ) (w : Room) (o : Op) (k : ℕ) (r : Items)
    → operator_of (expr d) w (leads_binary o) (at (suc k) r) ≡ Some (Binary o, at k r)
unfolding operator_of
binary_read d w o k r = rw (bump_read k r)

condition_read : (d : ℕ) (w : Room) (s : Span) (c : Tree) (t : Span) (k : ℕ) (r : Items) → Whole (expr d) links w c
    → operator_of (expr d) w (leads_condition s) (at (links c + k) (yield c (mark Else t r))) ≡ Some (Condition s c t, at k r)
unfolding operator_of
condition_read d w s c t k r whole = rw (whole Else tt t k r, skip_mark Else refl k t r)

right_positive : (o : BinaryOperator) → 1 ≤ right_of o
right_positive Mul = omega arith
right_positive Div = omega arith
right_positive Mod = omega arith
right_positive Plus = omega arith
right_positive Minus = omega arith
right_positive FloorDiv = omega arith
right_positive Power = omega arith
right_positive LessThan = omega arith
right_positive GreaterThan = omega arith
right_positive LessThanOrEqual = omega arith
right_positive GreaterThanOrEqual = omega arith
right_positive Equal = omega arith
right_positive NotEqual = omega arith
right_positive And = omega arith
right_positive Or = omega arith
right_positive StrConcat = omega arith
right_positive In = omega arith

op_positive : (o : Op) → 1 ≤ op_right o
op_positive (Single o s) = right_positive o
op_positive (NotIn s t) = omega arith

sign_positive : (s : Sign) → 1 ≤ sign_power s
sign_positive (Negative s) = omega arith
sign_positive (Negates s) = omega arith

at_weaker : (ps : List ℕ) (m n : ℕ) → n ≤ m → AllByRecursion (λ p. m ≤ p) ps → AllByRecursion (λ p. n ≤ p) ps
at_weaker [] m n le h = tt
at_weaker (p ∷ ps) m n le h = (le_trans le h.0, at_weaker ps m n le h.1)

-- what is read at power 1 may be before an `if` that is not its own
above_zero : (l : Bool) (t : Tree) → IsExpression l t → AtLeast 1 t → Above 0 t
above_zero l (Atomic a) is h = tt
above_zero l (Prefix s e) is h = (sign_positive s, above_zero l e is.2 (at_weaker _ (sign_power s) 1 (sign_positive s) is.0))
above_zero l (Suffixed a s) is h = tt
above_zero l (Infix a (Binary o) e) is h = (op_positive o, above_zero l e is.5 (at_weaker _ (op_right o) 1 (op_positive o) is.1))
above_zero l (Infix a (Condition s c t) e) is h = absurd (omega (arith, h.0))

-- Reading an expression comes to the loop with the whole of it as the operand.
abbrev Reaches : Tree → Type 0
Reaches t = (d : ℕ) (w : Room) (m k : ℕ) (r : Items) → IsExpression w.in_loop t → AtLeast m t → Quiet t r → FitsTree d w t
    → expr (suc d) w m (at (links t + k) (yield t r)) ≡ loop d w m t (at k r)

-- an operand at a power of its own
pub operand : (e : Tree) → Reaches e → (d : ℕ) (w : Room) (m k : ℕ) (r : Items) → IsExpression w.in_loop e → AtLeast m e
    → Quiet e r → Stops m r
    → Fits d w (measure openings e + 1) (measure subscripts e) (measure arrays e)
    → expr d w m (at (links e + k) (yield e r)) ≡ Some (e, at k r)
operand e reach d w m k r is left quiet stops fits =
    within (λ c. expr c w m (at (links e + k) (yield e r)) ≡ Some (e, at k r)) d (measure openings e) (omega (arith, fits.0)) (λ c le.
    reach c w m k r is left quiet (le, fits.1, fits.2) ∙ loop_stops c w m e (at k r) stops)

-- an expression before a stop
inside : (e : Tree) → Reaches e → (d : ℕ) (w : Room) → IsExpression w.in_loop e
    → Fits d w (measure openings e + 1) (measure subscripts e) (measure arrays e) → Whole (expr d) links w e
inside e reach d w is fits m stop s k r =
    let ends = ends_mark m stop s r in
    operand e reach d w 0 k (mark m s r) is (at_zero _) (Quiet-ends e (mark m s r) ends) (ends_stops (mark m s r) ends 0) fits

-- after its target a comprehension has a condition or ends
target_quiet : (l : Bool) (t : Tree) (x : Extra) (c : Span) (r : Items) → IsExpression l t → AtLeast 1 t
    → Quiet t (extra_yield If x (mark RightBracket c r)) × Stops 1 (extra_yield If x (mark RightBracket c r))
target_quiet l t no_extra c r is left = let ends = ends_mark RightBracket tt c r in (Quiet-ends t _ ends, ends_stops _ ends 1)
target_quiet l t (extra s e) c r is left =
    let stops : (m : ℕ) → 0 < m → Stops m (mark If s (yield e (mark RightBracket c r))) = λ m h. subst (StopsAt m)
    (sym (front_lead (leads_condition s) (yield e (mark RightBracket c r)))) h in
    (Quiet-above t 0 _ stops (apart_lead (leads_condition s) _) (above_zero l t is left), stops 1 (omega arith))

no_dot : (x : Attributes) (t : Span) (r : Items) → takes Dot (attributes_yield x (mark (Operation Div) t r)) ≡ None
no_dot no_attributes t r = refl
no_dot (bare n ats) t r = refl
no_dot (quoted n s l u ats) t r = refl
no_dot (valued n s b e c ats) t r = refl
no_dot (spreading b s e c ats) t r = refl

no_attribute : (t : Span) (r : Items) → NoAttribute (mark (Operation Div) t r)
no_attribute t r = record { name = refl; brace = refl; assign = refl }

suffix_sum : (a : Tree) (s : Suffix) (k : ℕ) → (links a + suffix_measure linking s) + k ≡ links a + suc (suffix_cost s + k)
unfolding suffix_cost
suffix_sum a (Test s n x g) k = omega arith
suffix_sum a (Filter s x g) k = omega arith
suffix_sum a (Subscript s b) k = omega arith

links_all : (ls : Links) (d : ℕ) (w : Room) (c : Bool) (k : ℕ) (r : Items)
    → links_by (suc (size (links_yield ls r))) (expr d) w c (at (links_measure linking ls + k) (links_yield ls r)) ≡ Some (ls, at k r)
    → links_of (expr d) w c (at (links_measure linking ls + k) (links_yield ls r)) ≡ Some (ls, at k r)
unfolding links_of
links_all ls d w c k r h = h

arguments_are_read : (row : Row) (d : ℕ) (w : Room) (k : ℕ) (r : Items) → IsRow w.in_loop of_arguments row
    → AreDistinct (argument_names row) → EachRow (Whole (expr d) links w) row
    → arguments_of (expr d) w (at (row_measure linking row + k) (row_yield of_arguments row r)) ≡ Some (row, at k r)
arguments_are_read row d w k r is distinct each =
    ap (λ i. arguments_of (expr d) w (at (i + k) (row_yield of_arguments row r))) (sym (row_toll_links row))
    ∙ arguments_read (expr d) links (expr_bars d) w row k r is distinct each

-- an array opens in a smaller room
array_in : (s : Span) (row : Row) (d : ℕ) (l : Bool) (n a : ℕ) (k : ℕ) (r : Items) → IsRow l of_items row
    → ((b : ℕ) → Fits d (room l n b) (row_measure openings row) (row_measure subscripts row) (row_measure arrays row)
    → EachRow (Whole (expr d) links (room l n b)) row)
    → Fits d (room l n a) (row_measure openings row) (row_measure subscripts row) (row_measure arrays row + 1)
    → head_of (expr d) (room l n a) (at (row_measure linking row + k) (mark LeftBracket s (row_yield of_items row r))) ≡ Some
    (Atomic (Array s row), at k r)
array_in s row d l n zero k r is each fits = absurd (omega (arith, fits.2))
array_in s row d l n (suc a) k r is each fits =
    array_head (expr d) (expr_bars d) l n a s (at 0 r) (row_measure linking row + k) (row_yield of_items row r)
    ∙ ap (λ i. array_at (expr d) (room l n (suc a)) (room l n a) s (at (i + k) (row_yield of_items row r))
    (skip RightBracket (at (i + k) (row_yield of_items row r)))) (sym (row_toll_links row))
    ∙ array_row (expr d) (expr_bars d) (room l n (suc a)) (room l n a) s row k r is (each a (fits.0, fits.1, omega (arith, fits.2)))

comprehension_in : (s : Span) (e : Tree) (g : Span) (n : Name) (m : Second) (i : Span) (t : Tree) (x : Extra) (c : Span) (d : ℕ)
    (l : Bool) (b a : ℕ) (k : ℕ) (r : Items) → AreVariables n m
    → ((v : ℕ) → Fits d (room l b v) (measure openings e + 1) (measure subscripts e) (measure arrays e)
    → Whole (expr d) links (room l b v) e)
    → ((j : ℕ) → expr d (room l b a) 1 (at (links t + j) (yield t (extra_yield If x (mark RightBracket c r)))) ≡ Some
    (t, at j (extra_yield If x (mark RightBracket c r))))
    → extra_of (expr d) (room l b a) If 1 (at (extra_measure linking x + k) (extra_yield If x (mark RightBracket c r))) ≡ Some
    (x, at k (mark RightBracket c r))
    → Fits d (room l b a) (measure openings e + 1) (measure subscripts e) (measure arrays e + 1)
    → head_of (expr d) (room l b a) (at ((links e + (links t + extra_measure linking x)) + k)
    (atom_yield (Comprehension s e g n m i t x c) r)) ≡ Some (Atomic (Comprehension s e g n m i t x c), at k r)
comprehension_in s e g n m i t x c d l b zero k r vars element target guard fits = absurd (omega (arith, fits.2))
comprehension_in s e g n m i t x c d l b (suc a) k r vars element target guard fits =
    let us = name_yield n (second_yield m (mark (Operation In) i (yield t (extra_yield If x (mark RightBracket c r))))) in
    let whole = element a (fits.0, fits.1, omega (arith, fits.2)) For tt g (links t + (extra_measure linking x + k)) us in
    ap (λ j. head_of (expr d) (room l b (suc a)) (at j (atom_yield (Comprehension s e g n m i t x c) r))) (omega arith)
    ∙ array_head (expr d) (expr_bars d) l b a s (at 0 r) (links e + (links t + (extra_measure linking x + k))) (yield e (mark For g us))
    ∙ comprehension_read (expr d) (expr_bars d) (room l b (suc a)) (room l b a) s e g n m i t x c
    (links e + (links t + (extra_measure linking x + k))) (links t + (extra_measure linking x + k)) k r
    whole vars (target (extra_measure linking x + k)) guard

-- what a subscript reads first, and what it reads then
abbrev ReadsSub : ℕ → Room → Sub → ℕ → Items → Type 0
ReadsSub d w b k r = (o : Reads Span) × (skip Colon (at (sub_measure linking b + k) (sub_yield b r)) ≡ o)
    × (sub_at (expr d) w (at (sub_measure linking b + k) (sub_yield b r)) o ≡ Some (b, at k r))

sub_in : (b : Sub) (d : ℕ) (l : Bool) (n a : ℕ) (k : ℕ) (r : Items)
    → ((s : ℕ) → Fits d (room l s a) (sub_measure openings b) (sub_measure subscripts b) (sub_measure arrays b)
    → ReadsSub d (room l s a) b k r)
    → Fits d (room l n a) (sub_measure openings b) (sub_measure subscripts b + 1) (sub_measure arrays b)
    → sub_of (expr d) (room l n a) (at (sub_measure linking b + k) (sub_yield b r)) ≡ Some (b, at k r)
sub_in b d l zero a k r reads fits = absurd (omega (arith, fits.1))
sub_in b d l (suc s) a k r reads fits =
    let (o, is, read) = reads s (fits.0, omega (arith, fits.1), fits.2) in
    sub_read (expr d) (expr_bars d) l s a (at (sub_measure linking b + k) (sub_yield b r)) o (b, at k r) is read

-- before the step of a slice, or its end
part_before : (b : Part) (x : Extra) (d : ℕ) (w : Room) (k : ℕ) (c : Span) (r : Items) → EachPart (Whole (expr d) links w) b
    → part_of (expr d) w (at (part_measure linking b + (extra_measure linking x + k)) (part_yield b (extra_yield Colon x (mark RightBracket c r))))
    ≡ Some (b, at (extra_measure linking x + k) (extra_yield Colon x (mark RightBracket c r)))
part_before b no_extra d w k c r each = part_read (expr d) (expr_bars d) w b RightBracket (inr refl) tt c (0 + k) r each
part_before b (extra s e) d w k c r each = part_read (expr d) (expr_bars d) w b Colon (inl refl) tt s (links e + k)
    (yield e (mark RightBracket c r)) each

mutual
  unfolding suffix_cost suffix_rest lead_of operator_rest

  pub reached : (t : Tree) → Reaches t
  reached (Atomic a) d w m k r is left quiet fits = head_done d w m _ (Atomic a) (at k r) (atom_read a d w k r is quiet fits)
  reached (Prefix s e) d w m k r is left quiet fits =
      head_done d w m _ (Prefix s e) (at k r) (sign_head (expr d) (expr_bars d) w s _ _
      ∙ prefix_read (expr d) (expr_bars d) w s e _ k r (plain_to w.in_loop e r is.2 is.1)
      (operand e (reached e) d w (sign_power s) k r is.2 is.0 quiet.1 quiet.0
      (omega (arith, fits.0), omega (arith, fits.1), omega (arith, fits.2))))
  reached (Suffixed a s) d w m k r is left quiet fits =
      let goes = let_in a s m left in
      ap (λ j. expr (suc d) w m (at j (yield a (suffix_yield s r)))) (suffix_sum a s k)
      ∙ reached a d w m (suc (suffix_cost s + k)) (suffix_yield s r) is.1 goes.1 (before_suffix a s r is.0)
      (omega (arith, fits.0), omega (arith, fits.1), omega (arith, fits.2))
      ∙ goes_on_suffix d w m a s (suffix_cost s + k) k r goes.0
      (suffix_read s d w k r is.2 quiet (omega (arith, fits.0), omega (arith, fits.1), omega (arith, fits.2)))
  reached (Infix a o e) d w m k r is left quiet fits =
      ap (λ j. expr (suc d) w m (at j (yield a (operator_yield o (yield e r))))) (omega arith)
      ∙ reached a d w m (operator_measure linking o + (links e + k)) (operator_yield o (yield e r)) is.3 left.1 (before_operator a o _ is.0)
      (omega (arith, fits.0), omega (arith, fits.1), omega (arith, fits.2))
      ∙ goes_on_operator d w m a o e (operator_measure linking o + (links e + k)) (links e + k) k r left.0
      (operator_read o d w (links e + k) (yield e r) is.4 (omega (arith, fits.0), omega (arith, fits.1), omega (arith, fits.2)))
      (operand e (reached e) d w (right_power o) k r is.5 is.1 quiet.1 quiet.0
      (omega (arith, fits.0), omega (arith, fits.1), omega (arith, fits.2)))
      is.2

  atom_read : (a : Atom) (d : ℕ) (w : Room) (k : ℕ) (r : Items) → IsAtom w.in_loop a → QuietAtom a r
      → Fits d w (atom_measure openings a) (atom_measure subscripts a) (atom_measure arrays a)
      → head_of (expr d) w (at (atom_measure linking a + k) (atom_yield a r)) ≡ Some (Atomic a, at k r)
  atom_read (Literal l s) d w k r is quiet fits = ap (λ i. head_of (expr d) w (at i (Token (literal_token l) s r))) (omega arith)
      ∙ literal_head_read (expr d) (expr_bars d) w l s k r
  atom_read (Null n) d w k r is quiet fits = ap (λ i. head_of (expr d) w (at i (name_yield n r))) (omega arith)
      ∙ nothing_read (expr d) (expr_bars d) w n k r is
  atom_read (Chain n ls) d w k r is quiet fits =
      chain_read (expr d) (expr_bars d) w n ls (links_measure linking ls + k) k (links_yield ls r) r is.0 (chain_open ls _ r quiet)
      (links_all ls d w (of_loop w.in_loop n) k r
      (links_are_read ls d w (of_loop w.in_loop n) (suc (size (links_yield ls r))) k r (omega arith) is.1 quiet fits))
  atom_read (Call n s row) d w k r is quiet fits =
      call_read (expr d) (expr_bars d) w n s row (row_measure linking row + k) k (row_yield of_arguments row r) r is.0
      (arguments_are_read row d w k r is.1 is.2 (each_row row of_arguments d w is.1
      (omega (arith, fits.0), omega (arith, fits.1), omega (arith, fits.2))))
  atom_read (Paren s e t) d w k r is quiet fits = paren_read (expr d) (expr_bars d) w s e t k r
      (inside e (reached e) d w is (omega (arith, fits.0), omega (arith, fits.1), omega (arith, fits.2)))
  atom_read (Array s row) d w k r is quiet fits = array_in s row d w.in_loop w.subscripts w.arrays k r is
      (λ a h. each_row row of_items d (room w.in_loop w.subscripts a) is h)
      (omega (arith, fits.0), omega (arith, fits.1), omega (arith, fits.2))
  atom_read (Comprehension s e f n m i t g c) d w k r is quiet fits =
      comprehension_in s e f n m i t g c d w.in_loop w.subscripts w.arrays k r is.0
      (λ a h. inside e (reached e) d (room w.in_loop w.subscripts a) is.2 h)
      (λ j. operand t (reached t) d w 1 j (extra_yield If g (mark RightBracket c r)) is.3 is.1
      (target_quiet w.in_loop t g c r is.3 is.1).0 (target_quiet w.in_loop t g c r is.3 is.1).1
      (omega (arith, fits.0), omega (arith, fits.1), omega (arith, fits.2)))
      (extra_is_read g If refl refl d w 1 k c r is.4 (omega (arith, fits.0), omega (arith, fits.1), omega (arith, fits.2)))
      (omega (arith, fits.0), omega (arith, fits.1), omega (arith, fits.2))
  atom_read (Map s row) d w k r is quiet fits =
      map_read (expr d) (expr_bars d) w s row (row_measure linking row + k) k (row_yield of_entries row r) r
      (ap (λ i. row_of (expr d) w of_entries (at (i + k) (row_yield of_entries row r))) (sym (row_toll_links row))
      ∙ row_read (expr d) links (expr_bars d) w row of_entries k r is (each_row row of_entries d w is fits))
  atom_read (Component s n ds ats t u) d w k r is quiet fits =
      component_read (expr d) (expr_bars d) w s n ds ats t u (attributes_measure linking ats + k) k r
      (dotted_read ds _ _ (no_dot ats t _))
      (ap (λ i. attributes_of (expr d) w (at (i + k) (attributes_yield ats
      (mark (Operation Div) t (mark (Operation GreaterThan) u r))))) (sym (attributes_toll_links ats))
      ∙ attributes_read (expr d) links (expr_bars d) w ats k _ is (each_attribute ats d w is fits) (no_attribute t _))

  each_row : (row : Row) (k : Kind) (d : ℕ) (w : Room) → IsRow w.in_loop k row
      → Fits d w (row_measure openings row) (row_measure subscripts row) (row_measure arrays row) → EachRow (Whole (expr d) links w) row
  each_row (ended s) k d w is fits = tt
  each_row (only x s) k d w is fits = each_element x k d w is fits
  each_row (then x s xs) k d w is fits = (
    each_element x k d w is.0 (omega (arith, fits.0), omega (arith, fits.1), omega (arith, fits.2)),
    each_row xs k d w is.1
        (omega (arith, fits.0), omega (arith, fits.1), omega (arith, fits.2)),
  )

  each_element : (x : Element) (k : Kind) (d : ℕ) (w : Room) → IsElement w.in_loop k x
      → Fits d w (element_measure openings x) (element_measure subscripts x) (element_measure arrays x)
      → EachElement (Whole (expr d) links w) x
  each_element (plain e) k d w is fits = inside e (reached e) d w is.1 (fits.0, omega (arith, fits.1), omega (arith, fits.2))
  each_element (spread s e) k d w is fits = inside e (reached e) d w is.1 (fits.0, omega (arith, fits.1), omega (arith, fits.2))
  each_element (pair l s t e) k d w is fits = inside e (reached e) d w is.1 (fits.0, omega (arith, fits.1), omega (arith, fits.2))
  each_element (argument n s e) k d w is fits = inside e (reached e) d w is.1 (fits.0, omega (arith, fits.1), omega (arith, fits.2))

  each_attribute : (x : Attributes) (d : ℕ) (w : Room) → AreAttributes w.in_loop x
      → Fits d w (attributes_measure openings x) (attributes_measure subscripts x) (attributes_measure arrays x)
      → EachAttribute (Whole (expr d) links w) x
  each_attribute no_attributes d w is fits = tt
  each_attribute (bare n ats) d w is fits = each_attribute ats d w is fits
  each_attribute (quoted n s l t ats) d w is fits = each_attribute ats d w is fits
  each_attribute (valued n s b e c ats) d w is fits = (
    inside e (reached e) d w is.0 (omega (arith, fits.0), omega (arith, fits.1), omega (arith, fits.2)),
    each_attribute ats d w
        is.1 (omega (arith, fits.0), omega (arith, fits.1), omega (arith, fits.2)),
  )
  each_attribute (spreading b s e c ats) d w is fits = (
    inside e (reached e) d w is.0 (omega (arith, fits.0), omega (arith, fits.1), omega (arith, fits.2)),
    each_attribute ats d w
        is.1 (omega (arith, fits.0), omega (arith, fits.1), omega (arith, fits.2)),
  )

  links_are_read : (ls : Links) (d : ℕ) (w : Room) (c : Bool) (n k : ℕ) (r : Items) → size (links_yield ls r) < n
      → AreLinks w.in_loop c ls → link_of r ≡ no_link
      → Fits d w (links_measure openings ls) (links_measure subscripts ls) (links_measure arrays ls)
      → links_by n (expr d) w c (at (links_measure linking ls + k) (links_yield ls r)) ≡ Some (ls, at k r)
  links_are_read ls d w c zero k r enough is quiet fits = absurd (omega arith)
  links_are_read no_links d w c (suc n) k r enough is quiet fits = ap (λ i. links_by (suc n) (expr d) w c (at i r)) (omega arith)
      ∙ no_links_read (expr d) (expr_bars d) n w c k r quiet
  links_are_read (field j m ls) d w c (suc n) k r enough is quiet fits =
      let less = longer_joint j (name_yield m (links_yield ls r)) in
      ap (λ i. links_by (suc n) (expr d) w c (at i (joint_yield j (name_yield m (links_yield ls r))))) (omega arith)
      ∙ field_read (expr d) (expr_bars d) n w c j m ls (links_measure linking ls + k) (links_yield ls r) (at k r) is.0
      (links_are_read ls d w c n k r (omega arith) is.1 quiet fits)
  links_are_read (item b s ls) d w c (suc n) k r enough is quiet fits =
      let less = longer_bracket b (sub_yield s (links_yield ls r)) in
      let less_too = longer_sub s (links_yield ls r) in
      ap (λ i. links_by (suc n) (expr d) w c (at i (bracket_yield b (sub_yield s (links_yield ls r))))) (omega arith)
      ∙ item_link_read (expr d) (expr_bars d) n w c b s ls (sub_measure linking s + (links_measure linking ls + k)) (links_measure linking ls + k)
      (sub_yield s (links_yield ls r)) (links_yield ls r) (at k r)
      (sub_in s d w.in_loop w.subscripts w.arrays (links_measure linking ls + k) (links_yield ls r)
      (λ n h. sub_reads s d (room w.in_loop n w.arrays) (links_measure linking ls + k) (links_yield ls r) is.0 h)
      (omega (arith, fits.0), omega (arith, fits.1), omega (arith, fits.2)))
      (links_are_read ls d w c n k r (omega arith) is.1 quiet (omega (arith, fits.0), omega (arith, fits.1), omega (arith, fits.2)))

  sub_reads : (b : Sub) (d : ℕ) (w : Room) (k : ℕ) (r : Items) → IsSub w.in_loop b
      → Fits d w (sub_measure openings b) (sub_measure subscripts b) (sub_measure arrays b) → ReadsSub d w b k r
  sub_reads (index e c) d w k r is fits =
      let whole = inside e (reached e) d w is (omega (arith, fits.0), omega (arith, fits.1), omega (arith, fits.2)) in (
        None,
        free (expr d) (expr_bars d) Colon tt w 0 _ _ _ (whole RightBracket tt c k r),
        index_read (expr d) (expr_bars d) w e c
            k r whole,
      )
  sub_reads (slice absent s b x c) d w k r is fits = (
    Some (s, at ((0 + (part_measure linking b + extra_measure linking x)) + k) (part_yield b (extra_yield Colon x (mark RightBracket c r)))),
    skip_mark Colon refl _ s _,
    ap (λ i. slice_of (expr d) w absent s (at i (part_yield b (extra_yield Colon x (mark RightBracket c r))))) (omega arith)
        ∙ slice_read (expr d) (expr_bars d) w absent b x s c (part_measure linking b + (extra_measure linking x + k)) k r
        (part_before b x d w k c r (each_part b d w is.1 (omega (arith, fits.0), omega (arith, fits.1), omega (arith, fits.2))))
        (extra_is_read x Colon refl refl d w 0 k c r is.2
        (omega (arith, fits.0), omega (arith, fits.1), omega (arith, fits.2))),
  )
  sub_reads (slice (present e) s b x c) d w k r is fits =
      let us = part_yield b (extra_yield Colon x (mark RightBracket c r)) in
      let whole = inside e (reached e) d w is.0 (omega (arith, fits.0), omega (arith, fits.1), omega (arith, fits.2)) in
      let read : expr d w 0 (at ((links e + (part_measure linking b + extra_measure linking x)) + k) (yield e (mark Colon s us))) ≡ Some
      (e, at (part_measure linking b + (extra_measure linking x + k)) (mark Colon s us)) =
      ap (λ i. expr d w 0 (at i (yield e (mark Colon s us)))) (omega arith)
      ∙ whole Colon tt s (part_measure linking b + (extra_measure linking x + k)) us in (
        None,
        free (expr d) (expr_bars d) Colon tt w 0 _ _ _ read,
        start_read (expr d) (expr_bars d) w e s _ (part_measure linking b + (extra_measure linking x + k)) us (slice (present e) s b x c, at k r) read
            (slice_read (expr d) (expr_bars d) w (present e) b x s c (part_measure linking b + (extra_measure linking x + k)) k r
            (part_before b x d w k c r (each_part b d w is.1 (
              omega (arith, fits.0),
              omega (arith, fits.1),
              omega
                  (arith, fits.2),
            ))) (extra_is_read x Colon refl refl d w 0 k c r is.2
            (omega (arith, fits.0), omega (arith, fits.1), omega (arith, fits.2)))),
      )

  each_part : (b : Part) (d : ℕ) (w : Room) → IsPart w.in_loop b
      → Fits d w (part_measure openings b) (part_measure subscripts b) (part_measure arrays b) → EachPart (Whole (expr d) links w) b
  each_part absent d w is fits = tt
  each_part (present e) d w is fits = inside e (reached e) d w is
      (omega (arith, fits.0), omega (arith, fits.1), omega (arith, fits.2))

  extra_is_read : (x : Extra) (m : Mark) → same_token (mark_token m) (mark_token m) ≡ true
      → same_token (mark_token RightBracket) (mark_token m) ≡ false → (d : ℕ) (w : Room) (p k : ℕ) (c : Span) (r : Items)
      → IsExtra w.in_loop p x → Fits d w (extra_measure openings x) (extra_measure subscripts x) (extra_measure arrays x)
      → extra_of (expr d) w m p (at (extra_measure linking x + k) (extra_yield m x (mark RightBracket c r))) ≡ Some
      (x, at k (mark RightBracket c r))
  extra_is_read no_extra m own other d w p k c r is fits =
      ap (λ i. extra_of (expr d) w m p (at i (mark RightBracket c r))) (omega arith)
      ∙ no_extra_read (expr d) (expr_bars d) w m p k c r other
  extra_is_read (extra s e) m own other d w p k c r is fits =
      let ends = ends_mark RightBracket tt c r in
      extra_read (expr d) (expr_bars d) w m p s e (links e + k) k (mark RightBracket c r) own
      (operand e (reached e) d w p k (mark RightBracket c r) is.1 is.0 (Quiet-ends e _ ends) (ends_stops _ ends p)
      (omega (arith, fits.0), omega (arith, fits.1), omega (arith, fits.2)))

  suffix_read : (s : Suffix) (d : ℕ) (w : Room) (k : ℕ) (r : Items) → IsSuffix w.in_loop s → QuietSuffix s r
      → Fits d w (suffix_measure openings s) (suffix_measure subscripts s) (suffix_measure arrays s)
      → suffix_in (expr d) w (ending_of s) (at (suffix_cost s + k) (suffix_rest s r)) ≡ Some (s, at k r)
  suffix_read (Test s plainly x g) d w k r is quiet fits = test_plain d w s x g (args_measure linking g + k) k (args_yield g r) r is.0
      (args_are_read g d w k r is.1 quiet fits)
  suffix_read (Test s (negated t) x g) d w k r is quiet fits = test_negated d w s t x g (args_measure linking g + k) k (args_yield g r) r
      (args_are_read g d w k r is.1 quiet fits)
  suffix_read (Filter s x g) d w k r is quiet fits = filter_read d w s x g (args_measure linking g + k) k (args_yield g r) r
      (args_are_read g d w k r is quiet fits)
  suffix_read (Subscript s b) d w k r is quiet fits = subscript_read d w s b (sub_measure linking b + k) k (sub_yield b r) r
      (sub_in b d w.in_loop w.subscripts w.arrays k r (λ n h. sub_reads b d (room w.in_loop n w.arrays) k r is h)
      (omega (arith, fits.0), omega (arith, fits.1), omega (arith, fits.2)))

  args_are_read : (g : Args) (d : ℕ) (w : Room) (k : ℕ) (r : Items) → AreArgs w.in_loop g → QuietArgs g r
      → Fits d w (args_measure openings g) (args_measure subscripts g) (args_measure arrays g)
      → args_of (expr d) w (at (args_measure linking g + k) (args_yield g r)) ≡ Some (g, at k r)
  args_are_read no_args d w k r is quiet fits = ap (λ i. args_of (expr d) w (at i r)) (omega arith)
      ∙ no_args_read (expr d) (expr_bars d) w k r quiet
  args_are_read (args s row) d w k r is quiet fits =
      args_read (expr d) (expr_bars d) w s row (row_measure linking row + k) k (row_yield of_arguments row r) r
      (arguments_are_read row d w k r is.0 is.1 (each_row row of_arguments d w is.0 fits))

  operator_read : (o : Operator) (d : ℕ) (w : Room) (k : ℕ) (r : Items) → IsOperator w.in_loop o
      → Fits d w (operator_measure openings o) (operator_measure subscripts o) (operator_measure arrays o)
      → operator_of (expr d) w (lead_of o) (at (operator_measure linking o + k) (operator_rest o r)) ≡ Some (o, at k r)
  operator_read (Binary o) d w k r is fits = ap (λ i. operator_of (expr d) w (leads_binary o) (at i r)) (omega arith)
      ∙ binary_read d w o k r
  operator_read (Condition s c t) d w k r is fits = condition_read d w s c t k r
      (inside c (reached c) d w is (omega (arith, fits.0), omega (arith, fits.1), omega (arith, fits.2)))
