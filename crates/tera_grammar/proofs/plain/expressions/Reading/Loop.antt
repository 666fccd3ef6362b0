-- Reading an expression by powers.
use Rattle.std.specs.Prelude.{ℕ, zero, suc, cond, ltb, Option, Some, None}
use Rattle.tera_base.specs.declared.utils.Span.{Span}
use Rattle.tera_lexer.specs.code.Cursors.{size}
use Rattle.tera_grammar.specs.expressions.Marks.{Not, Else}
use Rattle.tera_grammar.specs.expressions.Concrete.{Negation, plainly, negated, Tree, Suffix, Test, Filter, Subscript, Operator, Binary, Condition}
use Rattle.tera_grammar.specs.expressions.Powers.{right_power}
use Rattle.tera_grammar.specs.expressions.Conditions.{is_refused}
use Rattle.tera_grammar.specs.Options.{◌>>=◌}
use Rattle.tera_grammar.specs.expressions.Reading.Front.{Place, at, Lead, leads_binary, leads_condition, Ending, ends_test, ends_filter, ends_subscript, lead_power, keeps_out}
use Rattle.tera_grammar.proofs.plain.expressions.Reading.Front.{Reads, skip, bump, name_of, Front, nothing, joins, closes, misplaced, front}
use Rattle.tera_grammar.specs.expressions.Reading.Rooms.{Room}
use Rattle.tera_grammar.proofs.plain.expressions.Reading.Bracketed.{Reader, sub_of, args_of}
use Rattle.tera_grammar.proofs.plain.expressions.Reading.Atoms.{head_of}
use Rattle.tera_grammar.specs.expressions.Reading.Loop.{Growth, by_operator, by_suffix, grow}

-- an operator that begins so, with what is in it
unfoldable pub operator_of : Reader → Room → Lead → Place → Reads Operator
operator_of self w (leads_binary o) p = bump p >>= λ q. Some (Binary o, q)
operator_of self w (leads_condition s) p = self w 0 p >>= λ c. skip Else c.1 >>= λ t. Some (Condition s c.0 t.0, t.1)

abbrev pub test_named : Reader → Room → Span → Negation → Place → Reads Suffix
test_named self w s n p = name_of p >>= λ m. args_of self w m.1 >>= λ g. Some (Test s n m.0 g.0, g.1)

abbrev pub test_at : Reader → Room → Span → Place → Reads Span → Reads Suffix
test_at self w s p None = test_named self w s plainly p
test_at self w s p (Some x) = test_named self w s (negated x.0) x.1

unfoldable pub suffix_in : Reader → Room → Ending → Place → Reads Suffix
suffix_in self w (ends_test s) p = test_at self w s p (skip Not p)
suffix_in self w (ends_filter s) p = name_of p >>= λ n. args_of self w n.1 >>= λ g. Some (Filter s n.0 g.0, g.1)
suffix_in self w (ends_subscript s) p = sub_of self w p >>= λ b. Some (Subscript s b.0, b.1)

-- an operator with its right operand
unfoldable pub join_of : Reader → Room → Lead → Place → Reads Growth
join_of self w e p =
    operator_of self w e p >>= λ o. self w (right_power o.0) o.1 >>= λ r. cond (is_refused w.in_loop o.0 r.0) None
    (Some (by_operator o.0 r.0, r.1))

unfoldable pub close_of : Reader → Room → Ending → Place → Reads Growth
close_of self w e p = bump p >>= λ q. suffix_in self w e q >>= λ s. Some (by_suffix s.0, s.1)

abbrev pub grown : Reads Growth → Option (Option (Growth × Place))
grown None = None
grown (Some g) = Some (Some g)

-- What one turn of the loop comes to, whatever the operand is: nothing more, or a growth.
unfoldable pub step : Reader → Room → ℕ → ℕ → Front → Option (Option (Growth × Place))
step self w m k nothing = Some None
step self w m k (joins e us) = cond (ltb (lead_power e) m) (Some None) (grown (join_of self w e (at k us)))
step self w m k (closes e us) = cond (keeps_out m e) (Some None) (grown (close_of self w e (at k us)))
step self w m k misplaced = cond (ltb 5 m) (Some None) None

-- What comes of an operand of any kind: it is all, or the reading goes on from a longer one.
abbrev pub go_on : {X : Type 0} → (X → Growth → X) → (X → Place → Reads X) → X → Place → Option (Growth × Place) → Reads X
go_on extend again x p None = Some (x, p)
go_on extend again x p (Some g) = again (extend x g.0) g.1

-- The first number bounds the turns. One more than the tokens is enough.
unfoldable pub loop_by : {X : Type 0} → (X → Growth → X) → ℕ → Reader → Room → ℕ → X → Place → Reads X
loop_by extend zero self w m x p = None
loop_by extend (suc n) self w m x p =
    step self w m p.links (front p.tokens) >>= λ g. go_on extend (loop_by extend n self w m) x p g

-- The first number is how many expressions may still open.
unfoldable pub expr : ℕ → Reader
expr zero w m p = None
expr (suc d) w m p = head_of (expr d) w p >>= λ h. loop_by grow (suc (size h.1.tokens)) (expr d) w m h.0 h.1

-- the turns from an operand on
unfoldable pub loop_with : {X : Type 0} → (X → Growth → X) → ℕ → Room → ℕ → X → Place → Reads X
loop_with extend d w m x p = loop_by extend (suc (size p.tokens)) (expr d) w m x p

abbrev pub loop : ℕ → Room → ℕ → Tree → Place → Reads Tree
loop d w m l p = loop_with grow d w m l p

-- A reader that counts the links of each expression by itself, from all that may come.
unfoldable pub fresh : ℕ → Reader → Reader
fresh links self w m p = self w m (at links p.tokens) >>= λ x. Some (x.0, at p.links x.1.tokens)
