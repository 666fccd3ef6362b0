-- Reading an expression by powers.
use Rattle.std.specs.Prelude.{ℕ, zero, suc, cond, ltb, Option, Some, None}
use Rattle.tera_base.specs.declared.utils.Span.{Span}
use Rattle.tera_lexer.specs.code.Cursors.{size}
use Rattle.tera_grammar.specs.expressions.Marks.{Not, Else}
use Rattle.tera_grammar.specs.expressions.Concrete.{Negation, plainly, negated, Tree, Suffixed, Infix, Suffix, Test, Filter, Subscript, Operator, Binary, Condition, NotIn}
use Rattle.tera_grammar.specs.expressions.Powers.{right_power}
use Rattle.tera_grammar.specs.expressions.Conditions.{is_refused}
use Rattle.tera_grammar.specs.expressions.Reading.Front.{Place, at, Lead, leads_binary, leads_condition, Ending, ends_test, ends_filter, ends_subscript, lead_power, keeps_out, Reads, skip, name_of, Front, nothing, joins, closes, misplaced, front}
use Rattle.tera_grammar.specs.expressions.Reading.Bracketed.{Reader, sub_of, args_of, linked}
use Rattle.tera_grammar.specs.expressions.Reading.Rooms.{Room}
use Rattle.tera_grammar.specs.expressions.Reading.Atoms.{head_of}
use Rattle.tera_lexer.specs.grammar.Tokens.{Items, Token}
use Rattle.tera_grammar.specs.Reads.{found, stopped, ◌>>=◌}

-- by what an operand grows in one turn
pub data Growth : Type 0 where
  by_operator : Operator → Tree → Growth
  by_suffix : Suffix → Growth

abbrev pub grow : Tree → Growth → Tree
grow l (by_operator o r) = Infix l o r
grow l (by_suffix s) = Suffixed l s

-- where reading stops before an operator that no link is left for: before it, and before the `in` of a `not in`
abbrev pub before : Items → Lead → Items
before (Token t s us) (leads_binary (NotIn a b)) = us
before ts e = ts

-- An operator that begins so, with what is in it. Where no link may come reading stops before it.
unfoldable pub operator_of : Reader → Room → Items → Lead → Place → Reads Operator
operator_of self w start (leads_binary o) p = linked start p.links p.tokens >>= λ q. found (Binary o, q)
operator_of self w start (leads_condition s) p = self w 0 p >>= λ c. skip Else c.1 >>= λ t. found (Condition s c.0 t.0, t.1)

abbrev pub test_named : Reader → Room → Span → Negation → Place → Reads Suffix
test_named self w s n p = name_of p >>= λ m. args_of self w m.1 >>= λ g. found (Test s n m.0 g.0, g.1)

abbrev pub test_at : Reader → Room → Span → Place → Reads Span → Reads Suffix
test_at self w s p (stopped z) = test_named self w s plainly p
test_at self w s p (found x) = test_named self w s (negated x.0) x.1

unfoldable pub suffix_in : Reader → Room → Ending → Place → Reads Suffix
suffix_in self w (ends_test s) p = test_at self w s p (skip Not p)
suffix_in self w (ends_filter s) p = name_of p >>= λ n. args_of self w n.1 >>= λ g. found (Filter s n.0 g.0, g.1)
suffix_in self w (ends_subscript s) p = sub_of self w p >>= λ b. found (Subscript s b.0, b.1)

-- an operator with its right operand
unfoldable pub join_of : Reader → Room → Items → Lead → Place → Reads Growth
join_of self w start e p =
    operator_of self w start e p >>= λ o. self w (right_power o.0) o.1 >>= λ r. cond (is_refused w.in_loop o.0 r.0) (stopped r.1.tokens)
    (found (by_operator o.0 r.0, r.1))

unfoldable pub close_of : Reader → Room → Items → Ending → Place → Reads Growth
close_of self w start e p = linked start p.links p.tokens >>= λ q. suffix_in self w e q >>= λ s. found (by_suffix s.0, s.1)

abbrev pub grown : Reads Growth → Reads (Option Growth)
grown o = o >>= λ g. found (Some g.0, g.1)

-- What one turn of the loop comes to, whatever the operand is: nothing more, or a growth.
unfoldable pub step : Reader → Room → ℕ → ℕ → Items → Front → Reads (Option Growth)
step self w m k ts nothing = found (None, at k ts)
step self w m k ts (joins e us) = cond (ltb (lead_power e) m) (found (None, at k ts)) (grown (join_of self w (before ts e) e (at k us)))
step self w m k ts (closes e us) = cond (keeps_out m e) (found (None, at k ts)) (grown (close_of self w ts e (at k us)))
step self w m k ts (misplaced us) = cond (ltb 5 m) (found (None, at k ts)) (stopped us)

-- What comes of an operand of any kind: it is all, or the reading goes on from a longer one.
abbrev pub go_on : {X : Type 0} → (X → Growth → X) → (X → Place → Reads X) → X → Option Growth → Place → Reads X
go_on extend again x None p = found (x, p)
go_on extend again x (Some g) p = again (extend x g) p

-- The first number bounds the turns. One more than the tokens is enough.
unfoldable pub loop_by : {X : Type 0} → (X → Growth → X) → ℕ → Reader → Room → ℕ → X → Place → Reads X
loop_by extend zero self w m x p = stopped p.tokens
loop_by extend (suc n) self w m x p =
    step self w m p.links p.tokens (front p.tokens) >>= λ g. go_on extend (loop_by extend n self w m) x g.0 g.1

-- The first number is how many expressions may still open.
unfoldable pub expr : ℕ → Reader
expr zero w m p = stopped p.tokens
expr (suc d) w m p = head_of (expr d) w p >>= λ h. loop_by grow (suc (size h.1.tokens)) (expr d) w m h.0 h.1

-- A reader that counts the links of each expression by itself, from all that may come.
unfoldable pub fresh : ℕ → Reader → Reader
fresh links self w m p = self w m (at links p.tokens) >>= λ x. found (x.0, at p.links x.1.tokens)

-- the turns from an operand on
unfoldable pub loop_with : {X : Type 0} → (X → Growth → X) → ℕ → Room → ℕ → X → Place → Reads X
loop_with extend d w m x p = loop_by extend (suc (size p.tokens)) (expr d) w m x p

abbrev pub loop : ℕ → Room → ℕ → Tree → Place → Reads Tree
loop d w m l p = loop_with grow d w m l p
