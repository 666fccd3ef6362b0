-- Reading names with arguments.
use Rattle.std.proofs.Common.{◌≡◌, ℕ, Bool, true, false, Result, Ok, Err, refl, ap, subst, ◌∙◌, string_bytes}
use Rattle.std.specs.Prelude.{String}
use Rattle.std.specs.declared.alloc.Global.{Global}
use Rattle.std.specs.BTreeMap.{BTreeMap}
use Rattle.tera_ast.specs.Tree as tree
use Rattle.tera_ast.specs.Tree.{Expr}
use Rattle.tera_ast.specs.View.{args_view}
use Rattle.tera_ast.specs.declared.ast.Expression.{Expression}
use Rattle.tera_lexer.specs.code.Cursors.{Position}
use Rattle.tera_grammar.specs.expressions.Spans.{spanning}
use Rattle.tera_grammar.specs.expressions.Output.{args_output}
use Rattle.tera_expr_reader.specs.Calls.{AreArguments, filtering, call_of, call_end, IsCall, AreArgs}
use Rattle.tera_expr_reader.specs.declared.calls.Call.{Call}
use Rattle.tera_base.specs.declared.errors.Error.{Error}
use Rattle.tera_base.specs.declared.utils.Span.{Span}
use Rattle.tera_lexer.specs.grammar.Tokens.{Items}
use Rattle.tera_grammar.specs.Reads.{Read, found, stopped, ◌>>=◌, Fails}
use Rattle.tera_grammar.specs.expressions.Marks.{LeftParen, Not}
use Rattle.tera_grammar.specs.expressions.Companions.{Filtering}
use Rattle.tera_grammar.specs.expressions.Concrete.{Name, Args, no_args, args, plainly, negated, Test, Subscript}
use Rattle.tera_grammar.specs.expressions.Reading.Front.{Place, at, Reads, takes, taken_name, name_of, ends_test, ends_subscript}
use Rattle.tera_grammar.specs.expressions.Reading.Rooms.{Room}
use Rattle.tera_grammar.specs.expressions.Reading.Bracketed.{Reader, sub_of, arguments_of, args_of}
use Rattle.tera_grammar.specs.expressions.Reading.Loop.{suffix_in}
use Rattle.tera_expect.specs.Taking.{GivesAt, Eats}
use Rattle.tera_expect.proofs.Steps.{failed, failed_past, failed_as, skipped, unskipped, named, unnamed}

-- a name with the arguments that are read after it
abbrev paired : Name → Reads Args → Reads Filtering
paired n o = o >>= λ a. found (filtering n a.0, a.1)

bind_args : {B : Type 0} (n : Name) (o : Reads Args) (g : Name → Args → Place → Read B) → (o >>= λ a. g n a.0 a.1) ≡ (paired n o >>= λ x. g x.0.name x.0.args x.1)
bind_args n (stopped z) g = refl
bind_args n (found a) g = refl

bind_name : {B : Type 0} (f : Reader) (w : Room) (o : Reads Name) (g : Name → Args → Place → Read B)
    → (o >>= λ n. args_of f w n.1 >>= λ a. g n.0 a.0 a.1) ≡ ((o >>= λ n. paired n.0 (args_of f w n.1)) >>= λ x. g x.0.name x.0.args x.1)
bind_name f w (stopped z) g = refl
bind_name f w (found n) g = bind_args n.0 (args_of f w n.1) g

bind_call : {B : Type 0} (f : Reader) (w : Room) (p : Place) (g : Name → Args → Place → Read B)
    → (name_of p >>= λ n. args_of f w n.1 >>= λ a. g n.0 a.0 a.1) ≡ (call_of f w p >>= λ x. g x.0.name x.0.args x.1)
bind_call f w p g = bind_name f w (name_of p) g

module _ (f : Reader) (w : Room) where
  -- arguments, and none
  pub no_arguments : (k : ℕ) (ts : Items) → takes LeftParen ts ≡ stopped ts → args_of f w (at k ts) ≡ found (no_args, at k ts)
  unfolding args_of
  no_arguments k ts none = rw (unskipped LeftParen k ts ts none) refl

  pub some_arguments : (k : ℕ) (ts us : Items) (s : Span) → takes LeftParen ts ≡ found (s, us) → args_of f w (at k ts) ≡ (arguments_of f w (at k us) >>= λ r. found (args s r.0, r.1))
  unfolding args_of
  some_arguments k ts us s opening = rw (skipped LeftParen k ts us s opening) refl

  -- a name with its arguments
  pub call_given : (k : ℕ) (ts us : Items) (n : Name) (g : Args) (q : Place) → taken_name ts ≡ found (n, us) → args_of f w (at k us) ≡ found (g, q) → call_of f w (at k ts) ≡ found (filtering n g, q)
  call_given k ts us n g q name read = rw (named k ts us n name, read) refl

  pub call_unnamed : (k : ℕ) (ts left : Items) (e : Error) → Fails (taken_name ts) left e → Fails (call_of f w (at k ts)) left e
  call_unnamed k ts left e h = failed (name_of (at k ts)) _ left e (failed_as (taken_name ts) (name_of (at k ts)) left e (unnamed k ts) h)

  pub call_fails : (k : ℕ) (ts us : Items) (n : Name) (left : Items) (e : Error) → taken_name ts ≡ found (n, us) → Fails (args_of f w (at k us)) left e → Fails (call_of f w (at k ts)) left e
  call_fails k ts us n left e name h = failed_past (name_of (at k ts)) _ (n, at k us) left e (named k ts us n name) (failed (args_of f w (at k us)) _ left e h)

  -- a test after `is`, a subscript after its bracket
  pub test_is : (s : Span) (k : ℕ) (ts : Items) → takes Not ts ≡ stopped ts → suffix_in f w (ends_test s) (at k ts) ≡ (call_of f w (at k ts) >>= λ x. found (Test s plainly x.0.name x.0.args, x.1))
  unfolding suffix_in
  test_is s k ts none = rw (unskipped Not k ts ts none) (bind_call f w (at k ts) (λ n g q. found (Test s plainly n g, q)))

  pub negated_is : (s t : Span) (k : ℕ) (ts us : Items) → takes Not ts ≡ found (t, us) → suffix_in f w (ends_test s) (at k ts) ≡ (call_of f w (at k us) >>= λ x. found (Test s (negated t) x.0.name x.0.args, x.1))
  unfolding suffix_in
  negated_is s t k ts us not = rw (skipped Not k ts us t not) (bind_call f w (at k us) (λ n g q. found (Test s (negated t) n g, q)))

  pub subscript_is : (s : Span) (p : Place) → suffix_in f w (ends_subscript s) p ≡ (sub_of f w p >>= λ b. found (Subscript s b.0, b.1))
  unfolding suffix_in
  subscript_is s p = refl

  pub test_fails : (s : Span) (k : ℕ) (b : Bool) (old mid : Position) (left : Items) (e : Error) → Eats b old mid (takes Not old.left) → Fails (call_of f w (at k mid.left)) left e → Fails (suffix_in f w (ends_test s) (at k old.left)) left e
  test_fails s k false old mid left e h fails = rw (test_is s k old.left h.0) (failed (call_of f w (at k old.left)) _ left e (subst (λ p. Fails (call_of f w (at k p.left)) left e) h.1 fails))
  test_fails s k true old mid left e h fails = rw (negated_is s mid.span k old.left mid.left h.0) (failed (call_of f w (at k mid.left)) _ left e fails)

  pub arguments_after : (l : Bool) (before here : Span) (r : Result (BTreeMap (String Global) Expression) Error) (q : Place) (k : ℕ) (ts us : Items) (s : Span) → takes LeftParen ts ≡ found (s, us)
      → GivesAt (AreArguments l here) r q (arguments_of f w (at k us)) → GivesAt (AreArgs l before here) r q (args_of f w (at k ts))
  arguments_after l before here (Ok m) q k ts us s paren (row, read, shows) =
      (args s row, some_arguments k ts us s paren ∙ ap (λ o. o >>= λ r. found (args s r.0, r.1)) read, (shows.0, λ n h. shows.1))
  arguments_after l before here (Err e) q k ts us s paren h = rw (some_arguments k ts us s paren) (failed (arguments_of f w (at k us)) _ q.tokens e h)

pub test_made : (l : Bool) (here : Span) (c : Call) (x : Filtering) (e : Expr) → IsCall l here c x
    → tree.Test e (string_bytes c.name) (args_view c.kwargs.entries) c.span ≡ tree.Test e x.name.text (args_output l x.args) (spanning x.name.span (call_end x))
test_made l here c x e h = rw (h.0, h.1, h.2) refl
