-- The variables of loops and comprehensions.
use Rattle.std.proofs.Common.{◌≡◌, ℕ, Bool, true, false, cond, sym, ap, ◌∙◌}
use Rattle.tera_base.specs.declared.utils.Span.{Span}
use Rattle.tera_lexer.specs.grammar.Tokens.{Items}
use Rattle.tera_grammar.specs.Reads.{Read, found, stopped, ◌>>=◌, Takes}
use Rattle.tera_grammar.specs.Words.{is_reserved}
use Rattle.tera_grammar.specs.expressions.Concrete.{Name, no_second, second}
use Rattle.tera_grammar.specs.expressions.Marks.{Comma}
use Rattle.tera_grammar.specs.expressions.Reading.Atoms.{second_at, variables_of}
use Rattle.tera_grammar.specs.expressions.Reading.Front.{Place, Reads, at, moved, name_of, skip, taken_name, takes}
use Rattle.tera_grammar.specs.statements.Reading.Heads.{free_name}
use Rattle.tera_grammar.proofs.stops.Fronts.{bind_ok, fails_ok, found_same, none_skip, skip_taken}

-- a free name is a name that is not reserved
pub record IsFree (ts us : Items) (n : Name) : Type 0 where
  pub taken : taken_name ts ≡ found (n, us)
  pub free : is_reserved n.text ≡ false

free_ok : (ts us : Items) (n : Name) → free_name ts ≡ found (n, us) → IsFree ts us n
free_ok ts us n h =
    let (x, read, more) = bind_ok (taken_name ts) (λ n. cond (is_reserved n.0.text) (stopped n.1) (found n)) (n, us) h in
    let (free, made) = fails_ok (is_reserved x.0.text) (found x) x.1 (n, us) more in
    let same : x ≡ (n, us) = found_same _ _ made in
    record { taken = read ∙ ap found same; free = ap (λ (y : Name × Items). is_reserved y.0.text) (sym same) ∙ free }

-- a name that is reserved, or none, refuses whatever follows
refused_test : {A : Type 0} (b : Bool) (x : Name × Items) (z : Items) (more : Read A) → ◌≡◌ {A = Takes Name} (cond b (stopped x.1) (found x)) (stopped z) → cond b (stopped x.1) more ≡ stopped z
refused_test true x z more h = let e : x.1 ≡ z = cc in ap stopped e
refused_test false x z more h = cc

refused : {A : Type 0} (i : ℕ) (t : Takes Name) (more : Name × Place → Reads A) (z : Items) → ◌≡◌ {A = Takes Name} (t >>= λ n. cond (is_reserved n.0.text) (stopped n.1) (found n)) (stopped z)
    → (moved i t >>= λ n. cond (is_reserved n.0.text) (stopped n.1.tokens) (more n)) ≡ stopped z
refused i (stopped y) more z h = let e : y ≡ z = cc in ap stopped e
refused i (found x) more z h = refused_test (is_reserved x.0.text) x z (more (x.0, at i x.1)) h

pub no_variable : (i : ℕ) (ts z : Items) → free_name ts ≡ stopped z → variables_of (at i ts) ≡ stopped z
unfolding variables_of name_of
no_variable i ts z h = refused i (taken_name ts) (λ n. second_at n.0 n.1 (skip Comma n.1)) z h

from_first : (i : ℕ) (ts us : Items) (n : Name) → free_name ts ≡ found (n, us) → variables_of (at i ts) ≡ second_at n (at i us) (skip Comma (at i us))
unfolding variables_of name_of
from_first i ts us n h =
    let first = free_ok ts us n h in
    rw first.taken (ap (λ b. cond b (stopped us) (second_at n (at i us) (skip Comma (at i us)))) first.free)

pub one_variable : (i : ℕ) (ts us : Items) (n : Name) → free_name ts ≡ found (n, us) → takes Comma us ≡ stopped us → variables_of (at i ts) ≡ found ((n, no_second), at i us)
one_variable i ts us n h none = from_first i ts us n h ∙ ap (second_at n (at i us)) (none_skip Comma i us us none)

second_is : (i : ℕ) (us vs ws : Items) (s : Span) (n m : Name) → free_name vs ≡ found (m, ws) → second_at n (at i us) (found (s, at i vs)) ≡ found ((n, second s m), at i ws)
unfolding name_of
second_is i us vs ws s n m h =
    let other = free_ok vs ws m h in
    rw other.taken (ap (λ b. cond b (stopped ws) (found ((n, second s m), at i ws))) other.free)

pub two_variables : (i : ℕ) (ts us vs ws : Items) (s : Span) (n m : Name) → free_name ts ≡ found (n, us) → takes Comma us ≡ found (s, vs) → free_name vs ≡ found (m, ws)
    → variables_of (at i ts) ≡ found ((n, second s m), at i ws)
two_variables i ts us vs ws s n m h comma more = from_first i ts us n h ∙ ap (second_at n (at i us)) (skip_taken Comma i us vs s comma) ∙ second_is i us vs ws s n m more

second_fails : (i : ℕ) (us vs : Items) (s : Span) (n : Name) (z : Items) → free_name vs ≡ stopped z → second_at n (at i us) (found (s, at i vs)) ≡ stopped z
unfolding name_of
second_fails i us vs s n z h = refused i (taken_name vs) (λ m. found ((n, second s m.0), m.1)) z h

pub no_second_variable : (i : ℕ) (ts us vs : Items) (s : Span) (n : Name) → free_name ts ≡ found (n, us) → takes Comma us ≡ found (s, vs) → (z : Items) → free_name vs ≡ stopped z
    → variables_of (at i ts) ≡ stopped z
no_second_variable i ts us vs s n h comma z none = from_first i ts us n h ∙ ap (second_at n (at i us)) (skip_taken Comma i us vs s comma) ∙ second_fails i us vs s n z none
