-- The number that bounds the turns has no say, so the loop obeys an equation without it.
use Rattle.std.proofs.Common.{◌≡◌, ℕ, zero, suc, ◌<◌, Option, Some, None, refl, ap, ◌∙◌, arith}
use Rattle.tera_lexer.specs.code.Cursors.{size}
use Rattle.tera_grammar.specs.expressions.Concrete.{Tree}
use Rattle.tera_grammar.specs.Options.{◌>>=◌}
use Rattle.tera_grammar.specs.expressions.Reading.Front.{Place}
use Rattle.tera_grammar.proofs.plain.expressions.Reading.Front.{Reads, front}
use Rattle.tera_grammar.specs.expressions.Reading.Rooms.{Room}
use Rattle.tera_grammar.proofs.plain.expressions.Reading.Bracketed.{Reader}
use Rattle.tera_grammar.specs.expressions.Reading.Loop.{Growth, grow}
use Rattle.tera_grammar.proofs.plain.expressions.Reading.Loop.{step, go_on, loop_by, expr, loop_with, loop}
use Rattle.tera_grammar.proofs.expressions.FoundParts.{SoundTree}
use Rattle.tera_grammar.proofs.expressions.FoundLoop.{step_found, expr_sound}

pub bind_both : {A B : Type 0} (o : Option A) (f g : A → Option B) → ((x : A) → o ≡ Some x → f x ≡ g x) → (o >>= f) ≡ (o >>= g)
bind_both None f g same = refl
bind_both (Some x) f g same = same x refl

module _ {X : Type 0} (extend : X → Growth → X) where
  go_on_agree : (again other : X → Place → Reads X) (x : X) (p : Place) (g : Option (Growth × Place))
      → ((y : Growth × Place) → g ≡ Some y → again (extend x y.0) y.1 ≡ other (extend x y.0) y.1)
      → go_on extend again x p g ≡ go_on extend other x p g
  go_on_agree again other x p None same = refl
  go_on_agree again other x p (Some y) same = same y refl

  loop_agree : (n k d : ℕ) (f : Reader) → SoundTree d f → (w : Room) (m : ℕ) (x : X) (p : Place) → size p.tokens < n
      → size p.tokens < k → loop_by extend n f w m x p ≡ loop_by extend k f w m x p
  unfolding loop_by
  loop_agree zero k d f sound w m x p hn hk = absurd (omega arith)
  loop_agree (suc n) zero d f sound w m x p hn hk = absurd (omega arith)
  loop_agree (suc n) (suc k) d f sound w m x p hn hk =
      bind_both (step f w m p.links (front p.tokens)) _ _
      (λ g read. go_on_agree (loop_by extend n f w m) (loop_by extend k f w m) x p g (λ y e.
      let less = (step_found d f sound w m p y (read ∙ ap Some e)).shorter in
      loop_agree n k d f sound w m (extend x y.0) y.1 (omega arith) (omega arith)))

  -- for operands of any kind
  pub loop_goes : (d : ℕ) (w : Room) (m : ℕ) (x : X) (p : Place)
      → loop_with extend d w m x p
      ≡ (step (expr d) w m p.links (front p.tokens) >>= λ g. go_on extend (loop_with extend d w m) x p g)
  unfolding loop_with loop_by
  loop_goes d w m x p =
      bind_both (step (expr d) w m p.links (front p.tokens)) _ _
      (λ g read. go_on_agree (loop_by extend (size p.tokens) (expr d) w m) (loop_with extend d w m) x p g (λ y e.
      let less = (step_found d (expr d) (expr_sound d) w m p y (read ∙ ap Some e)).shorter in
      loop_agree (size p.tokens) (suc (size y.1.tokens)) d (expr d) (expr_sound d) w m (extend x y.0) y.1 less (omega arith)))

pub loop_steps : (d : ℕ) (w : Room) (m : ℕ) (l : Tree) (p : Place)
    → loop d w m l p ≡ (step (expr d) w m p.links (front p.tokens) >>= λ g. go_on grow (loop d w m) l p g)
loop_steps d w m l p = loop_goes grow d w m l p
