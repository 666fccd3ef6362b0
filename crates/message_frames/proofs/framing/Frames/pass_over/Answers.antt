use Rattle.std.proofs.Common.{◌≡◌, ◌<◌, drop, ap, subst, ◌∙◌, arith}
use Rattle.message_frames.specs.declared.field.Stated.TheVariants.{Nothing}
use Rattle.message_frames.specs.declared.framing.Stage.TheVariants as stages
use Rattle.message_frames.specs.Representing.{RepresentsAt}
use Rattle.message_frames.proofs.RepresentingLaws.{waits_next, passing_partial, passed_next, starts}
use Rattle.message_frames.proofs.framing.Frames.pass_over.Goals as goal

pub returns-then-left-gt0-clause-next : goal.returns-then-left-gt0-clause-next
returns-then-left-gt0-clause-next c =
    let held = c.args.self.now in
    let left = c.args.left in
    λ pending h.
    let at : RepresentsAt held.limit (stages.TooLong c.args.len left) held.bytes pending =
    subst (λ s. RepresentsAt held.limit s held.bytes pending) c.requires.stage h in
    let some : 0 < left = omega arith in
    waits_next held.limit pending held (passing_partial held.limit pending held.bytes c.args.len left at some (c.requires.none some)) h

pub returns-clause-next : goal.returns-clause-next
returns-clause-next c =
    let f = c.self.inside in
    let bytes = drop f.taken f.held.items in
    let none : c.args.left ≡ 0 = omega arith in
    let stage : f.stage ≡ stages.TooLong c.args.len 0 =
    ap (λ v. v.stage) c.self.view_is ∙ c.requires.stage ∙ ap (stages.TooLong c.args.len) none in
    rw (← c.self.view_is) (λ pending h. passed_next f.limit pending bytes c.args.len (record { limit = f.limit; stage = stages.Lines Nothing 0; bytes = bytes }) (subst (λ s. RepresentsAt f.limit s bytes pending) stage h) (starts f.limit bytes))
