use Rattle.std.proofs.Common.{◌≡◌, ◌≤◌, ◌+◌, length, take, drop, sym, ap, subst, ◌∙◌, arith}
use Rattle.std.proofs.lemmas.List.{drop-drop}
use Rattle.message_frames.specs.declared.field.Stated.TheVariants.{Nothing}
use Rattle.message_frames.specs.declared.framing.Stage.TheVariants as stages
use Rattle.message_frames.specs.Representing.{RepresentsAt}
use Rattle.message_frames.proofs.RepresentingLaws.{whole_next, starts}
use Rattle.message_frames.proofs.framing.Frames.skip.Goals as goal

pub returns-then-len-held-clause-skipped : goal.returns-then-len-held-clause-skipped
returns-then-len-held-clause-skipped c =
    let f = c.self.inside in
    let len = c.in-Message.len in
    let bytes = drop f.taken f.held.items in
    let room : len ≤ length bytes = omega (arith, c.held.ensures, c.if-len-held.true, ap (λ v. length v.bytes) c.self.view_is) in
    let left : drop len bytes ≡ drop (f.taken + len) f.held.items = drop-drop len f.taken f.held.items in
    rw (← c.self.view_is) (λ whole pending h. (
      take len bytes,
      whole_next f.limit pending bytes len (record { limit = f.limit; stage = stages.Lines Nothing 0; bytes = drop (f.taken + len) f.held.items })
          (subst (λ s. RepresentsAt f.limit s bytes pending) c.in-Message.is h) room
          (rw left (starts f.limit (drop (f.taken + len) f.held.items))),
    ))

pub returns-then-len-held-clause-none : goal.returns-then-len-held-clause-none
returns-then-len-held-clause-none c =
    let room : c.in-Message.len ≤ length c.args.self.now.bytes = omega (arith, c.held.ensures, c.if-len-held.true) in
    λ none. absurd (none (c.in-Message.len, ap (λ v. v.stage) (sym c.self.view_is) ∙ c.in-Message.is, room))
