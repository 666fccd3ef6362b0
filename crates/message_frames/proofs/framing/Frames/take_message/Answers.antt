use Rattle.std.proofs.Common.{◌≡◌, ◌<◌, ◌≤◌, ◌+◌, length, take, drop, ap, subst, ◌∙◌, arith}
use Rattle.std.proofs.lemmas.List.{drop-drop}
use Rattle.std.proofs.lemmas.Result.{err_from_is_err_and}
use Rattle.message_frames.specs.declared.field.Stated.TheVariants.{Nothing}
use Rattle.message_frames.specs.declared.framing.Stage.TheVariants as stages
use Rattle.message_frames.specs.Representing.{RepresentsAt}
use Rattle.message_frames.proofs.RepresentingLaws.{waits_next, short_partial, whole_next, whole_waits, starts}
use Rattle.message_frames.proofs.framing.Frames.take_message.Goals as goal

pub returns-then-rest-len-clause-next : goal.returns-then-rest-len-clause-next
returns-then-rest-len-clause-next c =
    let held = c.args.self.now in
    let f = c.self.inside in
    let rest : c.split_at.result.1.now ≡ held.bytes =
    c.split_at.ensures.back ∙ ap (drop f.taken) c.as_slice.ensures.value ∙ ap (λ v. v.bytes) c.self.view_is in
    let short : length held.bytes < c.args.len = omega (arith, ap length rest) in
    λ pending h.
    let at : RepresentsAt held.limit (stages.Message c.args.len) held.bytes pending =
    subst (λ s. RepresentsAt held.limit s held.bytes pending) c.requires h in
    waits_next held.limit pending held (short_partial pending at.0 held.bytes c.args.len at.1 at.2 short) h

pub returns-clause-next : goal.returns-clause-next
returns-clause-next c =
    let f = c.self.inside in
    let len = c.args.len in
    let bytes = drop f.taken f.held.items in
    let rest : c.split_at.result.1.now ≡ bytes = c.split_at.ensures.back ∙ ap (drop f.taken) c.as_slice.ensures.value in
    let room : len ≤ length bytes = omega (arith, ap length rest) in
    let message : c.in_ok-message.message.items ≡ take len bytes =
    c.in_ok-message.ensures.items ∙ c.split_at-2.ensures.front ∙ ap (take len) rest in
    let stage : f.stage ≡ stages.Message len = ap (λ v. v.stage) c.self.view_is ∙ c.requires in
    let left : drop len bytes ≡ drop (f.taken + len) f.held.items = drop-drop len f.taken f.held.items in
    rw (← c.self.view_is, message) (λ pending h.
    whole_next f.limit pending bytes len (record { limit = f.limit; stage = stages.Lines Nothing 0; bytes = drop (f.taken + len) f.held.items })
    (subst (λ s. RepresentsAt f.limit s bytes pending) stage h) room
    (rw left (starts f.limit (drop (f.taken + len) f.held.items))))

pub returns-in_err-message-clause-memory : goal.returns-in_err-message-clause-memory
returns-in_err-message-clause-memory c =
    let held = c.args.self.now in
    let f = c.self.inside in
    let rest : c.split_at.result.1.now ≡ held.bytes =
    c.split_at.ensures.back ∙ ap (drop f.taken) c.as_slice.ensures.value ∙ ap (λ v. v.bytes) c.self.view_is in
    let room : c.args.len ≤ length held.bytes = omega (arith, ap length rest) in
    let p = err_from_is_err_and c.from_residual.result c.from_residual.ensures.1 in
    rw p.1 (λ pending h. whole_waits held.limit pending held.bytes c.args.len (subst (λ s. RepresentsAt held.limit s held.bytes pending) c.requires h) room)
