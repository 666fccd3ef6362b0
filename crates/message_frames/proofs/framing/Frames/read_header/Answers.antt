use Rattle.std.proofs.Common.{◌≡◌, ◌<◌, ◌≤◌, ◌+◌, ◌-◌, List, ℕ, length, drop, min, refl, ap, subst, ◌∙◌, arith}
use Rattle.std.proofs.lemmas.List.{drop-drop, length-drop}
use Rattle.message_frames.specs.declared.field.Stated.TheVariants as stated
use Rattle.message_frames.specs.declared.framing.Stage.TheVariants as stages
use Rattle.message_frames.specs.declared.lines.Lines.TheVariants as lines
use Rattle.message_frames.specs.Lines.{AreRead}
use Rattle.message_frames.specs.Representing.{RepresentsAt}
use Rattle.message_frames.proofs.RepresentingLaws.{message_represents, beyond_represents, open_represents, header_comes, ended_less, open_held, ended_held, beyond_held, takes_headless, starts}
use Rattle.message_frames.proofs.framing.Frames.read_header.Goals as goal

pub returns-in-Open-clause-read : goal.returns-in-Open-clause-read
returns-in-Open-clause-read c =
    let f = c.self.inside in
    let len = c.in-Open.len in
    let bytes = drop f.taken f.held.items in
    let rest : c.split_at.result.1.now ≡ bytes = c.split_at.ensures.back ∙ ap (drop f.taken) c.as_slice.ensures.value in
    let read : AreRead bytes c.in-Lines.stated (lines.Open len c.in-Open.stated c.in-Open.searched) =
    rw rest at c.in-Open.ensures in
    let left : drop len bytes ≡ drop (f.taken + len) f.held.items = drop-drop len f.taken f.held.items in
    rw (← c.self.view_is, ← left) (λ pending h.
    open_represents pending bytes c.in-Lines.stated c.in-Open.stated len c.in-Open.searched (subst (λ s. RepresentsAt f.limit s bytes pending) c.in-Lines.is h) read)

pub returns-then-length-self-clause-read : goal.returns-then-length-self-clause-read
returns-then-length-self-clause-read c =
    let f = c.self.inside in
    let len = c.in-Ended.len in
    let bytes = drop f.taken f.held.items in
    let rest : c.split_at.result.1.now ≡ bytes = c.split_at.ensures.back ∙ ap (drop f.taken) c.as_slice.ensures.value in
    let read : AreRead bytes c.in-Lines.stated (lines.Ended len (stated.Length c.in-Length.length)) =
    rw (rest, c.in-Length.is) at c.in-Ended.ensures in
    let left : drop len bytes ≡ drop (f.taken + len) f.held.items = drop-drop len f.taken f.held.items in
    rw (← c.self.view_is, ← left) (λ pending h.
    message_represents f.limit pending bytes c.in-Lines.stated len c.in-Length.length (subst (λ s. RepresentsAt f.limit s bytes pending) c.in-Lines.is h) read c.if-length-self.true)

pub returns-else-length-self-clause-read : goal.returns-else-length-self-clause-read
returns-else-length-self-clause-read c =
    let f = c.self.inside in
    let len = c.in-Ended.len in
    let n = c.in-Length.length in
    let k = c.min-passed.result in
    let bytes = drop f.taken f.held.items in
    let rest : c.split_at.result.1.now ≡ bytes = c.split_at.ensures.back ∙ ap (drop f.taken) c.as_slice.ensures.value in
    let read : AreRead bytes c.in-Lines.stated (lines.Ended len (stated.Length n)) =
    rw (rest, c.in-Length.is) at c.in-Ended.ensures in
    let left : drop (len + k) bytes ≡ drop (f.taken + (len + k)) f.held.items =
    drop-drop (len + k) f.taken f.held.items in
    let room : k ≤ length bytes - len = omega (arith, ap length rest) in
    rw (← c.self.view_is, ← left) (λ pending h.
    beyond_represents f.limit pending bytes c.in-Lines.stated len n k (subst (λ s. RepresentsAt f.limit s bytes pending) c.in-Lines.is h) read (omega arith) (omega arith) room)

pub returns-in_default-clause-read : goal.returns-in_default-clause-read
returns-in_default-clause-read c =
    let f = c.self.inside in
    let len = c.in-Ended.len in
    let t = c.in-Ended.stated in
    let bytes = drop f.taken f.held.items in
    let rest : c.split_at.result.1.now ≡ bytes = c.split_at.ensures.back ∙ ap (drop f.taken) c.as_slice.ensures.value in
    let read : AreRead bytes c.in-Lines.stated (lines.Ended len t) = rw rest at c.in-Ended.ensures in
    let left : drop len bytes ≡ drop (f.taken + len) f.held.items = drop-drop len f.taken f.held.items in
    rw (← c.self.view_is, ← left) (λ pending h.
    takes_headless pending (drop len bytes) t (record { limit = f.limit; stage = stages.Lines stated.Nothing 0; bytes = drop len bytes })
    (header_comes pending bytes c.in-Lines.stated t len (subst (λ s. RepresentsAt f.limit s bytes pending) c.in-Lines.is h) read) c.in_default.not-Length (starts f.limit (drop len bytes)))

pub returns-in-Open-clause-held : goal.returns-in-Open-clause-held
returns-in-Open-clause-held c =
    let f = c.self.inside in
    let len = c.in-Open.len in
    let bytes = drop f.taken f.held.items in
    let rest : c.split_at.result.1.now ≡ bytes = c.split_at.ensures.back ∙ ap (drop f.taken) c.as_slice.ensures.value in
    let read : AreRead bytes c.in-Lines.stated (lines.Open len c.in-Open.stated c.in-Open.searched) =
    rw rest at c.in-Open.ensures in
    let left : drop len bytes ≡ drop (f.taken + len) f.held.items = drop-drop len f.taken f.held.items in
    rw (← left) read.2

pub returns-in_default-clause-nearer : goal.returns-in_default-clause-nearer
returns-in_default-clause-nearer c =
    let f = c.self.inside in
    let len = c.in-Ended.len in
    let bytes = drop f.taken f.held.items in
    let rest : c.split_at.result.1.now ≡ bytes = c.split_at.ensures.back ∙ ap (drop f.taken) c.as_slice.ensures.value in
    let read : AreRead bytes c.in-Lines.stated (lines.Ended len c.in-Ended.stated) = rw rest at c.in-Ended.ensures in
    let left : drop len bytes ≡ drop (f.taken + len) f.held.items = drop-drop len f.taken f.held.items in
    let less : length (drop len bytes) < length bytes = ended_less bytes c.in-Lines.stated c.in-Ended.stated len read in
    rw (← c.self.view_is, c.in-Lines.is, ← left) (omega (arith, less))

pub returns-then-length-self-clause-nearer : goal.returns-then-length-self-clause-nearer
returns-then-length-self-clause-nearer c =
    let f = c.self.inside in
    let len = c.in-Ended.len in
    let bytes = drop f.taken f.held.items in
    let rest : c.split_at.result.1.now ≡ bytes = c.split_at.ensures.back ∙ ap (drop f.taken) c.as_slice.ensures.value in
    let read : AreRead bytes c.in-Lines.stated (lines.Ended len c.in-Ended.stated) = rw rest at c.in-Ended.ensures in
    let left : drop len bytes ≡ drop (f.taken + len) f.held.items = drop-drop len f.taken f.held.items in
    let less : length (drop len bytes) < length bytes = ended_less bytes c.in-Lines.stated c.in-Ended.stated len read in
    rw (← c.self.view_is, c.in-Lines.is, ← left) (omega (arith, less))

pub invariant_of-self : goal.invariant_of-self
invariant_of-self c =
    let f = c.self.inside in
    let len = c.in-Open.len in
    let bytes = drop f.taken f.held.items in
    let rest : c.split_at.result.1.now ≡ bytes = c.split_at.ensures.back ∙ ap (drop f.taken) c.as_slice.ensures.value in
    let read : AreRead bytes c.in-Lines.stated (lines.Open len c.in-Open.stated c.in-Open.searched) =
    rw rest at c.in-Open.ensures in
    open_held f.held.items f.taken len c.in-Open.searched c.in-Lines.stated c.in-Open.stated c.self.invariant.0 read

pub invariant_of-self-in_default : goal.invariant_of-self-in_default
invariant_of-self-in_default c =
    let f = c.self.inside in
    let len = c.in-Ended.len in
    let bytes = drop f.taken f.held.items in
    let rest : c.split_at.result.1.now ≡ bytes = c.split_at.ensures.back ∙ ap (drop f.taken) c.as_slice.ensures.value in
    let read : AreRead bytes c.in-Lines.stated (lines.Ended len c.in-Ended.stated) = rw rest at c.in-Ended.ensures in
    (ended_held f.held.items f.taken len c.in-Lines.stated c.in-Ended.stated c.self.invariant.0 read, (omega arith, λ k lt e. omega (arith, lt)))

pub invariant_of-self-then-length-self : goal.invariant_of-self-then-length-self
invariant_of-self-then-length-self c =
    let f = c.self.inside in
    let len = c.in-Ended.len in
    let bytes = drop f.taken f.held.items in
    let rest : c.split_at.result.1.now ≡ bytes = c.split_at.ensures.back ∙ ap (drop f.taken) c.as_slice.ensures.value in
    let read : AreRead bytes c.in-Lines.stated (lines.Ended len c.in-Ended.stated) = rw rest at c.in-Ended.ensures in
    (ended_held f.held.items f.taken len c.in-Lines.stated c.in-Ended.stated c.self.invariant.0 read, c.if-length-self.true)

pub invariant_of-self-in-Ended : goal.invariant_of-self-in-Ended
invariant_of-self-in-Ended c =
    let f = c.self.inside in
    let len = c.in-Ended.len in
    let bytes = drop f.taken f.held.items in
    let rest : c.split_at.result.1.now ≡ bytes = c.split_at.ensures.back ∙ ap (drop f.taken) c.as_slice.ensures.value in
    let read : AreRead bytes c.in-Lines.stated (lines.Ended len c.in-Ended.stated) = rw rest at c.in-Ended.ensures in
    let n = c.in-Length.length in
    let k = c.min-passed.result in
    let passed : k ≡ min n (length bytes - len) = c.min-passed.ensures ∙ ap (λ (x : List ℕ). min n (length x - len)) rest in
    beyond_held f.held.items f.taken len n k c.in-Lines.stated c.in-Ended.stated c.self.invariant.0 read passed

pub returns-else-length-self-clause-stage : goal.returns-else-length-self-clause-stage
returns-else-length-self-clause-stage c =
    let f = c.self.inside in
    let len = c.in-Ended.len in
    let bytes = drop f.taken f.held.items in
    let rest : c.split_at.result.1.now ≡ bytes = c.split_at.ensures.back ∙ ap (drop f.taken) c.as_slice.ensures.value in
    let read : AreRead bytes c.in-Lines.stated (lines.Ended len c.in-Ended.stated) = rw rest at c.in-Ended.ensures in
    let n = c.in-Length.length in
    let k = c.min-passed.result in
    let passed : k ≡ min n (length bytes - len) = c.min-passed.ensures ∙ ap (λ (x : List ℕ). min n (length x - len)) rest in
    (refl, (beyond_held f.held.items f.taken len n k c.in-Lines.stated c.in-Ended.stated c.self.invariant.0 read passed).1)

pub returns-else-length-self-clause-nearer : goal.returns-else-length-self-clause-nearer
returns-else-length-self-clause-nearer c =
    let f = c.self.inside in
    let len = c.in-Ended.len in
    let bytes = drop f.taken f.held.items in
    let rest : c.split_at.result.1.now ≡ bytes = c.split_at.ensures.back ∙ ap (drop f.taken) c.as_slice.ensures.value in
    let read : AreRead bytes c.in-Lines.stated (lines.Ended len c.in-Ended.stated) = rw rest at c.in-Ended.ensures in
    let k = c.min-passed.result in
    let less : length (drop len bytes) < length bytes = ended_less bytes c.in-Lines.stated c.in-Ended.stated len read in
    let here = length-drop f.taken f.held.items in
    let kept = length-drop len bytes in
    let left = length-drop (f.taken + (len + k)) f.held.items in
    rw (← c.self.view_is, c.in-Lines.is) (omega (arith, less, here, kept, left))
