-- Frames that are taken one after the other are what the stream is split into.
use Rattle.std.proofs.Common.{◌≡◌, ℕ, ◌<◌, leb, List, [], ◌∷◌, ◌++◌, length, map, Some, None, refl, sym, ap, ◌∙◌, append_assoc, inl, inr}
use Rattle.std.proofs.lemmas.List.{append-nil, map_push, map-append}
use Rattle.message_frames.specs.declared.framing.Frame.{Frame}
use Rattle.message_frames.specs.declared.framing.Frame.TheVariants as frames
use Rattle.message_frames.specs.Stream.{Item, Whole, Headless, Splits}
use Rattle.message_frames.specs.Held.{Held}
use Rattle.message_frames.specs.Shown.{Shown, Wait, shown, frame_of}
use Rattle.message_frames.specs.Representing.{Represents, IsNext, IsNearer, weight}
use Rattle.message_frames.specs.Pieces.{Taken, AllTaken}
use Rattle.message_frames.proofs.Numbers.{which}
use Rattle.message_frames.proofs.Splitting.{begins_on, begins_grow, splits_once, nothing_partial}

-- ---- the frame that is none

pub never_waits : (limit : ℕ) (item : Item) → Wait ≡ frame_of limit item → ⊥
never_waits limit (Whole m) e =
    elim (which (leb (length m) limit)) [
      | inl holds ↦ let h = rw holds at e in cc
      | inr fails ↦ let h = rw fails at e in cc
    ]
never_waits limit Headless e = cc

pub no_wait : (f : Frame) → (f ≡ frames.Wait → ⊥) → shown f ≡ Wait → ⊥
no_wait (frames.Message m) h e = cc
no_wait (frames.TooLong n) h e = cc
no_wait frames.Bad h e = cc
no_wait frames.Wait h e = h refl

pub nearer : (f : Frame) (old new : Held) → (f ≡ frames.Wait → ⊥) → IsNearer (shown f) old new → weight new < weight old
nearer (frames.Message m) old new h less = less
nearer (frames.TooLong n) old new h less = less
nearer frames.Bad old new h less = less
nearer frames.Wait old new h less = absurd (h refl)

-- ---- one frame more

pub taken_none : (limit : ℕ) (pending : List ℕ) (old : List Frame) (held : Held) → Represents held pending
    → Taken limit pending old old held
taken_none limit pending old held represents =
    record { items = []; rest = pending; begins = refl; stated = sym (append-nil (map shown old)); represents = represents }

take_one : (limit : ℕ) (pending : List ℕ) (old now : List Frame) (held new : Held) (f : Frame) → (f ≡ frames.Wait → ⊥)
    → (so_far : Taken limit pending old now held) → IsNext limit so_far.rest (shown f) new
    → Taken limit pending old (now ++ f ∷ []) new
take_one limit pending old now held new f some so_far (None, e, takes) = absurd (no_wait f some e)
take_one limit pending old now held new f some so_far (Some item, e, (text, rest, whole, is, represents)) = record {
  items = so_far.items ++ item ∷ [];
  rest = rest;
  begins = begins_on so_far.items (item ∷ []) pending so_far.rest rest so_far.begins (text, rest, whole, is, refl);
  stated =
      map_push shown now f ∙ ap (λ (x : List Shown). x ++ shown f ∷ []) so_far.stated
      ∙ append_assoc (map shown old) (map (frame_of limit) so_far.items) (shown f ∷ [])
      ∙ ap (λ (s : Shown). map shown old ++ (map (frame_of limit) so_far.items ++ s ∷ [])) e
      ∙ ap (λ (x : List Shown). map shown old ++ x) (sym (map_push (frame_of limit) so_far.items item));
  represents = represents;
}

pub taken_more : (limit : ℕ) (pending : List ℕ) (old now : List Frame) (held new : Held) (f : Frame)
    → (f ≡ frames.Wait → ⊥) → Taken limit pending old now held
    → ((rest : List ℕ) → Represents held rest → IsNext limit rest (shown f) new)
    → Taken limit pending old (now ++ f ∷ []) new
taken_more limit pending old now held new f some so_far next =
    take_one limit pending old now held new f some so_far (next so_far.rest so_far.represents)

take_none : (limit : ℕ) (pending : List ℕ) (old now : List Frame) (held new : Held) (so_far : Taken limit pending old now held)
    → IsNext limit so_far.rest Wait new → AllTaken limit pending old now new
take_none limit pending old now held new so_far (None, e, (partial, represents)) =
    record { taken = record { items = so_far.items; rest = so_far.rest; begins = so_far.begins; stated = so_far.stated; represents = represents }; partial = partial }
take_none limit pending old now held new so_far (Some item, e, takes) = absurd (never_waits limit item e)

pub taken_all : (limit : ℕ) (pending : List ℕ) (old now : List Frame) (held new : Held)
    → Taken limit pending old now held
    → ((rest : List ℕ) → Represents held rest → IsNext limit rest Wait new) → AllTaken limit pending old now new
taken_all limit pending old now held new so_far next =
    take_none limit pending old now held new so_far (next so_far.rest so_far.represents)

-- ---- one piece more

pub nothing_taken : (limit : ℕ) (held : Held) → Represents held [] → AllTaken limit [] [] [] held
unfolding taken_none
nothing_taken limit held represents = record { taken = taken_none limit [] [] held represents; partial = nothing_partial }

pub piece_taken : (limit : ℕ) (stream piece : List ℕ) (now new : List Frame) (held pushed after : Held)
    → AllTaken limit stream [] now held
    → ((pending : List ℕ) → Represents held pending → Represents pushed (pending ++ piece))
    → ((pending : List ℕ) → Represents pushed pending → AllTaken limit pending now new after)
    → AllTaken limit (stream ++ piece) [] new after
piece_taken limit stream piece now new held pushed after so_far push all =
    let old = so_far.taken in
    let more = all (old.rest ++ piece) (push old.rest old.represents) in
    record {
      taken = record {
        items = old.items ++ more.taken.items;
        rest = more.taken.rest;
        begins = begins_on old.items more.taken.items (stream ++ piece) (old.rest ++ piece) more.taken.rest (begins_grow old.items stream old.rest piece old.begins) more.taken.begins;
        stated = more.taken.stated ∙ ap (λ (x : List Shown). x ++ map (frame_of limit) more.taken.items) old.stated ∙ sym (map-append (frame_of limit) old.items more.taken.items);
        represents = more.taken.represents;
      };
      partial = more.partial;
    }

pub no_other : (limit : ℕ) (stream : List ℕ) (now : List Frame) (held : Held) → AllTaken limit stream [] now held
    → (items : List Item) (rest : List ℕ) → Splits stream items rest → map shown now ≡ map (frame_of limit) items
no_other limit stream now held all items rest splits =
    all.taken.stated ∙ ap (map (frame_of limit)) (splits_once stream all.taken.items items all.taken.rest rest (record { whole = all.taken.begins; partial = all.partial }) splits).0
