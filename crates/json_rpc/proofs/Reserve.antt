-- What is in the reserve.
use Rattle.std.proofs.Common.{◌≡◌, ℕ, List, [], ◌∷◌, ◌++◌, IsTrue, false, refl, append-nil}
use Rattle.json_rpc.specs.Outgoing.{Outgoing, in_reserve, is_free}

abbrev pub held : List (List ℕ) → List ℕ → Outgoing
held messages reserve = record { sent = messages ++ in_reserve reserve; reserved = is_free reserve }

-- an answer that goes into it is after the other messages
pub one-more : (messages : List (List ℕ)) (old new : List ℕ) (b : ℕ) (bs bytes : List ℕ) → IsTrue (is_free old) →
    new ≡ old ++ bytes → bytes ≡ b ∷ bs → held messages new ≡ record { sent = (messages ++ in_reserve old) ++ bytes ∷ []; reserved = false }
one-more messages [] new b bs bytes free is first = rw (is, first, append-nil messages) refl
one-more messages (x ∷ xs) new b bs bytes free is first = cc
