-- Messages that are to be sent.
use Rattle.std.specs.Prelude.{◌≡◌, ◌⊎◌, ℕ, List, [], ◌∷◌, ◌++◌, Bool, true, false}
use Rattle.json_rpc.specs.Ids.{IdVal}
use Rattle.json_rpc.specs.Writing.{body, refusal}
use Rattle.json_rpc.specs.declared.code.Code.TheVariants.{InternalError}

-- the bodies of the messages in their order, and whether there is memory in reserve for the answer of a request
pub record Outgoing : Type 0 where
  pub sent : List (List ℕ)
  pub reserved : Bool

abbrev pub nothing : Outgoing
nothing = record { sent = []; reserved = true }

-- with one message more
abbrev pub more : Outgoing → List ℕ → Outgoing
more o message = record { sent = o.sent ++ message ∷ []; reserved = o.reserved }

-- with the refusal of a request because an allocation failed, which is in the reserve
abbrev pub with_refusal : Outgoing → IdVal → Outgoing
with_refusal o id = record { sent = o.sent ++ body (refusal id InternalError) ∷ []; reserved = false }

-- one answer more: the one that is wanted or, if an allocation fails for it, the refusal
abbrev pub IsAnswered : Outgoing → Outgoing → IdVal → List ℕ → Type 0
IsAnswered old new id wanted = (new ≡ more old wanted) ⊎ (new ≡ with_refusal old id)

-- ---- of an `Outbox`

-- the message in the reserve, if there is one
abbrev pub in_reserve : List ℕ → List (List ℕ)
in_reserve [] = []
in_reserve (b ∷ bs) = (b ∷ bs) ∷ []

abbrev pub is_free : List ℕ → Bool
is_free [] = true
is_free (b ∷ bs) = false
