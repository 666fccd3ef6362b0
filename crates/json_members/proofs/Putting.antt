-- Tokens that are written one after another.
use Rattle.std.proofs.Common.{◌≡◌, ℕ, ◌≤◌, List, ◌∷◌, [], ◌++◌, length, drop, Result, Ok, Err, ◌∙◌, append_assoc, append-nil, ap, sym, subst}
use Rattle.std.proofs.lemmas.List.{drop_all}
use Rattle.json.specs.Token.{Token}
use Rattle.json.specs.Written.{Written, Writes}
use Rattle.json_members.specs.Written.{Puts}

-- the last token
pub put_last : {E : Type 0} (r : Result (Unit {0}) E) (first old new : Written) (ts : List Token) (t : Token)
    → Writes r old new t → old.before ≡ first.before → old.tokens ++ t ∷ [] ≡ first.tokens ++ ts → Puts r first new ts
put_last (Ok u) first old new ts t wrote before is = record { tokens = wrote.ok ∙ is; before = wrote.room.0 ∙ before }
put_last (Err e) first old new ts t wrote before is = record { tokens = tt; before = wrote.room.0 ∙ before }

-- a token alone
pub token : {E : Type 0} (r : Result (Unit {0}) E) {a b : Written} {t : Token} → Writes r a b t → Puts r a b (t ∷ [])
token (Ok u) one = record { tokens = one.ok; before = one.room.0 }
token (Err e) one = record { tokens = tt; before = one.room.0 }

-- a token, and what is written after it
pub then_token : {E F : Type 0} (r : Result (Unit {0}) E) {u : Unit {0}} {a b c : Written} {t : Token} {ts : List Token}
    → Writes {E = F} (Ok u) a b t → Puts r b c ts → Puts r a c (t ∷ ts)
then_token (Ok v) {a = a} {t = t} {ts = ts} one more =
    record { tokens = more.tokens ∙ ap (λ z. z ++ ts) one.ok ∙ append_assoc a.tokens (t ∷ []) ts; before = more.before ∙ one.room.0 }
then_token (Err e) one more = record { tokens = tt; before = more.before ∙ one.room.0 }

-- tokens, and what is written after them
pub then_all : {E F : Type 0} (r : Result (Unit {0}) E) {u : Unit {0}} {a b c : Written} {ts us : List Token}
    → Puts {E = F} (Ok u) a b ts → Puts r b c us → Puts r a c (ts ++ us)
then_all (Ok v) {a = a} {ts = ts} {us = us} one more =
    record { tokens = more.tokens ∙ ap (λ z. z ++ us) one.tokens ∙ append_assoc a.tokens ts us; before = more.before ∙ one.before }
then_all (Err e) one more = record { tokens = tt; before = more.before ∙ one.before }

-- what is written from a later place
pub from_later : {E : Type 0} (r : Result (Unit {0}) E) {a b c : Written} {ts us : List Token}
    → b.before ≡ a.before → a.tokens ++ ts ≡ b.tokens ++ us → Puts r b c us → Puts r a c ts
from_later (Ok u) before is more = record { tokens = more.tokens ∙ sym is; before = more.before ∙ before }
from_later (Err e) before is more = record { tokens = tt; before = more.before ∙ before }

-- the same tokens, written in another way
pub as_well : {E : Type 0} (r : Result (Unit {0}) E) {a c : Written} {ts us : List Token} → ts ≡ us → Puts r a c ts → Puts r a c us
as_well r {a = a} {c = c} is more = subst (λ z. Puts r a c z) is more

-- what a loop writes of each item, and what is written after it
pub then_each : {E A : Type 0} (r : Result (Unit {0}) E) (of : List A → List Token) (xs : List A) (n : ℕ) {a b c : Written} {us : List Token}
    → of [] ≡ [] → length xs ≤ n → b.before ≡ a.before → a.tokens ++ of xs ≡ b.tokens ++ of (drop n xs) → Puts r b c us → Puts r a c (of xs ++ us)
then_each r of xs n {a = a} {b = b} {us = us} none past before held more =
    from_later r before
    (sym (append_assoc a.tokens (of xs) us)
    ∙ ap (λ z. z ++ us) (held ∙ ap (λ ys. b.tokens ++ of ys) (drop_all n xs past) ∙ ap (λ z. b.tokens ++ z) none ∙ append-nil b.tokens))
    more
