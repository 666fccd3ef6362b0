-- What a reader gave and a writer took, one piece after another.
use Rattle.std.proofs.Common.{◌≡◌, ℕ, ◌+◌, ◌<◌, ◌≤◌, List, ◌++◌, length, take, drop, Option, Some, None, Err, subst, sym, ap, ◌∙◌, append_assoc}
use Rattle.std.specs.Prelude.{IfSome}
use Rattle.std.specs.Io.KnownBytes.{Appends}
use Rattle.std.proofs.lemmas.List.{take-append-drop, take_at, length-append, length-take-le}
use Rattle.tera_grammar.specs.Limits.{Limits}
use Rattle.tera_show.specs.Shown.{IsShown, IsAnswer}
use Rattle.tera_show.specs.declared.stream.Outcome.{Outcome}
use Rattle.tera_show.specs.declared.stream.ShowFault.TheVariants.{Write}

pub appends_more : (a b c : Option (List ℕ)) (xs ys zs : List ℕ) → Appends a b xs → Appends b c ys → xs ++ ys ≡ zs → Appends a c zs
appends_more None b c xs ys zs first second e = tt
appends_more (Some l) None c xs ys zs first second e = absurd first
appends_more (Some l) (Some k) None xs ys zs first second e = absurd second
appends_more (Some l) (Some k) (Some j) xs ys zs first second e = second ∙ ap (λ t. t ++ ys) first ∙ append_assoc l xs ys ∙ ap (λ t. l ++ t) e

pub take_on : (xs : List ℕ) (i n : ℕ) → i ≤ length xs → n ≤ length (drop i xs) → take i xs ++ take n (drop i xs) ≡ take (i + n) xs
take_on xs i n le fits =
    let whole : xs ≡ (take i xs ++ take n (drop i xs)) ++ drop n (drop i xs)
    = sym (take-append-drop i xs) ∙ ap (λ l. take i xs ++ l) (sym (take-append-drop n (drop i xs))) ∙ sym (append_assoc (take i xs) (take n (drop i xs)) (drop n (drop i xs))) in
    let len : length (take i xs ++ take n (drop i xs)) ≡ i + n
    = length-append (take i xs) (take n (drop i xs)) ∙ (λ k. length-take-le i xs le k + length-take-le n (drop i xs) fits k) in
    sym (ap (take (i + n)) whole ∙ take_at (take i xs ++ take n (drop i xs)) (drop n (drop i xs)) (i + n) len)

-- less than an answer was written
pub write_fault : (l : Limits) (read old new : Option (List ℕ)) (items : List ℕ) (outcome : Outcome) (text : List ℕ) (n : ℕ) → IfSome read (λ input. items ≡ input)
    → IsAnswer l items outcome text → n < length text → Appends old new (take n text) → IsShown l read old new (Err Write)
write_fault l None old new items outcome text n is answer less wrote = tt
write_fault l (Some input) old new items outcome text n is answer less wrote = (outcome, text, n, subst (λ i. IsAnswer l i outcome text) is answer, less, wrote)

-- an answer that was written whole
pub written : (l : Limits) (read : Option (List ℕ)) (bytes : List ℕ) (outcome : Outcome) (text : List ℕ) (old new : Option (List ℕ))
    → IfSome read (λ input. bytes ≡ input) → IsAnswer l bytes outcome text → Appends old new text
    → IfSome read (λ input. (text : List ℕ) × IsAnswer l input outcome text × Appends old new text)
written l None bytes outcome text old new is answer wrote = tt
written l (Some input) bytes outcome text old new is answer wrote = (text, subst (λ i. IsAnswer l i outcome text) is answer, wrote)
