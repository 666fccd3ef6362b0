-- A part of a text that no edit meets was there before.
use Rattle.std.proofs.Common.{◌≡◌, ◌++◌, ◌∙◌, ◌+◌, ◌<◌, ◌≤◌, ℕ, List, [], ◌∷◌, length, length-append, append_assoc, arith, refl, sym, subst, ap, ⊎_elim}
use Rattle.std.specs.Prelude.{◌⊎◌}
use Rattle.tera_lexer.specs.grammar.Marks.{Marks}
use Rattle.tera_lexer.specs.grammar.Place.{joined as span_from}
use Rattle.tera_lexer.specs.declared.lexer.place.Place.{Place}
use Rattle.tera_grammar.specs.Limits.{Limits}
use Rattle.tera_mend.specs.Mending.{EditVal, Edits, Goes, Mends, Puts, Step}
use Rattle.tera_mend.specs.Places.{AreInPlace}
use Rattle.tera_mend.specs.Spans.{HasPart, IsApart, MeetsNoStep, MeetsNone}
use Rattle.tera_mend.proofs.InPlace.{itself, joined, same_length, through}
use Rattle.tera_mend.proofs.PlacesLemmas.{place_sound}

one_more : (x y : ℕ) (c d : List ℕ) → x ≡ y → c ≡ d → y ∷ c ≡ x ∷ d
one_more x y c d first others = cc

-- two texts that are one: the shorter beginning is a beginning of the longer
parts_of : (a b c d : List ℕ) → a ++ b ≡ c ++ d → length a ≤ length c → (m : List ℕ) × (c ≡ a ++ m) × (b ≡ m ++ d)
parts_of [] b c d is few = (c, refl, is)
parts_of (x ∷ a) b [] d is few = absurd (omega (arith, few))
parts_of (x ∷ a) b (y ∷ c) d is few =
    let first : x ≡ y = cc in
    let others : a ++ b ≡ c ++ d = cc in
    let (m, longer, rest) = parts_of a b c d others (omega (arith, few)) in
    (m, one_more x y c (a ++ m) first longer, rest)

-- the part, after bytes in whose place these are
abbrev Had : List ℕ → List ℕ → List ℕ → Type 0
Had old front part = (ahead after : List ℕ) × (old ≡ ahead ++ (part ++ after)) × AreInPlace ahead front

before_edit : (e : EditVal) (old new front part after : List ℕ) → Puts e old new → new ≡ front ++ (part ++ after) → length front + length part ≤ e.at → Had old front part
before_edit e old new front part after put is far =
    let all : (front ++ part) ++ after ≡ put.before ++ (e.bytes ++ put.after) = append_assoc front part after ∙ sym is ∙ put.is_new in
    let few : length (front ++ part) ≤ length put.before = omega (arith, far, put.is_at, length-append front part) in
    let (m, longer, rest) = parts_of (front ++ part) after put.before (e.bytes ++ put.after) all few in (
      front,
      m ++ (put.taken ++ put.after),
      put.is_old ∙ ap (λ t. t ++ (put.taken ++ put.after)) longer ∙ append_assoc (front ++ part) m (put.taken ++ put.after) ∙ append_assoc front part (m ++ (put.taken ++ put.after)),
      itself front,
    )

after_edit : (e : EditVal) (old new front part after : List ℕ) → Puts e old new → new ≡ front ++ (part ++ after) → 0 < length part → e.at + length e.bytes ≤ length front → Had old front part
after_edit e old new front part after put is some far =
    let all : (put.before ++ e.bytes) ++ put.after ≡ front ++ (part ++ after) = append_assoc put.before e.bytes put.after ∙ sym put.is_new ∙ is in
    let few : length (put.before ++ e.bytes) ≤ length front = omega (arith, far, put.is_at, length-append put.before e.bytes) in
    let (m, longer, rest) = parts_of (put.before ++ e.bytes) put.after front (part ++ after) all few in
    ⊎_elim
    (λ are. (
      (put.before ++ put.taken) ++ m,
      after,
      put.is_old ∙ ap (λ t. put.before ++ (put.taken ++ t)) rest ∙ sym (append_assoc put.before put.taken (m ++ (part ++ after))) ∙ sym (append_assoc (put.before ++ put.taken) m (part ++ after)),
      subst (AreInPlace ((put.before ++ put.taken) ++ m)) (sym longer)
          (joined (put.before ++ put.taken) (put.before ++ e.bytes) m m (joined put.before put.before put.taken e.bytes (itself put.before) are) (itself m)),
    ))
    (λ none.
    let nothing : m ++ (part ++ after) ≡ [] = sym rest ∙ none.1 in
    let many : length m + (length part + length after) ≡ 0 = sym (length-append m (part ++ after) ∙ ap (λ n. length m + n) (length-append part after)) ∙ ap length nothing in
    absurd (omega (arith, some, many)))
    put.in_place

put_apart : (e : EditVal) (old new front part after : List ℕ) → Puts e old new → new ≡ front ++ (part ++ after) → 0 < length part → IsApart (length front) (length front + length part) e
    → Had old front part
put_apart e old new front part after put is some apart =
    ⊎_elim (before_edit e old new front part after put is) (after_edit e old new front part after put is some) apart

-- one more edit before those that led to it
further : (old next front part : List ℕ) → ((ahead after : List ℕ) → next ≡ ahead ++ (part ++ after) → length ahead ≡ length front → Had old ahead part) → Had next front part → Had old front part
further old next front part back (ahead, after, is, are) =
    let (first, last, was, here) = back ahead after is (same_length ahead front are) in
    (first, last, was, through first ahead front here are)

edits_apart : (es : List EditVal) (old new front part : List ℕ) → Edits es old new → 0 < length part → MeetsNone (length front) (length front + length part) es → Had new front part → Had old front part
edits_apart [] old new front part is some apart had = subst (λ t. Had t front part) (sym is) had
edits_apart (e ∷ es) old new front part (next, put, rest) some apart had =
    further old next front part
    (λ ahead after is same. put_apart e old next ahead part after put is some (subst (λ n. IsApart n (n + length part) e) (sym same) apart.0))
    (edits_apart es next new front part rest some apart.1 had)

goes_apart : (l : Limits) (m : Marks) (ss : List Step) (old new front part : List ℕ) → Goes l m old ss new → 0 < length part → MeetsNoStep (length front) (length front + length part) ss
    → Had new front part → Had old front part
goes_apart l m [] old new front part is some apart had = subst (λ t. Had t front part) (sym is) had
goes_apart l m (s ∷ ss) old new front part (fails, (next, edits, rest)) some apart had =
    edits_apart s.edits old next front part edits some apart.0 (goes_apart l m ss next new front part rest some apart.1 had)

same_span : (a b c d : Place) → a ≡ c → b ≡ d → span_from a b ≡ span_from c d
same_span a b c d one other = rw (one, other)

pub spans_kept : (l : Limits) (m : Marks) (source : List ℕ) (ss : List Step) (reached : List ℕ) (rest : List EditVal) (text : List ℕ) → Mends l m source ss reached → Edits rest reached text
    → (front part after : List ℕ) → text ≡ front ++ (part ++ after) → 0 < length part → MeetsNoStep (length front) (length front + length part) ss
    → MeetsNone (length front) (length front + length part) rest → HasPart source front part
spans_kept l m source ss reached rest text mends edits front part after is some none last =
    let (ahead, left, was, are) = goes_apart l m ss source reached front part mends.1 some none (edits_apart rest reached text front part edits some last (front, after, is, itself front)) in
    (ahead, left, was, same_span _ _ _ _ (place_sound ahead front are) (place_sound (ahead ++ part) (front ++ part) (joined ahead front part part are (itself part))))
