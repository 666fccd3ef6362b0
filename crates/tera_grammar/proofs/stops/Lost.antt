-- What stops is lost.
use Rattle.std.proofs.Common.{◌≡◌, ℕ, zero, suc, ◌+◌, ◌<◌, ◌≤◌, Bool, List, [], ◌∷◌, ◌++◌, length, length-append, refl, sym, ap, subst, ◌∙◌, arith, ◌⊎◌, inl, inr, ⊎_elim, false}
use Rattle.tera_base.specs.declared.utils.Span.{Span}
use Rattle.tera_lexer.specs.code.Cursors.{size, Passes}
use Rattle.tera_lexer.specs.grammar.Place.{place_after, span_of}
use Rattle.tera_lexer.specs.grammar.Tiling.{Tile}
use Rattle.tera_lexer.specs.grammar.Faults.{IsFaultOf}
use Rattle.tera_lexer.specs.grammar.Tokens.{Tok, Items, Ended, Failed, Token}
use Rattle.tera_grammar.specs.Limits.{Limits}
use Rattle.tera_grammar.specs.statements.Grammar.{Body}
use Rattle.tera_grammar.specs.statements.Top.{IsTemplate}
use Rattle.tera_grammar.specs.statements.Lost.{AgreeTo, AreLost}
use Rattle.tera_grammar.specs.Reads.{Read, found, stopped}
use Rattle.tera_grammar.proofs.stops.Local.{in_front, front_both, SameHead}
use Rattle.tera_grammar.specs.statements.Reading.{template}
use Rattle.tera_grammar.proofs.stops.Bodies.{template_stops, template_faultless}

-- each of these tokens begins before this byte
abbrev pub EachBefore : ℕ → List (Tok × Span) → Type 0
EachBefore n [] = Unit {0}
EachBefore n (x ∷ xs) = (x.1.range.start < n) × EachBefore n xs

agree_head : (n : ℕ) (z others : Items) → AgreeTo n z others → SameHead z others
agree_head n (Token t s us) (Token u r vs) h = (h.0, h.1)
agree_head n (Token t s us) Ended h = absurd h
agree_head n (Token t s us) (Failed text here) h = absurd h
agree_head n (Failed text here) others h = h
agree_head n Ended others h = h

-- what agrees beyond some tokens has them too
pub agree_front : (n : ℕ) (xs : List (Tok × Span)) (z others : Items) → EachBefore n xs → AgreeTo n (in_front xs z) others
    → (us : Items) × (others ≡ in_front xs us) × SameHead z us
agree_front n [] z others before h = (others, refl, agree_head n z others h)
agree_front n (x ∷ xs) z (Token u r vs) before h =
    let (us, is, head) = agree_front n xs z vs before.1 (h.2 before.0) in
    (us, ap (λ t. Token t r vs) (sym h.0) ∙ ap (λ s. Token x.0 s vs) (sym h.1) ∙ ap (Token x.0 x.1) is, head)
agree_front n (x ∷ xs) z Ended before h = absurd h
agree_front n (x ∷ xs) z (Failed text here) before h = absurd h

-- Where a reader of whole templates stops after tokens that begin before this byte, and would stop there whatever else
-- followed, all is lost.
pub stopped_lost : (l : Limits) (read : Items → Read Body) → ((ts : Items) (b : Body) → IsTemplate l ts b → read ts ≡ found b)
    → (n : ℕ) (items z : Items) (xs : List (Tok × Span)) → items ≡ in_front xs z
    → ((us : Items) → SameHead z us → read (in_front xs us) ≡ stopped us) → EachBefore n xs → AreLost l n items
stopped_lost l read each n items z xs spelled same before =
    λ others agree b is.
    let (us, front, head) = agree_front n xs z others before (subst (λ ts. AgreeTo n ts others) spelled agree) in
    apart us b (sym (same us head) ∙ ap read (sym front) ∙ each others b is)
  where
    apart : (us : Items) (b : Body) → stopped us ≡ found b → ⊥
    apart us b e = cc

-- how many tokens
size_front : (xs : List (Tok × Span)) (z : Items) → size (in_front xs z) ≡ length xs + size z
size_front [] z = omega arith
size_front (x ∷ xs) z = let more = size_front xs z in omega (arith, more)

passed_size : (n : ℕ) (items z : Items) (last span : Span) → Passes n items last z span → size items ≡ n + size z
passed_size zero items z last span passes = let same = ap size passes.0 in omega (arith, same)
passed_size (suc n) (Token t s us) z last span passes = let more = passed_size n us z s span passes in omega (arith, more)
passed_size (suc n) Ended z last span passes = absurd passes
passed_size (suc n) (Failed text here) z last span passes = absurd passes

-- bytes of spans
span_from : (front bytes : List ℕ) → (span_of front bytes).range.start ≡ length front
unfolding place_after
span_from front bytes = refl

span_to : (front bytes : List ℕ) → (span_of front bytes).range.end ≡ length front + length bytes
unfolding place_after
span_to front bytes = length-append front bytes

some_bytes : (bytes : List ℕ) → (bytes ≡ [] → ⊥) → 0 < length bytes
some_bytes [] h = absurd (h refl)
some_bytes (b ∷ bytes) h = omega arith

ends_here : (n : ℕ) (items z : Items) (last span : Span) → Passes n items last z span → n ≡ 0 → span ≡ last
ends_here zero items z last span passes is = passes.1
ends_here (suc n) items z last span passes is = absurd (omega (arith, is))

none_long : (xs : List (Tok × Span)) → xs ≡ [] → length xs ≡ 0
none_long xs e = rw e refl

-- tokens that were taken begin before the end of the last of them
pub taken_before : (n : ℕ) (inside : Bool) (front rest : List ℕ) (xs : List (Tok × Span)) (z : Items) (last span : Span)
    → Tile inside front rest (in_front xs z) → Passes n (in_front xs z) last z span → n ≡ length xs
    → EachBefore span.range.end xs × ((xs ≡ []) ⊎ (length front < span.range.end))
taken_before n inside front rest [] z last span tile passes is = (tt, inl refl)
taken_before zero inside front rest (x ∷ xs) z last span tile passes is = absurd (omega (arith, is))
taken_before (suc n) inside front rest (x ∷ xs) z last span (gap, bytes, following, e, between, some, belongs, shows, at, tile) passes is =
    let next = taken_before n _ ((front ++ gap) ++ bytes) following xs z x.1 span tile passes (omega (arith, is)) in
    let from : x.1.range.start ≡ length (front ++ gap) = ap (λ s. s.range.start) at ∙ span_from (front ++ gap) bytes in
    let to : x.1.range.end ≡ length (front ++ gap) + length bytes = ap (λ s. s.range.end) at ∙ span_to (front ++ gap) bytes in
    let wide = some_bytes bytes some in
    let within : x.1.range.end ≤ span.range.end = ⊎_elim
    (λ none. let all = none_long xs none in let same = ap (λ (s : Span). s.range.end) (ends_here n (in_front xs z) z x.1 span passes (omega (arith, is, all))) in omega (arith, same))
    (λ more. let long = length-append (front ++ gap) bytes in omega (arith, more, to, long)) next.1 in
    let gapped = length-append front gap in
    ((omega (arith, from, to, wide, within), next.0), inr (omega (arith, to, wide, within, gapped)))

-- a lexical fault begins after the tokens before it
fault_after : (inside : Bool) (front rest : List ℕ) (items : Items) (text : List ℕ) (span : Span) → Tile inside front rest items → IsFaultOf items text span → length front ≤ span.range.start
fault_after inside front rest Ended text span tile h = absurd h
fault_after inside front rest (Failed reported s) text span (gap, at, e, between, some, starts) h =
    let same = ap (λ (s : Span). s.range.start) h.1 in
    let long = length-append front gap in
    omega (arith, same, starts, long)
fault_after inside front rest (Token t s items) text span (gap, bytes, following, e, between, some, belongs, shows, at, tile) h =
    let next = fault_after _ ((front ++ gap) ++ bytes) following items text span tile h in
    let one = length-append (front ++ gap) bytes in
    let two = length-append front gap in
    omega (arith, next, one, two)

-- so what agrees with all tokens up to a byte in it, or after it, is the same
fault_agrees : (n : ℕ) (inside : Bool) (front rest : List ℕ) (items others : Items) (text : List ℕ) (span : Span) → Tile inside front rest items → IsFaultOf items text span
    → span.range.start ≤ n → AgreeTo n items others → others ≡ items
fault_agrees n inside front rest Ended others text span tile h le agree = absurd h
fault_agrees n inside front rest (Failed reported s) others text span tile h le agree = agree
fault_agrees n inside front rest (Token t s items) Ended text span tile h le agree = absurd agree
fault_agrees n inside front rest (Token t s items) (Failed reported r) text span tile h le agree = absurd agree
fault_agrees n inside front rest (Token t s items) (Token u r others) text span (gap, bytes, following, e, between, some, belongs, shows, at, tile) h le agree =
    let next = fault_after _ ((front ++ gap) ++ bytes) following items text span tile h in
    let from : s.range.start ≡ length (front ++ gap) = ap (λ s. s.range.start) at ∙ span_from (front ++ gap) bytes in
    let long = length-append (front ++ gap) bytes in
    let wide = some_bytes bytes some in
    let more = fault_agrees n _ ((front ++ gap) ++ bytes) following items others text span tile h le (agree.2 (omega (arith, from, next, long, wide, le))) in
    ap (λ x. Token x r others) (sym agree.0) ∙ ap (λ x. Token t x others) (sym agree.1) ∙ ap (Token t s) more

-- where the tokens end in a fault
pub fault_lost : (l : Limits) → ((ts : Items) (b : Body) → IsTemplate l ts b → template l ts ≡ found b)
    → (source : List ℕ) (items : Items) (text : List ℕ) (span : Span) → Tile false [] source items → IsFaultOf items text span
    → (n : ℕ) → span.range.start ≤ n → AreLost l n items
fault_lost l each source items text span tile fault n le = λ others agree b is.
    template_faultless l items b (ap (template l) (sym (fault_agrees n false [] source items others text span tile fault le agree)) ∙ each others b is)
    text span fault

each_later : (n m : ℕ) (xs : List (Tok × Span)) → n ≤ m → EachBefore n xs → EachBefore m xs
each_later n m [] le h = tt
each_later n m (x ∷ xs) le h = let here = h.0 in (omega (arith, le, here), each_later n m xs le h.1)

-- So where a reader of whole templates stopped after the tokens that a cursor took, all is lost up to the end of the
-- last of these, or any byte after it, and one step further.
pub cursor_lost : (l : Limits) (read : Items → Read Body) → ((ts : Items) (b : Body) → IsTemplate l ts b → read ts ≡ found b)
    → (source : List ℕ) (items z : Items) (xs : List (Tok × Span)) → Tile false [] source items → items ≡ in_front xs z
    → ((us : Items) → SameHead z us → read (in_front xs us) ≡ stopped us)
    → (n : ℕ) (last span : Span) → Passes n items last z span → (m : ℕ) → span.range.end ≤ m → AreLost l m items
cursor_lost l read each source items z xs tile spelled same n last span passes m le =
    let long = size_front xs z in
    let taken = passed_size n items z last span passes in
    let whole = ap size spelled in
    stopped_lost l read each m items z xs spelled same
    (each_later span.range.end m xs le (taken_before n false [] source xs z last span (subst (Tile false [] source) spelled tile) (subst (λ ts. Passes n ts last z span) spelled passes) (omega (arith, long, taken, whole))).0)

each_front : (n : ℕ) (xs ys : List (Tok × Span)) → EachBefore n (xs ++ ys) → EachBefore n xs
each_front n [] ys h = tt
each_front n (x ∷ xs) ys h = (h.0, each_front n xs ys h.1)

-- the same where the last of these is the token that was refused
pub refused_lost : (l : Limits) (read : Items → Read Body) → ((ts : Items) (b : Body) → IsTemplate l ts b → read ts ≡ found b)
    → (source : List ℕ) (items left : Items) (t : Tok) (s : Span) (xs : List (Tok × Span)) → Tile false [] source items → items ≡ in_front xs (Token t s left)
    → ((us : Items) → SameHead (Token t s left) us → read (in_front xs us) ≡ stopped us)
    → (n : ℕ) (last span : Span) → Passes n items last left span → (m : ℕ) → span.range.end ≤ m → AreLost l m items
refused_lost l read each source items left t s xs tile spelled same n last span passes m le =
    let ys : List (Tok × Span) = xs ++ (t, s) ∷ [] in
    let all : items ≡ in_front ys left = spelled ∙ sym (front_both xs ((t, s) ∷ []) left) in
    let long = size_front ys left in
    let taken = passed_size n items left last span passes in
    let whole = ap size all in
    stopped_lost l read each m items (Token t s left) xs spelled same
    (each_later span.range.end m xs le (each_front span.range.end xs ((t, s) ∷ [])
    (taken_before n false [] source ys left last span (subst (Tile false [] source) all tile) (subst (λ ts. Passes n ts last left span) all passes) (omega (arith, long, taken, whole))).0))

-- So it is of the reading of templates, once each template is read.
pub template_lost : (l : Limits) → ((ts : Items) (b : Body) → IsTemplate l ts b → template l ts ≡ found b) → (source : List ℕ) (items z : Items) → Tile false [] source items
    → template l items ≡ stopped z → (n : ℕ) (last span : Span) → Passes n items last z span → (m : ℕ) → span.range.end ≤ m → AreLost l m items
template_lost l each source items z tile h n last span passes m le =
    let stops = template_stops l items z h in
    cursor_lost l (template l) each source items z stops.taken tile stops.spelled stops.same n last span passes m le

-- the same where the last token that was taken is the one that was refused
pub template_refused : (l : Limits) → ((ts : Items) (b : Body) → IsTemplate l ts b → template l ts ≡ found b) → (source : List ℕ) (items left : Items) (t : Tok) (s : Span) → Tile false [] source items
    → template l items ≡ stopped (Token t s left) → (n : ℕ) (last span : Span) → Passes n items last left span → (m : ℕ) → span.range.end ≤ m → AreLost l m items
template_refused l each source items left t s tile h n last span passes m le =
    let stops = template_stops l items (Token t s left) h in
    refused_lost l (template l) each source items left t s stops.taken tile stops.spelled stops.same n last span passes m le
