-- What the code does to an outline, on its states.
use Rattle.std.proofs.Common.{◌≡◌, ◌-◌, ◌<◌, ◌≤◌, ◌++◌, ℕ, zero, suc, true, false, Option, Some, List, [], ◌∷◌, length, map, option_map, take, drop, set, get_or, reverse, vec_len, refl, ap, sym, subst, ◌∙◌, arith}
use Rattle.std.specs.Prelude.{All}
use Rattle.std.specs.Option.{option_to_list}
use Rattle.std.proofs.lemmas.List.{append-nil, reverse-append, length-reverse, get_or-reverse, length-map, take_all}
use Rattle.std.proofs.lemmas.List.Elements.{All-pop, All-weaker}
use Rattle.tera_outline.specs.declared.pieces.Piece.{Piece}
use Rattle.tera_outline.specs.declared.symbols.SymbolKind.{SymbolKind}
use Rattle.tera_outline.specs.declared.symbols.Symbol.{Symbol}
use Rattle.tera_outline.specs.declared.symbols.Open.{Open}
use Rattle.tera_outline.specs.declared.symbols.Outline.{Outline}
use Rattle.tera_outline.specs.declared.symbols.Mark as code
use Rattle.tera_outline.specs.Pieces.{part_of}
use Rattle.tera_outline.specs.Symbols.{Outlined, outlined, same_kind, mark_of, marks}
use Rattle.tera_outline.specs.Opened.{State, state_of, KnowOthers, ended, unwound, unwound_in, took, all_ended, all_ended_in, mark_view, AreNumbered}
use Rattle.tera_outline.proofs.Outlines.{settles, settled, took_settles, all_settled}

all_reverse : (P : Open → Type 0) (os : List Open) → All P os → All P (reverse os)
all_reverse P os all k d within =
    let n : length (reverse os) ≡ length os = length-reverse os in
    subst P (sym (get_or-reverse os k d (omega arith))) (all (length os - 1 - k) d (omega arith))

pub numbered_state : (o : Outline) → AreNumbered o → All (λ (p : Open). p.number < length (state_of o).symbols) (state_of o).opened
numbered_state o all =
    let n : length (map outlined o.symbols.items) ≡ length o.symbols.items = length-map o.symbols.items outlined in
    let m = o.symbols.ok.0 in
    all_reverse (λ (p : Open). p.number < length (map outlined o.symbols.items)) o.open.items
    (All-weaker (λ (p : Open). p.number < vec_len o.symbols) (λ (p : Open). p.number < length (map outlined o.symbols.items)) (λ p h. omega (arith, n, m, h)) o.open.items all)

-- one that is taken off was the innermost
pub popped : (n : ℕ) (os after : List Open) (r : Option Open) (o : Open) → os ≡ after ++ option_to_list r → r ≡ Some o → All (λ (p : Open). p.number < n) os
    → (reverse os ≡ o ∷ reverse after) × All (λ (p : Open). p.number < n) after × (o.number < n)
popped n os after r o is some all =
    let e : os ≡ after ++ o ∷ [] = rw some at is in
    let pops = All-pop (λ (p : Open). p.number < n) os after r is all in
    (rw e (reverse-append after (o ∷ [])), pops.0, rw some at pops.1)

ended_set : (xs : List Symbol) (n end : ℕ) (x : Symbol) → n < length xs → x ≡ get_or xs n x
    → map outlined (set xs n (record x { end = end })) ≡ ended n end (map outlined xs)
ended_set [] n end x within is = absurd (omega arith)
ended_set (y ∷ xs) zero end x within is = ap (λ (z : Symbol). record (outlined z) { end = end } ∷ map outlined xs) is
ended_set (y ∷ xs) (suc n) end x within is = ap (λ zs. outlined y ∷ zs) (ended_set xs n end x (omega arith) is)

pub closed_here : (k : SymbolKind) (start end : ℕ) (xs : List Symbol) (x : Symbol) (os after : List Open) (o : Open) (all : State)
    → reverse os ≡ o ∷ reverse after → same_kind k o.kind ≡ true → o.number < length xs → x ≡ get_or xs o.number x
    → unwound k start end (record { symbols = map outlined xs; opened = reverse os }) ≡ all
    → record { symbols = map outlined (set xs o.number (record x { end = end })); opened = reverse after } ≡ all
closed_here k start end xs x os after o all e same within is before =
    let u : unwound_in k start end (map outlined xs) (o ∷ reverse after) ≡ record { symbols = ended o.number end (map outlined xs); opened = reverse after } = rw same refl in
    let b : unwound_in k start end (map outlined xs) (o ∷ reverse after) ≡ all = rw e at before in
    rw (ended_set xs o.number end x within is) (sym u ∙ b)

pub closed_before : (k : SymbolKind) (start end : ℕ) (xs : List Symbol) (x : Symbol) (os after : List Open) (o : Open) (all : State)
    → reverse os ≡ o ∷ reverse after → same_kind k o.kind ≡ false → o.number < length xs → x ≡ get_or xs o.number x
    → unwound k start end (record { symbols = map outlined xs; opened = reverse os }) ≡ all
    → unwound k start end (record { symbols = map outlined (set xs o.number (record x { end = start })); opened = reverse after }) ≡ all
closed_before k start end xs x os after o all e other within is before =
    let u : unwound_in k start end (map outlined xs) (o ∷ reverse after) ≡ unwound_in k start end (ended o.number start (map outlined xs)) (reverse after) = rw other refl in
    let b : unwound_in k start end (map outlined xs) (o ∷ reverse after) ≡ all = rw e at before in
    rw (ended_set xs o.number start x within is) (sym u ∙ b)

pub ended_here : (last : ℕ) (xs : List Symbol) (x : Symbol) (os after : List Open) (o : Open) (all : List Outlined)
    → reverse os ≡ o ∷ reverse after → o.number < length xs → x ≡ get_or xs o.number x
    → all_ended last (record { symbols = map outlined xs; opened = reverse os }) ≡ all
    → all_ended last (record { symbols = map outlined (set xs o.number (record x { end = last })); opened = reverse after }) ≡ all
ended_here last xs x os after o all e within is before =
    let b : all_ended_in last (map outlined xs) (o ∷ reverse after) ≡ all = rw e at before in
    rw (ended_set xs o.number last x within is) b

-- those around one know what they did
pub others_around : (os after : List Open) (o : Open) → reverse os ≡ o ∷ reverse after → KnowOthers (reverse os) → KnowOthers (reverse after)
others_around os after o is knows = (subst KnowOthers is knows).1

marks_step : (last : ℕ) (xs : List Piece) → 1 ≤ length xs
    → marks last (map part_of xs) ≡ option_to_list (mark_of last (map part_of xs)) ++ marks last (map part_of (take (length xs - 1) (drop 1 xs)))
marks_step last [] some = absurd (omega arith)
marks_step last (x ∷ xs) some =
    let n : length (x ∷ xs) - 1 ≡ length xs = omega arith in
    rw (n, take_all (length xs) xs (omega arith)) refl

-- a tag is taken
pub mark_taken : (last : ℕ) (xs : List Piece) (r : Option code.Mark) (m : code.Mark) (old new : State) (all : List Outlined) → 1 ≤ length xs
    → option_map mark_view r ≡ mark_of last (map part_of xs) → r ≡ Some m → All (λ (p : Open). p.number < length old.symbols) old.opened
    → new ≡ took (mark_view m) old → settles last old (marks last (map part_of xs)) ≡ all
    → settles last new (marks last (map part_of (take (length xs - 1) (drop 1 xs)))) ≡ all
mark_taken last xs r m old new all some marked is fits took before =
    let rest = marks last (map part_of (take (length xs - 1) (drop 1 xs))) in
    let here : Some (mark_view m) ≡ mark_of last (map part_of xs) = rw is at marked in
    let step : marks last (map part_of xs) ≡ mark_view m ∷ rest = rw (marks_step last xs some, ← here) refl in
    rw took (took_settles last (mark_view m) old rest fits ∙ (rw step at before))

-- none is left
pub all_taken : (last : ℕ) (s : State) (xs : List Piece) (symbols all : List Outlined) → length xs < 1
    → settles last s (marks last (map part_of xs)) ≡ all → symbols ≡ all_ended last s → symbols ≡ all
all_taken last s [] symbols all none before is =
    is ∙ (sym (all_settled last [] s.symbols s.opened) ∙ (sym (append-nil (settled last [] s.symbols s.opened [])) ∙ before))
all_taken last s (x ∷ xs) symbols all none before is = absurd (omega arith)
