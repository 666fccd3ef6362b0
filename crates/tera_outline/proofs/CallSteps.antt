-- What a step over the first of the pieces that are left adds to the call that is looked for.
use Rattle.std.proofs.Common.{◌≡◌, ◌-◌, ◌<◌, ◌≤◌, ℕ, Option, Some, None, List, [], ◌∷◌, length, map, option_map, take, drop, get_or, ap, refl, sym, ◌∙◌, arith}
use Rattle.std.specs.List.{find}
use Rattle.std.specs.Option.{option_or}
use Rattle.tera_lexer.specs.code.Seen.{seen}
use Rattle.tera_outline.specs.declared.calls.Stretch.{Stretch}
use Rattle.tera_outline.specs.declared.names.Before.{Before}
use Rattle.tera_outline.specs.declared.pieces.Piece.{Piece}
use Rattle.tera_outline.specs.Calls.{StretchVal, stretch_view, holds, stretches, named, called, stretch_after, stretch_in}
use Rattle.tera_outline.specs.Completions.{first_inside}
use Rattle.tera_outline.specs.Dotted.{dotted, end_of}
use Rattle.tera_outline.specs.Names.{after_token}
use Rattle.tera_outline.specs.Pieces.{part_of}
use Rattle.tera_outline.proofs.NamePlaces.{rest_after}
use Rattle.tera_outline.proofs.PieceSteps.{first_split}

pub stretch_named : (last byte : ℕ) (name following : List Piece) (first : Piece) (r : Option StretchVal) → 1 ≤ length name → first ≡ get_or name 0 first
    → r ≡ find (holds byte) (stretches last first.start (first_inside (end_of (map part_of name))) None (map part_of (take (length following - length name) (drop (length name) following))))
    → map part_of name ≡ dotted (map part_of following) → r ≡ find (holds byte) (called last (map part_of following))
stretch_named last byte [] following first r some is found starts = absurd (omega arith)
stretch_named last byte (n ∷ ns) following first r some is found starts =
    let start : first.start ≡ n.start = ap (λ (p : Piece). p.start) is in
    found
    ∙ (ap (λ s. find (holds byte) (stretches last s (first_inside (end_of (map part_of (n ∷ ns)))) None (map part_of (take (length following - length (n ∷ ns)) (drop (length (n ∷ ns)) following))))) start
    ∙ (ap (λ ps. find (holds byte) (stretches last n.start (first_inside (end_of (map part_of (n ∷ ns)))) None ps)) (rest_after (n ∷ ns) following)
    ∙ ap (λ ps. find (holds byte) (named last ps (map part_of following))) starts))

-- ---- the part in the last call

pub or_none : (o : Option StretchVal) → option_or o None ≡ o
or_none None = refl
or_none (Some s) = refl

or_assoc : (left here found : Option StretchVal) → option_or (option_or left here) found ≡ option_or left (option_or here found)
or_assoc None here found = refl
or_assoc (Some s) here found = refl

seen_or : (here found either : Option Stretch) → either ≡ option_or here found → option_map stretch_view either ≡ option_or (option_map stretch_view here) (option_map stretch_view found)
seen_or None found either is = ap (option_map stretch_view) is
seen_or (Some s) found either is = ap (option_map stretch_view) is

pub stretch_passed : (last byte : ℕ) (b next : Before) (x : Piece) (xs : List Piece) (here found either : Option Stretch) (all : Option StretchVal) → x ≡ get_or xs 0 x → 1 ≤ length xs
    → option_map stretch_view here ≡ stretch_after last byte b (part_of x) (map part_of (take (length xs - 1) (drop 1 xs)))
    → next ≡ after_token b (seen x.token) → either ≡ option_or here found
    → option_or (stretch_in last byte b (map part_of xs)) (option_map stretch_view found) ≡ all
    → option_or (stretch_in last byte next (map part_of (take (length xs - 1) (drop 1 xs)))) (option_map stretch_view either) ≡ all
stretch_passed last byte b next x xs here found either all is some begins follows joins whole =
    let ps = map part_of (take (length xs - 1) (drop 1 xs)) in
    let left = stretch_in last byte (after_token b (seen x.token)) ps in
    let given : option_or (stretch_in last byte b (part_of x ∷ ps)) (option_map stretch_view found) ≡ all =
    ap (λ ys. option_or (stretch_in last byte b (map part_of ys)) (option_map stretch_view found)) (sym (first_split xs x is some)) ∙ whole in
    ap (λ n. option_or (stretch_in last byte n ps) (option_map stretch_view either)) follows
    ∙ (ap (option_or left) (seen_or here found either joins ∙ ap (λ h. option_or h (option_map stretch_view found)) begins)
    ∙ (sym (or_assoc left (stretch_after last byte b (part_of x) ps) (option_map stretch_view found)) ∙ given))

pub stretch_ended : (last byte : ℕ) (b : Before) (xs : List Piece) (found all : Option StretchVal) → length xs < 1 → option_or (stretch_in last byte b (map part_of xs)) found ≡ all → found ≡ all
stretch_ended last byte b [] found all none whole = whole
stretch_ended last byte b (x ∷ xs) found all none whole = absurd (omega arith)
