-- Where a name ends among the pieces after it.
use Rattle.std.proofs.Common.{◌≡◌, ◌-◌, ◌≤◌, ℕ, List, [], ◌∷◌, length, map, take, drop, get_or, ap, sym, ◌∙◌, arith}
use Rattle.std.specs.Prelude.{Option}
use Rattle.std.specs.List.{find}
use Rattle.std.proofs.lemmas.List.{take_rest, length-map, drop-map}
use Rattle.tera_outline.specs.declared.pieces.Piece.{Piece}
use Rattle.tera_outline.specs.declared.completions.Slot.{Slot}
use Rattle.tera_outline.specs.Pieces.{part_of}
use Rattle.tera_outline.specs.Dotted.{dotted, end_of}
use Rattle.tera_outline.specs.Completions.{dot_end, place_end, holds, first_inside, inside, named, called}

-- the pieces after a name
pub rest_after : (name following : List Piece)
    → map part_of (take (length following - length name) (drop (length name) following)) ≡ drop (length (map part_of name)) (map part_of following)
rest_after name following =
    ap (map part_of) (take_rest following (length name))
    ∙ (sym (drop-map part_of (length name) following) ∙ ap (λ k. drop k (map part_of following)) (sym (length-map name part_of)))

pub name_placed : (last : ℕ) (name following : List Piece) (end : ℕ) → 1 ≤ length name → map part_of name ≡ dotted (map part_of following)
    → end ≡ dot_end (end_of (map part_of name)) (map part_of (take (length following - length name) (drop (length name) following)))
    → end ≡ place_end last (dotted (map part_of following)) (map part_of following)
name_placed last [] following end some is ends = absurd (omega arith)
name_placed last (n ∷ ns) following end some is ends =
    ends
    ∙ (ap (dot_end (end_of (map part_of (n ∷ ns)))) (rest_after (n ∷ ns) following)
    ∙ ap (λ ps. place_end last ps (map part_of following)) is)

pub named_found : (last byte : ℕ) (name following : List Piece) (first : Piece) (r : Option Slot) → 1 ≤ length name → first ≡ get_or name 0 first
    → r ≡ find (holds byte) (inside last first.start (first_inside (end_of (map part_of name))) (map part_of (take (length following - length name) (drop (length name) following))))
    → map part_of name ≡ dotted (map part_of following) → r ≡ find (holds byte) (called last (map part_of following))
named_found last byte [] following first r some is found starts = absurd (omega arith)
named_found last byte (n ∷ ns) following first r some is found starts =
    let start : first.start ≡ n.start = ap (λ (p : Piece). p.start) is in
    found
    ∙ (ap (λ s. find (holds byte) (inside last s (first_inside (end_of (map part_of (n ∷ ns)))) (map part_of (take (length following - length (n ∷ ns)) (drop (length (n ∷ ns)) following))))) start
    ∙ (ap (λ ps. find (holds byte) (inside last n.start (first_inside (end_of (map part_of (n ∷ ns)))) ps)) (rest_after (n ∷ ns) following)
    ∙ ap (λ ps. find (holds byte) (named last ps (map part_of following))) starts))
