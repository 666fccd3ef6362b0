-- The parts of a name that is read.
use Rattle.std.proofs.Common.{◌≡◌, ◌+◌, ◌-◌, ◌≤◌, ◌++◌, ℕ, suc, true, false, List, [], ◌∷◌, length, map, take, drop, get_or, refl, ap, sym, ◌∙◌, arith}
use Rattle.std.proofs.lemmas.List.{map-append, append_assoc, drop-drop, take_rest, length-drop}
use Rattle.std.proofs.Math.Seq.{take-add}
use Rattle.tera_outline.specs.declared.pieces.Piece.{Piece}
use Rattle.tera_outline.specs.Pieces.{Part, part_of}
use Rattle.tera_outline.specs.Dotted.{begins_link, links, dotted, end_of}

some_link : (xs : List Piece) → begins_link (map part_of xs) ≡ true
    → (2 ≤ length xs) × (links (map part_of xs) ≡ map part_of (take 2 xs) ++ links (map part_of (drop 2 xs)))
some_link [] is = cc
some_link (x ∷ []) is = cc
some_link (x ∷ y ∷ xs) is = (omega arith, rw is refl)

no_link : (ps : List Part) → begins_link ps ≡ false → links ps ≡ []
no_link [] none = refl
no_link (p ∷ []) none = refl
no_link (p ∷ q ∷ ps) none = rw none refl

-- one more link is taken
pub link_taken : (xs : List Piece) (n : ℕ) → n ≤ length xs → begins_link (map part_of (take (length xs - n) (drop n xs))) ≡ true
    → map part_of (take n xs) ++ links (map part_of (drop n xs)) ≡ dotted (map part_of xs)
    → (n + 2 ≤ length xs) × (map part_of (take (n + 2) xs) ++ links (map part_of (drop (n + 2) xs)) ≡ dotted (map part_of xs))
link_taken xs n within is whole =
    let rest : begins_link (map part_of (drop n xs)) ≡ true = rw (take_rest xs n) at is in
    let some = some_link (drop n xs) rest in
    let long : length (drop n xs) ≡ length xs - n = length-drop n xs in
    let front : map part_of (take (n + 2) xs) ≡ map part_of (take n xs) ++ map part_of (take 2 (drop n xs)) =
    ap (map part_of) (take-add n 2 xs) ∙ map-append part_of (take n xs) (take 2 (drop n xs)) in
    let following : drop 2 (drop n xs) ≡ drop (n + 2) xs = drop-drop 2 n xs in (
      omega (arith, some.0, long),
      rw (front, append_assoc (map part_of (take n xs)) (map part_of (take 2 (drop n xs))) (links (map part_of (drop (n + 2) xs))), ← following, ← some.1) whole,
    )

-- none is left
pub links_taken : (xs : List Piece) (n : ℕ) → begins_link (map part_of (take (length xs - n) (drop n xs))) ≡ false
    → map part_of (take n xs) ++ links (map part_of (drop n xs)) ≡ dotted (map part_of xs) → map part_of (take n xs) ≡ dotted (map part_of xs)
links_taken xs n none whole =
    let rest : begins_link (map part_of (drop n xs)) ≡ false = rw (take_rest xs n) at none in
    let e : links (map part_of (drop n xs)) ≡ [] = no_link (map part_of (drop n xs)) rest in
    sym (append_nil_at (map part_of (take n xs)) (links (map part_of (drop n xs))) e) ∙ whole
  where
    append_nil_at : (ps qs : List Part) → qs ≡ [] → ps ++ qs ≡ ps
    append_nil_at [] qs e = e
    append_nil_at (p ∷ ps) qs e = ap (λ rs. p ∷ rs) (append_nil_at ps qs e)

pub end_at : (xs : List Piece) (last : Piece) → 1 ≤ length xs → (get_or xs (length xs - 1) last).end ≡ end_of (map part_of xs)
end_at [] last some = absurd (omega arith)
end_at (x ∷ []) last some = refl
end_at (x ∷ y ∷ xs) last some =
    let e : length (x ∷ y ∷ xs) - 1 ≡ suc (length (y ∷ xs) - 1) = omega arith in
    rw e (end_at (y ∷ xs) last (omega arith))
