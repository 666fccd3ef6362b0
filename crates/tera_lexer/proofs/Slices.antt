-- A span of a text names that text in its source.
use Rattle.std.proofs.Common.{◌≡◌, ℕ, ◌-◌, List, ◌++◌, length, take, ap, ◌∙◌, refl, arith}
use Rattle.std.specs.Prelude.{slice_range}
use Rattle.std.proofs.lemmas.List.{take_at, drop_at, length-append}
use Rattle.tera_lexer.specs.grammar.Place.{place_after, span_of}

pub span_slice : (front text rest : List ℕ) → slice_range (front ++ (text ++ rest)) (span_of front text).range.start (span_of front text).range.end ≡ text
unfolding place_after
span_slice front text rest =
    let len : length (front ++ text) - length front ≡ length text = omega (arith, length-append front text) in
    ap (take (length (front ++ text) - length front)) (drop_at front (text ++ rest) (length front) refl) ∙ ap (λ k. take k (text ++ rest)) len ∙ take_at text rest (length text) refl
