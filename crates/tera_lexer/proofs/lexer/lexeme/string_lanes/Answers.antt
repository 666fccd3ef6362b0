use Rattle.std.proofs.Common.{◌≡◌, ℕ, Bool, true, false, not, cond, bit_or, refl, ◌∙◌, arith}
use Rattle.std.specs.Prelude.{◌==◌, if◌then◌else◌}
use Rattle.std.proofs.lemmas.Simd.{zip2_splat, zip2_of_maps, length-chunk}
use lib.Lanes.{chunk, top}
use Rattle.tera_lexer.specs.code.Found.{goes_on_string}
use Rattle.tera_lexer.proofs.Lanes.{lanes_same}
use Rattle.tera_lexer.proofs.lexer.lexeme.string_lanes.Goals as goal

-- a lane of either mask stops
either : (q e : Bool) → not (top 7 (bit_or (cond q 255 0) (cond e 255 0))) ≡ (if q then false else not e)
either true true = refl
either true false = refl
either false true = refl
either false false = refl

pub returns : goal.returns
returns c =
    let v = chunk 0 16 c.args.bytes.now in
    let long = length-chunk 0 16 c.args.bytes.now c.requires in
    c.first_set.ensures ∙ lanes_same (goes_on_string c.args.quote) v _ 16 _ long (omega arith)
    (zip2_of_maps bit_or _ _ v (zip2_splat {Y = ℕ} _ v 16 c.args.quote long) (zip2_splat {Y = ℕ} _ v 16 92 long))
    (λ x. either (x == c.args.quote) (x == 92))
