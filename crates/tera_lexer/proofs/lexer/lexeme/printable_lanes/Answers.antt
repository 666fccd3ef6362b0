use Rattle.std.proofs.Common.{ℕ, leb, cond, w8, refl, ◌∙◌, arith}
use Rattle.std.proofs.lemmas.Simd.{zip2_splat, zip2_of_maps, splat_is_map, length-chunk, chunk-fits}
use lib.Lanes.{chunk}
use Rattle.tera_lexer.specs.code.Counting.{is_printable_byte}
use Rattle.tera_lexer.proofs.Lanes.{lanes_pass}
use Rattle.tera_lexer.proofs.lexer.lexeme.printable_lanes.Goals as goal

abbrev at_least : ℕ → ℕ → ℕ
at_least a b = cond (leb a b) 255 0

pub returns : goal.returns
returns c =
    let v = chunk 0 16 c.args.bytes.now in
    let long = length-chunk 0 16 c.args.bytes.now c.requires in
    c.first_set.ensures ∙ lanes_pass is_printable_byte v _ 16 _ long (omega arith)
    (zip2_of_maps at_least _ _ v (splat_is_map v 16 96 long) (zip2_splat {Y = ℕ} _ v 16 32 long))
    (chunk-fits w8 0 16 c.args.bytes.now c.type_inv.bytes) refl
