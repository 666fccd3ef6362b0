use Rattle.std.proofs.Common.{ℕ, leb, cond, bit_and, w8, refl, ◌∙◌, arith}
use Rattle.std.proofs.lemmas.Simd.{zip2_splat, zip2_of_maps, splat_is_map, length-chunk, chunk-fits}
use lib.Lanes.{chunk}
use Rattle.tera_lexer.specs.grammar.Lexeme.{goes_on_name}
use Rattle.tera_lexer.proofs.Lanes.{lanes_pass}
use Rattle.tera_lexer.proofs.lexer.lexeme.name_lanes.Goals as goal

abbrev at_least : ℕ → ℕ → ℕ
at_least a b = cond (leb a b) 255 0

pub returns : goal.returns
returns c =
    let v = chunk 0 16 c.args.bytes.now in
    let long = length-chunk 0 16 c.args.bytes.now c.requires in
    c.first_set.ensures ∙ lanes_pass goes_on_name v _ 16 _ long (omega arith)
    (zip2_of_maps bit_and _ _ v (zip2_of_maps bit_and _ _ v
    (zip2_of_maps at_least _ _ v (splat_is_map v 16 26 long) (zip2_of_maps _ _ _ v (zip2_splat {Y = ℕ} _ v 16 32 long) (splat_is_map v 16 97 long)))
    (zip2_of_maps at_least _ _ v (splat_is_map v 16 10 long) (zip2_splat {Y = ℕ} _ v 16 48 long)))
    (zip2_splat {Y = ℕ} _ v 16 95 long))
    (chunk-fits w8 0 16 c.args.bytes.now c.type_inv.bytes) refl
