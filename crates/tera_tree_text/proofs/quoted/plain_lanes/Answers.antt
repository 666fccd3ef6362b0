use Rattle.std.proofs.Common.{◌≡◌, ℕ, bit_or, take, ◌==◌, ◌∙◌, arith}
use Rattle.std.specs.List.{prefix_len}
use Rattle.std.proofs.lemmas.List.{length-take}
use Rattle.std.proofs.lemmas.List.Sums.{prefix_len-le-length}
use Rattle.std.proofs.lemmas.Simd.{zip2_splat, zip2_of_maps, length-chunk}
use lib.Lanes.{chunk}
use Rattle.tera_tree_text.specs.QuotedBytes.{is_plain}
use Rattle.tera_tree_text.proofs.Escapes.{lanes_plain, any_stops}
use Rattle.tera_tree_text.proofs.quoted.plain_lanes.Goals as goal
use Rattle.tera_tree_text.proofs.quoted.plain_lanes.Goals.{After-first_set}

run_is : (c : After-first_set) → c.first_set.result ≡ prefix_len is_plain (take 16 c.args.bytes.now)
run_is c =
    let v = chunk 0 16 c.args.bytes.now in
    let long = length-chunk 0 16 c.args.bytes.now c.requires in
    c.first_set.ensures ∙ lanes_plain v _ 16 _ long (omega arith)
    (zip2_of_maps bit_or _ _ v (zip2_of_maps bit_or _ _ v (zip2_of_maps bit_or _ _ v
    (zip2_of_maps bit_or _ _ v (zip2_splat {Y = ℕ} _ v 16 92 long) (zip2_splat {Y = ℕ} _ v 16 34 long))
    (zip2_splat {Y = ℕ} _ v 16 10 long)) (zip2_splat {Y = ℕ} _ v 16 13 long)) (zip2_splat {Y = ℕ} _ v 16 9 long))
    (λ x. any_stops (x == 92) (x == 34) (x == 10) (x == 13) (x == 9))

pub returns-clause-run : goal.returns-clause-run
returns-clause-run c = run_is (goal.at.returns-clause-run c).After-first_set

pub returns-clause-within : goal.returns-clause-within
returns-clause-within c = omega (arith, run_is (goal.at.returns-clause-within c).After-first_set, prefix_len-le-length is_plain (take 16 c.args.bytes.now), length-take 16 c.args.bytes.now)
