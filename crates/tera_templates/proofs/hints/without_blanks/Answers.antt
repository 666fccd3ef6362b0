use Rattle.std.proofs.Common.{◌≤◌, length, arith, rules}
use Rattle.std.specs.Prelude.{not}
use Rattle.std.specs.Char.{is_ascii_whitespace}
use Rattle.std.proofs.lemmas.List.Sums.{prefix_len-le-length}
use Rattle.tera_templates.proofs.hints.without_blanks.Goals as goal

pub slice_bounds-result-count : goal.slice_bounds-result-count
slice_bounds-result-count c = omega (arith, c.blanks_in.ensures, prefix_len-le-length (λ b. not (not (is_ascii_whitespace b))) c.args.bytes.now)

pub slice_bounds-result-start : goal.slice_bounds-result-start
slice_bounds-result-start c =
    let within : c.blanks_in.result ≤ length c.args.bytes.now = omega (arith, c.blanks_in.ensures, prefix_len-le-length (λ b. not (not (is_ascii_whitespace b))) c.args.bytes.now) in
    search rules
