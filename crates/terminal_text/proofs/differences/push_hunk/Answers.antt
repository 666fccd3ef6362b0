use Rattle.std.proofs.Common.{sym, arith}
use Rattle.terminal_text.proofs.Hunked.{fits_first}
use Rattle.terminal_text.proofs.differences.push_hunk.Goals as goal

pub range_of-requires : goal.range_of-requires
range_of-requires c =
    let fits = fits_first c.args.hunk.now c.in-Some.first.now (sym c.in-Some.ensures.value) c.requires in
    omega (arith, c.lines_in-old.ensures.old, fits.0)
