use Rattle.std.proofs.Common.{rules, ◌≡◌, length, chars}
use Rattle.std.proofs.lemmas.Str.{chars_from_encodes}
use Rattle.terminal_text.proofs.lines.Line.of.Goals as goal

pub invariant_of-result : goal.invariant_of-result
invariant_of-result c =
    let long : c.count.result ≡ length (chars c.args.text.now) = search (rules, chars_from_encodes) in
    (c.utf8.text, long, c.in_ok-marks_of.ensures)
