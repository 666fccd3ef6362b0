use Rattle.std.proofs.Common.{rules}
use Rattle.tera_check.proofs.SilencedLemmas.{none_has, some_has}
use Rattle.tera_check.proofs.silenced.has_line.Goals as goal

pub returns-in-Some : goal.returns-in-Some
returns-in-Some c = some_has c.args.lines.now c.args.rule.now c.args.line c.in-Some.lines.now c.is_in.result (search rules) c.is_in.ensures

pub returns-in-None : goal.returns-in-None
returns-in-None c = none_has c.args.lines.now c.args.rule.now c.args.line (search rules)
