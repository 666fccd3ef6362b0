use Rattle.std.proofs.Common.{rules, ◌≡◌, ◌∙◌, ◌<◌, sym, ap}
use Rattle.std.proofs.lemmas.Fmt.{parse-decimal}
use Rattle.tera_jobs.proofs.check.number_from_1.Goals as goal

pub returns-in-Ok-clause-decimal : goal.returns-in-Ok-clause-decimal
returns-in-Ok-clause-decimal c n above within is =
    let e = sym c.in-Ok.is ∙ parse-decimal 64 n c.args.word.now c.parse.result within within is c.parse.ensures.value.0 in
    search rules

pub returns-in_default-clause-decimal : goal.returns-in_default-clause-decimal
returns-in_default-clause-decimal c n above within is =
    let e = parse-decimal 64 n c.args.word.now c.parse.result within within is c.parse.ensures.value.0 in
    search rules

pub returns-in_default-2-clause-decimal : goal.returns-in_default-2-clause-decimal
returns-in_default-2-clause-decimal c n above within is =
    let e = parse-decimal 64 n c.args.word.now c.parse.result within within is c.parse.ensures.value.0 in
    search rules
