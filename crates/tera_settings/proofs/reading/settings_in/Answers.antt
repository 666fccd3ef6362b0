use Rattle.std.proofs.lemmas.Result.{err_from_is_err_and}
use Rattle.toml.specs.View.{table_view}
use Rattle.tera_settings.specs.Values.{texts}
use Rattle.tera_settings.proofs.MeaningLemmas.{no_known, no_levels}
use Rattle.tera_settings.proofs.reading.settings_in.Goals as goal

pub returns-in_err-rules_in-clause-refused : goal.returns-in_err-rules_in-clause-refused
returns-in_err-rules_in-clause-refused c =
    let p = err_from_is_err_and c.from_residual-in_err-rules_in.result c.from_residual-in_err-rules_in.ensures.1 in
    rw (p.1, p.2) (λ kept. no_levels (texts c.args.rules.now) (table_view c.args.table.now) (c.in_err-rules_in.ensures.refused kept))

pub returns-in_err-known_in-clause-refused : goal.returns-in_err-known_in-clause-refused
returns-in_err-known_in-clause-refused c =
    let p = err_from_is_err_and c.from_residual-in_err-known_in.result c.from_residual-in_err-known_in.ensures.1 in
    rw (p.1, p.2) (λ kept. no_known (texts c.args.rules.now) (table_view c.args.table.now) (c.in_err-known_in.ensures.refused kept))
