use Rattle.std.proofs.Common.{Some, ◌∙◌, ap, sym}
use Rattle.std.specs.Option.{option_copied}
use Rattle.toml.specs.Data.{as_str}
use Rattle.toml.specs.View.{table_view}
use Rattle.tera_settings.proofs.ValueLemmas.{absent, present, unfit}
use Rattle.tera_settings.proofs.section.Section.text.Goals as goal

pub returns-in_default-clause-ok : goal.returns-in_default-clause-ok
returns-in_default-clause-ok c = absent as_str c.value_at.result c.args.key.now (table_view c.args.self.table.now) c.value_at.ensures c.in_default.is

pub returns-in_ok-from_str-in-Some-as_str-clause-ok :
    goal.returns-in_ok-from_str-in-Some-as_str-clause-ok
returns-in_ok-from_str-in-Some-as_str-clause-ok c =
    let copied = c.in_ok-from_str-in-Some-as_str.ensures.ok in
    let reads = sym c.as_str.ensures ∙ (ap option_copied c.in-Some-as_str.is ∙ ap Some (sym copied)) in
    present as_str c.value_at.result c.in-Some.value _ c.args.key.now (table_view c.args.self.table.now) c.value_at.ensures c.in-Some.is reads

pub returns-in-None-clause-refused : goal.returns-in-None-clause-refused
returns-in-None-clause-refused c _ =
    unfit as_str c.value_at.result c.in-Some.value c.args.key.now (table_view c.args.self.table.now) c.value_at.ensures c.in-Some.is (sym c.as_str.ensures ∙ ap option_copied c.in-None.is)
