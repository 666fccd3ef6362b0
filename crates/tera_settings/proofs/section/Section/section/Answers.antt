use Rattle.std.proofs.Common.{Option, String, BTreeMap, Bor, Global, ◌∙◌, ap, sym}
use Rattle.std.specs.Option.{option_map}
use Rattle.toml.specs.Data.{Members, as_table}
use Rattle.toml.specs.View.{table_view}
use Rattle.toml.specs.declared.value.Value.{Value}
use Rattle.tera_settings.proofs.ValueLemmas.{absent, present, unfit}
use Rattle.tera_settings.proofs.section.Section.section.Goals as goal

abbrev tables : Option (Bor (BTreeMap (String Global) Value)) → Option Members
tables = option_map (λ m. table_view m.now)

pub returns-in_default-clause-ok : goal.returns-in_default-clause-ok
returns-in_default-clause-ok c = absent as_table c.value_at.result c.args.key.now (table_view c.args.self.table.now) c.value_at.ensures c.in_default.is

pub returns-in-Some-as_table-clause-ok : goal.returns-in-Some-as_table-clause-ok
returns-in-Some-as_table-clause-ok c =
    present as_table c.value_at.result c.in-Some.value _ c.args.key.now (table_view c.args.self.table.now) c.value_at.ensures c.in-Some.is (sym c.as_table.ensures ∙ ap tables c.in-Some-as_table.is)

pub returns-in-None-clause-refused : goal.returns-in-None-clause-refused
returns-in-None-clause-refused c _ =
    unfit as_table c.value_at.result c.in-Some.value c.args.key.now (table_view c.args.self.table.now) c.value_at.ensures c.in-Some.is (sym c.as_table.ensures ∙ ap tables c.in-None.is)
