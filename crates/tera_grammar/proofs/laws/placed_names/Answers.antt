use Rattle.tera_grammar.proofs.statements.Wholes.{derived, names_derived, names_reported, names_unique}
use Rattle.tera_grammar.proofs.statements.Parameters.{parameters_reported}
use Rattle.tera_grammar.proofs.laws.placed_names.Goals as goal

pub returns : goal.returns
returns c = record {
  some = λ l m source output. (λ d. names_derived l m source output d, λ d. derived l m source output d.0 d.1);
  one = λ l m valid source one other ns ms a b. names_unique l m valid source one other ns ms a b;
  in_output = λ l m source output ns d. names_reported l m source output ns d;
  parameters = λ l m source output ns d. parameters_reported l m source output ns d;
}
