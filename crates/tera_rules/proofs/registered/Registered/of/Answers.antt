use Rattle.tera_rules.proofs.registered.Registered.of.Goals as goal

pub returns : goal.returns
returns c = record { by_filters = c.in_ok-listed.ensures; by_tests = c.in_ok-listed-2.ensures; by_functions = c.in_ok-listed-3.ensures }
