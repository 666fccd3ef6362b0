use Rattle.std.proofs.Common.{◌≡◌, true, inr, sym, ◌∙◌, rules}
use Rattle.tera_files.proofs.NameLemmas.{Contains-from_list_any}
use Rattle.tera_files.specs.Finding.{input}
use Rattle.tera_files.proofs.finding.begun.Goals as goal

pub returns-clause-started : goal.returns-clause-started
returns-clause-started g c =
    let any : c.contains.result ≡ true = search rules in
    inr (Contains-from_list_any c.args.paths.now input (sym c.contains.ensures.value ∙ any))
