use Rattle.std.proofs.Common.{[], map, string_bytes}
use Rattle.tera_server.specs.Between.{faults_in}
use Rattle.tera_server.proofs.BetweenLemmas.{none_found}
use Rattle.tera_server.proofs.between.faults_between.Goals as goal

pub returns : goal.returns
returns c =
    c.in_ok-add_each-2.ensures (map string_bytes c.args.names.now)
    (c.in_ok-add_each.ensures []
    (none_found c.args.settings.now (map string_bytes c.args.folders.now) c.args.workspace.now (faults_in c.new-faults.result) c.new-faults.ensures))
