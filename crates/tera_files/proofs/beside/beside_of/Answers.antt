use Rattle.std.proofs.Common.{arith}
use Rattle.tera_files.specs.Beside.{slash}
use Rattle.tera_files.proofs.BesideLemmas.{beside_in, beside_alone}
use Rattle.tera_files.proofs.NameLemmas.{parts, none_in}
use Rattle.tera_files.proofs.beside.beside_of.Goals as goal

pub returns-in-Some : goal.returns-in-Some
returns-in-Some c =
    let found = parts slash c.args.path.now c.in-Some.folder.now c.in-Some.name.now c.in-Some.ensures.cases (omega arith) in
    beside_in c.args.path.now c.in-Some.folder.now c.in-Some.name.now c.front_of-front.result.now c.args.number found.0 found.1
    c.front_of-front.ensures c.format.result c.format.ensures.ok

pub returns-in-None : goal.returns-in-None
returns-in-None c = beside_alone c.args.path.now c.front_of-front-in-None.result.now c.args.number
    (none_in slash c.args.path.now c.in-None.ensures.cases (omega arith)) c.front_of-front-in-None.ensures
    c.format-in-None.result c.format-in-None.ensures.ok
