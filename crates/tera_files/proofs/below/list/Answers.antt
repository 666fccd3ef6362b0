use Rattle.tera_files.specs.Names.{texts}
use Rattle.tera_files.proofs.below.list.Goals as goal

pub returns-in-Some : goal.returns-in-Some
returns-in-Some g c = λ top itself is are.
    c.add_unlisted.ensures (texts c.args.extensions.now) top itself is (c.in_ok-add_all.ensures.kept top itself is are)
