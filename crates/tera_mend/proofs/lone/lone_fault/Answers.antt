use Rattle.std.proofs.Common.{string_bytes}
use Rattle.tera_mend.specs.Lone.{IsFaultOf}
use Rattle.tera_mend.specs.Places.{AreInPlace}
use Rattle.tera_mend.proofs.Alone.{placed_lone}
use Rattle.tera_mend.proofs.lone.lone_fault.Goals as goal

pub returns : goal.returns
returns c =
    let found : IsFaultOf c.args.file.now c.args.tag.now c.in-Some.error = rw c.in-Some.is at c.in_ok-error.ensures in
    let are : AreInPlace c.args.tag.now (string_bytes c.in-Some-2.written) = rw c.in-Some-2.is at c.in_ok-written.ensures in
    placed_lone _ _ _ _ c.in-Some.error (string_bytes c.in-Some-2.written) c.placed.result found are c.placed.ensures
