use Rattle.std.proofs.Common.{take}
use Rattle.tera_c.specs.Files.{AreReadFrom}
use Rattle.tera_c.proofs.files.templates_of.Given as goal

abbrev pub invariant-loop-file : goal.invariant-loop-file
invariant-loop-file l = AreReadFrom l.faults (take l.file-index l.files) l.templates.items
