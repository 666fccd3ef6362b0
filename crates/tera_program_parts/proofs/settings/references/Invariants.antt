use Rattle.std.proofs.Common.{◌≡◌, map, string_bytes, take}
use Rattle.tera_files.specs.Names.{texts}
use Rattle.tera_program_parts.proofs.settings.references.Given as goal

-- the references so far
abbrev pub invariant-loop-text : goal.invariant-loop-text
invariant-loop-text l = texts l.words.items ≡ map string_bytes (take l.text-index l.text-items)
