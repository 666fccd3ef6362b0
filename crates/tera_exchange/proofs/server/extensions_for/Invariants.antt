use Rattle.std.proofs.Common.{◌≡◌, map, string_bytes, take}
use Rattle.tera_files.specs.Names.{texts}
use Rattle.tera_exchange.proofs.server.extensions_for.Given as goal

-- the references so far
abbrev pub invariant-loop-extension : goal.invariant-loop-extension
invariant-loop-extension l = texts l.extensions.items ≡ map string_bytes (take l.extension-index l.extension-items)
