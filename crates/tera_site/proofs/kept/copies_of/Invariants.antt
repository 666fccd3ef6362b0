use Rattle.std.proofs.Common.{◌≡◌, map, string_bytes, take}
use Rattle.tera_site.specs.Views.{names_of}
use Rattle.tera_site.proofs.kept.copies_of.Given as goal

abbrev pub invariant-loop-text : goal.invariant-loop-text
invariant-loop-text l = map string_bytes l.copies.items ≡ names_of (take l.text-index l.text-items)
