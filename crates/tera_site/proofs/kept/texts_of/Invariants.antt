use Rattle.std.proofs.Common.{◌≡◌, map, string_bytes, take}
use Rattle.tera_site.specs.Views.{names_of}
use Rattle.tera_site.proofs.kept.texts_of.Given as goal

abbrev pub invariant-loop-text : goal.invariant-loop-text
invariant-loop-text l = names_of l.texts.items ≡ map string_bytes (take l.text-index l.text-items)
