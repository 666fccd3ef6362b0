use Rattle.tera_settings.proofs.ValueLemmas.{TextsFrom}
use Rattle.tera_settings.proofs.section.texts_of.Given as goal

-- the texts so far, and those of the values that are left
abbrev pub invariant-loop-item : goal.invariant-loop-item
invariant-loop-item l = TextsFrom l.item-items l.item-index l.texts.items
