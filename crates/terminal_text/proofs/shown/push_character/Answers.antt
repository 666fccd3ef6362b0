use Rattle.std.proofs.Common.{◌≡◌, sym, codes, refl}
use Rattle.terminal_text.specs.Shown.{columns}
use Rattle.unicode_width.specs.Width.{char_width}
use Rattle.terminal_text.proofs.shown.push_character.Goals as goal

four : columns (codes "    ") ≡ 4
unfolding char_width
four = refl

pub returns-then-character-eq9-clause-columns : goal.returns-then-character-eq9-clause-columns
returns-then-character-eq9-clause-columns c = rw c.if-character-eq9.true (sym four)
