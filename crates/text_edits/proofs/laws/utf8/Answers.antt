use Rattle.std.proofs.Common.{◌∙◌, ap, length, chars}
use Rattle.text_edits.specs.declared.positions.Encoding.TheVariants.{Utf8}
use Rattle.std.proofs.lemmas.Str.{encodes-chars}
use Rattle.text_edits.proofs.Widths.{units_are, utf8_width}
use Rattle.text_edits.proofs.laws.utf8.Goals as goal

pub returns : goal.returns
returns c text is = units_are Utf8 text is ∙ utf8_width (chars text) ∙ ap length (encodes-chars text is)
