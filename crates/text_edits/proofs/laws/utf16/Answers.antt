use Rattle.std.proofs.Common.{◌∙◌, chars}
use Rattle.text_edits.specs.declared.positions.Encoding.TheVariants.{Utf16}
use Rattle.text_edits.proofs.Widths.{units_are, utf16_width}
use Rattle.text_edits.proofs.laws.utf16.Goals as goal

pub returns : goal.returns
returns c text is = units_are Utf16 text is ∙ utf16_width (chars text)
