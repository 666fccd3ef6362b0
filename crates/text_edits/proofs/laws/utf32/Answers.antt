use Rattle.std.proofs.Common.{◌∙◌, chars}
use Rattle.text_edits.specs.declared.positions.Encoding.TheVariants.{Utf32}
use Rattle.text_edits.proofs.Widths.{units_are, utf32_width}
use Rattle.text_edits.proofs.laws.utf32.Goals as goal

pub returns : goal.returns
returns c text is = units_are Utf32 text is ∙ utf32_width (chars text)
