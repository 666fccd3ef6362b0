-- When messages have colours.
use Rattle.std.specs.Prelude.{Bool, if◌then◌else◌}
use Rattle.tera_options.specs.declared.colours.Colours.{Colours}
use Rattle.tera_options.specs.declared.colours.Colours.TheVariants.{Auto, Always, Never}
use Rattle.terminal_text.specs.declared.style.Style.{Style}
use Rattle.terminal_text.specs.declared.style.Style.TheVariants.{Plain, Coloured}

-- what was asked for, on a stream that shows colours or does not
abbrev pub style_of : Colours → Bool → Style
style_of Auto shows = if shows then Coloured else Plain
style_of Always shows = Coloured
style_of Never shows = Plain
