use Rattle.std.proofs.Common.{Some, sym, ap, ◌∙◌}
use Rattle.std.specs.Prelude.{option_copied}
use Rattle.terminal_text.specs.Excerpt.{window_in}
use Rattle.terminal_text.proofs.source.window_in.Goals as goal

pub returns-in-Some : goal.returns-in-Some
returns-in-Some c =
    ap Some c.of.ensures ∙ ap (λ o. window_in o c.args.marked) (ap option_copied (sym c.in-Some.is) ∙ c.line_in.ensures)
