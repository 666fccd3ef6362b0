use Rattle.std.proofs.Common.{◌∙◌, rules}
use Rattle.std.proofs.lemmas.Iterator.{YieldsList-from_slice}
use Rattle.std.proofs.lemmas.Iterator.Search.{any_from_yields_List}
use Rattle.terminal_text.specs.Edits.{edit_view}
use Rattle.terminal_text.specs.Hunks.{changes}
use Rattle.terminal_text.proofs.Placing.{any_view}
use Rattle.terminal_text.proofs.hunks.has_change.Goals as goal

pub returns : goal.returns
returns c =
    any_from_yields_List (λ e. changes (edit_view e)) _ _ _ c.any.ensures.ran (YieldsList-from_slice c.args.edits.now cc) (λ x b q k. search rules)
    ∙ any_view c.args.edits.now
