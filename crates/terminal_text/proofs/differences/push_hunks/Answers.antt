use Rattle.std.proofs.Common.{◌∙◌, map, sym, ap, subst}
use Rattle.std.specs.List.{AllByRecursion}
use Rattle.terminal_text.specs.Edits.{edit_view}
use Rattle.terminal_text.specs.Hunks.{placed_view, cut_hunks, Fits}
use Rattle.terminal_text.proofs.Hunked.{hunks_fit}
use Rattle.terminal_text.proofs.differences.push_hunks.Goals as goal

pub push_cut-requires : goal.push_cut-requires
push_cut-requires c =
    subst (λ l. AllByRecursion Fits (cut_hunks l))
    (sym (ap (map placed_view) c.as_slice.ensures.value ∙ c.in_ok-placed.ensures))
    (hunks_fit (map edit_view c.args.edits.now) c.requires.old c.requires.new)
