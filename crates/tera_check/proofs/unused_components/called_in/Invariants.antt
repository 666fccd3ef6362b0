use Rattle.std.proofs.Common.{◌≡◌, ℕ, List, drop}
use Rattle.std.specs.Prelude.{◌||◌}
use Rattle.std.specs.List.{list_any}
use Rattle.tera_check.specs.UnusedComponents.{is_called, may_be_called, may_call}
use Rattle.tera_check.proofs.unused_components.called_in.Given as goal

-- what may be called is so far, or in one of the templates that are to come
abbrev pub invariant-loop-template : goal.invariant-loop-template
invariant-loop-template l =
    (n : List ℕ) → may_be_called l.template-items n ≡ (is_called l.called n || list_any (may_call n) (drop l.template-index l.template-items))
