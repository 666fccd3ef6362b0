use Rattle.std.proofs.Common.{◌≡◌, ◌||◌, ◌&&◌, not, ℕ, List, map, string_bytes}
use Rattle.std.specs.List.{list_any}
use Rattle.tera_tree.specs.View.{argument_view, definition_view}
use Rattle.tera_rules.specs.Judged.{takes_it}
use Rattle.tera_check.specs.Scopes.{is_hidden, is_named}
use Rattle.tera_check.proofs.parameters.take_implicit.Given as goal

abbrev pub invariant-loop-name : goal.invariant-loop-name
invariant-loop-name l = (n : List ℕ) →
    (is_named l.initial.naming n || not (is_hidden l.hidden.items n) && list_any (takes_it n) (definition_view l.known.definition.now).arguments)
    ≡ (is_named l.naming n || not (is_hidden l.hidden.items n) && list_any (takes_it n) (map (λ a. (string_bytes a.0, argument_view a.1)) l.name-iterator))
