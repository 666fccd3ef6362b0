use Rattle.std.proofs.Common.{◌≡◌, ◌++◌, drop}
use Rattle.std.specs.List.{flat_map}
use Rattle.tera_catalogue.specs.Pages.{section_of}
use Rattle.tera_catalogue.proofs.pages.push_sections.Given as goal

abbrev pub invariant-loop-component : goal.invariant-loop-component
invariant-loop-component l =
    l.initial.page.items ++ flat_map section_of l.components ≡ l.page.items ++ flat_map section_of (drop l.component-index l.components)
