use Rattle.std.proofs.Common.{◌≡◌, drop, map}
use Rattle.std.specs.List.{list_any}
use Rattle.tera_ast.specs.View.{entry_view}
use Rattle.tera_fixes.specs.Attributes.{is_named}
use Rattle.tera_fixes.proofs.attributes.passes.Given as goal

abbrev pub invariant-loop-attribute : goal.invariant-loop-attribute
invariant-loop-attribute l =
    list_any (is_named l.name) (map entry_view (drop l.attribute-index l.attribute-items)) ≡ list_any (is_named l.name) (map entry_view l.attribute-items)
