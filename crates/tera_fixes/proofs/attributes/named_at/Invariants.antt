use Rattle.std.proofs.Common.{◌≡◌, drop, map}
use Rattle.tera_ast.specs.View.{entry_view}
use Rattle.tera_fixes.specs.Attributes.{named_at}
use Rattle.tera_fixes.proofs.attributes.named_at.Given as goal

abbrev pub invariant-loop-attribute : goal.invariant-loop-attribute
invariant-loop-attribute l =
    named_at l.byte (map entry_view (drop l.attribute-index l.attribute-items)) ≡ named_at l.byte (map entry_view l.attribute-items)
