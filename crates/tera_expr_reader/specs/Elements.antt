-- The elements of arrays and maps, and the parts of a comprehension.
use Rattle.std.specs.Prelude.{◌≡◌, Bool, Option}
use Rattle.tera_base.specs.ValueView.{key_view}
use Rattle.tera_ast.specs.View.{expression_view, maybe_view}
use Rattle.tera_ast.specs.declared.ast.ArrayEntryOf.{ArrayEntryOf}
use Rattle.tera_ast.specs.declared.ast.ArrayEntryOf.TheVariants as items
use Rattle.tera_ast.specs.declared.ast.MapEntryOf.{MapEntryOf}
use Rattle.tera_ast.specs.declared.ast.MapEntryOf.TheVariants as entries
use Rattle.tera_ast.specs.declared.ast.Expression.{Expression}
use Rattle.tera_grammar.specs.expressions.Concrete.{Extra, Element, plain, spread, pair}
use Rattle.tera_grammar.specs.expressions.Output.{key_of, output, extra_output}

-- an item of an array, and an entry of a map, as an element of a row
abbrev pub IsItem : Bool → ArrayEntryOf Expression → Element → Type 0
IsItem l (items.Item e) (plain t) = expression_view e ≡ output l t
IsItem l (items.Spread e) (spread s t) = expression_view e ≡ output l t
IsItem l _ _ = ⊥

abbrev pub IsEntry : Bool → MapEntryOf Expression → Element → Type 0
IsEntry l (entries.KeyValue k e) (pair x s t u) = (key_view k ≡ key_of x) × (expression_view e ≡ output l u)
IsEntry l (entries.Spread e) (spread s t) = expression_view e ≡ output l t
IsEntry l _ _ = ⊥

-- an expression after a mark of its own, or none
abbrev pub IsExtra : Bool → Option Expression → Extra → Type 0
IsExtra l e x = maybe_view e ≡ extra_output l x
