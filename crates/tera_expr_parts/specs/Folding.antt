-- Items and entries that are constants.
use Rattle.std.specs.Prelude.{Bool, true, false, List, [], ◌∷◌, Option, Some, None}
use Rattle.tera_base.specs.Values.{Val, Pairs}
use Rattle.tera_base.specs.ValueView.{key_view}
use Rattle.tera_ast.specs.Tree as tree
use Rattle.tera_ast.specs.Tree.{Expr}
use Rattle.tera_ast.specs.declared.ast.ArrayEntryOf.{ArrayEntryOf}
use Rattle.tera_ast.specs.declared.ast.ArrayEntryOf.TheVariants as items
use Rattle.tera_ast.specs.declared.ast.MapEntryOf.{MapEntryOf}
use Rattle.tera_ast.specs.declared.ast.MapEntryOf.TheVariants as entries
use Rattle.tera_grammar.specs.expressions.Output.{put_pair}

-- the value of a constant
abbrev pub constant_of : Expr → Option Val
constant_of (tree.Const v s) = Some v
constant_of _ = None

abbrev pub option_list : {A : Type 0} → Option A → List A
option_list (Some x) = x ∷ []
option_list None = []

-- the value of a constant item, alone
abbrev pub item_values : ArrayEntryOf Expr → List Val
item_values (items.Item e) = option_list (constant_of e)
item_values (items.Spread e) = []

abbrev pub is_constant_item : ArrayEntryOf Expr → Bool
is_constant_item (items.Item (tree.Const v s)) = true
is_constant_item _ = false

-- the pair of a constant entry, put to those that are there
abbrev pub put_entry : Pairs → MapEntryOf Expr → Pairs
put_entry ps (entries.KeyValue k (tree.Const v s)) = put_pair (key_view k) v ps
put_entry ps _ = ps

abbrev pub is_constant_entry : MapEntryOf Expr → Bool
is_constant_entry (entries.KeyValue k (tree.Const v s)) = true
is_constant_entry _ = false
