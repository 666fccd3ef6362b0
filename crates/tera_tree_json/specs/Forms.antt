-- The JSON of each form of the tree, from the JSON of its parts.
use Rattle.std.specs.Prelude.{ℕ, List, Bool, Option, None, Some, codes}
use Rattle.json.specs.Json.{Json, null, boolean, string, array, object, Items, Members, no_members, member}
use Rattle.tera_base.specs.declared.utils.Span.{Span}
use Rattle.tera_ast.specs.declared.ast.UnaryOperator.{UnaryOperator}
use Rattle.tera_ast.specs.declared.ast.UnaryOperator.TheVariants as unary
use Rattle.tera_ast.specs.declared.ast.BinaryOperator.{BinaryOperator}
use Rattle.tera_ast.specs.declared.ast.BinaryOperator.TheVariants as binary
use Rattle.tera_tree_json.specs.Constants.{count_json}

-- a place: lines from 1, columns from 0 in characters, and the range in bytes
abbrev pub span_json : Span → Json
span_json s = object (member (codes "start_line") (count_json s.start_line)
    (member (codes "start_col") (count_json s.start_col)
    (member (codes "end_line") (count_json s.end_line)
    (member (codes "end_col") (count_json s.end_col)
    (member (codes "start") (count_json s.range.start)
    (member (codes "end") (count_json s.range.end) no_members))))))

-- an object of this kind
abbrev pub node : List ℕ → Members → Json
node kind fields = object (member (codes "kind") (string kind) fields)

-- the same at a place
abbrev pub placed : List ℕ → Span → Members → Json
placed kind span fields = node kind (member (codes "span") (span_json span) fields)

-- a name that may be there
abbrev pub name_json : Option (List ℕ) → Json
name_json None = null
name_json (Some name) = string name

abbrev pub unary_name : UnaryOperator → List ℕ
unary_name unary.Not = codes "Not"
unary_name unary.Minus = codes "Minus"

abbrev pub binary_name : BinaryOperator → List ℕ
binary_name binary.Mul = codes "Mul"
binary_name binary.Div = codes "Div"
binary_name binary.Mod = codes "Mod"
binary_name binary.Plus = codes "Plus"
binary_name binary.Minus = codes "Minus"
binary_name binary.FloorDiv = codes "FloorDiv"
binary_name binary.Power = codes "Power"
binary_name binary.LessThan = codes "LessThan"
binary_name binary.GreaterThan = codes "GreaterThan"
binary_name binary.LessThanOrEqual = codes "LessThanOrEqual"
binary_name binary.GreaterThanOrEqual = codes "GreaterThanOrEqual"
binary_name binary.Equal = codes "Equal"
binary_name binary.NotEqual = codes "NotEqual"
binary_name binary.And = codes "And"
binary_name binary.Or = codes "Or"
binary_name binary.StrConcat = codes "StrConcat"
binary_name binary.In = codes "In"
binary_name binary.Is = codes "Is"
binary_name binary.Pipe = codes "Pipe"

-- expressions

abbrev pub const_json : Span → Json → Json
const_json span value = placed (codes "Const") span (member (codes "value") value no_members)

abbrev pub array_json : Span → Items → Json
array_json span items = placed (codes "Array") span (member (codes "items") (array items) no_members)

abbrev pub map_json : Span → Items → Json
map_json span entries = placed (codes "Map") span (member (codes "entries") (array entries) no_members)

abbrev pub var_json : Span → List ℕ → Json
var_json span name = placed (codes "Var") span (member (codes "name") (string name) no_members)

abbrev pub get_attr_json : Span → Json → List ℕ → Bool → Json
get_attr_json span expr name optional = placed (codes "GetAttr") span (member (codes "expr") expr
    (member (codes "name") (string name) (member (codes "optional") (boolean optional) no_members)))

abbrev pub get_item_json : Span → Json → Json → Bool → Json
get_item_json span expr sub_expr optional = placed (codes "GetItem") span (member (codes "expr") expr
    (member (codes "sub_expr") sub_expr (member (codes "optional") (boolean optional) no_members)))

abbrev pub slice_json : Span → Json → Json → Json → Json → Bool → Json
slice_json span expr start end step optional = placed (codes "Slice") span (member (codes "expr") expr
    (member (codes "start") start (member (codes "end") end (member (codes "step") step
    (member (codes "optional") (boolean optional) no_members)))))

-- a filter, or a test
abbrev pub call_json : List ℕ → Span → Json → List ℕ → Members → Json
call_json kind span expr name kwargs = placed kind span (member (codes "expr") expr
    (member (codes "name") (string name) (member (codes "kwargs") (object kwargs) no_members)))

abbrev pub ternary_json : Span → Json → Json → Json → Json
ternary_json span expr true_expr false_expr = placed (codes "Ternary") span (member (codes "expr") expr
    (member (codes "true_expr") true_expr (member (codes "false_expr") false_expr no_members)))

abbrev pub comprehension_json : Span → Json → Json → List ℕ → Json → Json → Json
comprehension_json span expr key value target condition = placed (codes "ListComprehension") span
    (member (codes "expr") expr (member (codes "key") key (member (codes "value") (string value)
    (member (codes "target") target (member (codes "condition") condition no_members)))))

abbrev pub component_call_json : Span → List ℕ → Items → Items → Bool → Json
component_call_json span name kwargs body self_closing = placed (codes "ComponentCall") span
    (member (codes "name") (string name) (member (codes "kwargs") (array kwargs)
    (member (codes "body") (array body) (member (codes "self_closing") (boolean self_closing) no_members))))

abbrev pub function_call_json : Span → List ℕ → Members → Json
function_call_json span name kwargs = placed (codes "FunctionCall") span
    (member (codes "name") (string name) (member (codes "kwargs") (object kwargs) no_members))

abbrev pub unary_json : Span → UnaryOperator → Json → Json
unary_json span op expr = placed (codes "UnaryOperation") span
    (member (codes "op") (string (unary_name op)) (member (codes "expr") expr no_members))

abbrev pub binary_json : Span → BinaryOperator → Json → Json → Json
binary_json span op left right = placed (codes "BinaryOperation") span
    (member (codes "op") (string (binary_name op)) (member (codes "left") left
    (member (codes "right") right no_members)))

-- an item of an array, or a spread of an array or a map
abbrev pub part_json : List ℕ → Json → Json
part_json kind expr = node kind (member (codes "expr") expr no_members)

abbrev pub pair_json : Json → Json → Json
pair_json key value = node (codes "KeyValue") (member (codes "key") key (member (codes "value") value no_members))

-- nodes

abbrev pub content_json : List ℕ → Json
content_json text = node (codes "Content") (member (codes "text") (string text) no_members)

abbrev pub shown_json : Json → Json
shown_json expr = node (codes "Expression") (member (codes "expr") expr no_members)

abbrev pub set_json : List ℕ → Json → Bool → Json
set_json name value global = node (codes "Set") (member (codes "name") (string name)
    (member (codes "value") value (member (codes "global") (boolean global) no_members)))

abbrev pub block_set_json : List ℕ → Items → Items → Bool → Json
block_set_json name filters body global = node (codes "BlockSet") (member (codes "name") (string name)
    (member (codes "filters") (array filters) (member (codes "body") (array body)
    (member (codes "global") (boolean global) no_members))))

abbrev pub include_json : Span → List ℕ → Json
include_json span name = placed (codes "Include") span (member (codes "name") (string name) no_members)

abbrev pub block_json : Span → List ℕ → Items → Json
block_json span name body = placed (codes "Block") span
    (member (codes "name") (string name) (member (codes "body") (array body) no_members))

abbrev pub for_json : Json → List ℕ → Json → Items → Items → Json
for_json key value target body else_body = node (codes "ForLoop") (member (codes "key") key
    (member (codes "value") (string value) (member (codes "target") target
    (member (codes "body") (array body) (member (codes "else_body") (array else_body) no_members)))))

-- a branch of an `if`: its condition, and its body
abbrev pub branch_json : Json → Items → Json
branch_json expr body = object (member (codes "expr") expr (member (codes "body") (array body) no_members))

-- the branches of an `if` and of its `elif`s, and the body of the `else`
abbrev pub if_json : Items → Items → Json
if_json branches false_body = node (codes "If") (member (codes "branches") (array branches)
    (member (codes "false_body") (array false_body) no_members))

abbrev pub section_json : Items → Items → Json
section_json filters body = node (codes "FilterSection")
    (member (codes "filters") (array filters) (member (codes "body") (array body) no_members))
