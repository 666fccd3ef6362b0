-- A tree, level by level.
use Rattle.std.proofs.Common.{◌≡◌, string_bytes, ◌∙◌, rules}
use Rattle.tera_base.specs.Spanned.{node_of, span_of}
use Rattle.tera_base.specs.ValueView.{value_view}
use Rattle.tera_base.specs.declared.utils.Span.{Span}
use Rattle.tera_base.specs.declared.utils.Spanned.{Spanned}
use Rattle.tera_base.specs.declared.values.Value.{Value}
use Rattle.tera_ast.specs.Tree as tree
use Rattle.tera_ast.specs.View.{expression_view, node_view, call_view, block_set_view, for_view, if_view, section_view, name_view, maybe_view, filters_view, args_view, items_view, entries_view, nodes_view}
use Rattle.tera_ast.specs.declared.ast.Expression.{Expression, Const, Array, Map, Var, GetAttr, GetItem, Slice, Filter, Test, Ternary, ListComprehension, ComponentCall, FunctionCall, UnaryOperation, BinaryOperation, the_lemmas}
use Rattle.tera_ast.specs.declared.ast.Node as nodes
use Rattle.tera_ast.specs.declared.ast.Node.{Node}
use Rattle.tera_ast.specs.declared.ast.Var.{Var as VarNode}
use Rattle.tera_ast.specs.declared.ast.ComponentCall.{ComponentCall as Call, out-ComponentCall}
use Rattle.tera_ast.specs.declared.ast.BlockSet.{BlockSet, out-BlockSet}
use Rattle.tera_ast.specs.declared.ast.ForLoop.{ForLoop, out-ForLoop}
use Rattle.tera_ast.specs.declared.ast.If.{If, out-If}
use Rattle.tera_ast.specs.declared.ast.FilterSection.{FilterSection, out-FilterSection}
use Rattle.tera_ast.specs.declared.ast.ArrayOf.{ArrayOf}
use Rattle.tera_ast.specs.declared.ast.MapOf.{MapOf}
use Rattle.tera_ast.specs.declared.ast.GetAttrOf.{GetAttrOf}
use Rattle.tera_ast.specs.declared.ast.GetItemOf.{GetItemOf}
use Rattle.tera_ast.specs.declared.ast.SliceOf.{SliceOf}
use Rattle.tera_ast.specs.declared.ast.FilterOf.{FilterOf}
use Rattle.tera_ast.specs.declared.ast.TestOf.{TestOf}
use Rattle.tera_ast.specs.declared.ast.TernaryOf.{TernaryOf}
use Rattle.tera_ast.specs.declared.ast.ListComprehensionOf.{ListComprehensionOf}
use Rattle.tera_ast.specs.declared.ast.FunctionCallOf.{FunctionCallOf}
use Rattle.tera_ast.specs.declared.ast.UnaryOperationOf.{UnaryOperationOf}
use Rattle.tera_ast.specs.declared.ast.BinaryOperationOf.{BinaryOperationOf}
use Rattle.tera_ast.specs.declared.ast.SetOf.{SetOf}
use Rattle.tera_ast.specs.declared.ast.BlockOf.{BlockOf}

pub view_const : (s : Spanned Value) → expression_view (Const s) ≡ tree.Const (value_view (node_of s)) (span_of s)
view_const s = search (rules, the_lemmas)

pub view_array : (s : Spanned (ArrayOf Expression)) → expression_view (Array s) ≡ tree.Array (items_view (node_of s).items.items) (span_of s)
view_array s = search (rules, the_lemmas)

pub view_var : (s : Spanned VarNode) → expression_view (Var s) ≡ tree.Var (string_bytes (node_of s).name) (span_of s)
view_var s = search (rules, the_lemmas)

pub view_get_attr : (s : Spanned (GetAttrOf Expression)) → expression_view (GetAttr s) ≡ tree.GetAttr (expression_view (node_of s).expr) (string_bytes (node_of s).name) (node_of s).optional (span_of s)
view_get_attr s = search (rules, the_lemmas)

pub view_get_item : (s : Spanned (GetItemOf Expression)) → expression_view (GetItem s) ≡ tree.GetItem (expression_view (node_of s).expr) (expression_view (node_of s).sub_expr) (node_of s).optional (span_of s)
view_get_item s = search (rules, the_lemmas)

pub view_slice : (s : Spanned (SliceOf Expression)) → expression_view (Slice s) ≡ tree.Slice (expression_view (node_of s).expr) (maybe_view (node_of s).start) (maybe_view (node_of s).end) (maybe_view (node_of s).step) (node_of s).optional (span_of s)
view_slice s = search (rules, the_lemmas)

pub view_filter : (s : Spanned (FilterOf Expression)) → expression_view (Filter s) ≡ tree.Filter (expression_view (node_of s).expr) (string_bytes (node_of s).name) (args_view (node_of s).kwargs.entries) (span_of s)
view_filter s = search (rules, the_lemmas)

pub view_test : (s : Spanned (TestOf Expression)) → expression_view (Test s) ≡ tree.Test (expression_view (node_of s).expr) (string_bytes (node_of s).name) (args_view (node_of s).kwargs.entries) (span_of s)
view_test s = search (rules, the_lemmas)

pub view_ternary : (s : Spanned (TernaryOf Expression)) → expression_view (Ternary s) ≡ tree.Ternary (expression_view (node_of s).expr) (expression_view (node_of s).true_expr) (expression_view (node_of s).false_expr) (span_of s)
view_ternary s = search (rules, the_lemmas)

pub view_comprehension : (s : Spanned (ListComprehensionOf Expression)) → expression_view (ListComprehension s) ≡ tree.ListComprehension (expression_view (node_of s).expr) (name_view (node_of s).key) (string_bytes (node_of s).value) (expression_view (node_of s).target) (maybe_view (node_of s).condition) (span_of s)
view_comprehension s = search (rules, the_lemmas)

pub view_function_call : (s : Spanned (FunctionCallOf Expression)) → expression_view (FunctionCall s) ≡ tree.FunctionCall (string_bytes (node_of s).name) (args_view (node_of s).kwargs.entries) (span_of s)
view_function_call s = search (rules, the_lemmas)

pub view_unary : (s : Spanned (UnaryOperationOf Expression)) → expression_view (UnaryOperation s) ≡ tree.UnaryOperation (node_of s).op (expression_view (node_of s).expr) (span_of s)
view_unary s = search (rules, the_lemmas)

pub view_binary : (s : Spanned (BinaryOperationOf Expression)) → expression_view (BinaryOperation s) ≡ tree.BinaryOperation (node_of s).op (expression_view (node_of s).left) (expression_view (node_of s).right) (span_of s)
view_binary s = search (rules, the_lemmas)

pub view_map : (s : Spanned (MapOf Expression)) → expression_view (Map s) ≡ tree.Map (entries_view (node_of s).entries.items) (span_of s)
view_map s = search (rules, the_lemmas)

pub view_component_call : (s : Spanned Call) → expression_view (ComponentCall s) ≡ call_view (node_of s) (span_of s)
view_component_call s = search (rules, the_lemmas)

pub view_set : (s : SetOf Expression) → node_view (nodes.Set s) ≡ tree.Set (string_bytes s.name) (expression_view s.value) s.global
view_set s = search (rules, the_lemmas)

pub view_block : (s : BlockOf Node) → node_view (nodes.Block s) ≡ tree.Block (string_bytes (node_of s.name)) (span_of s.name) (nodes_view s.body.items)
view_block s = search (rules, the_lemmas)

pub view_block_set : (s : BlockSet) → node_view (nodes.BlockSet s) ≡ block_set_view s
view_block_set s = search (rules, the_lemmas)

pub view_for : (s : ForLoop) → node_view (nodes.ForLoop s) ≡ for_view s
view_for s = search (rules, the_lemmas)

pub view_if : (s : If) → node_view (nodes.If s) ≡ if_view s
view_if s = search (rules, the_lemmas)

pub view_section : (s : FilterSection) → node_view (nodes.FilterSection s) ≡ section_view s
view_section s = search (rules, the_lemmas)

pub call_out : (c : Call) (span : Span) → call_view c span ≡ tree.ComponentCall (string_bytes (out-ComponentCall c).name) (entries_view (out-ComponentCall c).kwargs.items) (nodes_view (out-ComponentCall c).body.items) (out-ComponentCall c).self_closing span
call_out c span = search (rules, the_lemmas)

pub block_set_out : (b : BlockSet) → block_set_view b ≡ tree.BlockSet (string_bytes (out-BlockSet b).name) (filters_view (out-BlockSet b).filters.items) (nodes_view (out-BlockSet b).body.items) (out-BlockSet b).global
block_set_out b = search (rules, the_lemmas)

pub for_out : (f : ForLoop) → for_view f ≡ tree.ForLoop (name_view (out-ForLoop f).key) (string_bytes (out-ForLoop f).value) (expression_view (out-ForLoop f).target) (nodes_view (out-ForLoop f).body.items) (nodes_view (out-ForLoop f).else_body.items)
for_out f = search (rules, the_lemmas)

pub if_out : (i : If) → if_view i ≡ tree.If (expression_view (out-If i).expr) (nodes_view (out-If i).body.items) (nodes_view (out-If i).false_body.items)
if_out i = search (rules, the_lemmas)

pub section_out : (s : FilterSection) → section_view s ≡ tree.FilterSection (filters_view (out-FilterSection s).filters.items) (nodes_view (out-FilterSection s).body.items)
section_out s = search (rules, the_lemmas)

pub view_shown : (e : Expression) → node_view (nodes.Expression e) ≡ tree.Shown (expression_view e)
view_shown e = search (rules, the_lemmas)

pub view_call : (s : Spanned Call) → expression_view (ComponentCall s) ≡ tree.ComponentCall (string_bytes (out-ComponentCall (node_of s)).name) (entries_view (out-ComponentCall (node_of s)).kwargs.items) (nodes_view (out-ComponentCall (node_of s)).body.items) (out-ComponentCall (node_of s)).self_closing (span_of s)
view_call s = view_component_call s ∙ call_out (node_of s) (span_of s)
