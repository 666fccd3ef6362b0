-- A call with a body that is shown.
use Rattle.std.proofs.Common.{◌≡◌, ℕ, List, ◌++◌, false, codes, string_bytes, refl}
use Rattle.tera_base.specs.Spanned.{node_of}
use Rattle.tera_base.specs.declared.utils.Spanned.{Spanned}
use Rattle.tera_ast.specs.View.{expression_view, entries_view, nodes_view}
use Rattle.tera_ast.specs.Text.{call_text, entries_text}
use Rattle.tera_ast.specs.declared.ast.Expression.{ComponentCall}
use Rattle.tera_ast.specs.declared.ast.ComponentCall.{ComponentCall as Call, out-ComponentCall}
use Rattle.tera_ast.proofs.Views.{view_call}
use Rattle.tera_tree_text.specs.TreeText.{line, deeper, shown_text, nodes_text}

pub shown_open : (s : Spanned Call) (indent : List ℕ) → (out-ComponentCall (node_of s)).self_closing ≡ false
    → shown_text indent (expression_view (ComponentCall s))
    ≡ line indent (codes "call <" ++ (call_text (string_bytes (out-ComponentCall (node_of s)).name) (entries_text false (entries_view (out-ComponentCall (node_of s)).kwargs.items)) ++ codes ">"))
    ++ nodes_text (codes "if ") (deeper indent) (nodes_view (out-ComponentCall (node_of s)).body.items)
shown_open s indent has = rw (view_call s, has) refl
