-- What some nodes stand for.
use Rattle.std.proofs.Common.{◌≡◌, String, Global, string_bytes, rules}
use Rattle.tera_base.specs.Spanned.{node_of, span_of}
use Rattle.tera_ast.specs.Tree as tree
use Rattle.tera_ast.specs.View.{node_view}
use Rattle.tera_ast.specs.declared.ast.Expression.{the_lemmas}
use Rattle.tera_ast.specs.declared.ast.Include.{Include}
use Rattle.tera_ast.specs.declared.ast.Node as nodes

pub view_content : (s : String Global) → node_view (nodes.Content s) ≡ tree.Content (string_bytes s)
view_content s = search (rules, the_lemmas)

pub view_include : (i : Include) → node_view (nodes.Include i) ≡ tree.Include (string_bytes (node_of i.name)) (span_of i.name)
view_include i = search (rules, the_lemmas)

pub view_continue : node_view nodes.Continue ≡ tree.Continue
view_continue = search (rules, the_lemmas)
