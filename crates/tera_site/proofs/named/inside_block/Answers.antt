use Rattle.std.proofs.Common.{◌≡◌, ◌∙◌, ◌++◌, Some, ap, string_bytes}
use Rattle.tera_base.specs.Spanned.{node_of}
use Rattle.tera_ast.specs.View.{nodes_view}
use Rattle.tera_tree.specs.Parts.{parts_of_nodes, parts_view}
use Rattle.tera_site.specs.Placed.{all_placed}
use Rattle.tera_site.proofs.PlacedLemmas.{in_made}
use Rattle.tera_site.proofs.named.inside_block.Goals as goal

pub returns : goal.returns
returns c =
    let block = c.args.block.now in
    let ns = nodes_view block.body.items in
    let ps = parts_view c.push_nodes.new.parts.items in
    let name : c.as_str.result.now ≡ string_bytes (node_of block.name) = c.as_str.ensures.value ∙ ap string_bytes c.node.ensures in
    let made : ps ≡ parts_of_nodes ns = c.in_ok-push_nodes.ensures ∙ ap (λ xs. parts_view xs ++ parts_of_nodes ns) c.new-parts.ensures.items in
    ap (λ n. all_placed (Some n) ps) name ∙ in_made (Some (string_bytes (node_of block.name))) ns ps made
