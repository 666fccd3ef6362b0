use Rattle.std.proofs.Common.{◌≡◌, ◌∙◌, ◌∷◌, ◌++◌, [], List, Some, ap, string_bytes}
use Rattle.tera_base.specs.Spanned.{node_of}
use Rattle.tera_ast.specs.View.{nodes_view}
use Rattle.tera_site.specs.Inside.{inside_parts, to_come}
use Rattle.tera_site.specs.Placed.{PlacedVal, placed_nodes}
use Rattle.tera_site.specs.declared.named.Inside.{Inside}
use Rattle.tera_site.proofs.PlacedLemmas.{last_first}
use Rattle.tera_site.proofs.named.put_block.Goals as goal

pub returns : goal.returns
returns c =
    let left : List Inside = c.args.left.now.items in
    let inside : Inside = c.args.inside in
    let made : Inside = c.in_ok-inside_block.field-0 in
    let block = c.args.block.now in
    let here : List PlacedVal = placed_nodes (Some (string_bytes (node_of block.name))) (nodes_view block.body.items) in
    ap to_come (c.in_ok-push-2.ensures.items ∙ ap (λ ss. ss ++ made ∷ []) c.in_ok-push.ensures.items)
    ∙ last_first (left ++ inside ∷ []) made
    ∙ ap (λ ps. ps ++ to_come (left ++ inside ∷ [])) c.in_ok-inside_block.ensures
    ∙ ap (λ ps. here ++ ps) (last_first left inside)
