use Rattle.std.proofs.Common.{◌≡◌, ◌∙◌, ◌∷◌, ◌++◌, [], ap, append_assoc}
use Rattle.std.specs.Option.{option_map}
use Rattle.tera_tree.specs.Parts.{children, part_view, parts_view}
use Rattle.tera_site.specs.Inside.{to_come}
use Rattle.tera_site.specs.Placed.{all_placed}
use Rattle.tera_site.specs.declared.named.Inside.{Inside}
use Rattle.tera_site.proofs.PlacedLemmas.{last_first, turned}
use Rattle.tera_site.proofs.named.put_parts.Goals as goal

pub returns : goal.returns
returns c =
    let left = c.args.left.now.items in
    let inside : Inside = c.args.inside in
    let b = option_map (λ b. b.now) inside.block in
    let old = parts_view inside.parts.items in
    let inner = children (part_view c.args.part) in
    let more : Inside = record { block = inside.block; parts = c.push_inside.new.parts } in
    ap to_come c.in_ok-push.ensures.items
    ∙ last_first left more
    ∙ ap (λ ps. ps ++ to_come left) (ap (all_placed b) c.in_ok-push_inside.ensures ∙ turned b old inner)
    ∙ append_assoc (all_placed b inner) (all_placed b old) (to_come left)
