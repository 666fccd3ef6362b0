use Rattle.std.proofs.Common.{◌≡◌, ◌∙◌, ◌++◌, ap, sym}
use Rattle.std.specs.Option.{option_map}
use Rattle.tera_tree.specs.Parts.{part_view}
use Rattle.tera_site.specs.Inside.{inside_parts, to_come}
use Rattle.tera_site.specs.Placed.{placed_in}
use Rattle.tera_site.proofs.PlacedLemmas.{put_there}
use Rattle.tera_site.proofs.named.put_inside.Goals as goal

pub returns-in_ok-put_block-in-Some : goal.returns-in_ok-put_block-in-Some
returns-in_ok-put_block-in-Some c =
    let b = option_map (λ b. b.now) c.args.inside.block in
    let rest = inside_parts c.args.inside ++ to_come c.args.left.now.items in
    c.in_ok-put_block-in-Some.ensures ∙ ap (λ p. placed_in b p ++ rest) (sym (c.in-Some.ensures b))

pub returns-in_ok-put_parts-in-None : goal.returns-in_ok-put_parts-in-None
returns-in_ok-put_parts-in-None c =
    let b = option_map (λ b. b.now) c.args.inside.block in
    let rest = inside_parts c.args.inside ++ to_come c.args.left.now.items in
    put_there b (part_view c.args.part) rest (to_come c.put_parts.new.left.items) (c.in-None.ensures b) c.in_ok-put_parts-in-None.ensures
