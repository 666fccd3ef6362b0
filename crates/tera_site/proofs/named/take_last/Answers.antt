use Rattle.std.proofs.Common.{◌≡◌, ◌∙◌, ◌∷◌, ◌++◌, [], ap, map, sym}
use Rattle.std.specs.List.{flat_map}
use Rattle.std.proofs.lemmas.List.{map_push}
use Rattle.std.specs.Option.{option_map}
use Rattle.tera_rules.proofs.Pending.{emptied}
use Rattle.tera_findings.specs.Findings.{finding_view}
use Rattle.tera_tree.specs.Parts.{part_view, parts_view}
use Rattle.tera_site.specs.Inside.{to_come}
use Rattle.tera_site.specs.Named.{site_part}
use Rattle.tera_site.specs.Placed.{all_placed}
use Rattle.tera_site.specs.Views.{around_view}
use Rattle.tera_site.proofs.PlacedLemmas.{last_first, taken}
use Rattle.tera_site.proofs.named.take_last.Goals as goal

pub returns-in_ok-put_inside-in-Some : goal.returns-in_ok-put_inside-in-Some
returns-in_ok-put_inside-in-Some c =
    let a = around_view c.args.around in
    let left = c.args.left.now.items in
    let inside = c.args.inside in
    let b = option_map (λ b. b.now) inside.block in
    let part = part_view c.in-Some.part in
    let rest = c.pop.new.self.items in
    let start = map finding_view c.args.findings.now.items in
    taken a b part (parts_view rest) (to_come left) (to_come c.put_inside.new.left.items) start
    (map finding_view c.push_part.new.findings.items) c.in_ok-push_part-in-Some.ensures c.in_ok-put_inside-in-Some.ensures
    ∙ ap (λ ps. start ++ flat_map (site_part a) ps)
    (ap (λ ps. all_placed b ps ++ to_come left) (sym (ap parts_view c.in-Some.ensures.items ∙ map_push part_view rest c.in-Some.part))
    ∙ sym (last_first left inside))

pub returns-in-None : goal.returns-in-None
returns-in-None c =
    let a = around_view c.args.around in
    let left = c.args.left.now.items in
    let inside = c.args.inside in
    let b = option_map (λ b. b.now) inside.block in
    let start = map finding_view c.args.findings.now.items in
    ap (λ ps. start ++ flat_map (site_part a) ps)
    (sym (last_first left inside
    ∙ ap (λ ps. all_placed b (parts_view ps) ++ to_come left)
    (emptied inside.parts.items c.pop.new.self.items _ c.in-None.ensures.cases.0 c.in-None.ensures.items c.in-None.ensures.rest)))
