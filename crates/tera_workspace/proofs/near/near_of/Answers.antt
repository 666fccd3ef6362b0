use Rattle.std.proofs.Common.{◌≡◌, ◌∙◌, ◌∷◌, ◌++◌, ◌<◌, [], Bor, List, length, map, Some, ap, sym, arith}
use Rattle.std.specs.BTreeSet.{keys}
use Rattle.std.specs.Prelude.{slice_get}
use Rattle.std.proofs.lemmas.List.{get_or_read}
use Rattle.tera_site.specs.Kept.{kept_page}
use Rattle.tera_site.specs.Sites.{used_names}
use Rattle.tera_workspace.specs.KeptSites.{said_in}
use Rattle.tera_workspace.specs.Names.{contains_name}
use Rattle.tera_workspace.specs.declared.judged.Judged.{Judged}
use Rattle.tera_workspace.proofs.NearSteps.{as_many_said, at_index, name_key, near_begun, near_ended, near_more}
use Rattle.tera_workspace.proofs.RenewedLemmas.{viewed}
use Rattle.tera_workspace.proofs.near.near_of.Goals as goal

abbrev now_of : List (Bor Judged) → List Judged
now_of below = map (λ (j : Bor Judged). j.now) below

pub loop-number-init : goal.loop-number-init
loop-number-init c =
    let below = c.args.below.now.items in
    let names = c.args.names.now in
    near_begun c.args.root.now (map said_in (now_of below)) c.args.at (length below) (used_names (kept_page c.args.before.now)) (map (λ n. n.now) (keys names)) (contains_name names)
    c.push.new.self.items c.put_used.new.near.items c.put_all.new.near.items
    (sym (as_many_said below)) c.requires.within (c.in_ok-push.ensures.items ∙ ap (λ xs. xs ++ c.args.at ∷ []) c.new-near.ensures.items) (c.in_ok-put_used.ensures c.if-not-branch.false) c.in_ok-put_all.ensures
    (name_key names)

pub returns-then-len-number : goal.returns-then-len-number
returns-then-len-number c =
    let below = c.args.below.now.items in
    near_ended c.args.root.now (map said_in (now_of below)) c.args.at (used_names (kept_page c.args.before.now)) (contains_name c.args.names.now) c.loop-number.number c.loop-number.near.items (omega arith) c.loop-number.invariant

pub index-requires : goal.index-requires
index-requires c =
    let below = c.args.below.now.items in
    let near = c.loop-number.near.items in
    let at = c.loop-number.number in
    let next = c.index-next.result.now in
    let in_near : at < length near = omega arith in
    let w = c.loop-number.invariant.right.within at next (at_index near at next in_near (get_or_read near at next in_near c.index-next.ensures next)) in
    let l = as_many_said below in
    omega (arith, w, l)

pub loop-number-preserved : goal.loop-number-preserved
loop-number-preserved c =
    let root = c.args.root.now in
    let below = c.args.below.now.items in
    let saids = map said_in (now_of below) in
    let near = c.loop-number.near.items in
    let at = c.loop-number.number in
    let next = c.index-next.result.now in
    let b = c.index.result.now in
    let in_near : at < length near = omega arith in
    let here : slice_get near at ≡ Some next = at_index near at next in_near (get_or_read near at next in_near c.index-next.ensures next) in
    let in_below : next < length below = (let w = c.loop-number.invariant.right.within at next here in let l = as_many_said below in omega (arith, w, l)) in
    let says : slice_get saids next ≡ Some (said_in b.now) =
    viewed said_in (now_of below) next b.now (viewed (λ (j : Bor Judged). j.now) below next b (at_index below next b in_below (get_or_read below next b in_below c.index.ensures b))) in
    near_more root saids c.args.at (length below) (used_names (kept_page c.args.before.now)) (contains_name c.args.names.now) at next (said_in b.now) near c.put_used-in-loop-number.new.near.items (sym (as_many_said below)) here says
    c.loop-number.invariant (c.in_ok-put_used-2.ensures c.if-not-branch-2.false)
