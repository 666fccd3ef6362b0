use Rattle.std.proofs.Common.{◌<◌, Bor, List, ℕ, [], get_or, length, map, take, sym, subst}
use Rattle.std.proofs.lemmas.List.{get_or_default}
use Rattle.tera_site.specs.Views.{names_of}
use Rattle.tera_site.proofs.CountLemmas.{names_more}
use Rattle.tera_workspace.specs.Near.{Adds, numbers_in}
use Rattle.tera_workspace.specs.declared.judged.Judged.{Judged}
use Rattle.tera_workspace.proofs.NearSteps.{adds_next}
use Rattle.tera_workspace.proofs.near.put_used.Goals as goal

pub loop-name-preserved : goal.loop-name-preserved
loop-name-preserved c =
    let root = c.args.root.now in
    let below = c.args.below.now.items in
    let numbered = numbers_in root (map (λ (j : Bor Judged). j.now) below) in
    let bs = c.deref-name-items.result.now in
    let at = c.loop-name.name-index in
    let d : Bor (List ℕ) = record { ref_ptr = (0, 0); now = [] } in
    let b = get_or bs at d in
    let within : at < length bs = c.loop-name-test.true in
    let start = c.args.near.now.items in
    let now = c.put_named.new.near.items in
    subst (λ ns. Adds numbered (length below) ns start now) (sym (names_more bs at b within (get_or_default bs at b d within)))
    (adds_next numbered (length below) (names_of (take at bs)) b.now start c.loop-name.near.items now c.loop-name.invariant c.in_ok-put_named.ensures)
