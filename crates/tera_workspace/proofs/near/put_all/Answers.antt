use Rattle.std.proofs.Common.{◌∙◌, ◌∷◌, ◌++◌, ℕ, Bor, List, [], append_assoc, length, map, ap, sym}
use Rattle.tera_workspace.specs.Near.{numbers_in}
use Rattle.tera_workspace.specs.declared.judged.Judged.{Judged}
use Rattle.tera_workspace.proofs.NearSteps.{adds_next}
use Rattle.tera_workspace.proofs.near.put_all.Goals as goal

pub loop-name-preserved : goal.loop-name-preserved
loop-name-preserved c =
    let b = c.in-Some.name.now in
    let (done, split, adds) = c.loop-name.invariant in (
      done ++ b.now ∷ [],
      append_assoc done (b.now ∷ []) (map (λ (n : Bor (List ℕ)). n.now) c.next.new.self) ∙ ap (λ ks. done ++ map (λ (n : Bor (List ℕ)). n.now) ks) (sym c.in-Some.ensures.steps) ∙ split,
      adds_next (numbers_in c.args.root.now (map (λ (j : Bor Judged). j.now) c.args.below.now.items)) (length c.args.below.now.items) done b.now c.args.near.now.items c.loop-name.near.items
          c.put_named.new.near.items adds c.in_ok-put_named.ensures,
    )
