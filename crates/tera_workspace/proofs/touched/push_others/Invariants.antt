use Rattle.std.proofs.Common.{◌≡◌, ℕ, List, drop, map, false, string_bytes}
use Rattle.tera_tree.specs.View.{definition_view}
use Rattle.tera_workspace.specs.Heads.{definition_named, HaveOneHeadIfAny}
use Rattle.tera_workspace.specs.Names.{is_among}
use Rattle.tera_workspace.proofs.touched.push_others.Given as goal

abbrev pub invariant-loop-at : goal.invariant-loop-at
invariant-loop-at l =
    (n : List ℕ) → is_among n (map string_bytes l.touched.items) ≡ false
    → HaveOneHeadIfAny (definition_named n (map definition_view (drop l.at l.before))) (definition_named n (map definition_view (drop l.at l.after)))
    → HaveOneHeadIfAny (definition_named n (map definition_view l.before)) (definition_named n (map definition_view l.after))
