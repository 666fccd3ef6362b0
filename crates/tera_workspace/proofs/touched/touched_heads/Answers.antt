use Rattle.std.proofs.Common.{◌∙◌, map, string_bytes, sym, ap, subst}
use Rattle.tera_tree.specs.View.{definition_view}
use Rattle.tera_templates.specs.Templates.{definitions_of}
use Rattle.tera_workspace.specs.Heads.{definition_named, HaveOneHeadIfAny}
use Rattle.tera_workspace.specs.Names.{is_among}
use Rattle.tera_workspace.proofs.TouchedLemmas.{all_pushed}
use Rattle.tera_workspace.proofs.touched.touched_heads.Goals as goal
use Rattle.tera_workspace.proofs.touched.touched_heads.Goals.{then-before-after+in_ok-push_others, else-before-after+in_ok-push_defined+in_ok-push_defined-2}

pub returns : goal.returns
returns c = λ n free.
    let before = map definition_view c.definitions_of-before.result.now in
    let after = map definition_view c.definitions_of-after.result.now in
    let agree : HaveOneHeadIfAny (definition_named n before) (definition_named n after) = elim c.if-before-after.branch [
      | then-before-after+in_ok-push_others w ↦ w.in_ok-push_others.ensures n (sym (ap (λ t. is_among n (map string_bytes t.items)) w.touched-is) ∙ free)
      | else-before-after+in_ok-push_defined+in_ok-push_defined-2 w ↦
          w.differing_heads.ensures n (all_pushed n (map definition_view w.differing_heads.result.0.now) (map definition_view w.differing_heads.result.1.now)
          (map string_bytes c.new-touched.result.items) (map string_bytes w.push_defined.new.names.items) (map string_bytes c.if-before-after.touched.items)
          (ap (map string_bytes) c.new-touched.ensures.items) w.in_ok-push_defined.ensures (ap (λ t. map string_bytes t.items) w.touched-is ∙ w.in_ok-push_defined-2.ensures) free)
    ] in
    subst (λ ds. HaveOneHeadIfAny (definition_named n ds) (definition_named n (definitions_of c.args.new.now))) c.definitions_of-before.ensures
    (subst (λ es. HaveOneHeadIfAny (definition_named n before) (definition_named n es)) c.definitions_of-after.ensures agree)
