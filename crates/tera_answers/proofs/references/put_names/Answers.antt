use Rattle.std.proofs.Common.{◌≡◌, ◌∙◌, ◌++◌, [], Bool, if◌then◌else◌, map, refl, sym, ap}
use Rattle.std.proofs.lemmas.List.{append-nil}
use Rattle.std.specs.List.{flat_map}
use Rattle.json.specs.Tree.{json_tokens}
use Rattle.tera_outline.specs.Names.{name_view}
use Rattle.tera_workspace.specs.Definitions.{text_view}
use Rattle.tera_workspace.proofs.LeftLemmas.{left_next}
use Rattle.tera_answers.specs.References.{looked_for_by, reference_json, reference_tokens}
use Rattle.tera_answers.proofs.references.put_names.Goals as goal
use Rattle.tera_answers.proofs.references.put_names.Goals.{then-refers+in_ok-put_location, else-refers}

pub loop-name-preserved : goal.loop-name-preserved
unfolding reference_tokens
loop-name-preserved c =
    let k = looked_for_by c.args.search in
    let s = text_view c.args.text in
    let name = c.name-item.result in
    let old = c.loop-name.out.tokens in
    let with_name = λ (counts : Bool). old ++ (if counts then json_tokens (reference_json k s (name_view name)) else []) in
    let written : c.if-refers.out.tokens ≡ old ++ reference_tokens k s (name_view name) =
    elim c.if-refers.branch [
      | then-refers+in_ok-put_location w ↦
          ap (λ o. o.tokens) w.out-is
          ∙ (rw (w.position_at-start.ensures, w.position_at-end.ensures, c.requires.uri) at w.in_ok-put_location.ensures.tokens)
          ∙ ap with_name (sym w.if-refers.true ∙ c.refers.ensures)
      | else-refers w ↦ ap (λ o. o.tokens) w.out-is ∙ sym (append-nil old) ∙ ap with_name (sym w.if-refers.false ∙ c.refers.ensures)
    ] in
    record {
      tokens = left_next (λ ns. flat_map (reference_tokens k s) (map name_view ns)) _ old c.if-refers.out.tokens (reference_tokens k s (name_view name)) c.args.names.now c.loop-name.name-index name
          c.loop-name-test.true c.name-item.is refl written c.loop-name.invariant.tokens;
      before = elim c.if-refers.branch [
        | then-refers+in_ok-put_location w ↦ ap (λ o. o.before) w.out-is ∙ w.in_ok-put_location.ensures.before ∙ c.loop-name.invariant.before
        | else-refers w ↦ ap (λ o. o.before) w.out-is ∙ c.loop-name.invariant.before
      ];
    }
