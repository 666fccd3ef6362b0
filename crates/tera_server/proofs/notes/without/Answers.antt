use Rattle.std.proofs.Common.{◌≡◌, ◌∙◌, ◌+◌, ◌++◌, ◌∷◌, [], drop, map, string_bytes, sym, ap, arith}
use Rattle.std.specs.List.{list_any}
use Rattle.std.specs.Str.{bytes_eq}
use Rattle.std.proofs.lemmas.List.{map-append}
use Rattle.tera_server.specs.States.{names_without}
use Rattle.tera_answers.proofs.DropLemmas.{drop_next}
use Rattle.tera_server.proofs.WithName.{without_kept, without_left}
use Rattle.tera_server.proofs.notes.without.Goals as goal
use Rattle.tera_server.proofs.notes.without.Goals.{then-not-has_name+in_ok-from_str+in_ok-push, else-not-has_name}

pub loop-name-preserved : goal.loop-name-preserved
loop-name-preserved c =
    let others = map string_bytes c.args.others.now in
    let names = c.args.names.now in
    let item = c.name-item.result in
    let i = c.loop-name.name-index in
    let n = string_bytes item in
    let rest = map string_bytes (drop (i + 1) names) in
    let kept = map string_bytes c.loop-name.kept.items in
    let now = map string_bytes c.if-not-has_name.kept.items in
    let test : c.has_name.result ≡ list_any (λ m. bytes_eq m n) others = c.has_name.ensures ∙ ap (λ k. list_any (λ m. bytes_eq m k) others) c.as_str.ensures.value in
    let step : kept ++ names_without others (n ∷ rest) ≡ now ++ names_without others rest =
    elim c.if-not-has_name.branch [
      | then-not-has_name+in_ok-from_str+in_ok-push w ↦
          let x = w.in_ok-from_str.field-0 in
          let same : string_bytes x ≡ n = w.in_ok-from_str.ensures.ok ∙ w.as_str-then-not-has_name.ensures.value in
          without_kept others n rest kept now (sym test ∙ w.if-not-has_name.true)
          (ap (λ v. map string_bytes v.items) w.kept-is ∙ (ap (map string_bytes) w.in_ok-push.ensures.items ∙ (map-append string_bytes c.loop-name.kept.items (x ∷ []) ∙ ap (λ m. kept ++ m ∷ []) same)))
      | else-not-has_name w ↦ without_left others n rest kept now (sym test ∙ w.if-not-has_name.false) (ap (λ v. map string_bytes v.items) w.kept-is)
    ] in
    c.loop-name.invariant ∙ (ap (λ ns. kept ++ names_without others (map string_bytes ns)) (drop_next names i item (omega arith) c.name-item.is) ∙ step)
