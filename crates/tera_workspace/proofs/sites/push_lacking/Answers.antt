use Rattle.std.proofs.Common.{◌≡◌, ◌∙◌, ◌∷◌, ◌++◌, ◌<◌, [], Bor, List, ℕ, not, cond, get_or, length, map, string_bytes, sym, ap}
use Rattle.std.proofs.lemmas.List.{append-nil, get_or_default, map_push}
use Rattle.tera_workspace.specs.KeptSites.{lacks_name}
use Rattle.tera_workspace.proofs.KeptSiteLemmas.{name_lacking}
use Rattle.tera_workspace.proofs.sites.push_lacking.Goals as goal
use Rattle.tera_workspace.proofs.sites.push_lacking.Goals.{then-not-has+in_ok-from_str+in_ok-push, else-not-has}

pub loop-name-preserved : goal.loop-name-preserved
loop-name-preserved c =
    let site = c.args.site.now in
    let bs = c.deref-name-items.result.now in
    let at = c.loop-name.name-index in
    let d : Bor (List ℕ) = record { ref_ptr = (0, 0); now = [] } in
    let b = get_or bs at d in
    let within : at < length bs = c.loop-name-test.true in
    let done = map string_bytes c.loop-name.lacking.items in
    let put : map string_bytes c.if-not-has.lacking.items ≡ done ++ cond (lacks_name site b.now) (b.now ∷ []) [] = elim c.if-not-has.branch [
      | then-not-has+in_ok-from_str+in_ok-push w ↦
          ap (λ v. map string_bytes v.items) w.lacking-is ∙ ap (map string_bytes) w.in_ok-push.ensures.items
          ∙ map_push string_bytes c.loop-name.lacking.items w.in_ok-from_str.field-0
          ∙ ap (λ n. done ++ n ∷ []) w.in_ok-from_str.ensures.ok
          ∙ ap (λ t. done ++ cond (not t) (b.now ∷ []) []) (sym (sym (c.has.ensures 0) ∙ w.if-not-has.true))
      | else-not-has w ↦
          ap (λ v. map string_bytes v.items) w.lacking-is ∙ sym (append-nil done)
          ∙ ap (λ t. done ++ cond (not t) (b.now ∷ []) []) (sym (sym (c.has.ensures 0) ∙ w.if-not-has.false))
    ] in
    name_lacking site (map string_bytes c.args.lacking.now.items) done (map string_bytes c.if-not-has.lacking.items) bs at b within (get_or_default bs at b d within) put c.loop-name.invariant
