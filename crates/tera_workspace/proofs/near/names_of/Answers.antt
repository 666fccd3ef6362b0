use Rattle.std.proofs.Common.{◌≡◌, ◌∙◌, ◌∷◌, ◌++◌, ◌+◌, ◌<◌, ◌≤◌, [], Some, length, get_or, map, nat_eq, rules, string_bytes, ap, sym, subst, arith}
use Rattle.std.specs.List.{list_any}
use Rattle.std.specs.Prelude.{slice_get}
use Rattle.std.proofs.lemmas.List.{get_or_read, map_push}
use Rattle.tera_workspace.proofs.NearSteps.{among, at_index, not_among}
use Rattle.tera_workspace.proofs.OthersNear.{FilesSoFar, files_more, files_none, files_passed, names_renewed}
use Rattle.tera_workspace.proofs.near.names_of.Goals as goal
use Rattle.tera_workspace.proofs.near.names_of.Goals.{then-contains+in_ok-clone+in_ok-push, else-contains}

pub loop-number-init : goal.loop-number-init
loop-number-init c = subst (λ ns. FilesSoFar c.args.kept.now.items c.in_ok-others.others.items 0 (map string_bytes ns)) (sym c.new-names.ensures.items) (files_none c.args.kept.now.items c.in_ok-others.others.items)

pub loop-number-preserved : goal.loop-number-preserved
loop-number-preserved c =
    let kept = c.args.kept.now.items in
    let others = c.in_ok-others.others.items in
    let number = c.loop-number.number-counter in
    let names = map string_bytes c.loop-number.names.items in
    let e = c.document-item.result in
    let within : number < length kept = omega (arith, ap length c.deref-document-items.ensures.value) in
    let here : slice_get kept number ≡ Some e =
    at_index kept number e within (get_or_read kept number e within (c.document-item.is ∙ ap (λ xs. get_or xs number e) c.deref-document-items.ensures.value) e) in
    let has : c.contains.result ≡ list_any (λ m. nat_eq m number) others = c.contains.ensures.value ∙ ap (list_any (λ m. nat_eq m number)) c.deref.ensures.value in
    elim c.if-contains.branch [
      | then-contains+in_ok-clone+in_ok-push w ↦
          let file : string_bytes w.in_ok-clone.field-0 ≡ string_bytes e.file = search rules in
          files_more kept others number e names (map string_bytes c.if-contains.names.items) c.requires.ordered (among others number (sym has ∙ w.if-contains.true)) here
          (ap (λ v. map string_bytes v.items) w.names-is ∙ ap (map string_bytes) w.in_ok-push.ensures.items ∙ map_push string_bytes c.loop-number.names.items w.in_ok-clone.field-0 ∙ ap (λ n. names ++ n ∷ []) file)
          c.loop-number.invariant
      | else-contains w ↦
          subst (λ v. FilesSoFar kept others (number + 1) (map string_bytes v.items)) (sym w.names-is)
          (files_passed kept others number names (not_among others number (sym has ∙ w.if-contains.false)) c.loop-number.invariant)
    ]

pub returns : goal.returns
returns c =
    let kept = c.args.kept.now.items in
    let over : length kept ≤ c.loop-number.number-counter = omega (arith, ap length c.deref-document-items.ensures.value) in
    names_renewed kept c.args.near.now.items c.args.documents.now.items c.in_ok-others.others.items (map string_bytes c.loop-number.names.items) c.loop-number.number-counter
    c.requires.ordered c.requires.files c.requires.near c.requires.each c.in_ok-others.ensures over c.loop-number.invariant
