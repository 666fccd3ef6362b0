use Rattle.std.proofs.Common.{◌≡◌, ◌∙◌, ◌+◌, ◌∷◌, ◌++◌, [], Bor, cond, drop, map, refl, sym, ap}
use Rattle.std.proofs.lemmas.List.{append-nil, map_push}
use Rattle.std.proofs.lemmas.List.Elements.{filter-append}
use Rattle.tera_workspace.specs.KeptSites.{documents_below, is_below}
use Rattle.tera_workspace.specs.declared.judged.Judged.{Judged}
use Rattle.tera_workspace.proofs.LeftLemmas.{left_next, left_last}
use Rattle.tera_workspace.proofs.sites.all_below.Goals as goal
use Rattle.tera_workspace.proofs.sites.all_below.Goals.{then-is_below+in_ok-push, else-is_below}

pub loop-judged-init : goal.loop-judged-init
loop-judged-init c = rw c.new-below.ensures.items refl

pub loop-judged-preserved : goal.loop-judged-preserved
loop-judged-preserved c =
    let root = c.args.root.now in
    let ds = c.args.documents.now in
    let items = c.deref-judged-items.result.now in
    let i = c.loop-judged.judged-index in
    let j = c.judged-item.result in
    let done = map (λ (b : Bor Judged). b.now) c.loop-judged.below.items in
    let put : map (λ (b : Bor Judged). b.now) c.if-is_below.below.items ≡ done ++ documents_below root ds (j ∷ []) = elim c.if-is_below.branch [
      | then-is_below+in_ok-push w ↦
          ap (λ v. map (λ (b : Bor Judged). b.now) v.items) w.below-is ∙ ap (map (λ (b : Bor Judged). b.now)) w.in_ok-push.ensures.items
          ∙ map_push (λ (b : Bor Judged). b.now) c.loop-judged.below.items _
          ∙ ap (λ b. done ++ cond b (j ∷ []) []) (sym (sym c.is_below.ensures ∙ w.if-is_below.true))
      | else-is_below w ↦
          ap (λ v. map (λ (b : Bor Judged). b.now) v.items) w.below-is ∙ sym (append-nil done)
          ∙ ap (λ b. done ++ cond b (j ∷ []) []) (sym (sym c.is_below.ensures ∙ w.if-is_below.false))
    ] in
    left_next (documents_below root ds) (documents_below root ds items) done (map (λ (b : Bor Judged). b.now) c.if-is_below.below.items) (documents_below root ds (j ∷ [])) items i j
    c.loop-judged-test.true c.judged-item.is
    (filter-append (is_below root ds) (j ∷ []) (drop (i + 1) items))
    put c.loop-judged.invariant

pub returns : goal.returns
returns c =
    let root = c.args.root.now in
    let ds = c.args.documents.now in
    let items = c.deref-judged-items.result.now in
    left_last (documents_below root ds) (documents_below root ds items) (map (λ (b : Bor Judged). b.now) c.loop-judged.below.items) items c.loop-judged.judged-index
    c.loop-judged-test.false refl c.loop-judged.invariant
    ∙ ap (documents_below root ds) c.deref-judged-items.ensures.value
