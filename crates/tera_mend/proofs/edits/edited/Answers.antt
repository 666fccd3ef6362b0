use Rattle.std.proofs.Common.{◌≡◌, ◌+◌, ◌<◌, ℕ, List, ◌∷◌, map, drop, length, get_or, add-one, drop-cons, sym, subst, suc}
use Rattle.tera_mend.specs.Mending.{Edits, Puts}
use Rattle.tera_mend.specs.Views.{edit_view}
use Rattle.tera_mend.specs.declared.edits.Edit.{Edit}
use Rattle.tera_mend.proofs.edits.edited.Goals as goal

-- an edit, and then those after it
step : (edits : List Edit) (i : ℕ) (e : Edit) (old mid new : List ℕ) → i < length edits → e ≡ get_or edits i e → Puts (edit_view e) old mid
    → Edits (map edit_view (drop (i + 1) edits)) mid new → Edits (map edit_view (drop i edits)) old new
step edits i e old mid new below is put rest =
    let cut : drop i edits ≡ get_or edits i e ∷ drop (suc i) edits = drop-cons edits i e below in
    let more : i + 1 ≡ suc i = add-one i in
    let shown : drop i edits ≡ e ∷ drop (i + 1) edits = cc in
    subst (λ d. Edits (map edit_view d) old new) (sym shown) (mid, put, rest)

pub loop-edit-preserved : goal.loop-edit-preserved
loop-edit-preserved c = λ new rest.
    c.loop-edit.invariant new (step _ _ c.edit-item.result _ _ new c.loop-edit-test.true c.edit-item.is (c.in_ok-put.ensures c.if-not-branch.false) rest)
