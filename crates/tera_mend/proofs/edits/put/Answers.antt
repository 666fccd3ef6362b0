use Rattle.std.proofs.Common.{◌++◌, ◌∙◌, [], arith, ap, sym, refl, inr}
use Rattle.std.proofs.lemmas.List.{append-nil}
use Rattle.tera_mend.proofs.edits.put.Goals as goal

pub returns-then-edit-len : goal.returns-then-edit-len
returns-then-edit-len c = λ put. record {
  before = c.args.bytes.now.items;
  taken = [];
  after = [];
  is_old = sym (append-nil c.args.bytes.now.items);
  is_new = c.in_ok-extend_from_slice.ensures.items ∙ ap (λ t. c.args.bytes.now.items ++ t) (c.as_slice-new.ensures.value ∙ sym (append-nil c.args.edit.now.bytes.items));
  is_at = omega arith;
  in_place = inr (refl, refl);
}
