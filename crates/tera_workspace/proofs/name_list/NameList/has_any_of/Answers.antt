use Rattle.std.proofs.Common.{◌≡◌, ◌∙◌, eqb, not, sym, ap, arith}
use Rattle.std.specs.Prelude.{bit_and}
use Rattle.std.specs.List.{list_any}
use Rattle.tera_workspace.specs.Names.{is_among}
use Rattle.tera_workspace.proofs.NameListLemmas.{none_common}
use Rattle.tera_workspace.proofs.name_list.NameList.has_any_of.Goals as goal

pub returns-then-shared-ne0 : goal.returns-then-shared-ne0
returns-then-shared-ne0 c =
    c.have_common.ensures ∙ (λ i. list_any (λ n. is_among n (c.self.view_is i)) (c.others.view_is i))

pub returns-else-shared-ne0 : goal.returns-else-shared-ne0
returns-else-shared-ne0 c =
    let none : bit_and c.self.inside.bits c.others.inside.bits ≡ 0 = omega arith in
    ap (λ x. not (eqb x 0)) none
    ∙ sym ((λ i. list_any (λ n. is_among n (sym c.self.view_is i)) (sym c.others.view_is i)) ∙ none_common c.self.inside.bits c.others.inside.bits _ _ c.self.invariant c.others.invariant none)
