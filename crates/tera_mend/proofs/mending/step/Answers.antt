use Rattle.std.proofs.Common.{false, map, refl, sym, subst, string_bytes}
use Rattle.tera_mend.specs.Mending.{Edits}
use Rattle.tera_mend.specs.Views.{LeadsTo, edit_view}
use Rattle.tera_mend.proofs.Steps.{more, one_at_least}
use Rattle.tera_mend.proofs.mending.step.Goals as goal

pub returns-clause-leads : goal.returns-clause-leads
returns-clause-leads c = λ source leads fails named.
    let edits : Edits (map edit_view c.in-Some.edits.items) c.args.text.now (string_bytes c.in-Some.next) = rw c.in-Some.is at c.in_ok-next.ensures in
    let first =
    more c.args.file.now source _ _ _ _ (record { error = c.args.error; alone = false; edits = c.in-Some.edits }) leads c.in_ok-push.ensures.items refl fails named edits
    in
    c.in_ok-after.ensures.leads source (one_at_least _ _ _ c.in_ok-push.ensures.items) (subst (LeadsTo c.args.file.now source c.push.new.self.items) (sym c.as_str-2.ensures.value) first)
