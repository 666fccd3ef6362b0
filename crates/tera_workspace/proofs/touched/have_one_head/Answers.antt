use Rattle.std.proofs.Common.{◌≡◌, ◌∙◌, map, string_bytes, sym}
use Rattle.std.proofs.lemmas.Slice.Eq.{bytes_eq-Decides}
use Rattle.tera_tree.specs.Definitions.{named_argument}
use Rattle.tera_workspace.proofs.HeadLemmas.{arguments_are, rest_is}
use Rattle.tera_workspace.proofs.PlaceLemmas.{false_true}
use Rattle.tera_workspace.proofs.touched.have_one_head.Goals as goal
use Rattle.tera_workspace.proofs.touched.have_one_head.Goals.{then-eq, else-eq}

pub returns-then-eq-2 : goal.returns-then-eq-2
returns-then-eq-2 c = λ e.
    let one = c.args.one.now in
    let other = c.args.other.now in
    let first : (string_bytes one.name ≡ string_bytes other.name) × (map named_argument one.kwargs.entries ≡ map named_argument other.kwargs.entries) = elim c.if-eq.branch [
      | then-eq w ↦ (
        (bytes_eq-Decides (string_bytes one.name) (string_bytes other.name)).0 (sym c.eq.ensures ∙ w.if-eq.true),
        arguments_are one.kwargs.entries other.kwargs.entries (sym w.eq-then-eq.ensures ∙ (sym w.value-is ∙ c.if-eq-2.true)),
      )
      | else-eq w ↦ absurd (false_true (sym w.if-eq.false ∙ (sym w.value-is ∙ c.if-eq-2.true)))
    ] in
    record {
      name = first.0;
      arguments = first.1;
      rest = rest_is one.rest_param_name other.rest_param_name (sym c.eq-then-eq-2.ensures ∙ e);
    }
