use Rattle.std.proofs.Common.{◌≡◌, ℕ, List, ◌++◌, length, drop, false}
use Rattle.std.specs.List.{zip}
use Rattle.std.specs.Fmt.{HasWritten, IsPlainFormatter}
use Rattle.tera_base.specs.ValueView.{vals_view, pairs_view}
use Rattle.tera_base.specs.Text.{vals_text, pairs_text}
use Rattle.tera_base.proofs.show.+show.Given as goal

abbrev pub invariant-show_values-loop-value : goal.invariant-show_values-loop-value
invariant-show_values-loop-value g l =
    (p : List ℕ) × (IsPlainFormatter l.initial.f → HasWritten g.W.Write.write_str_gives l.initial.f p l.f)
    × (vals_text false (vals_view l.values.items) ≡ p ++ vals_text l.later (vals_view (drop l.value-index l.value-items)))

abbrev pub invariant-show_pairs-loop-value : goal.invariant-show_pairs-loop-value
invariant-show_pairs-loop-value g l =
    (p : List ℕ) × (IsPlainFormatter l.initial.f → HasWritten g.W.Write.write_str_gives l.initial.f p l.f)
    × (pairs_text false (pairs_view l.map) ≡ p ++ pairs_text l.later (pairs_view (zip l.keys.rest.now (drop l.value-index l.value-items))))
    × (length l.keys.rest.now ≡ length (drop l.value-index l.value-items))
