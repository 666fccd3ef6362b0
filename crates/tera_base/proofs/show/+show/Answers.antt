use Rattle.std.proofs.Common.{rules, true, ◌≡◌, [], ◌∷◌, ◌++◌, codes, refl}
use Rattle.std.specs.Result.{IsOk}
use Rattle.std.proofs.Output.{has_written_append}
use Rattle.std.specs.Map.{keys_of, values_of}
use Rattle.std.proofs.lemmas.Map.Entries.{length-keys_of, length-values_of}
use Rattle.tera_base.specs.ValueView.{key_view, value_view, vals_view}
use Rattle.tera_base.specs.Text.{inner_text, inner_key_text, vals_text, comma_text}
use Rattle.tera_base.proofs.Showing.{shown_more, one_pair, one_less}
use Rattle.tera_base.proofs.KeysAndValues.{zip_rows}
use Rattle.tera_base.proofs.show.+show.Goals as goal

pub show_values-loop-value-init : goal.show_values-loop-value-init
show_values-loop-value-init g t c = ([], λ q. search (rules, q), rw c.deref-value-items.ensures.value)

pub show_values-loop-value-preserved : goal.show_values-loop-value-preserved
show_values-loop-value-preserved g t c =
    let l = c.loop-value in
    let x = c.value-item.result in
    let ok : IsOk c.show_value.result = rw c.in_ok-show_value.was in (
      l.invariant.0 ++ (comma_text l.later ++ inner_text (value_view x)),
      λ q. has_written_append _ _ _ _ _ _ (l.invariant.1 q) (c.show_value.ensures (l.invariant.1 q).plain ok),
      shown_more (λ ys. vals_text l.later (vals_view ys)) (λ ys. vals_text true (vals_view ys)) _ _ (comma_text l.later) (inner_text (value_view x)) _ l.value-index x
          l.invariant.2 (search rules) c.value-item.is refl,
    )

pub show_pairs-loop-value-init : goal.show_pairs-loop-value-init
show_pairs-loop-value-init g t c =
    let ks : c.iter-keys.result.rest.now ≡ keys_of c.args.map.now = search rules in
    let vs : c.values-value-items.result.now ≡ values_of c.args.map.now = search rules in
    ([], λ q. search (rules, q), rw (ks, vs, zip_rows) refl, rw (ks, vs, length-keys_of, length-values_of) refl)

pub show_pairs-loop-value-preserved : goal.show_pairs-loop-value-preserved
show_pairs-loop-value-preserved g t c =
    let l = c.loop-value in
    let k = c.in-Some.key.now in
    let v = c.value-item.result in
    let ok : IsOk c.show_pair.result = rw c.in_ok-show_pair.was in
    let is : l.keys.rest.now ≡ k ∷ c.next.new.self.rest.now = search rules in (
      l.invariant.0 ++ (comma_text l.later ++ (inner_key_text (key_view k) ++ (codes ": " ++ inner_text (value_view v)))),
      λ q. has_written_append _ _ _ _ _ _ (l.invariant.1 q) (c.show_pair.ensures (l.invariant.1 q).plain ok),
      one_pair l.later _ _ l.keys.rest.now _ l.value-index k c.next.new.self.rest.now v l.invariant.2 is (search rules) c.value-item.is,
      one_less l.keys.rest.now _ l.value-index k c.next.new.self.rest.now l.invariant.3 is,
    )
