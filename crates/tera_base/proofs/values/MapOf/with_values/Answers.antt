use Rattle.std.proofs.Common.{◌≡◌, length, map, ap, sym, ◌∙◌}
use Rattle.std.specs.Map.{keys_of}
use Rattle.std.proofs.lemmas.Map.Made.{keys_of-zip}
use Rattle.tera_base.specs.ValueView.{key_view}
use Rattle.tera_base.proofs.KeysAndValues.{rows_len, values_of-zip}
use Rattle.tera_base.proofs.values.MapOf.with_values.Goals as goal

pub invariant_of-result : goal.invariant_of-result
invariant_of-result g c = c.requires ∙ sym (rows_len _ _ _ c.self.view_is c.self.invariant) ∙ sym c.in_ok-keys.ensures.len

pub returns-clause-keys : goal.returns-clause-keys
returns-clause-keys g c =
    let same : length c.args.values.items ≡ length c.in_ok-keys.keys = c.requires ∙ sym (rows_len _ _ _ c.self.view_is c.self.invariant) ∙ sym c.in_ok-keys.ensures.len in
    ap (λ ks. map key_view ks) (keys_of-zip c.in_ok-keys.keys c.args.values.items same)
    ∙ c.in_ok-keys.ensures.same
    ∙ ap (λ ks. map key_view ks) (sym (keys_of-zip _ _ c.self.invariant) ∙ ap keys_of c.self.view_is)

pub returns-clause-values : goal.returns-clause-values
returns-clause-values g c =
    let same : length c.args.values.items ≡ length c.in_ok-keys.keys = c.requires ∙ sym (rows_len _ _ _ c.self.view_is c.self.invariant) ∙ sym c.in_ok-keys.ensures.len in
    values_of-zip c.in_ok-keys.keys c.args.values.items same
