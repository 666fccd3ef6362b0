use Rattle.std.proofs.Common.{rules, ◌≡◌, ◌∙◌, ap, bytes_eq, string_bytes, sym, true}
use Rattle.tera_settings.proofs.PlaceLemmas.{is_among_parts}
use Rattle.tera_settings.proofs.places.is_part.Goals as goal

pub returns-in-Some : goal.returns-in-Some
returns-in-Some c =
    let named : c.eq.result ≡ bytes_eq (string_bytes c.in-Some.part.now) c.args.name.now = c.eq.ensures ∙ ap (λ t. bytes_eq t c.args.name.now) c.as_str.ensures.value in
    is_among_parts c.args.parts.now c.args.index c.in-Some.part.now c.args.name.now c.eq.result (search rules) (search rules) named
