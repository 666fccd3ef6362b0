use Rattle.std.proofs.Common.{◌≡◌, true, [], ◌∷◌, drop, sym, ap, ◌∙◌, refl}
use Rattle.std.proofs.lemmas.List.{take_rest}
use Rattle.tera_lexer.specs.grammar.Marks.{begins}
use Rattle.tera_lexer.proofs.Dashes.{begins_dashed, dashed_cut}
use Rattle.tera_lexer.proofs.lexer.markers.at_dashed.Goals as goal

pub returns-then-starts_with-clause-cut : goal.returns-then-starts_with-clause-cut
returns-then-starts_with-clause-cut c =
    let rest = c.args.rest.now in
    let dash : begins (45 ∷ []) rest ≡ true = ap (begins (45 ∷ [])) (sym c.as_bytes-bytes.ensures.value) ∙ sym c.starts_with.ensures.value ∙ c.if-starts_with.true in
    let following = take_rest c.as_bytes-bytes.result.now 1 ∙ ap (drop 1) c.as_bytes-bytes.ensures.value in
    let here : c.begins.result ≡ begins c.args.marker.now (drop 1 rest) = c.begins.ensures ∙ (λ i. begins (c.as_bytes.ensures.value i) (following i)) in
    dashed_cut rest c.args.marker.now _ c.utf8.rest c.utf8.marker (here ∙ sym (begins_dashed c.args.marker.now rest ∙ rw dash refl))
