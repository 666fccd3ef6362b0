use Rattle.std.proofs.Common.{subst}
use Rattle.std.proofs.lemmas.Result.{IfOk-weaker}
use Rattle.std.specs.List.{Contains}
use Rattle.tera_templates.specs.Ignores.{ignore_view}
use Rattle.tera_templates.specs.Lost.{places_under}
use Rattle.tera_check.proofs.SilencedLemmas.{IsPut, both_put, one_put}
use Rattle.tera_check.proofs.silenced.put_ignore.Goals as goal

pub returns-then-ignore : goal.returns-then-ignore
returns-then-ignore c =
    let i = ignore_view c.args.ignore.now in
    IfOk-weaker c.put_place-then-ignore.result _ _ (λ _ more rule line.
    let before = Contains (places_under c.args.lines.now rule) line in
    let first = Contains (places_under c.put_place.new.places rule) line in
    let both = Contains (places_under c.put_place-then-ignore.new.places rule) line in
    both_put before first both i rule line c.if-ignore.true
    (subst (λ word. IsPut before first rule word line i.span.start_line) c.as_str-rule.ensures.value (c.in_ok-put_place.ensures rule line))
    (subst (λ place. IsPut first both rule i.rule line place) c.next_line.ensures (subst (λ word. IsPut first both rule word line c.next_line.result) c.as_str-rule.ensures.value (more rule line))))
    c.put_place-then-ignore.ensures

pub returns-else-ignore : goal.returns-else-ignore
returns-else-ignore c = λ rule line.
    let i = ignore_view c.args.ignore.now in
    let before = Contains (places_under c.args.lines.now rule) line in
    let first = Contains (places_under c.put_place.new.places rule) line in
    one_put before first i rule line c.if-ignore.false
    (subst (λ word. IsPut before first rule word line i.span.start_line) c.as_str-rule.ensures.value (c.in_ok-put_place.ensures rule line))
