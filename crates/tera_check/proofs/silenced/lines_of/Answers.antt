use Rattle.std.proofs.Common.{◌≡◌, ◌⊎◌, ◌+◌, drop, map, sym, ap, subst, true}
use Rattle.std.proofs.lemmas.List.{drop_all}
use Rattle.std.specs.List.{Contains}
use Rattle.std.specs.Prelude.{◌↔◌}
use Rattle.tera_findings.specs.Findings.{finding_view}
use Rattle.tera_templates.specs.Lost.{places_under}
use Rattle.tera_check.specs.Silenced.{begins_at, has_finding_at}
use Rattle.tera_templates.proofs.PlaceLemmas.{none_under}
use Rattle.tera_check.proofs.SilencedLemmas.{IsPut, finding_put, next_left, none_left, none_there, one_taken}
use Rattle.tera_check.proofs.silenced.lines_of.Goals as goal

pub loop-finding-init : goal.loop-finding-init
loop-finding-init c = λ rule line.
    none_there (Contains (places_under c.new-lines.result rule) line) (has_finding_at (map finding_view c.deref-finding-items.result.now) rule line)
    (none_under c.new-lines.result rule line c.new-lines.ensures.empty)

pub loop-finding-preserved : goal.loop-finding-preserved
loop-finding-preserved c = λ rule line.
    let items = c.deref-finding-items.result.now in
    let i = c.loop-finding.finding-index in
    let one = c.finding-item.result in
    let all = has_finding_at (map finding_view items) rule line in
    let left = has_finding_at (map finding_view (drop (i + 1) items)) rule line in
    let before = Contains (places_under c.loop-finding.lines rule) line in
    let after = Contains (places_under c.put_place.new.places rule) line in
    let held = subst (λ fs. (before ⊎ (has_finding_at fs rule line ≡ true)) ↔ (all ≡ true)) (next_left finding_view items i one c.loop-finding-test.true c.finding-item.is) (c.loop-finding.invariant rule line) in
    one_taken before after (begins_at rule line (finding_view one)) left all
    (finding_put before after one rule line (subst (λ word. IsPut before after rule word line one.span.start_line) c.name.ensures (c.in_ok-put_place.ensures rule line))) held

pub returns : goal.returns
returns c = λ rule line.
    let items = c.deref-finding-items.result.now in
    let there = Contains (places_under c.loop-finding.lines rule) line in
    let ended = subst (λ fs. (there ⊎ (has_finding_at (map finding_view fs) rule line ≡ true)) ↔ (has_finding_at (map finding_view items) rule line ≡ true))
    (drop_all c.loop-finding.finding-index items c.loop-finding-test.false) (c.loop-finding.invariant rule line) in
    subst (λ fs. there ↔ (has_finding_at (map finding_view fs) rule line ≡ true)) c.deref-finding-items.ensures.value
    (none_left there (has_finding_at (map finding_view items) rule line) ended)
