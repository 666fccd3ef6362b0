use Rattle.std.proofs.Common.{◌∙◌, ◌+◌, ◌∷◌, [], ◌++◌, drop, map, sym, ap, append_assoc}
use Rattle.tera_findings.specs.Findings.{finding_view}
use Rattle.tera_templates.specs.Ignores.{ignore_view, ignores_view}
use Rattle.tera_check.specs.Silenced.{unused_among}
use Rattle.tera_check.proofs.SilencedLemmas.{next_left, unused_next}
use Rattle.tera_check.proofs.silenced.push_unused.Goals as goal

pub loop-ignore-preserved : goal.loop-ignore-preserved
loop-ignore-preserved c =
    let items = c.deref-ignore-items.result.now in
    let i = c.loop-ignore.ignore-index in
    let one = c.ignore-item.result in
    let found = map finding_view c.args.found.now.items in
    let rest = ignores_view (drop (i + 1) items) in
    let now = map finding_view c.loop-ignore.findings.items in
    c.loop-ignore.invariant
    ∙ ap (λ is. now ++ unused_among c.args.is_open found is) (next_left ignore_view items i one c.loop-ignore-test.true c.ignore-item.is)
    ∙ ap (λ us. now ++ us) (unused_next c.args.is_open found (ignore_view one) rest)
    ∙ sym (append_assoc now (unused_among c.args.is_open found (ignore_view one ∷ [])) (unused_among c.args.is_open found rest))
    ∙ ap (λ fs. fs ++ unused_among c.args.is_open found rest) (sym (c.in_ok-push_if_unused.ensures found c.in_ok-lines.ensures))
