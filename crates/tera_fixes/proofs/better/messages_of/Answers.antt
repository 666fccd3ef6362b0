use Rattle.std.proofs.Common.{◌≡◌, rules, string_bytes, true}
use Rattle.std.proofs.lemmas.Map.Text.{btree_set_updates_text}
use Rattle.tera_fixes.proofs.BetterLemmas.{message_next}
use Rattle.tera_fixes.proofs.better.messages_of.Goals as goal

pub loop-finding-preserved : goal.loop-finding-preserved
loop-finding-preserved c = λ text.
    let key = string_bytes c.in_ok-clone.field-0 in
    let same : key ≡ string_bytes c.finding-item.result.message = search rules in
    message_next c.args.findings.now c.loop-finding.finding-index c.finding-item.result key text _ _ c.loop-finding-test.true c.finding-item.is same
    (btree_set_updates_text key c.loop-finding.messages c.insert.new.self true c.in_ok-insert.ensures.updates text) (c.loop-finding.invariant text)
