use Rattle.std.proofs.Common.{◌∙◌, ap, sym}
use Rattle.toml.specs.View.{view}
use Rattle.tera_settings.specs.Levels.{rule_of}
use Rattle.tera_settings.specs.Values.{texts}
use Rattle.tera_settings.proofs.ValueLemmas.{Entry, after-nothing, named_as, rules_done, rules_next, rules_stop}
use Rattle.tera_settings.proofs.reading.rules_of.Goals as goal

pub loop-key-init : goal.loop-key-init
loop-key-init c = rw (c.new-rules.ensures.items, c.into_iter-key-iterator.ensures.into_iter_gives, c.iter-key-items.ensures.rest) (sym (after-nothing _))

pub loop-key-preserved : goal.loop-key-preserved
loop-key-preserved c =
    let e : Entry = (c.in-Some.key.now, c.in-Some.value.now) in
    let reads = named_as (texts c.args.names.now) c.as_str-name.result.now _ (view c.in-Some.value.now) c.in-Ok.level c.in_ok-rule.rule c.as_str-name.ensures.value c.in_ok-rule.ensures.ok c.in-Ok.ensures.ok in
    rules_next (texts c.args.names.now) c.args.section.table.now.entries c.loop-key.key-iterator c.next.new.self e c.loop-key.rules.items c.push.new.self.items (record { rule = c.in_ok-rule.rule; level = c.in-Ok.level }) c.in-Some.ensures.steps reads c.loop-key.invariant
    c.in_ok-push.ensures.items

pub returns-in-Err-clause-refused : goal.returns-in-Err-clause-refused
returns-in-Err-clause-refused c _ =
    let e : Entry = (c.in-Some.key.now, c.in-Some.value.now) in
    let reads = ap (λ n. rule_of (texts c.args.names.now) (n, view c.in-Some.value.now)) (sym c.as_str-name.ensures.value) ∙ c.in-Err.ensures.refused in
    rules_stop (texts c.args.names.now) c.args.section.table.now.entries c.loop-key.key-iterator c.next.new.self e c.loop-key.rules.items c.in-Some.ensures.steps reads c.loop-key.invariant

pub returns-clause-ok : goal.returns-clause-ok
returns-clause-ok c = rules_done (texts c.args.names.now) c.args.section.table.now.entries c.loop-key.key-iterator c.loop-key.rules.items c.in-None.ensures.steps.0 c.loop-key.invariant
