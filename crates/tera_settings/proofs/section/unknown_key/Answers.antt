use Rattle.std.proofs.Common.{◌∙◌, sym}
use Rattle.tera_settings.specs.Values.{texts}
use Rattle.tera_settings.proofs.ValueLemmas.{unknown_first, unknown_here, unknown_later, unknown_none}
use Rattle.tera_settings.proofs.section.unknown_key.Goals as goal

pub loop-key-init : goal.loop-key-init
loop-key-init c =
    rw (c.into_iter-key-iterator.ensures.into_iter_gives, c.keys-key-items.ensures.rest) (unknown_first (texts c.args.names.now) c.args.table.now.entries)

pub loop-key-preserved : goal.loop-key-preserved
loop-key-preserved c =
    c.loop-key.invariant
    ∙ unknown_later (texts c.args.names.now) c.loop-key.key-iterator c.next.new.self c.in-Some.key.now c.as_str-name.result.now c.in-Some.ensures.steps c.as_str-name.ensures.value c.if-not-is_among.ensures

pub returns-then-not-is_among : goal.returns-then-not-is_among
returns-then-not-is_among c =
    sym (c.loop-key.invariant
    ∙ unknown_here (texts c.args.names.now) c.loop-key.key-iterator c.next.new.self c.in-Some.key.now c.as_str-name.result.now c.in-Some.ensures.steps c.as_str-name.ensures.value c.if-not-is_among.ensures)

pub returns : goal.returns
returns c = sym (c.loop-key.invariant ∙ unknown_none (texts c.args.names.now) c.loop-key.key-iterator c.in-None.ensures.steps.0)
