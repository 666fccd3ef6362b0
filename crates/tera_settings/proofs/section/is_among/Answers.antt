use Rattle.std.proofs.Common.{◌≡◌, ◌<◌, ◌∙◌, length, rules, sym, true, false}
use Rattle.tera_settings.proofs.ValueLemmas.{among_here, among_later, no_name}
use Rattle.tera_settings.proofs.section.is_among.Goals as goal

pub returns-then-eq : goal.returns-then-eq
returns-then-eq c =
    let below : c.loop-name.name-index < length c.args.names.now = search rules in
    sym (c.loop-name.invariant ∙ among_here c.args.key.now c.args.names.now c.loop-name.name-index below (sym c.eq.ensures ∙ c.if-eq.true))

pub loop-name-preserved : goal.loop-name-preserved
loop-name-preserved c =
    let below : c.loop-name.name-index < length c.args.names.now = search rules in
    c.loop-name.invariant ∙ among_later c.args.key.now c.args.names.now c.loop-name.name-index below (sym c.eq.ensures ∙ c.if-eq.false)
