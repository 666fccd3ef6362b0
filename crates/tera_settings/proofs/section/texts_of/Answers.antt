use Rattle.std.proofs.Common.{Some, ◌∙◌, ap, rules, sym}
use Rattle.std.specs.Option.{option_copied}
use Rattle.toml.specs.View.{items_view}
use Rattle.tera_settings.specs.Values.{texts_in}
use Rattle.tera_settings.proofs.ValueLemmas.{texts_next, texts_stop}
use Rattle.tera_settings.proofs.section.texts_of.Goals as goal

pub loop-item-preserved : goal.loop-item-preserved
loop-item-preserved c =
    let reads = sym c.as_str.ensures ∙ (ap option_copied c.in-Some.is ∙ ap Some (sym c.in_ok-from_str.ensures.ok)) in
    texts_next c.deref-item-items.result.now c.loop-item.item-index c.item-item.result c.loop-item.texts.items c.push.new.self.items c.in_ok-from_str.field-0 (search rules) c.item-item.is
    reads c.loop-item.invariant c.in_ok-push.ensures.items

pub returns-in_default : goal.returns-in_default
returns-in_default c =
    sym (texts_stop c.deref-item-items.result.now c.loop-item.item-index c.item-item.result c.loop-item.texts.items (search rules) c.item-item.is
    (sym c.as_str.ensures ∙ ap option_copied c.in_default.is) c.loop-item.invariant)
    ∙ ap (λ vs. texts_in (items_view vs)) c.deref-item-items.ensures.value
