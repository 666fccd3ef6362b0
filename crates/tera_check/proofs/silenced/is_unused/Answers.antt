use Rattle.std.specs.Prelude.{◌≡◌, ◌&&◌, true, false, not, string_bytes}
use Rattle.std.specs.List.{list_any}
use Rattle.std.proofs.Common.{◌∙◌, ap, sym}
use Rattle.tera_templates.specs.Ignores.{ignore_view}
use Rattle.tera_check.specs.Silenced.{is_judged, is_unused, silences}
use Rattle.tera_check.proofs.silenced.is_unused.Goals as goal

pub returns-then-is_judged : goal.returns-then-is_judged
returns-then-is_judged c = λ found are.
    let i = ignore_view c.args.ignore.now in
    let judged : c.is_judged.result ≡ is_judged c.args.is_open i.rule = c.is_judged.ensures ∙ ap (is_judged c.args.is_open) c.as_str.ensures.value in
    let yes : is_judged c.args.is_open i.rule ≡ true = sym judged ∙ c.if-is_judged.true in
    let met : not c.is_met.result ≡ not (list_any (silences i) found) = ap not (c.is_met.ensures found are) in
    let is : is_unused c.args.is_open found i ≡ not (list_any (silences i) found) = ap (λ b. b && not (list_any (silences i) found)) yes in
    met ∙ sym is

pub returns-else-is_judged : goal.returns-else-is_judged
returns-else-is_judged c = λ found are.
    let i = ignore_view c.args.ignore.now in
    let judged : c.is_judged.result ≡ is_judged c.args.is_open i.rule = c.is_judged.ensures ∙ ap (is_judged c.args.is_open) c.as_str.ensures.value in
    let other : is_judged c.args.is_open i.rule ≡ false = sym judged ∙ c.if-is_judged.false in
    c.if-is_judged.false ∙ sym (ap (λ b. b && not (list_any (silences i) found)) other)
