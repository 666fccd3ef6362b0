use Rattle.std.proofs.Common.{◌≡◌, ◌∙◌, ap, sym, true, false}
use Rattle.std.specs.List.{Contains, list_any}
use Rattle.std.specs.Prelude.{◌&&◌, ◌||◌}
use Rattle.tera_templates.specs.Ignores.{ignore_view}
use Rattle.tera_templates.specs.Lost.{places_under}
use Rattle.tera_check.specs.Silenced.{has_finding_at, next_line, silences}
use Rattle.tera_check.proofs.SilencedLemmas.{decided, met_lines}
use Rattle.tera_check.proofs.silenced.is_met.Goals as goal

pub returns-then-has_line : goal.returns-then-has_line
returns-then-has_line c = λ found are.
    let i = ignore_view c.args.ignore.now in
    let lines = c.args.lines.now in
    let here : c.has_line.result ≡ has_finding_at found i.rule i.span.start_line =
    decided c.has_line.result (has_finding_at found i.rule i.span.start_line) (Contains (places_under lines i.rule) i.span.start_line)
    (rw c.as_str-rule.ensures.value at c.has_line.ensures) (are i.rule i.span.start_line) in
    let yes : has_finding_at found i.rule i.span.start_line ≡ true = sym here ∙ c.if-has_line.true in
    let is : list_any (silences i) found ≡ true = met_lines i found ∙ ap (λ b. b || (i.alone && has_finding_at found i.rule (next_line i))) yes in
    cc

pub returns-then-ignore : goal.returns-then-ignore
returns-then-ignore c = λ found are.
    let i = ignore_view c.args.ignore.now in
    let lines = c.args.lines.now in
    let here : c.has_line.result ≡ has_finding_at found i.rule i.span.start_line =
    decided c.has_line.result (has_finding_at found i.rule i.span.start_line) (Contains (places_under lines i.rule) i.span.start_line)
    (rw c.as_str-rule.ensures.value at c.has_line.ensures) (are i.rule i.span.start_line) in
    let next : c.has_line-then-ignore.result ≡ has_finding_at found i.rule (next_line i) =
    decided c.has_line-then-ignore.result (has_finding_at found i.rule (next_line i)) (Contains (places_under lines i.rule) (next_line i))
    (rw (c.as_str-rule.ensures.value, c.next_line.ensures) at c.has_line-then-ignore.ensures) (are i.rule (next_line i)) in
    let other : has_finding_at found i.rule i.span.start_line ≡ false = sym here ∙ c.if-has_line.false in
    let is : list_any (silences i) found ≡ has_finding_at found i.rule (next_line i) =
    met_lines i found ∙ (λ k. other k || (c.if-ignore.true k && has_finding_at found i.rule (next_line i))) in
    next ∙ sym is

pub returns-else-ignore : goal.returns-else-ignore
returns-else-ignore c = λ found are.
    let i = ignore_view c.args.ignore.now in
    let lines = c.args.lines.now in
    let here : c.has_line.result ≡ has_finding_at found i.rule i.span.start_line =
    decided c.has_line.result (has_finding_at found i.rule i.span.start_line) (Contains (places_under lines i.rule) i.span.start_line)
    (rw c.as_str-rule.ensures.value at c.has_line.ensures) (are i.rule i.span.start_line) in
    let other : has_finding_at found i.rule i.span.start_line ≡ false = sym here ∙ c.if-has_line.false in
    let is : list_any (silences i) found ≡ false = met_lines i found ∙ (λ k. other k || (c.if-ignore.false k && has_finding_at found i.rule (next_line i))) in
    cc
