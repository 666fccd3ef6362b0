use Rattle.std.specs.List.{Contains}
use Rattle.tera_findings.specs.Findings.{kind_name}
use Rattle.tera_templates.specs.Ignores.{ignores_view}
use Rattle.tera_templates.specs.Lost.{places_under}
use Rattle.tera_check.specs.Silenced.{is_silenced_at}
use Rattle.tera_check.proofs.SilencedLemmas.{decided}
use Rattle.tera_check.proofs.due.is_silenced.Goals as goal

pub returns : goal.returns
returns c =
    let rule = kind_name c.args.finding.now.kind in
    let line = c.args.finding.now.span.start_line in
    let named = rw c.name.ensures at c.has_line.ensures in
    decided c.has_line.result (is_silenced_at (ignores_view c.args.template.now.ignores.items) rule line) (Contains (places_under c.args.silenced.now rule) line) named (c.requires rule line)
