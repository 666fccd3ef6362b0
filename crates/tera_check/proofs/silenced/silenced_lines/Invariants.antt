use Rattle.std.proofs.Common.{drop}
use Rattle.std.specs.List.{Contains}
use Rattle.tera_templates.specs.Ignores.{ignores_view}
use Rattle.tera_templates.specs.Lost.{places_under}
use Rattle.tera_check.specs.Silenced.{is_silenced_at}
use Rattle.tera_check.proofs.SilencedLemmas.{IsWith}
use Rattle.tera_check.proofs.silenced.silenced_lines.Given as goal

abbrev pub invariant-loop-ignore : goal.invariant-loop-ignore
invariant-loop-ignore l =
    IsWith (λ rule line. Contains (places_under l.lines rule) line) (is_silenced_at (ignores_view (drop l.ignore-index l.ignore-items))) (is_silenced_at (ignores_view l.ignore-items))
