use Rattle.std.proofs.Common.{◌∙◌, Global, List, String, ap, map, string_bytes}
use Rattle.tera_program_parts.specs.Excluded.{has_names}
use Rattle.tera_program_parts.proofs.ExcludedLemmas.{found}
use Rattle.tera_program_parts.proofs.excluded.has_first.Goals as goal

pub returns : goal.returns
returns c =
    c.contains.ensures ∙ found c.split_at.result.0.now c.args.paths.now.keys
    ∙ ap (λ (names : List (String Global)). has_names c.args.paths.now (map string_bytes names)) c.split_at.ensures.front
