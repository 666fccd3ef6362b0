use Rattle.std.proofs.Common.{rules}
use Rattle.std.proofs.lemmas.List.Sorted.{answers_always}
use Rattle.tera_findings.specs.Findings.{place_of}
use Rattle.tera_check.proofs.checked.put_in_order.Goals as goal

pub returns-clause-ordered : goal.returns-clause-ordered
returns-clause-ordered c =
    c.in_ok-sort_by_key.ensures.sorted (λ f. ((place_of f.span).line, (place_of f.span).column)) (answers_always _ _ _ (λ f a r g h. search rules))
