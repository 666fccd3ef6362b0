use Rattle.std.proofs.Common.{◌∙◌, ℕ, List, Bor, ap, refl, rules, tests}
use Rattle.std.specs.List.{list_any}
use Rattle.std.specs.Str.{bytes_eq}
use Rattle.std.proofs.lemmas.Iterator.{YieldsList-from_slice}
use Rattle.std.proofs.lemmas.Iterator.Search.{any_from_yields_List}
use Rattle.tera_templates.proofs.hints.is_of_macros.Goals as goal

pub returns : goal.returns
returns c =
    any_from_yields_List (λ (w : Bor (List ℕ)). bytes_eq c.args.word.now w.now) _ _ c.any.result c.any.ensures.ran (YieldsList-from_slice c.iter.result.rest.now refl)
    (λ x b q k. search (rules, tests))
    ∙ ap (list_any (λ (w : Bor (List ℕ)). bytes_eq c.args.word.now w.now)) c.iter.ensures.rest
