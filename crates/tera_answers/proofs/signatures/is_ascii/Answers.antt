use Rattle.std.proofs.Common.{◌∙◌, rules, tests}
use Rattle.std.proofs.lemmas.Iterator.{YieldsList-from_slice}
use Rattle.std.proofs.lemmas.Iterator.Search.{all_from_yields_List}
use Rattle.std.specs.Char.{is_ascii}
use Rattle.tera_answers.proofs.signatures.is_ascii.Goals as goal

pub returns : goal.returns
returns c =
    all_from_yields_List is_ascii _ _ c.all.result c.all.ensures.ran (YieldsList-from_slice c.args.text.now (c.iter.ensures.rest ∙ c.as_bytes.ensures.value))
    (λ x b q k. search (rules, tests))
