use Rattle.std.proofs.Common.{rules, tests}
use Rattle.std.specs.Prelude.{not}
use Rattle.tera_templates.specs.Hints.{is_of_word}
use Rattle.std.proofs.lemmas.Iterator.{YieldsList-from_slice}
use Rattle.std.proofs.lemmas.Iterator.Search.{position_from_yields_List}
use Rattle.tera_templates.proofs.HintsLemmas.{at_or_len}
use Rattle.tera_templates.proofs.hints.letters_in.Goals as goal

pub returns : goal.returns
returns c =
    let end = at_or_len (λ b. not (is_of_word b)) c.args.bytes.now c.position-end.result
    (position_from_yields_List (λ b. not (is_of_word b)) _ _ c.position-end.result c.position-end.ensures.ran (YieldsList-from_slice c.args.bytes.now cc) (λ x b q k. search (rules, tests)))
    in
    cc
