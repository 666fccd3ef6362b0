use Rattle.std.proofs.Common.{rules, tests}
use Rattle.std.specs.Prelude.{not}
use Rattle.std.specs.Char.{is_ascii_whitespace}
use Rattle.std.proofs.lemmas.Iterator.{YieldsList-from_slice}
use Rattle.std.proofs.lemmas.Iterator.Search.{position_from_yields_List}
use Rattle.tera_templates.proofs.HintsLemmas.{at_or_len}
use Rattle.tera_templates.proofs.hints.blanks_in.Goals as goal

pub returns : goal.returns
returns c =
    let end = at_or_len (λ b. not (is_ascii_whitespace b)) c.args.bytes.now c.position-end.result
    (position_from_yields_List (λ b. not (is_ascii_whitespace b)) _ _ c.position-end.result c.position-end.ensures.ran (YieldsList-from_slice c.args.bytes.now cc) (λ x b q k. search (rules, tests)))
    in
    cc
