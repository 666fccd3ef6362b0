use Rattle.std.proofs.lemmas.Result.{err_from_is_err_and}
use Rattle.tera_tags.proofs.RefusalLemmas.{untaken_inside}
use Rattle.tera_tags.proofs.WrongLemmas.{tag_stops, tag_wrong, token_wrong, wrong_untaken}
use Rattle.tera_tags.proofs.tag_parts.begin_tag.Goals as goal

pub returns-in_err-token-clause-inside : goal.returns-in_err-token-clause-inside
returns-in_err-token-clause-inside c =
    let p = err_from_is_err_and c.from_residual.result c.from_residual.ensures.1 in
    rw (p.1, p.2) (λ some. untaken_inside c.args.cursor.now _ _ some c.in_err-token.ensures.takes)

pub returns-in_err-token-clause-stops : goal.returns-in_err-token-clause-stops
returns-in_err-token-clause-stops c =
    let p = err_from_is_err_and c.from_residual.result c.from_residual.ensures.1 in
    rw (p.1, p.2) (wrong_untaken c.args.cursor.now _ _ c.in_err-token.ensures.takes)

pub returns-in-TagStart-clause-stops : goal.returns-in-TagStart-clause-stops
returns-in-TagStart-clause-stops c =
    tag_stops c.args.cursor.now c.take.new.cursor c.pass.new.cursor _ _ _ c.in_ok-token.ensures.takes.1 c.in-TagStart.is c.pass.result c.pass.ensures.passes

pub returns-in-TagStart-clause-wrong : goal.returns-in-TagStart-clause-wrong
returns-in-TagStart-clause-wrong c =
    tag_wrong c.args.cursor.now c.take.new.cursor c.pass.new.cursor _ _ _ c.in_ok-token.ensures.takes.1 c.in-TagStart.is c.pass.result c.pass.ensures.passes

pub returns-clause-wrong : goal.returns-clause-wrong
returns-clause-wrong c = token_wrong c.args.cursor.now.left c.take.new.cursor.left _ _ c.in_default.not-TagStart c.in_ok-token.ensures.takes.1
