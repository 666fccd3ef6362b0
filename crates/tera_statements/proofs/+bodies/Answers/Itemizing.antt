-- Of items.
use Rattle.std.proofs.Common.{refl}
use Rattle.std.proofs.lemmas.Result.{err_from_is_err_and}
use Rattle.tera_grammar.specs.statements.Reading.{body}
use Rattle.tera_grammar.specs.statements.Reading.TagParts.{front}
use Rattle.tera_statements.specs.Adding.{seen_of}
use Rattle.tera_tags.specs.Kinds.{opener_of}
use Rattle.tera_expr_parts.specs.Allowed.{limits_of}
use Rattle.tera_statements.proofs.ItemsLemmas.{opens_item, opens_nothing, step_closed, step_ended, step_wrong}
use Rattle.tera_statements.specs.Around.{known_at}
use Rattle.tera_tags.proofs.KnowingLemmas.{inside_knowing, knowing_inside}
use Rattle.tera_statements.proofs.EmptyLemmas.{quiet}
use Rattle.tera_tags.proofs.RefusalLemmas.{wrong_left}
use Rattle.tera_tags.proofs.Tags.{stops_there}
use Rattle.tera_expect.proofs.Steps.{failed_as}
use Rattle.tera_statements.proofs.+bodies.Goals as goal

pub items::item-returns-in-Ends-clause-gives : goal.items::item-returns-in-Ends-clause-gives
items::item-returns-in-Ends-clause-gives t c = λ path represents.
    let l = limits_of c.args.setting.now.limits in
    (step_ended l (body c.args.depth l) path (seen_of c.args.names.now) c.args.cursor.now.left c.in-Ends.ensures, refl)

pub items::item-returns-in-Closes-clause-gives : goal.items::item-returns-in-Closes-clause-gives
items::item-returns-in-Closes-clause-gives t c = λ path represents.
    let l = limits_of c.args.setting.now.limits in
    (step_closed l (body c.args.depth l) path (seen_of c.args.names.now) c.args.cursor.now.left _ c.in-Closes.ensures, refl)

pub items::item-returns-in_err-added-in-Opens-clause-gives : goal.items::item-returns-in_err-added-in-Opens-clause-gives
items::item-returns-in_err-added-in-Opens-clause-gives t c = λ path represents.
    let l = limits_of c.args.setting.now.limits in
    let p = err_from_is_err_and c.from_residual-in_err-added-in-Opens.result c.from_residual-in_err-added-in-Opens.ensures.1 in
    let (start, is) = c.in_ok-enter-in-Opens.ensures.enters in
    rw (p.1, p.2) (failed_as _ _ _ _ (λ z h. opens_nothing l (body c.args.depth l) path (seen_of c.args.names.now) c.args.cursor.now.left (front c.args.cursor.now.left) (opener_of c.in-Opens.opener) start
    c.enter.new.cursor.span c.enter.new.cursor.left is z h) (c.in_err-added-in-Opens.ensures.gives path represents start))

pub items::item-returns-in_ok-added-in-Opens-clause-gives : goal.items::item-returns-in_ok-added-in-Opens-clause-gives
items::item-returns-in_ok-added-in-Opens-clause-gives t c = λ path represents.
    let l = limits_of c.args.setting.now.limits in
    let (start, is) = c.in_ok-enter-in-Opens.ensures.enters in
    let (i, read, shows) = c.in_ok-added-in-Opens.ensures.gives path represents start in (
      i,
      opens_item l (body c.args.depth l) path (seen_of c.args.names.now) c.args.cursor.now.left (front c.args.cursor.now.left) (opener_of c.in-Opens.opener) start
          c.enter.new.cursor.span c.enter.new.cursor.left is i _ read,
      shows,
    )

pub items::item-returns-in-Wrong-clause-gives : goal.items::item-returns-in-Wrong-clause-gives
items::item-returns-in-Wrong-clause-gives t c = λ path represents.
    let l = limits_of c.args.setting.now.limits in
    stops_there _ _ _ _ (step_wrong l (body c.args.depth l) path (seen_of c.args.names.now) c.args.cursor.now.left c.in-Wrong.ensures) c.unknown_tag.ensures.stops

pub items::item-returns-in-Wrong-clause-refusal : goal.items::item-returns-in-Wrong-clause-refusal
items::item-returns-in-Wrong-clause-refusal t c =
    inside_knowing (known_at c.args.around.now c.args.names.now) _ _ _ (c.unknown_tag.ensures.inside (wrong_left c.args.cursor.now.left c.in-Wrong.ensures))

pub items::item-returns-in-Wrong-clause-empty : goal.items::item-returns-in-Wrong-clause-empty
items::item-returns-in-Wrong-clause-empty t c = λ empty. quiet _ c.args.cursor.now.left c.in-Wrong.ensures empty

pub items::item-returns-in_err-added-in-Opens-clause-refusal : goal.items::item-returns-in_err-added-in-Opens-clause-refusal
items::item-returns-in_err-added-in-Opens-clause-refusal t c =
    let p = err_from_is_err_and c.from_residual-in_err-added-in-Opens.result c.from_residual-in_err-added-in-Opens.ensures.1 in
    rw (p.1, p.2) (knowing_inside (known_at c.args.around.now c.args.names.now) _ _ _ _ c.in_ok-enter-in-Opens.ensures.later c.in_err-added-in-Opens.ensures.refusal)
