use Rattle.tera_check.specs.Named.{known_in, taken_in}
use Rattle.tera_check.specs.Scopes.{is_hidden, is_named, is_to_come}
use Rattle.tera_check.proofs.ParametersLemmas.{call_ok, plain_expression, put_ok}
use Rattle.tera_check.proofs.parameters.take_expression.Goals as goal

pub returns-in_ok-take_call-in-ComponentCall : goal.returns-in_ok-take_call-in-ComponentCall
returns-in_ok-take_call-in-ComponentCall c =
    call_ok (taken_in (known_in c.args.catalogue.now)) (λ n. is_to_come (taken_in (known_in c.args.catalogue.now)) n c.args.scopes.now.items) (λ n. is_hidden c.args.hidden.now.items n)
    c.args.naming.now c.take_call.new.naming c.args.parts.now.items c.push_inside.new.parts.items c.args.expression.now c.in-ComponentCall.call c.push_inside.result c.in-ComponentCall.is c.push_inside.ensures c.in_ok-take_call-in-ComponentCall.ensures

pub returns-in-Const : goal.returns-in-Const
returns-in-Const c =
    let takes = taken_in (known_in c.args.catalogue.now) in
    put_ok takes (is_named c.args.naming.now) (λ n. is_to_come takes n c.args.scopes.now.items)
    (λ n. is_hidden c.args.hidden.now.items n) c.args.parts.now.items c.push_inside-in-Const.new.parts.items _ _ c.push_inside-in-Const.result c.push_inside-in-Const.ensures
    (λ n. plain_expression takes (is_hidden c.args.hidden.now.items n) n c.args.expression.now c.in-Const.is)
