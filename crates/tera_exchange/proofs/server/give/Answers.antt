use Rattle.tera_server.specs.States.{needed_view}
use Rattle.tera_exchange.specs.Serving.{GaveNone, Gave, GaveInPart, GaveAll}
use Rattle.tera_exchange.proofs.ServingLemmas.{asked_for, asked_nothing}
use Rattle.tera_exchange.proofs.server.give.Goals as goal

pub needed-init : goal.needed-init
needed-init g c = GaveNone

pub needed-preserved : goal.needed-preserved
needed-preserved g c =
    Gave (needed_view c.in-Some.needed) c.needed.server c.take_needed.new.self c.give_or_ask_again.new.server c.needed.invariant
    (asked_for c.take_needed.result c.in-Some.needed c.needed.server c.take_needed.new.self c.in-Some.is c.take_needed.ensures.needed c.take_needed.ensures.same)
    c.in_ok-give_or_ask_again-in-Some.ensures.given

pub returns-in_err-give_or_ask_again-in-Some-clause-given : goal.returns-in_err-give_or_ask_again-in-Some-clause-given
returns-in_err-give_or_ask_again-in-Some-clause-given g c =
    GaveInPart (needed_view c.in-Some.needed) c.needed.server c.take_needed.new.self c.give_or_ask_again.new.server c.needed.invariant
    (asked_for c.take_needed.result c.in-Some.needed c.needed.server c.take_needed.new.self c.in-Some.is c.take_needed.ensures.needed c.take_needed.ensures.same)
    c.in_err-give_or_ask_again-in-Some.ensures.in_part

pub returns-in-None-clause-given : goal.returns-in-None-clause-given
returns-in-None-clause-given g c =
    GaveAll c.needed.server c.take_needed.new.self c.needed.invariant
    (asked_nothing c.take_needed.result c.needed.server c.take_needed.new.self c.in-None.is c.take_needed.ensures.needed c.take_needed.ensures.none c.take_needed.ensures.same)
