use Rattle.std.proofs.Common.{◌≡◌, ◌∙◌, ◌==◌, [], true, false, vec_len, inl, inr, rules, ap}
use Rattle.tera_server.specs.declared.server.Server.{Server}
use Rattle.tera_server.proofs.NamingLemmas.{only_on, only_same}
use Rattle.tera_exchange.proofs.NameLemmas.{none_in, none_of_sites, some_in}
use Rattle.tera_exchange.proofs.ServingLemmas.{on_ok, published, published_all, published_in_part}
use Rattle.tera_exchange.proofs.server.publish.Goals as goal

pub returns-in_err-due-clause-published : goal.returns-in_err-due-clause-published
returns-in_err-due-clause-published g c =
    let s = c.args.server.now in
    published_in_part s s c.settle_unless_due.new.self c.args.out.now c.settle_unless_due.new.out (only_same s) c.requires c.in_err-due.ensures.unsettled

pub returns-then-is_empty-clause-published : goal.returns-then-is_empty-clause-published
returns-then-is_empty-clause-published g c =
    let s = c.args.server.now in
    let none : true ≡ (vec_len c.in_ok-due.due == 0) = search rules in
    published s s c.settle_unless_due.new.self c.args.out.now c.settle_unless_due.new.out (only_same s) c.requires (c.in_ok-due.ensures.settled (none_in c.in_ok-due.due none))

pub returns-then-is_empty-clause-all : goal.returns-then-is_empty-clause-all
returns-then-is_empty-clause-all g c =
    let s = c.args.server.now in
    let t = c.settle_unless_due.new.self in
    let none : true ≡ (vec_len c.in_ok-due.due == 0) = search rules in
    let empty : c.in_ok-due.due.items ≡ [] = none_in c.in_ok-due.due none in
    published_all s s t c.args.out.now c.settle_unless_due.new.out (only_same s) (λ running. inr (none_of_sites t.sites (c.in_ok-due.ensures.none empty running)))
    c.requires (c.in_ok-due.ensures.settled empty)

pub say_names-said-requires : goal.say_names-said-requires
say_names-said-requires g c =
    let some : false ≡ (vec_len c.in_ok-due.due == 0) = search rules in
    (c.in_ok-due.ensures.due (some_in c.in_ok-due.due some)).due

pub returns-in_err-settle-clause-published : goal.returns-in_err-settle-clause-published
returns-in_err-settle-clause-published g c =
    let s = c.args.server.now in
    let mid = c.say_names-said.new.server in
    let some : false ≡ (vec_len c.in_ok-due.due == 0) = search rules in
    let due = c.in_ok-due.ensures.due (some_in c.in_ok-due.due some) in
    published_in_part s mid c.settle.new.self c.settle_unless_due.new.out c.settle.new.out (only_on s c.settle_unless_due.new.self mid due.only c.say_names-said.ensures.said)
    (due.unsent ∙ c.requires) c.in_err-settle.ensures.unsettled

pub returns-in_err-settle-clause-needed : goal.returns-in_err-settle-clause-needed
returns-in_err-settle-clause-needed g c =
    let needed = λ (s : Server). s.needed in
    ap needed c.settle.ensures.stays.same ∙ ap needed c.say_names-said.ensures.said.same ∙ ap needed c.settle_unless_due.ensures.stays.same

pub returns-clause-published : goal.returns-clause-published
returns-clause-published g c =
    let s = c.args.server.now in
    let mid = c.say_names-said.new.server in
    let some : false ≡ (vec_len c.in_ok-due.due == 0) = search rules in
    let due = c.in_ok-due.ensures.due (some_in c.in_ok-due.due some) in
    published s mid c.settle.new.self c.settle_unless_due.new.out c.settle.new.out (only_on s c.settle_unless_due.new.self mid due.only c.say_names-said.ensures.said)
    (due.unsent ∙ c.requires) c.in_ok-settle.ensures.settled

pub returns-clause-all : goal.returns-clause-all
returns-clause-all g c =
    let s = c.args.server.now in
    let mid = c.say_names-said.new.server in
    let some : false ≡ (vec_len c.in_ok-due.due == 0) = search rules in
    let due = c.in_ok-due.ensures.due (some_in c.in_ok-due.due some) in
    on_ok c.say_names-said.result
    (λ none. published_all s mid c.settle.new.self c.settle_unless_due.new.out c.settle.new.out (only_on s c.settle_unless_due.new.self mid due.only c.say_names-said.ensures.said)
    (λ running. inl none) (due.unsent ∙ c.requires) c.in_ok-settle.ensures.settled)
    c.say_names-said.ensures.all

pub returns-clause-needed : goal.returns-clause-needed
returns-clause-needed g c =
    let needed = λ (s : Server). s.needed in
    ap needed c.settle.ensures.stays.same ∙ ap needed c.say_names-said.ensures.said.same ∙ ap needed c.settle_unless_due.ensures.stays.same
