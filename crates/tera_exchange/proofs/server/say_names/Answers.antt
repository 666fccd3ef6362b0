use Rattle.std.proofs.Common.{◌∙◌, map, ap, arith}
use Rattle.tera_editor.specs.Sites.{used_view}
use Rattle.tera_editor.proofs.DueLemmas.{due_at_first}
use Rattle.tera_server.proofs.NamingLemmas.{only_on, only_same}
use Rattle.tera_exchange.proofs.NameLemmas.{all_said, said_next}
use Rattle.tera_exchange.proofs.server.say_names.Goals as goal

pub loop-used-init : goal.loop-used-init
loop-used-init g c = record {
  only = only_same c.args.server.now;
  due = due_at_first c.args.server.now.sites (map used_view c.deref-used-items.result.now) (ap (map used_view) c.deref-used-items.ensures.value ∙ c.requires);
}

pub loop-used-preserved : goal.loop-used-preserved
loop-used-preserved g c = record {
  only = only_on c.args.server.now c.loop-used.server c.say_name.new.server c.loop-used.invariant.only c.say_name.ensures.only;
  due =
      said_next c.deref-used-items.result.now c.loop-used.used-index c.used-item.result c.loop-used.server c.say_name.new.server
      (omega arith) c.used-item.is c.loop-used.invariant.due c.in_ok-say_name.ensures.said;
}

pub returns-in_err-say_name-clause-said : goal.returns-in_err-say_name-clause-said
returns-in_err-say_name-clause-said g c = only_on c.args.server.now c.loop-used.server c.say_name.new.server c.loop-used.invariant.only c.say_name.ensures.only

pub returns-clause-said : goal.returns-clause-said
returns-clause-said g c = c.loop-used.invariant.only

pub returns-clause-all : goal.returns-clause-all
returns-clause-all g c = all_said c.deref-used-items.result.now c.loop-used.used-index c.loop-used.server (omega arith) c.loop-used.invariant.due
