use Rattle.std.proofs.Common.{drop, map}
use Rattle.tera_exchange.specs.Serving.{AreNamesSaid}
use Rattle.tera_editor.specs.Sites.{used_view}
use Rattle.tera_editor.proofs.DueLemmas.{AreDueAmong}
use Rattle.tera_exchange.proofs.server.say_names.Given as goal

abbrev pub invariant-loop-used : goal.invariant-loop-used
invariant-loop-used g l = record {
  only : AreNamesSaid l.fn.server l.server;
  due : AreDueAmong (map used_view (drop l.used-index l.used-items)) l.server.sites;
}
