use Rattle.std.proofs.Common.{[], map, string_bytes, refl, subst, arith}
use Rattle.tera_exchange.specs.Serving.{LoadedNone, IsLoaded}
use Rattle.tera_exchange.proofs.SendLemmas.{on_any_err}
use Rattle.tera_exchange.proofs.ServingLemmas.{loaded_next, all_loaded, loaded_in_part, none_loaded}
use Rattle.tera_exchange.proofs.server.give_apart.Goals as goal

pub returns-in_err-apart-clause-in_part : goal.returns-in_err-apart-clause-in_part
returns-in_err-apart-clause-in_part g c = on_any_err c.from_residual.result ([], none_loaded [] c.args.server.now)

pub loop-path-init : goal.loop-path-init
loop-path-init g c = LoadedNone

pub loop-path-preserved : goal.loop-path-preserved
loop-path-preserved g c =
    loaded_next c.args.server.now c.loop-path.server c.give_nothing.new.server c.deref-path-items.result.now c.loop-path.path-index c.path-item.result
    (omega arith) c.path-item.is c.loop-path.invariant
    (subst (λ path. IsLoaded path c.loop-path.server c.give_nothing.new.server) c.as_str.ensures.value c.in_ok-give_nothing.ensures.loaded)

pub returns-in_err-give_nothing-clause-in_part : goal.returns-in_err-give_nothing-clause-in_part
returns-in_err-give_nothing-clause-in_part g c =
    let files = c.deref-path-items.result.now in
    let paths = map string_bytes files in
    on_any_err c.from_residual-in_err-give_nothing.result (
      paths,
      loaded_in_part c.args.server.now c.loop-path.server c.give_nothing.new.server files c.loop-path.path-index c.as_str.result.now paths refl
          c.loop-path.invariant c.in_err-give_nothing.ensures.unloaded,
    )

pub returns-clause-given : goal.returns-clause-given
returns-clause-given g c =
    let files = c.deref-path-items.result.now in
    let paths = map string_bytes files in
    (paths, all_loaded c.args.server.now c.loop-path.server files c.loop-path.path-index paths (omega arith) refl c.loop-path.invariant)
