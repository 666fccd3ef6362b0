use Rattle.std.proofs.Common.{map, string_bytes, ap, subst, arith}
use Rattle.tera_exchange.specs.Serving.{LoadedNone, IsLoaded}
use Rattle.tera_exchange.proofs.SendLemmas.{on_any_err}
use Rattle.tera_exchange.proofs.ServingLemmas.{loaded_next, all_loaded, loaded_in_part}
use Rattle.tera_exchange.proofs.server.give_files.Goals as goal

pub loop-path-init : goal.loop-path-init
loop-path-init g c = LoadedNone

pub loop-path-preserved : goal.loop-path-preserved
loop-path-preserved g c =
    loaded_next c.args.server.now c.loop-path.server c.give_file.new.server c.deref-path-items.result.now c.loop-path.path-index c.path-item.result
    (omega arith) c.path-item.is c.loop-path.invariant
    (subst (λ path. IsLoaded path c.loop-path.server c.give_file.new.server) c.as_str.ensures.value c.in_ok-give_file.ensures.loaded)

pub returns-in_err-give_file-clause-in_part : goal.returns-in_err-give_file-clause-in_part
returns-in_err-give_file-clause-in_part g c =
    let files = c.deref-path-items.result.now in
    let paths = map string_bytes c.args.paths.now.items in
    on_any_err c.from_residual.result
    (loaded_in_part c.args.server.now c.loop-path.server c.give_file.new.server files c.loop-path.path-index c.as_str.result.now paths (ap (map string_bytes) c.deref-path-items.ensures.value)
    c.loop-path.invariant c.in_err-give_file.ensures.unloaded)

pub returns-clause-given : goal.returns-clause-given
returns-clause-given g c =
    let files = c.deref-path-items.result.now in
    let paths = map string_bytes c.args.paths.now.items in
    all_loaded c.args.server.now c.loop-path.server files c.loop-path.path-index paths (omega arith) (ap (map string_bytes) c.deref-path-items.ensures.value) c.loop-path.invariant
