use Rattle.std.proofs.Common.{◌≡◌, ◌∙◌, ◌+◌, filter, map, string_bytes, ap, subst, arith}
use Rattle.tera_editor.specs.KnownFiles.{known_names}
use Rattle.tera_editor.specs.Templates.{is_inside}
use Rattle.tera_exchange.specs.Serving.{LoadedNone, IsLoaded, IsUnloaded}
use Rattle.tera_exchange.proofs.SendLemmas.{on_any_err}
use Rattle.tera_exchange.proofs.ServingLemmas.{loaded_next, all_loaded, loaded_in_part, none_loaded}
use Rattle.tera_exchange.proofs.server.give_known.Goals as goal

pub returns-in_err-known-clause-in_part : goal.returns-in_err-known-clause-in_part
returns-in_err-known-clause-in_part g c =
    let s = c.args.server.now in
    on_any_err c.from_residual.result (none_loaded (filter (is_inside c.args.folder.now) (known_names s.known)) s)

pub loop-path-init : goal.loop-path-init
loop-path-init g c = LoadedNone

pub loop-path-preserved : goal.loop-path-preserved
loop-path-preserved g c =
    loaded_next c.args.server.now c.loop-path.server c.give_again.new.server c.deref-path-items.result.now c.loop-path.path-index c.path-item.result
    (omega arith) c.path-item.is c.loop-path.invariant
    (subst (λ path. IsLoaded path c.loop-path.server c.give_again.new.server) c.as_str.ensures.value c.in_ok-give_again.ensures.loaded)

pub returns-in_err-give_again-clause-in_part : goal.returns-in_err-give_again-clause-in_part
returns-in_err-give_again-clause-in_part g c =
    let s = c.args.server.now in
    let files = c.deref-path-items.result.now in
    let paths = filter (is_inside c.args.folder.now) (known_names s.known) in
    let are : map string_bytes files ≡ paths = ap (map string_bytes) c.deref-path-items.ensures.value ∙ c.in_ok-known.ensures in
    on_any_err c.from_residual-in_err-give_again.result
    (loaded_in_part s c.loop-path.server c.give_again.new.server files c.loop-path.path-index c.as_str.result.now paths are c.loop-path.invariant c.in_err-give_again.ensures.unloaded)

pub returns-clause-given : goal.returns-clause-given
returns-clause-given g c =
    let s = c.args.server.now in
    let files = c.deref-path-items.result.now in
    let paths = filter (is_inside c.args.folder.now) (known_names s.known) in
    let are : map string_bytes files ≡ paths = ap (map string_bytes) c.deref-path-items.ensures.value ∙ c.in_ok-known.ensures in
    all_loaded s c.loop-path.server files c.loop-path.path-index paths (omega arith) are c.loop-path.invariant
