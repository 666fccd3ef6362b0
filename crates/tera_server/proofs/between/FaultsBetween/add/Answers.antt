use Rattle.std.proofs.Common.{◌∙◌, cond, map, option_map, string_bytes, sym, ap}
use Rattle.std.specs.Str.{bytes_eq}
use Rattle.tera_workspace.specs.Diagnostics.{diagnostic_view}
use Rattle.tera_server.specs.Between.{faults_in}
use Rattle.tera_server.proofs.BetweenLemmas.{found_put, next_found, next_usual}
use Rattle.tera_server.proofs.between.FaultsBetween.add.Goals as goal

pub returns-in_default : goal.returns-in_default
returns-in_default c = λ before are.
    next_usual c.args.settings.now (map string_bytes c.args.folders.now) c.args.workspace.now before c.args.name.now (faults_in c.args.self.now)
    (sym c.markers_for.ensures ∙ ap (option_map (λ m. m.now)) c.in_default.is) are

pub returns : goal.returns
returns c = λ before are.
    let old = c.args.self.now in
    let key = c.in_ok-from_str.field-0 in
    let ds = map diagnostic_view c.in_ok-found.found.items in
    next_found c.args.settings.now (map string_bytes c.args.folders.now) c.args.workspace.now before c.args.name.now c.in-Some.markers.now
    (faults_in old) (faults_in (record { found = c.insert.new.self })) ds
    (sym c.markers_for.ensures ∙ ap (option_map (λ m. m.now)) c.in-Some.is) c.in_ok-found.ensures
    (λ n.
    found_put (string_bytes key) old.found c.insert.new.self c.in_ok-found.found c.in_ok-insert.ensures.updates n
    ∙ ap (λ k. cond (bytes_eq k n) ds (faults_in old n)) c.in_ok-from_str.ensures.ok)
    are
