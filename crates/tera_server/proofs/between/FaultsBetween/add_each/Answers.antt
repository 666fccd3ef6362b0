use Rattle.std.proofs.Common.{◌≡◌, ◌∙◌, ◌+◌, ◌++◌, ◌∷◌, [], ℕ, List, map, string_bytes, take, sym, ap, subst, append_assoc, arith}
use Rattle.std.proofs.lemmas.List.{append-nil, take_all}
use Rattle.tera_server.specs.Between.{AreFaultsFor, faults_in}
use Rattle.tera_server.proofs.PublishLemmas.{next_names}
use Rattle.tera_server.proofs.between.FaultsBetween.add_each.Goals as goal

pub loop-name-init : goal.loop-name-init
loop-name-init c = λ before are.
    subst (λ ns. AreFaultsFor c.args.settings.now (map string_bytes c.args.folders.now) c.args.workspace.now ns (faults_in c.args.self.now)) (sym (append-nil before)) are

pub loop-name-preserved : goal.loop-name-preserved
loop-name-preserved c = λ before are.
    let names = c.args.names.now in
    let i = c.loop-name.name-index in
    let name = c.name-item.result in
    let front = map string_bytes (take i names) in
    let one : (before ++ front) ++ c.as_str.result.now ∷ [] ≡ before ++ map string_bytes (take (i + 1) names) =
    ap (λ n. (before ++ front) ++ n ∷ []) c.as_str.ensures.value
    ∙ append_assoc before front (string_bytes name ∷ [])
    ∙ ap (λ ns. before ++ ns) (sym (next_names names i name c.loop-name-test.true c.name-item.is)) in
    subst (λ ns. AreFaultsFor c.args.settings.now (map string_bytes c.args.folders.now) c.args.workspace.now ns (faults_in c.add.new.self)) one
    (c.in_ok-add.ensures (before ++ front) (c.loop-name.invariant before are))

pub returns : goal.returns
returns c = λ before are.
    subst (λ ns. AreFaultsFor c.args.settings.now (map string_bytes c.args.folders.now) c.args.workspace.now (before ++ map string_bytes ns) (faults_in c.loop-name.self))
    (take_all c.loop-name.name-index c.args.names.now (omega arith)) (c.loop-name.invariant before are)
