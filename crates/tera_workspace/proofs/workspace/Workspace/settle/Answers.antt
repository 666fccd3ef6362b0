use Rattle.std.proofs.Common.{◌≡◌, ℕ, List, IfOk, map, string_bytes, subst}
use Rattle.tera_workspace.specs.Diagnostics.{DiagnosticVal}
use Rattle.tera_workspace.specs.Workspaces.{reported_of_name, AreOthers}
use Rattle.tera_workspace.proofs.workspace.Workspace.settle.Goals as goal

pub returns-clause-names : goal.returns-clause-names
returns-clause-names c = λ kept.
    let before : (λ (n : List ℕ). reported_of_name c.read.new.self n) ≡ (λ (n : List ℕ). reported_of_name c.args.self.now n) = λ i n. c.read.ensures.reported n i in
    subst (λ (was : List ℕ → List DiagnosticVal). IfOk c.settle_read.result (λ v. AreOthers (map string_bytes v.items) was (reported_of_name c.settle_read.new.self))) before
    (c.settle_read.ensures.names (c.read.ensures.kept kept))
