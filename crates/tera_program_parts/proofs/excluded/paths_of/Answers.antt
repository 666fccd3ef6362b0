use Rattle.std.proofs.Common.{◌<◌, ◌≤◌, ℕ, List, [], Bor, get_or, length, subst}
use Rattle.std.proofs.lemmas.List.{get_or-map, length-map, take_all}
use Rattle.tera_files.specs.Names.{texts}
use Rattle.tera_program_parts.specs.Excluded.{AreOfPaths}
use Rattle.tera_program_parts.proofs.ExcludedLemmas.{next_path, no_paths}
use Rattle.tera_program_parts.proofs.excluded.paths_of.Goals as goal

pub loop-path-init : goal.loop-path-init
loop-path-init c = no_paths c.new-paths.result c.new-paths.ensures.empty

pub loop-path-preserved : goal.loop-path-preserved
loop-path-preserved c =
    let i = c.loop-path.path-index in
    let none : Bor (List ℕ) = record { ref_ptr = (0, 0); now = [] } in
    let all = texts c.args.exclude.now in
    let within : i < length all = rw length-map c.loop-path-test.true in
    let at = get_or-map (λ (text : Bor (List ℕ)). text.now) c.args.exclude.now i none [] c.loop-path-test.true in
    next_path all i (get_or c.args.exclude.now i none).now c.loop-path.paths c.put_path.new.paths within at c.loop-path.invariant c.in_ok-put_path.ensures

pub returns : goal.returns
returns c =
    let all = texts c.args.exclude.now in
    let past : length all ≤ c.loop-path.path-index = rw length-map c.loop-path-test.false in
    subst (λ ts. AreOfPaths ts c.loop-path.paths) (take_all c.loop-path.path-index all past) c.loop-path.invariant
