use Rattle.std.proofs.Common.{rules, ◌≡◌, ◌∙◌, List, String, map-id, string_bytes, subst, sym}
use Rattle.std.specs.declared.alloc.Global.{Global}
use Rattle.std.proofs.lemmas.Iterator.Adapters.{YieldsList-from_vec}
use Rattle.std.proofs.lemmas.Iterator.Consumers.{YieldsList-end}
use Rattle.tera_program_parts.specs.Excluded.{AreOutside, IsExcluded}
use Rattle.tera_program_parts.proofs.KeptLemmas.{seen_next, seen_none}
use Rattle.tera_program_parts.proofs.excluded.kept_files.Goals as goal

pub loop-file-init : goal.loop-file-init
loop-file-init g c = seen_none (λ (file : String Global). IsExcluded (g.R.KnownPaths.knows c.args.rt.now) c.args.paths.now (string_bytes file)) c.new-kept.result.items c.new-kept.ensures.items

pub loop-file-preserved : goal.loop-file-preserved
loop-file-preserved g c =
    seen_next (λ (file : String Global). IsExcluded (g.R.KnownPaths.knows c.args.rt.now) c.args.paths.now (string_bytes file))
    c.loop-file.yielded c.loop-file.kept.items c.keep.new.kept.items c.in-Some.file c.loop-file.invariant c.in_ok-keep.ensures

pub returns : goal.returns
returns g c =
    let end = YieldsList-end (YieldsList-from_vec {s = c.into_iter-file-iterator.result} c.args.files.items (search rules) (search rules))
    c.loop-file.yielded c.loop-file.file-iterator c.loop-file.yielded_by c.next.result c.next.new.self c.in-None.is c.next.ensures.steps in
    let all : c.loop-file.yielded ≡ c.args.files.items = sym (map-id c.loop-file.yielded) ∙ end.0 in
    subst (λ (fs : List (String Global)). AreOutside (λ file. IsExcluded (g.R.KnownPaths.knows c.args.rt.now) c.args.paths.now (string_bytes file)) fs c.loop-file.kept.items) all c.loop-file.invariant
