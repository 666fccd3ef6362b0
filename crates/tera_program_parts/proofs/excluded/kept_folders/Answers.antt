use Rattle.std.proofs.Common.{rules, ◌≡◌, ◌∙◌, List, map-id, string_bytes, subst, sym}
use Rattle.std.proofs.lemmas.Iterator.Adapters.{YieldsList-from_vec}
use Rattle.std.proofs.lemmas.Iterator.Consumers.{YieldsList-end}
use Rattle.tera_files.specs.declared.finding.Unlisted.{Unlisted}
use Rattle.tera_program_parts.specs.Excluded.{AreOutside, IsExcluded}
use Rattle.tera_program_parts.proofs.KeptLemmas.{seen_next, seen_none}
use Rattle.tera_program_parts.proofs.excluded.kept_folders.Goals as goal

pub loop-one-init : goal.loop-one-init
loop-one-init g c = seen_none (λ (one : Unlisted). IsExcluded (g.R.KnownPaths.knows c.args.rt.now) c.args.paths.now (string_bytes one.folder)) c.new-kept.result.items c.new-kept.ensures.items

pub loop-one-preserved : goal.loop-one-preserved
loop-one-preserved g c =
    seen_next (λ (one : Unlisted). IsExcluded (g.R.KnownPaths.knows c.args.rt.now) c.args.paths.now (string_bytes one.folder))
    c.loop-one.yielded c.loop-one.kept.items c.keep_folder.new.kept.items c.in-Some.one c.loop-one.invariant c.in_ok-keep_folder.ensures

pub returns : goal.returns
returns g c =
    let end = YieldsList-end (YieldsList-from_vec {s = c.into_iter-one-iterator.result} c.args.folders.items (search rules) (search rules))
    c.loop-one.yielded c.loop-one.one-iterator c.loop-one.yielded_by c.next.result c.next.new.self c.in-None.is c.next.ensures.steps in
    let all : c.loop-one.yielded ≡ c.args.folders.items = sym (map-id c.loop-one.yielded) ∙ end.0 in
    subst (λ (ones : List Unlisted). AreOutside (λ one. IsExcluded (g.R.KnownPaths.knows c.args.rt.now) c.args.paths.now (string_bytes one.folder)) ones c.loop-one.kept.items) all c.loop-one.invariant
