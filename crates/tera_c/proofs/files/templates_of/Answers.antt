use Rattle.std.proofs.Common.{◌<◌, [], ◌∷◌, ◌++◌, length, take, sym, subst, arith}
use Rattle.std.proofs.lemmas.List.{get_or_default, take_more}
use Rattle.std.proofs.lemmas.Result.{err_from_is_err_and}
use Rattle.tera_c.specs.Files.{AreReadFrom}
use Rattle.tera_c.proofs.FileLemmas.{read_more, unread_at}
use Rattle.tera_c.proofs.files.templates_of.Goals as goal

pub loop-file-preserved : goal.loop-file-preserved
loop-file-preserved c =
    let all = c.args.files.now in
    let faults = c.args.faults in
    let at = c.loop-file.file-index in
    let within : at < length all = omega (arith, c.loop-file-test.true) in
    subst (λ fs. AreReadFrom faults fs c.push_template.new.templates.items) (sym (take_more all at _ within))
    (subst (AreReadFrom faults (take at all ++ _ ∷ [])) (sym c.in_ok-push_template.ensures)
    (read_more faults (take at all) c.loop-file.templates.items _ c.in_ok-template.template c.loop-file.invariant c.in_ok-template.ensures.ok))

pub returns-in_err-template-clause-err : goal.returns-in_err-template-clause-err
returns-in_err-template-clause-err c =
    let all = c.args.files.now in
    let within : c.loop-file.file-index < length all = omega (arith, c.loop-file-test.true) in
    let p = err_from_is_err_and c.from_residual.result c.from_residual.ensures.1 in
    rw (p.1, p.2) (unread_at all c.loop-file.file-index _ _ within (get_or_default all c.loop-file.file-index _ _ within) c.in_err-template.ensures.err)
