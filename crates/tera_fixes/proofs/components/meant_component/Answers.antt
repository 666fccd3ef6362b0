use Rattle.std.proofs.Common.{◌∙◌, string_bytes}
use Rattle.std.proofs.lemmas.Result.{IfOk-weaker}
use Rattle.tera_fixes.specs.Names.{component_names}
use Rattle.tera_fixes.proofs.ComponentsLemmas.{found_meaning, meaning_added, same_meanings}
use Rattle.tera_fixes.proofs.components.meant_component.Goals as goal

pub returns-in-Some-clause-meant : goal.returns-in-Some-clause-meant
returns-in-Some-clause-meant c =
    let names = component_names c.args.catalogue.now in
    IfOk-weaker c.copied.result _ _ (λ copy same. same ∙ found_meaning names c.args.meanings.now c.args.word.now c.in-Some.name.now c.requires c.in-Some.ensures.value) c.copied.ensures

pub returns-in_err-insert-clause-kept : goal.returns-in_err-insert-clause-kept
returns-in_err-insert-clause-kept c =
    same_meanings (component_names c.args.catalogue.now) c.args.meanings.now c.insert.new.self c.in_err-insert.ensures.err c.requires

pub returns-clause-kept : goal.returns-clause-kept
returns-clause-kept c =
    meaning_added (component_names c.args.catalogue.now) c.args.meanings.now c.insert.new.self (string_bytes c.in_ok-from_str.field-0) c.args.word.now c.in_ok-kept.kept
    c.in_ok-from_str.ensures.ok c.in_ok-insert.ensures.updates (c.in_ok-kept.ensures ∙ c.in_ok-name.ensures) c.requires
