use Rattle.std.proofs.Common.{◌∙◌, rules, sym}
use Rattle.std.proofs.lemmas.Iterator.{YieldsList-from_slice}
use Rattle.std.proofs.lemmas.Iterator.Search.{any_from_yields_List}
use Rattle.tera_templates.specs.Lost.{is_open}
use Rattle.tera_workspace.proofs.OpenedLemmas.{any_open}
use Rattle.tera_workspace.proofs.judged.are_open.Goals as goal

pub returns : goal.returns
returns c =
    any_from_yields_List (λ j. is_open j.template) _ _ _ c.any.ensures.ran (YieldsList-from_slice c.args.all.now.items cc) (λ x b q k. search rules)
    ∙ sym (any_open c.args.all.now.items)
