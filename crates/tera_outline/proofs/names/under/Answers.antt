use Rattle.std.proofs.Common.{◌∙◌, rules, tests}
use Rattle.std.proofs.lemmas.Iterator.Adapters.{YieldsList-from_vec}
use Rattle.std.proofs.lemmas.Iterator.Search.{find_from_yields_List}
use Rattle.tera_outline.specs.Names.{name_view, holds}
use Rattle.tera_outline.proofs.Finding.{found_view_of}
use Rattle.tera_outline.proofs.names.under.Goals as goal

pub returns : goal.returns
returns c =
    found_view_of (holds c.args.byte) c.find.result c.in_ok-names.names.items _
    (find_from_yields_List (λ n. holds c.args.byte (name_view n)) c.find.new.self _ c.find.result c.find.ensures.ran
    (YieldsList-from_vec c.in_ok-names.names.items c.into_iter.ensures.rest (c.into_iter.ensures.len ∙ c.in_ok-names.names.ok.0)) (λ x b q k. search (rules, tests)))
    c.in_ok-names.ensures
