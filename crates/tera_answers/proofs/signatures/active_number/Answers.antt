use Rattle.std.proofs.Common.{◌≡◌, ◌∙◌, Option, map, option_map, rules, sym, ap, tests}
use Rattle.std.proofs.lemmas.Iterator.{YieldsList-from_slice}
use Rattle.std.proofs.lemmas.Iterator.Search.{position_from_yields_List}
use Rattle.std.specs.List.{position}
use Rattle.std.specs.Str.{bytes_eq}
use Rattle.tera_outline.specs.Signatures.{parameter_view}
use Rattle.tera_outline.specs.declared.signatures.Parameter.{Parameter}
use Rattle.tera_tree.proofs.CallNames.{Name}
use Rattle.tera_answers.specs.Signatures.{active_number}
use Rattle.tera_answers.proofs.SignatureLemmas.{number_of}
use Rattle.tera_answers.proofs.signatures.active_number.Goals as goal

pub returns : goal.returns
returns c =
    let name = c.in_ok-name.name.now in
    let parameters = c.args.parameters.now in
    let found : c.position.result ≡ position (λ (p : Parameter). bytes_eq p.name.now name) parameters =
    position_from_yields_List (λ (p : Parameter). bytes_eq p.name.now name) _ _ c.position.result c.position.ensures.ran (YieldsList-from_slice parameters cc) (λ x b q k. search (rules, tests)) in
    found ∙ number_of name parameters ∙ ap (λ (a : Option Name). active_number (map parameter_view parameters) (option_map (λ (n : Name). n.now) a)) (sym c.in_ok-name.was)
