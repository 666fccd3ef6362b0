use Rattle.std.proofs.Common.{◌≡◌, ◌∙◌, [], IfOk, List, Some, ap, map, option_map, subst, sym}
use Rattle.std.specs.List.{find}
use Rattle.std.specs.Option.{option_map_or}
use Rattle.tera_outline.specs.Heads.{defines}
use Rattle.tera_outline.specs.Pieces.{part_of}
use Rattle.tera_outline.specs.Signatures.{ParameterVal, parameter_view, parameters_between, parameters_by}
use Rattle.tera_outline.specs.Symbols.{outlined}
use Rattle.tera_outline.proofs.signatures.parameters_of.Goals as goal

pub returns : goal.returns
returns c =
    let parts = map part_of c.args.pieces.now in
    let first : Some (outlined c.in-Some.symbol.now) ≡ find (defines c.args.name.now) (map outlined c.args.symbols.now) = ap (option_map (λ s. outlined s.now)) (sym c.in-Some.is) ∙ c.definition_in.ensures in
    subst (λ (ps : List ParameterVal). IfOk c.parameters_between.result (λ v. map parameter_view v.items ≡ ps))
    (ap (λ end. parameters_between c.in-Some.symbol.now.name_start end parts) c.head_end-end.ensures
    ∙ ap (λ found. option_map_or (parameters_by parts) found []) first)
    c.parameters_between.ensures
