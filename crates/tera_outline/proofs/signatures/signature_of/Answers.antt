use Rattle.std.proofs.Common.{◌≡◌, ◌∙◌, List, Some, ap, length, map, option_map, sym}
use Rattle.tera_outline.specs.Heads.{head_of}
use Rattle.tera_outline.specs.Pieces.{part_of}
use Rattle.tera_outline.specs.Signatures.{parameter_view, parameters_of, with_parameters}
use Rattle.tera_outline.specs.Symbols.{Outlined, outline_of, outlined}
use Rattle.tera_outline.specs.declared.pieces.Piece.{Piece}
use Rattle.tera_outline.specs.declared.symbols.Symbol.{Symbol}
use Rattle.tera_outline.proofs.signatures.signature_of.Goals as goal

pub returns : goal.returns
returns c =
    let text = c.args.text.now in
    let name = c.args.name.now in
    let parts = map part_of c.in_ok-found.found.items in
    let pieces = c.as_slice-pieces.ensures.value in
    let outline : map outlined c.as_slice-symbols.result.now ≡ outline_of (length text) parts =
    ap (λ (ss : List Symbol). map outlined ss) c.as_slice-symbols.ensures.value
    ∙ (c.in_ok-outline.ensures ∙ ap (λ (ps : List Piece). outline_of (length text) (map part_of ps)) pieces) in
    let head : Some c.in-Some.head.now ≡ head_of text parts name =
    ap (option_map (λ h. h.now)) (sym c.in-Some.is) ∙ (c.head_in.ensures ∙ ap (λ (ps : List Piece). head_of text (map part_of ps) name) pieces) in
    let parameters : map parameter_view c.in_ok-parameters.parameters.items ≡ parameters_of (outline_of (length text) parts) parts name =
    c.in_ok-parameters.ensures
    ∙ (ap (λ (ss : List Outlined). parameters_of ss (map part_of c.as_slice-pieces.result.now) name) outline
    ∙ ap (λ (ps : List Piece). parameters_of (outline_of (length text) parts) (map part_of ps) name) pieces) in (
      parts,
      c.in_ok-found.ensures,
      ap (λ ps. Some (with_parameters ps c.in-Some.head.now)) parameters
          ∙ ap (option_map (with_parameters (parameters_of (outline_of (length text) parts) parts name))) head,
    )
