use Rattle.std.proofs.Common.{◌∙◌, ◌++◌, map, refl, ap}
use Rattle.std.specs.List.{filter, flat_map}
use Rattle.tera_outline.specs.Names.{name_view, names_of}
use Rattle.tera_outline.specs.Pieces.{part_of}
use Rattle.tera_workspace.specs.Definitions.{text_view}
use Rattle.tera_answers.specs.References.{looked_for_by, refers, reference_json, reference_tokens}
use Rattle.tera_answers.proofs.ReferenceLemmas.{references_written}
use Rattle.tera_answers.proofs.Tails.{and_so}
use Rattle.tera_answers.proofs.references.put_in.Goals as goal

pub returns-clause-tokens : goal.returns-clause-tokens
returns-clause-tokens c =
    let k = looked_for_by c.args.search in
    let s = text_view c.args.text.now in
    let parts = map part_of c.in_ok-pieces.pieces.items in
    let named = ap (map name_view) c.as_slice-2.ensures.value ∙ (c.in_ok-names.ensures ∙ ap (λ ps. names_of (map part_of ps)) c.as_slice.ensures.value) in
    and_so c.put_names.result c.put_names.ensures.tokens
    (λ h. (
      map (reference_json k s) (filter (refers k) (names_of parts)),
      (parts, c.in_ok-pieces.ensures, refl),
      h
          ∙ ap (λ ts. c.args.out.now.tokens ++ ts) (ap (flat_map (reference_tokens k s)) named ∙ references_written k s (names_of parts)),
    ))
