use Rattle.std.proofs.Common.{◌≡◌, ◌∙◌, ◌++◌, map, string_bytes, List, Some, None, option_map, length, refl, sym, ap}
use Rattle.json.specs.Json.{null}
use Rattle.text_edits.specs.Lines.{lines_of}
use Rattle.text_edits.specs.Positions.{byte_of}
use Rattle.text_edits.specs.declared.positions.Position.{Position}
use Rattle.tera_outline.specs.Bound.{bound_of}
use Rattle.tera_outline.specs.Completions.{completion_at, slot_of}
use Rattle.tera_outline.specs.Names.{names_of}
use Rattle.tera_outline.specs.Pieces.{part_of}
use Rattle.tera_outline.specs.declared.pieces.Piece.{Piece}
use Rattle.json.specs.Tree.{json_tokens}
use Rattle.tera_answers.specs.Completions.{completion_json, items_json, kind_number, offered}
use Rattle.tera_answers.specs.Positions.{position_at}
use Rattle.tera_editor.specs.Settings.{registered_view}
use Rattle.tera_editor.specs.Templates.{roots_view}
use Rattle.tera_answers.proofs.CompletionLemmas.{reported}
use Rattle.tera_answers.proofs.Tails.{and_so}
use Rattle.tera_answers.proofs.completions.put_completion.Goals as goal

pub returns-clause-tokens : goal.returns-clause-tokens
returns-clause-tokens c =
    let e = c.args.encoding in
    let w = c.args.offering.workspace.now in
    let roots = roots_view c.args.offering.roots in
    let r = registered_view c.args.registered in
    let text = c.args.text.now in
    let parts = map part_of c.in_ok-pieces.pieces.items in
    let byte = c.byte_at-byte.result in
    let given : None ≡ option_map (completion_at byte) (slot_of (length text) byte parts) =
    sym c.in-None.is ∙ rw c.as_slice.ensures.value at c.completion_for.ensures in
    and_so c.null.result c.null.ensures.ok (λ written. (
      null,
      (parts, c.in_ok-pieces.ensures, reported e w roots r text parts byte (byte_of e (lines_of text) c.args.position) (length text) None given refl c.byte_at-byte.ensures.byte),
      written,
    ))

pub returns-in-Some-clause-tokens : goal.returns-in-Some-clause-tokens
returns-in-Some-clause-tokens c =
    let e = c.args.encoding in
    let w = c.args.offering.workspace.now in
    let roots = roots_view c.args.offering.roots in
    let r = registered_view c.args.registered in
    let text = c.args.text.now in
    let parts = map part_of c.in_ok-pieces.pieces.items in
    let byte = c.byte_at-byte.result in
    let one = c.in-Some.completion in
    let given : Some one ≡ option_map (completion_at byte) (slot_of (length text) byte parts) =
    sym c.in-Some.is ∙ rw c.as_slice.ensures.value at c.completion_for.ensures in
    let old = c.args.out.now.tokens in
    let kind = kind_number one.kind in
    let start = position_at e text one.start in
    let names = offered w roots r (names_of (map part_of c.as_slice-in-Some.result.now)) (bound_of (map part_of c.as_slice-in-Some.result.now)) one.kind in
    and_so c.put_offered.result c.put_offered.ensures.tokens (λ written. (
      completion_json e w roots r text (names_of parts) (bound_of parts) byte (Some one),
      (parts, c.in_ok-pieces.ensures, reported e w roots r text parts byte (byte_of e (lines_of text) c.args.position) (length text) (Some one) given refl c.byte_at-byte.ensures.byte),
      written
          ∙ ap (λ (p : Position). old ++ json_tokens (items_json p c.position_at-in-Some.result kind names)) c.position_at.ensures
          ∙ ap (λ (p : Position). old ++ json_tokens (items_json start p kind names)) c.position_at-in-Some.ensures
          ∙ ap (λ (ps : List Piece). old ++ json_tokens (items_json start (position_at e text byte) kind (offered w roots r (names_of (map part_of ps)) (bound_of (map part_of ps)) one.kind))) c.as_slice-in-Some.ensures.value,
    ))
