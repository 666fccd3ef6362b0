use Rattle.std.proofs.Common.{◌≡◌, ◌∙◌, List, map, length, None, Some, option_map, refl, sym, ap, subst}
use Rattle.json.specs.Json.{null}
use Rattle.tera_outline.specs.Calls.{call_at, in_call_view}
use Rattle.tera_outline.specs.Names.{names_of}
use Rattle.tera_outline.specs.Pieces.{part_of}
use Rattle.tera_outline.specs.declared.pieces.Piece.{Piece}
use Rattle.text_edits.specs.Lines.{lines_of}
use Rattle.text_edits.specs.Positions.{byte_of}
use Rattle.tera_answers.specs.Signatures.{IsSignatureBy}
use Rattle.tera_answers.proofs.SignatureLemmas.{signed}
use Rattle.tera_answers.proofs.Tails.{and_so}
use Rattle.tera_answers.proofs.signatures.put_signature.Goals as goal

pub returns-clause-tokens : goal.returns-clause-tokens
returns-clause-tokens c =
    let w = c.args.workspace.now in
    let text = c.args.text.now in
    let parts = map part_of c.in_ok-pieces.pieces.items in
    let byte = c.byte_at-byte.result in
    let given : None ≡ call_at (length text) byte parts = ap (option_map in_call_view) (sym c.in-None.is) ∙ rw c.as_slice.ensures.value at c.call_at.ensures in
    and_so c.null.result c.null.ensures.ok (λ written. (
      null,
      (parts, c.in_ok-pieces.ensures, signed c.args.client.labels w text parts byte (byte_of c.args.client.encoding (lines_of text) c.args.position) (length text) None null given refl c.byte_at-byte.ensures.byte refl),
      written,
    ))

pub returns-in-Some-clause-tokens : goal.returns-in-Some-clause-tokens
returns-in-Some-clause-tokens c =
    let w = c.args.workspace.now in
    let text = c.args.text.now in
    let parts = map part_of c.in_ok-pieces.pieces.items in
    let byte = c.byte_at-byte.result in
    let place = in_call_view c.in-Some.place in
    let given : Some place ≡ call_at (length text) byte parts = ap (option_map in_call_view) (sym c.in-Some.is) ∙ rw c.as_slice.ensures.value at c.call_at.ensures in
    and_so c.put_called.result c.put_called.ensures.tokens (λ h. let (j, is, written) = h in (
      j,
      (
        parts,
        c.in_ok-pieces.ensures,
        signed c.args.client.labels w text parts byte (byte_of c.args.client.encoding (lines_of text) c.args.position) (length text) (Some place) j given refl c.byte_at-byte.ensures.byte
            (subst (λ (ps : List Piece). IsSignatureBy c.args.client.labels w (names_of (map part_of ps)) place j) c.as_slice-in-Some.ensures.value is),
      ),
      written,
    ))
