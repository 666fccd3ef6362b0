use Rattle.std.proofs.Common.{◌≡◌, Some, None, map, option_map, string_bytes, refl, subst}
use Rattle.json.specs.Json.{null, array}
use Rattle.json.specs.Value.{items_of}
use Rattle.tera_layout.specs.Layout.{laid_out}
use Rattle.tera_lexer.specs.grammar.Marks.{marks_of}
use Rattle.tera_answers.specs.Layouts.{edit_json, AreEdits, IsLaidOut}
use Rattle.tera_answers.proofs.LayoutLemmas.{same_without_white}
use Rattle.tera_answers.proofs.Tails.{and_so}
use Rattle.tera_answers.proofs.layouts.put_layout.Goals as goal

pub put_edits_to-requires : goal.put_edits_to-requires
put_edits_to-requires c =
    let m = marks_of c.args.markers.now in
    let laid : laid_out m c.args.text.now ≡ Some (string_bytes c.in-Some.layout) =
    (subst (λ o. IsLaidOut m c.args.text.now (option_map string_bytes o)) c.in-Some.is c.in_ok-layout.ensures).1 in
    rw c.as_str.ensures.value (same_without_white m c.requires.valid c.requires.steady c.args.text.now (string_bytes c.in-Some.layout) laid)

pub returns-in-Some-clause-tokens : goal.returns-in-Some-clause-tokens
returns-in-Some-clause-tokens c =
    let m = marks_of c.args.markers.now in
    let text = c.args.text.now in
    let laid : IsLaidOut m text (Some (string_bytes c.in-Some.layout)) = subst (λ o. IsLaidOut m text (option_map string_bytes o)) c.in-Some.is c.in_ok-layout.ensures in
    and_so c.put_edits_to.result c.put_edits_to.ensures.tokens (λ given.
    let edits = given.0 in
    let written = array (items_of (map (edit_json c.args.encoding text) edits)) in
    let are : AreEdits text (string_bytes c.in-Some.layout) edits = subst (λ l. AreEdits text l edits) c.as_str.ensures.value given.1 in
    (written, (Some (string_bytes c.in-Some.layout), laid, (edits, are, refl)), given.2))

pub returns-in-None-clause-tokens : goal.returns-in-None-clause-tokens
returns-in-None-clause-tokens c =
    let m = marks_of c.args.markers.now in
    let text = c.args.text.now in
    let laid : IsLaidOut m text None = subst (λ o. IsLaidOut m text (option_map string_bytes o)) c.in-None.is c.in_ok-layout.ensures in
    and_so c.null.result c.null.ensures.ok (λ h. (null, (None, laid, refl), h))
