use Rattle.std.proofs.Common.{◌≡◌, ◌++◌, ◌∷◌, [], List, ℕ, encode_utf8, string_bytes, ap, ◌∙◌, arith}
use Rattle.tera_findings.specs.Findings.{place_of}
use Rattle.tera_report.specs.FullTexts.{place_text, part_of, word_of}
use Rattle.terminal_text.specs.Styled.{styled}
use Rattle.terminal_text.specs.declared.style.Part.TheVariants as parts
use Rattle.line_text.specs.Line.{on_one_line}
use Rattle.line_text.proofs.Steps.{pushed}
use Rattle.tera_report.proofs.Pieces.{six_pieces}
use Rattle.tera_report.proofs.full_text.push_line.Goals as goal

pub returns : goal.returns
returns c =
    let m = c.args.message.now in
    let before : List ℕ = string_bytes c.args.to.now in
    let place : List ℕ = styled c.args.style parts.Place (place_text m.file.now (place_of m.span.now)) in
    let word : List ℕ = styled c.args.style (part_of m.role) (word_of m.role) in
    let said : List ℕ = on_one_line m.text.now in
    let space : List ℕ = 32 ∷ [] in
    let colon : List ℕ = 58 ∷ 32 ∷ [] in
    let called : c.as_str-2.result.now ≡ word_of m.role = c.as_str-2.ensures.value ∙ c.in_ok-word.ensures in
    let named : c.as_str.result.now ≡ place_text m.file.now (place_of m.span.now)
    = c.as_str.ensures.value ∙ c.in_ok-place.ensures ∙ ap (place_text m.file.now) c.of.ensures in
    let one : string_bytes c.push.new.to ≡ before ++ place
    = c.in_ok-push.ensures ∙ ap (λ l. before ++ styled c.args.style parts.Place l) named in
    let two : string_bytes c.push-2.new.self ≡ (before ++ place) ++ space
    = c.in_ok-push-2.ensures.bytes ∙ (λ i. one i ++ c.in_ok-push-2.ensures.ascii (omega arith) i) in
    let three : string_bytes c.push-3.new.to ≡ ((before ++ place) ++ space) ++ word
    = c.in_ok-push-3.ensures ∙ (λ i. two i ++ styled c.args.style (c.part.ensures i) (called i)) in
    let four : string_bytes c.push_str.new.self ≡ (((before ++ place) ++ space) ++ word) ++ colon
    = c.in_ok-push_str.ensures.bytes ∙ ap (λ l. l ++ colon) three in
    let five : string_bytes c.push_on_one_line.new.to ≡ ((((before ++ place) ++ space) ++ word) ++ colon) ++ said
    = c.in_ok-push_on_one_line.ensures ∙ ap (λ l. l ++ said) four in
    let feed : encode_utf8 10 ≡ 10 ∷ [] = c.push-4.ensures.ascii (omega arith) in
    pushed c.push-4.result _ (string_bytes c.push_on_one_line.new.to) (encode_utf8 10) _ c.push-4.ensures.bytes
    ((λ i. five i ++ feed i) ∙ six_pieces before place space word colon said (10 ∷ []))
