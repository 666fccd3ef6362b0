use Rattle.std.proofs.Common.{◌≡◌, ◌++◌, ◌∷◌, [], List, ℕ, replicate, max, encode_utf8, string_bytes, ap, ◌∙◌, arith}
use Rattle.terminal_text.specs.Excerpt.{frame}
use Rattle.terminal_text.specs.Styled.{styled}
use Rattle.terminal_text.specs.declared.style.Part.TheVariants.{Frame}
use Rattle.line_text.proofs.Steps.{pushed}
use Rattle.terminal_text.proofs.Pieces.{four_pieces}
use Rattle.terminal_text.proofs.excerpt.push_mark.Goals as goal

pub returns : goal.returns
returns c =
    let before : List ℕ = string_bytes c.args.to.now in
    let first : List ℕ = styled c.args.style Frame (frame c.args.digits []) in
    let spaces : List ℕ = replicate c.args.before 32 in
    let carets : List ℕ = replicate (max c.args.above 1) 94 in
    let mark : List ℕ = styled c.args.style c.args.part carets in
    let same : c.as_str.result.now ≡ carets
    = c.as_str.ensures.value ∙ c.in_ok-push_repeated.ensures ∙ ap (λ l. l ++ replicate c.max.result 94) c.new-mark.ensures.bytes
    ∙ ap (λ n. replicate n 94) c.max.ensures in
    let written : string_bytes c.push.new.to ≡ ((before ++ first) ++ spaces) ++ mark
    = c.in_ok-push.ensures ∙ ap (λ l. string_bytes c.push_repeated-2.new.to ++ styled c.args.style c.args.part l) same
    ∙ ap (λ l. l ++ mark) (c.in_ok-push_repeated-2.ensures ∙ ap (λ l. l ++ spaces) c.in_ok-push_frame.ensures) in
    let feed : encode_utf8 10 ≡ 10 ∷ [] = c.push-2.ensures.ascii (omega arith) in
    pushed c.push-2.result _ (string_bytes c.push.new.to) (encode_utf8 10) _ c.push-2.ensures.bytes
    ((λ i. written i ++ feed i) ∙ four_pieces before first spaces mark (10 ∷ []))
