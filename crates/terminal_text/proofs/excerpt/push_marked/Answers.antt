use Rattle.std.proofs.Common.{◌≡◌, ◌++◌, ◌∷◌, [], List, ℕ, length, max, decimal, encode_utf8_all, string_bytes, ap, ◌∙◌, arith}
use Rattle.std.proofs.lemmas.Result.{IfOk-equal}
use Rattle.terminal_text.specs.Excerpt.{Window, shown_before, shown_line, frame, digits_of, mark_line}
use Rattle.terminal_text.specs.Shown.{shown, columns}
use Rattle.terminal_text.specs.Styled.{styled}
use Rattle.terminal_text.specs.declared.style.Part.TheVariants.{Frame}
use Rattle.terminal_text.proofs.Pieces.{three_pieces}
use Rattle.terminal_text.specs.Texts.{window_view}
use Rattle.terminal_text.proofs.excerpt.push_marked.Goals as goal

pub returns : goal.returns
returns c =
    let before : List ℕ = string_bytes c.args.to.now in
    let w : Window = window_view c.args.window.now in
    let number : List ℕ = decimal c.args.number in
    let same : c.as_str-text.result.now ≡ number = c.as_str-text.ensures.value ∙ c.in_ok-number.ensures.ok in
    let long : c.max-digits.result ≡ digits_of c.args.number
    = c.max-digits.ensures ∙ ap (λ (l : List ℕ). max (length l) 5) same in
    let first : List ℕ = styled c.args.style Frame (frame (digits_of c.args.number) number) in
    let line : List ℕ = encode_utf8_all (shown_line w) in
    let framed : string_bytes c.push_frame.new.to ≡ before ++ first
    = c.in_ok-push_frame.ensures ∙ (λ i. before ++ styled c.args.style Frame (frame (long i) (same i))) in
    let shown_there : string_bytes c.push_window.new.to ≡ (before ++ first) ++ line
    = c.in_ok-before.ensures.text ∙ ap (λ l. l ++ line) framed in
    let fed : string_bytes c.push.new.self ≡ ((before ++ first) ++ line) ++ 10 ∷ []
    = c.in_ok-push.ensures.bytes ∙ (λ i. shown_there i ++ c.in_ok-push.ensures.ascii (omega arith) i) in
    let columns_are = c.in_ok-before.ensures.columns in
    let place : c.in_ok-before.before ≡ columns (shown_before w)
    = ap (λ (p : ℕ × ℕ). p.0) columns_are in
    let width : c.in_ok-before.above ≡ columns (shown w.marked)
    = ap (λ (p : ℕ × ℕ). p.1) columns_are in
    let there : mark_line c.args.style c.args.part c.max-digits.result c.in_ok-before.before c.in_ok-before.above
    ≡ mark_line c.args.style c.args.part (digits_of c.args.number) (columns (shown_before w)) (columns (shown w.marked))
    = (λ i. mark_line c.args.style c.args.part (long i) (place i) (width i)) in
    IfOk-equal c.push_mark.result _ _ _ c.push_mark.ensures
    ((λ i. fed i ++ there i) ∙ three_pieces before first line _)
