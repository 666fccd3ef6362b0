use Rattle.std.proofs.Common.{◌≡◌, true, List, ℕ, length, drop, sym, ap, ◌∙◌}
use Rattle.std.specs.Char.{is_ascii_whitespace}
use Rattle.tera_lexer.specs.grammar.Marks.{begins, dash_bytes}
use Rattle.tera_lexer.specs.reading.Front.{at_dash, after_dash, after_run, after_marker}
use Rattle.tera_lexer.proofs.WordTags.{tag_at, tag_last, tag_is_found}
use Rattle.tera_lexer.proofs.lexer.markers.word_tag_at.Goals as goal

pub returns : goal.returns
returns c =
    let word : List ℕ = c.args.word.now in
    let bytes : List ℕ = c.args.bytes.now in
    let dash_in : c.starts_with-dash_in.result ≡ at_dash bytes = c.starts_with-dash_in.ensures.value in
    let inner : c.split_at.result.1.now ≡ after_dash bytes
    = c.split_at.ensures.back ∙ ap (λ n. drop n bytes) (c.dash_len.ensures ∙ ap (λ d. length (dash_bytes d)) dash_in) in
    let at : c.split_at-2.result.1.now ≡ tag_at word c.args.end.now bytes
    = c.split_at-2.ensures.back ∙ ap (λ n. drop n c.split_at.result.1.now) c.run_len.ensures.run ∙ ap (after_run is_ascii_whitespace) inner in
    let here : begins word (tag_at word c.args.end.now bytes) ≡ true = sym (ap (begins word) at) ∙ sym c.starts_with.ensures.value ∙ c.if-not-starts_with.false in
    let after : c.split_at-3.result.1.now ≡ after_marker word (tag_at word c.args.end.now bytes) = c.split_at-3.ensures.back ∙ ap (after_marker word) at in
    let last : c.split_at-4.result.1.now ≡ tag_last word c.args.end.now bytes
    = c.split_at-4.ensures.back ∙ ap (λ n. drop n c.split_at-3.result.1.now) c.run_len-2.ensures.run ∙ ap (after_run is_ascii_whitespace) after in
    let dash_out : c.starts_with-dash_out.result ≡ at_dash (tag_last word c.args.end.now bytes) = c.starts_with-dash_out.ensures.value ∙ ap at_dash last in
    let end : c.split_at-5.result.1.now ≡ after_dash (tag_last word c.args.end.now bytes)
    = c.split_at-5.ensures.back ∙ (λ i. drop ((c.dash_len-2.ensures ∙ ap (λ d. length (dash_bytes d)) dash_out) i) (last i)) in
    let ends : begins c.args.end.now (after_dash (tag_last word c.args.end.now bytes)) ≡ true
    = sym (ap (begins c.args.end.now) end) ∙ sym c.begins.ensures ∙ c.if-not-begins.false in
    let rest : c.split_at-6.result.1.now ≡ after_marker c.args.end.now (after_dash (tag_last word c.args.end.now bytes)) = c.split_at-6.ensures.back ∙ ap (after_marker c.args.end.now) end in
    tag_is_found word c.args.end.now bytes c.split_at-6.result.1.now c.starts_with-dash_in.result c.starts_with-dash_out.result here ends dash_in dash_out rest
