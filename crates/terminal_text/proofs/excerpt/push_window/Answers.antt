use Rattle.std.proofs.Common.{◌++◌, encode_utf8_all, string_bytes, ap, ◌∙◌}
use Rattle.terminal_text.specs.Excerpt.{ellipsis}
use Rattle.terminal_text.specs.Shown.{shown}
use Rattle.terminal_text.specs.Texts.{window_view}
use Rattle.terminal_text.proofs.Pieces.{five_pieces}
use Rattle.terminal_text.proofs.excerpt.push_window.Goals as goal

pub returns-clause-text : goal.returns-clause-text
returns-clause-text c =
    let w = window_view c.args.window.now in
    c.in_ok-push_ellipsis.ensures.text ∙ ap (λ l. l ++ encode_utf8_all (ellipsis w.beyond))
    (c.in_ok-push_shown.ensures.text ∙ ap (λ l. l ++ encode_utf8_all (shown w.following))
    (c.in_ok-above.ensures.text ∙ ap (λ l. l ++ encode_utf8_all (shown w.marked))
    (c.in_ok-before.ensures.text ∙ ap (λ l. l ++ encode_utf8_all (shown w.before)) c.in_ok-left_out.ensures.text)))
    ∙ five_pieces (string_bytes c.args.to.now) (ellipsis w.left_out) (shown w.before) (shown w.marked) (shown w.following) (ellipsis w.beyond)
