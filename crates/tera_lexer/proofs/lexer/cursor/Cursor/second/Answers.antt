use Rattle.std.proofs.Common.{◌≡◌, arith, ap, sym, ◌∙◌}
use Rattle.tera_lexer.specs.code.Cursors.{Position}
use Rattle.tera_lexer.specs.code.CursorView.{left_after, in_sight}
use Rattle.tera_lexer.specs.code.Seen.{seen}
use Rattle.tera_lexer.proofs.CursorSteps.{shown_is}
use Rattle.tera_lexer.proofs.lexer.cursor.Cursor.second.Goals as goal

pub returns-clause-shows : goal.returns-clause-shows
returns-clause-shows c =
    let first = shown_is c.self.inside.first c.in_ok-token_ahead.field-0.now c.in_ok-token_ahead.ensures in
    let second = shown_is c.self.inside.second c.in_ok-token.field-0.now c.in_ok-token.ensures in
    let sight : in_sight c.self.inside.first (in_sight c.self.inside.second 0) ≡ 2 = λ i. in_sight (first i) (in_sight (second i) 0) in (
      omega (arith, sight, ap (λ (p : Position). p.sight) c.self.view_is),
      (
        seen c.in_ok-token_ahead.field-0.now.0,
        c.in_ok-token_ahead.field-0.now.1,
        c.in_ok-token.field-0.now.1,
        c.self.inside.tokens.left,
        sym (ap (λ (p : Position). p.left) c.self.view_is) ∙ (λ i. left_after c.self.inside.tokens (first i) (second i)),
      ),
    )
