use Rattle.std.proofs.Common.{◌≡◌, suc, arith, Some, Ok, ap, sym, subst, ◌∙◌}
use Rattle.tera_lexer.specs.code.Cursors.{Position}
use Rattle.tera_lexer.specs.code.CursorView.{stopped_before, with_item, left_after, in_sight, IsReadAhead}
use Rattle.tera_lexer.specs.grammar.Place.{IsWithin}
use Rattle.tera_lexer.specs.code.Seen.{seen}
use Rattle.tera_lexer.proofs.CursorSteps.{shown_is}
use Rattle.tera_lexer.proofs.lexer.cursor.Cursor.first_span.Goals as goal

pub returns-clause-shows : goal.returns-clause-shows
returns-clause-shows c =
    let first = shown_is c.self.inside.first c.in_ok-span.field-0.now c.in_ok-span.ensures in
    let within : IsReadAhead c.self.inside.tokens (Some (Ok c.in_ok-span.field-0.now)) = subst (IsReadAhead c.self.inside.tokens) first c.self.invariant.first in
    let sight : in_sight c.self.inside.first (in_sight c.self.inside.second 0) ≡ suc (in_sight c.self.inside.second 0) = ap (λ o. in_sight o (in_sight c.self.inside.second 0)) first in (
      omega (arith, sight, ap (λ (p : Position). p.sight) c.self.view_is),
      (
        seen c.in_ok-span.field-0.now.0,
        with_item (stopped_before c.self.inside.tokens) c.self.inside.second c.self.inside.tokens.left,
        sym (ap (λ (p : Position). p.left) c.self.view_is) ∙ ap (λ o. left_after c.self.inside.tokens o c.self.inside.second) first,
      ),
      subst (λ (p : Position). IsWithin p.source c.in_ok-span.field-0.now.1) c.self.view_is within,
    )
