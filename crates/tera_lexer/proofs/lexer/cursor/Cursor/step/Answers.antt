use Rattle.std.proofs.Common.{◌≡◌, Some, Ok, sym, ◌∙◌, refl, arith}
use Rattle.tera_lexer.proofs.CursorSteps.{shown_is, some_left, took_ahead}
use Rattle.tera_lexer.proofs.lexer.cursor.Cursor.step.Goals as goal
use Rattle.tera_lexer.proofs.lexer.cursor.Cursor.step.Goals.{In-Some}

first_is : (c : In-Some) → c.self.inside.first ≡ Some (Ok c.in-Some.field-0.now)
first_is c = sym c.replace-first.ensures.value ∙ shown_is c.replace-first.result c.in-Some.field-0.now c.in-Some.ensures

pub overflow_add-self : goal.overflow_add-self
overflow_add-self c =
    let some = some_left c.self.inside.tokens c.self.inside.first c.self.inside.second c.in-Some.field-0.now (first_is (goal.at.overflow_add-self c).In-Some) in
    omega (arith, some, c.self.invariant.count, c.self.invariant.fits)

pub invariant_of-self : goal.invariant_of-self
invariant_of-self c =
    took_ahead c.self.inside _ c.in-Some.field-0.now c.next-third.result c.self.invariant (first_is (goal.at.invariant_of-self c).In-Some)
    (c.replace-first.ensures.after ∙ c.replace-second.ensures.value) c.replace-second.ensures.after c.next-third.ensures.steps refl c.copied-self-inside.ensures
