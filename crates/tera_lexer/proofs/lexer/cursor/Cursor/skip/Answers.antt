use Rattle.std.proofs.Common.{◌+◌, Ok, Some, subst, refl}
use Rattle.tera_lexer.specs.code.Cursors.{Position, Takes}
use Rattle.tera_lexer.specs.code.CursorView.{position_of}
use Rattle.tera_lexer.specs.declared.lexer.cursor.Cursor.TheInside.{Inside}
use Rattle.tera_lexer.proofs.CursorSteps.{shown_is, took_ahead, took}
use Rattle.tera_lexer.proofs.lexer.cursor.Cursor.skip.Goals as goal

pub invariant_of-self : goal.invariant_of-self
invariant_of-self c =
    took_ahead c.self.inside _ c.in-Some.field-0.now c.next.result c.self.invariant (shown_is c.self.inside.first c.in-Some.field-0.now c.in-Some.ensures)
    c.replace.ensures.value c.replace.ensures.after c.next.ensures.steps refl c.copied-self-inside.ensures

pub returns-clause-skips : goal.returns-clause-skips
returns-clause-skips c =
    let p = c.in-Some.field-0.now in
    let new : Inside = record { alloc = c.self.inside.alloc; tokens = c.next.new.self; first = c.replace.result; second = c.replace.new.dest; taken = c.self.inside.taken + 1; current_span = c.copied-self-inside.result } in (
      p,
      subst (λ (q : Position). Takes q (Ok (Some p)) (position_of new)) c.self.view_is
          (took c.self.inside new p c.next.result c.self.invariant (shown_is c.self.inside.first p c.in-Some.ensures)
          c.replace.ensures.value c.replace.ensures.after c.next.ensures.steps refl c.copied-self-inside.ensures),
    )
