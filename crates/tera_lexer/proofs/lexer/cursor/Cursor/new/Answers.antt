use Rattle.std.proofs.Common.{◌≡◌, IsUtf8, ap, sym, subst, ◌∙◌, List, ℕ, ◌<◌, ◌^◌, length, arith}
use Rattle.std.proofs.lemmas.Str.{IsCharBoundary-start}
use Rattle.tera_lexer.specs.grammar.Lexed.{AreLexed}
use Rattle.tera_lexer.specs.code.Cursors.{size}
use Rattle.std.specs.Str.{IsCharBoundary}
use Rattle.tera_lexer.specs.grammar.Place.{IsWithin}
use Rattle.tera_base.specs.declared.utils.Span.{Span}
use Rattle.tera_lexer.proofs.Tilings.{size_count}
use Rattle.tera_lexer.proofs.CursorSteps.{GoesFurther, left_on, read_ahead, steps_whole, further}
use Rattle.tera_lexer.proofs.lexer.cursor.Cursor.new.Goals as goal
use Rattle.tera_lexer.proofs.lexer.cursor.Cursor.new.Goals.{After-next-second}

further_is : (c : After-next-second) → GoesFurther c.next-first.new.self c.next-second.new.self c.next-first.result c.next-second.result
further_is c = further c.next-first.new.self c.next-second.new.self c.next-first.result c.next-second.result (read_ahead c.args.tokens c.next-first.new.self c.next-first.result c.next-first.ensures.steps) c.next-second.ensures.steps

-- the span before the first token lies in each text
within : (source : List ℕ) (span : Span) → IsUtf8 source → span.range.start ≡ 0 → span.range.end ≡ 0 → IsWithin source span
within source span text start end =
    let cut = IsCharBoundary-start source text in
    (omega (arith, start, end), subst (IsCharBoundary source) (sym start) cut, subst (IsCharBoundary source) (sym end) cut)

pub invariant_of-result : goal.invariant_of-result
invariant_of-result c =
    let on = further_is (goal.at.invariant_of-result c).After-next-second in
    let first = steps_whole c.args.tokens c.next-first.new.self c.next-first.result c.next-first.ensures.steps in
    let whole : c.next-second.new.self.source ≡ c.args.tokens.source = on.whole ∙ first in
    let left = left_on c.args.tokens c.next-first.new.self c.next-first.result c.next-first.ensures.steps ∙ on.left in
    record {
      first = on.near;
      second = on.far;
      follows = on.follows;
      tokens = subst AreLexed left c.alloc-alloc.ensures.tokens;
      count = omega (arith, ap size left, size_count c.args.tokens.left, c.alloc-alloc.ensures.count, ap length whole);
      fits = subst (λ (l : List ℕ). length l < 2 ^ 64) (sym whole) c.alloc-alloc.ensures.fits;
      span = within c.next-second.new.self.source c.default.result (subst IsUtf8 (sym whole) c.alloc-alloc.ensures.text) c.default.ensures.1.1.1.1.0 c.default.ensures.1.1.1.1.1;
    }

pub returns-clause-left : goal.returns-clause-left
returns-clause-left c =
    let on = further_is (goal.at.returns-clause-left c).After-next-second in
    sym (left_on c.args.tokens c.next-first.new.self c.next-first.result c.next-first.ensures.steps ∙ on.left)

pub returns-clause-source : goal.returns-clause-source
returns-clause-source c =
    let on = further_is (goal.at.returns-clause-source c).After-next-second in
    on.whole ∙ steps_whole c.args.tokens c.next-first.new.self c.next-first.result c.next-first.ensures.steps
