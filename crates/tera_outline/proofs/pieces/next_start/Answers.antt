use Rattle.std.proofs.Common.{◌≡◌, ◌<◌, ◌-◌, false, length, drop, take, sym, subst, ◌∙◌, arith}
use Rattle.tera_lexer.specs.grammar.Division.{is_at_start}
use Rattle.tera_lexer.specs.grammar.Marks.{default_marks}
use Rattle.tera_outline.proofs.Starts.{start_passed}
use Rattle.tera_outline.proofs.pieces.next_start.Goals as goal

pub loop-at-preserved : goal.loop-at-preserved
loop-at-preserved c =
    let at = c.loop-at.at in
    let text = c.args.text.now in
    let same = c.as_bytes-bytes.ensures.value in
    let inside : at < length text = subst (λ bs. at < length bs) same (omega (arith, c.loop-at-test.true)) in
    let passed : is_at_start default_marks (take (length text - at) (drop at text)) ≡ false
    = subst (λ bs. is_at_start default_marks (take (length bs - at) (drop at bs)) ≡ false) same (sym c.is_start.ensures ∙ c.if-is_start.false) in
    start_passed text at inside passed ∙ c.loop-at.invariant
