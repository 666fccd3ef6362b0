use Rattle.tera_lexer.specs.code.Steps.{IsPart}
use Rattle.tera_lexer.proofs.TextParts.{part_whole, part_part, part_start, part_end}
use Rattle.tera_lexer.proofs.lexer.scanner.trimmed.Goals as goal
use Rattle.tera_lexer.proofs.lexer.scanner.trimmed.Goals.{Joined-start, then-start, else-start}

begun : (c : Joined-start) → IsPart c.if-start.text.now c.args.text.now
begun c =
    elim c.if-start.branch [
      | then-start w ↦ rw w.text-is (part_start c.args.text.now w.trim_start-text.result.now w.trim_start-text.ensures.value)
      | else-start w ↦ rw w.text-is (part_whole c.args.text.now)
    ]

pub returns-then-end-clause-part : goal.returns-then-end-clause-part
returns-then-end-clause-part c =
    let at = (goal.at.returns-then-end-clause-part c).Joined-start in
    part_part c.trim_end.result.now c.if-start.text.now c.args.text.now (part_end c.if-start.text.now c.trim_end.result.now c.trim_end.ensures.value) (begun at)

pub returns-else-end-clause-part : goal.returns-else-end-clause-part
returns-else-end-clause-part c = begun (goal.at.returns-else-end-clause-part c).Joined-start
