use Rattle.std.proofs.Common.{IsTrue, false}
use Rattle.tera_base.specs.Errors.{IsMemory}
use Rattle.tera_lexer.specs.grammar.Marks.{default_marks}
use Rattle.tera_grammar.specs.Limits.{usual}
use Rattle.tera_grammar.proofs.statements.Wholes.{names_derived}
use Rattle.tera_mend.proofs.reading.read.Goals as goal
use Rattle.tera_mend.proofs.reading.read.Goals.{Else-is_memory}

pub returns-in-Ok : goal.returns-in-Ok
returns-in-Ok c = (
  c.in-Ok.ensures.sound,
  λ other d.
      let (ns, read) = names_derived usual default_marks _ other d in
      (c.in-Ok.ensures.complete other ns read).0,
)

-- the error is not an allocation failure
reported : (c : Else-is_memory) → IsMemory c.in-Err.error → ⊥
reported c memory = let h : IsTrue false = c.if-is_memory.ensures.1 memory in cc

pub returns-else-is_memory : goal.returns-else-is_memory
returns-else-is_memory c = (
  (
    λ output d.
        let (ns, read) = names_derived usual default_marks _ output d in
        reported c (c.in-Err.ensures.complete output ns read),
    reported c,
    c.in-Err.ensures.refusal,
    c.in-Err.ensures.lost,
  ),
  c.in-Err.ensures.notes,
)
