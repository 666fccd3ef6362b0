use Rattle.std.proofs.Common.{cond, ◌-◌, length, take, codes, sym, ap}
use Rattle.terminal_text.proofs.LineEnds.{no_end}
use Rattle.terminal_text.proofs.differences.parts_of.Goals as goal

pub returns-in-None-clause-body : goal.returns-in-None-clause-body
unfolding lib.Utf8.encode
returns-in-None-clause-body c =
    let line = c.args.line.now in
    ap (λ t. cond t (take (length line - 1) line) line) (sym (no_end line c.in-None.ensures.cases))

pub returns-in-None-clause-end : goal.returns-in-None-clause-end
unfolding lib.Utf8.encode
returns-in-None-clause-end c =
    ap (λ t. cond t (codes "\n") (codes "\n\\ No newline at end of file\n")) (sym (no_end c.args.line.now c.in-None.ensures.cases))
