use Rattle.std.proofs.Common.{Bool, Some, subst, sym}
use Rattle.tera_lexer.specs.grammar.Marks.{marks_of}
use Rattle.tera_lexer.specs.code.Markers.{IsStartOf}
use Rattle.tera_lexer.proofs.Neighbours.{variable_dashed, block_undashed, comment_undashed, nothing_dashed}
use Rattle.tera_lexer.proofs.lexer.markers.look_ahead.Goals as goal

pub returns-in-Variable-clause-trims : goal.returns-in-Variable-clause-trims
returns-in-Variable-clause-trims c =
    rw c.if-trim.false (sym (variable_dashed (marks_of c.args.delimiters.now) c.requires.valid c.args.rest.now c.in-Variable.dash _ (c.in-Variable.ensures _ c.requires).0))

pub returns-in_default-clause-trims : goal.returns-in_default-clause-trims
returns-in_default-clause-trims c =
    rw c.if-trim.false (sym (block_undashed (marks_of c.args.delimiters.now) c.requires.valid c.args.rest.now c.in-Block.dash c.if-dash.false (c.in-Block.ensures _ c.requires)))

pub returns-in_default-2-clause-trims : goal.returns-in_default-2-clause-trims
returns-in_default-2-clause-trims c =
    rw c.if-trim.false (sym (comment_undashed (marks_of c.args.delimiters.now) c.requires.valid c.args.rest.now c.in-Comment.dash c.if-dash-2.false (c.in-Comment.ensures _ c.requires)))

pub returns-in_default-3-clause-trims : goal.returns-in_default-3-clause-trims
returns-in_default-3-clause-trims c = rw c.if-trim.false (sym (nothing_dashed (marks_of c.args.delimiters.now) c.requires.valid c.args.rest.now (c.in_default.ensures _ c.requires)))

pub block_ahead-requires-clause-starts : goal.block_ahead-requires-clause-starts
block_ahead-requires-clause-starts c =
    subst (λ (b : Bool). IsStartOf (marks_of c.args.delimiters.now).block_start c.args.rest.now (Some b)) c.if-dash.true (c.in-Block.ensures _ c.requires)

pub comment_ahead-requires-clause-starts : goal.comment_ahead-requires-clause-starts
comment_ahead-requires-clause-starts c =
    subst (λ (b : Bool). IsStartOf (marks_of c.args.delimiters.now).comment_start c.args.rest.now (Some b)) c.if-dash-2.true (c.in-Comment.ensures _ c.requires)
