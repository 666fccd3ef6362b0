use Rattle.std.proofs.Common.{◌≡◌, length, sym, subst, ap, ◌∙◌, arith, false-eqb, List, ℕ}
use Rattle.std.proofs.lemmas.Bool.Decides.{Decides-eqb}
use Rattle.tera_lexer.specs.grammar.Marks.{Marks, marks_of}
use Rattle.tera_lexer.specs.reading.State.{Progress}
use Rattle.tera_lexer.specs.code.Markers.{IsStart}
use Rattle.tera_lexer.specs.declared.lexer.markers.Start.{Start}
use Rattle.tera_lexer.proofs.Readings.{no_bytes, outside_ends}
use Rattle.tera_lexer.proofs.lexer.scanner.Scanner.unseen.Goals as goal
use Rattle.tera_lexer.proofs.lexer.scanner.Scanner.unseen.Goals.{After-start_of}

pub returns-then-is_empty : goal.returns-then-is_empty
returns-then-is_empty c =
    outside_ends c.args.self.now c.requires.going c.requires.outside c.rest-rest.ensures.valid
    (sym c.rest-rest.ensures.rest ∙ no_bytes _ ((Decides-eqb (length c.rest-rest.result.now) 0).0 (sym c.is_empty.ensures ∙ c.if-is_empty.true)))

-- it was what is left that was looked at
start_is : (c : After-start_of) → (s : Start) → c.start_of.result ≡ s → IsStart c.args.self.now.marks c.args.self.now.rest s
start_is c s is =
    subst (λ (m : Marks). IsStart m c.args.self.now.rest s) (ap (λ (r : Progress). r.marks) c.self.view_is)
    (subst (λ (l : List ℕ). IsStart (marks_of c.self.inside.delimiters) l s) c.rest-rest.ensures.rest (rw is at (c.start_of.ensures (marks_of c.self.inside.delimiters) c.self.invariant.pairs)))

pub variable-requires-clause-starts : goal.variable-requires-clause-starts
variable-requires-clause-starts c = start_is (goal.at.variable-requires-clause-starts c).After-start_of _ c.in-Variable.is

pub block-requires-clause-starts : goal.block-requires-clause-starts
block-requires-clause-starts c = start_is (goal.at.block-requires-clause-starts c).After-start_of _ c.in-Block.is

pub comment-requires-clause-starts : goal.comment-requires-clause-starts
comment-requires-clause-starts c = start_is (goal.at.comment-requires-clause-starts c).After-start_of _ c.in-Comment.is

pub text-requires-clause-text : goal.text-requires-clause-text
text-requires-clause-text c = start_is (goal.at.text-requires-clause-text c).After-start_of _ c.in-Text.is

pub text-requires-clause-some : goal.text-requires-clause-some
text-requires-clause-some c = rw (← c.rest-rest.ensures.rest) (omega (arith, false-eqb (length c.rest-rest.result.now) 0 (sym (sym c.is_empty.ensures ∙ c.if-is_empty.false))))
