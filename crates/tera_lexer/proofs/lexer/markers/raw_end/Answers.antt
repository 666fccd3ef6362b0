use Rattle.std.proofs.Common.{◌≡◌, List, ℕ, suc, length, false, subst, ◌∙◌, arith, IsUtf8}
use Rattle.tera_lexer.specs.grammar.Marks.{marks_of}
use Rattle.tera_lexer.specs.reading.Front.{raw_end}
use Rattle.tera_lexer.specs.code.Markers.{IsRawEndOf}
use Rattle.tera_lexer.proofs.RawEnds.{raw_sound}
use Rattle.tera_lexer.proofs.TagCuts.{raw_cuts}
use Rattle.tera_lexer.proofs.lexer.markers.raw_end.Goals as goal
use Rattle.tera_lexer.proofs.lexer.markers.raw_end.Goals.{After-end_between}

start_is : (c : After-end_between) → c.as_bytes-start.result.now ≡ (marks_of c.args.delimiters.now).block_start
start_is c = c.as_bytes-start.ensures.value ∙ c.as_str.ensures.value

end_is : (c : After-end_between) → c.as_bytes-end.result.now ≡ (marks_of c.args.delimiters.now).block_end
end_is c = c.as_bytes-end.ensures.value ∙ c.as_str-2.ensures.value

ends : (c : After-end_between) → IsRawEndOf (marks_of c.args.delimiters.now).block_end c.end_between.result (raw_end (marks_of c.args.delimiters.now).block_start (marks_of c.args.delimiters.now).block_end false c.args.text.now)
ends c =
    subst (λ (l : List ℕ). IsRawEndOf (marks_of c.args.delimiters.now).block_end c.end_between.result (raw_end (marks_of c.args.delimiters.now).block_start (marks_of c.args.delimiters.now).block_end false l)) c.as_bytes.ensures.value
    (subst (λ (l : List ℕ). IsRawEndOf l c.end_between.result (raw_end (marks_of c.args.delimiters.now).block_start l false c.as_bytes.result.now)) (end_is c)
    (subst (λ (l : List ℕ). IsRawEndOf c.as_bytes-end.result.now c.end_between.result (raw_end l c.as_bytes-end.result.now false c.as_bytes.result.now)) (start_is c) c.end_between.ensures))

pub returns-clause-end : goal.returns-clause-end
returns-clause-end c = ends (goal.at.returns-clause-end c).After-end_between

pub returns-clause-cut : goal.returns-clause-cut
returns-clause-cut c =
    let at = (goal.at.returns-clause-cut c).After-end_between in
    raw_cuts (marks_of c.args.delimiters.now) c.requires c.args.text.now c.end_between.result _ c.utf8.text (subst IsUtf8 c.as_str.ensures.value c.as_str.utf8) (subst IsUtf8 c.as_str-2.ensures.value c.as_str-2.utf8) (ends at)
    (raw_sound (marks_of c.args.delimiters.now) c.requires.block_start (suc (length c.args.text.now)) c.args.text.now (omega arith))
