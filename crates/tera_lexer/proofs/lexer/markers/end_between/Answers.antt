use Rattle.std.proofs.Common.{◌+◌, false, drop, Some, None}
use Rattle.tera_lexer.specs.grammar.Raw.{endraw_word}
use Rattle.tera_lexer.specs.reading.Front.{word_tag_at, raw_end}
use Rattle.tera_lexer.specs.code.Markers.{IsWordTagOf}
use Rattle.tera_lexer.proofs.RawEnds.{raw_start, raw_nowhere, first_missed, first_closed, closed_by, missed_by}
use Rattle.tera_lexer.proofs.lexer.markers.end_between.Goals as goal

pub end_after-requires-clause-left : goal.end_after-requires-clause-left
end_after-requires-clause-left c =
    let tag : IsWordTagOf endraw_word c.args.end.now None (word_tag_at endraw_word c.args.end.now (drop (c.in-Some.at + 2) c.args.bytes.now)) = rw c.in-None.is at (rw c.split_at.ensures.back at c.word_tag_at.ensures) in
    first_missed c.args.start.now c.args.end.now c.args.bytes.now c.requires.start c.in-Some.at c.in-Some.ensures (missed_by c.args.end.now (word_tag_at endraw_word c.args.end.now (drop (c.in-Some.at + 2) c.args.bytes.now)) tag)

pub returns-in-Some-word_tag_at : goal.returns-in-Some-word_tag_at
returns-in-Some-word_tag_at c =
    let tag : IsWordTagOf endraw_word c.args.end.now (Some c.in-Some-word_tag_at.tag) (word_tag_at endraw_word c.args.end.now (drop (c.in-Some.at + 2) c.args.bytes.now)) = rw c.in-Some-word_tag_at.is at (rw c.split_at.ensures.back at c.word_tag_at.ensures) in
    closed_by c.args.end.now c.in-Some-word_tag_at.tag c.in-Some.at (word_tag_at endraw_word c.args.end.now (drop (c.in-Some.at + 2) c.args.bytes.now)) (raw_end c.args.start.now c.args.end.now false c.args.bytes.now) tag
    (first_closed c.args.start.now c.args.end.now c.args.bytes.now c.requires.start c.in-Some.at c.in-Some.ensures)

pub returns-in_default : goal.returns-in_default
returns-in_default c =
    rw (raw_nowhere c.args.start.now c.args.end.now c.args.bytes.now 0 c.requires.start (raw_start c.args.start.now c.args.end.now c.args.bytes.now) c.in_default.ensures) tt
