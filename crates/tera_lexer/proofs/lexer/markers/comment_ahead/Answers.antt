use Rattle.std.proofs.Common.{◌≡◌, ◌+◌, ap, sym, ◌∙◌, drop, true}
use Rattle.std.specs.Option.{is_some}
use Rattle.tera_lexer.specs.grammar.Marks.{marks_of}
use Rattle.tera_lexer.specs.reading.Front.{find_marker}
use Rattle.tera_lexer.specs.code.Markers.{marker_len}
use Rattle.tera_lexer.proofs.Neighbours.{comment_dashed}
use Rattle.tera_lexer.proofs.lexer.markers.comment_ahead.Goals as goal
use Rattle.tera_lexer.proofs.lexer.markers.comment_ahead.Goals.{After-find_marker}

-- the end marker is looked for after the dash
found : (c : After-find_marker) → c.find_marker.result ≡ find_marker (marks_of c.args.delimiters.now).comment_end (drop (marker_len (marks_of c.args.delimiters.now).comment_start true) c.args.rest.now)
found c =
    c.find_marker.ensures
    ∙ (λ i. find_marker ((c.as_bytes-2.ensures.value ∙ c.as_str.ensures.value) i) ((c.split_at.ensures.back ∙ (λ j. drop (c.len.ensures j + 1) (c.as_bytes.ensures.value j))) i))

pub returns-in-Some-clause-trims : goal.returns-in-Some-clause-trims
returns-in-Some-clause-trims c =
    let is = found (goal.at.returns-in-Some-clause-trims c).After-find_marker in
    sym (comment_dashed (marks_of c.args.delimiters.now) c.requires.valid c.args.rest.now true _ c.requires.starts.0 ∙ ap is_some (sym is ∙ c.in-Some.is))

pub returns-in-None-clause-trims : goal.returns-in-None-clause-trims
returns-in-None-clause-trims c =
    let is = found (goal.at.returns-in-None-clause-trims c).After-find_marker in
    sym (comment_dashed (marks_of c.args.delimiters.now) c.requires.valid c.args.rest.now true _ c.requires.starts.0 ∙ ap is_some (sym is ∙ c.in-None.is))
