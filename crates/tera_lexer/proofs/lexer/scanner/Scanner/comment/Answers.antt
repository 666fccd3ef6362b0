use Rattle.std.proofs.Common.{◌≡◌, ◌++◌, ◌+◌, List, ℕ, length, drop, ap, sym, subst, ◌∙◌, codes, string_bytes}
use Rattle.std.specs.Prelude.{IfOk}
use Rattle.tera_lexer.specs.grammar.Marks.{IsValid}
use Rattle.tera_lexer.specs.reading.State.{Progress}
use Rattle.tera_lexer.specs.grammar.Tokens.{open_comment}
use Rattle.tera_lexer.specs.reading.Front.{find_marker}
use Rattle.tera_lexer.specs.code.Markers.{marker_len}
use Rattle.tera_lexer.proofs.Readings.{open_comment_step}
use Rattle.tera_lexer.proofs.lexer.scanner.Scanner.comment.Goals as goal
use Rattle.tera_lexer.proofs.lexer.scanner.Scanner.comment.Goals.{After-find_marker}

-- how long the start is, what is after it, and the end marker
start_is : (c : After-find_marker) → c.len.result + c.dash_len.result ≡ marker_len c.args.self.now.marks.comment_start c.args.dash
start_is c = λ i. (c.len.ensures ∙ ap (λ (r : Progress). length r.marks.comment_start) c.self.view_is) i + c.dash_len.ensures i

after_is : (c : After-find_marker) → c.as_bytes.result.now ≡ drop (marker_len c.args.self.now.marks.comment_start c.args.dash) c.args.self.now.rest
after_is c = c.as_bytes.ensures.value ∙ c.split_at.ensures.back ∙ (λ i. drop (start_is c i) (c.rest.ensures.rest i))

end_is : (c : After-find_marker) → c.as_str-end.result.now ≡ c.args.self.now.marks.comment_end
end_is c = c.as_str-end.ensures.value ∙ ap (λ (r : Progress). r.marks.comment_end) c.self.view_is

found : (c : After-find_marker) → c.find_marker.result ≡ find_marker c.args.self.now.marks.comment_end (drop (marker_len c.args.self.now.marks.comment_start c.args.dash) c.args.self.now.rest)
found c = c.find_marker.ensures ∙ (λ i. find_marker ((c.as_bytes-2.ensures.value ∙ end_is c) i) (after_is c i))

pub returns-in_default : goal.returns-in_default
returns-in_default c =
    let at = (goal.at.returns-in_default c).After-find_marker in
    let valid : IsValid c.args.self.now.marks = subst IsValid (ap (λ (r : Progress). r.marks) c.self.view_is) c.self.invariant.marks in
    let text = subst (λ (l : List ℕ). IfOk c.format-message.result (λ t. string_bytes t ≡ codes "Closing comment tag `" ++ (l ++ codes "` not found"))) (end_is at) c.format-message.ensures.ok in
    open_comment_step c.args.self.now c.requires.going c.requires.outside valid c.args.dash c.requires.starts c.fail.new.self c.fail.result (c.len.result + c.dash_len.result) (sym (found at) ∙ c.in_default.is) (start_is at)
    c.fail.ensures.state (c.fail.ensures.error (open_comment c.args.self.now.marks) text) c.fail.ensures.within
