use Rattle.std.proofs.Common.{◌≡◌, ◌+◌, List, ℕ, Option, None, Some, length, drop, ap, subst, refl, ◌∙◌, false}
use Rattle.tera_lexer.specs.grammar.Marks.{Marks, IsValid, marks_of}
use Rattle.tera_lexer.specs.reading.State.{Progress}
use Rattle.tera_lexer.specs.grammar.Tokens.{open_raw}
use Rattle.tera_lexer.specs.reading.Front.{RawEnd, raw_end}
use Rattle.tera_lexer.specs.code.Markers.{marker_len, IsRawEndOf}
use Rattle.tera_lexer.proofs.Readings.{body_at, open_raw_step}
use Rattle.tera_lexer.proofs.lexer.scanner.Scanner.raw.Goals as goal
use Rattle.tera_lexer.proofs.lexer.scanner.Scanner.raw.Goals.{After-raw_end}

start_is : (c : After-raw_end) → c.len.result + c.dash_len.result ≡ marker_len c.args.self.now.marks.block_start c.args.dash
start_is c = λ i. (c.len.ensures ∙ ap (λ (r : Progress). length r.marks.block_start) c.self.view_is) i + c.dash_len.ensures i

-- the end is looked for after the tag
body_is : (c : After-raw_end) → c.split_at.result.1.now ≡ drop (marker_len c.args.self.now.marks.block_start c.args.dash + c.args.opening.len) c.args.self.now.rest
body_is c = c.split_at.ensures.back ∙ (λ i. drop (start_is c i + c.args.opening.len) (c.rest.ensures.rest i))

none_of : (end : List ℕ) (o : Option RawEnd) → IsRawEndOf end None o → o ≡ None
none_of end None ends = refl
none_of end (Some e) ends = absurd ends

pub returns-in_default : goal.returns-in_default
returns-in_default c =
    let at = (goal.at.returns-in_default c).After-raw_end in
    let m = c.args.self.now.marks in
    let valid : IsValid m = subst IsValid (ap (λ (r : Progress). r.marks) c.self.view_is) c.self.invariant.marks in
    let inside = body_is at ∙ body_at c.args.self.now c.requires.going c.requires.outside valid c.args.dash c.requires.starts c.args.opening c.requires.opens in
    let marks : marks_of c.self.inside.delimiters ≡ m = ap (λ (r : Progress). r.marks) c.self.view_is in
    let none = subst (λ (k : Marks). IsRawEndOf k.block_end None (raw_end k.block_start k.block_end false c.requires.opens.1)) marks
    (subst (λ (l : List ℕ). IsRawEndOf (marks_of c.self.inside.delimiters).block_end None (raw_end (marks_of c.self.inside.delimiters).block_start (marks_of c.self.inside.delimiters).block_end false l)) inside (rw c.in_default.is at c.raw_end.ensures.end)) in
    open_raw_step c.args.self.now c.requires.going c.requires.outside valid c.args.dash c.requires.starts c.args.opening c.requires.opens c.fail.new.self c.fail.result (c.len.result + c.dash_len.result) (none_of m.block_end _ none) (start_is at)
    c.fail.ensures.state (c.fail.ensures.error open_raw c.from_str-message.ensures.ok) c.fail.ensures.within
