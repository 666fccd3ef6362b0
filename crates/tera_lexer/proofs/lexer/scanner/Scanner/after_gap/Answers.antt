use Rattle.std.proofs.Common.{List, ℕ, ap, subst, refl, ◌∙◌, IsUtf8}
use Rattle.tera_lexer.specs.grammar.Marks.{end_marker}
use Rattle.tera_lexer.specs.reading.State.{Progress}
use Rattle.tera_lexer.specs.reading.Front.{front_of}
use Rattle.tera_lexer.specs.code.Found.{IsFound, IsPlainAt}
use Rattle.tera_lexer.specs.code.Seen.{seen}
use Rattle.tera_lexer.specs.code.Markers.{IsEndOf}
use Rattle.tera_lexer.specs.declared.lexer.lexeme.Found.TheVariants.{Lexeme, Text, Escaped, Fault}
use Rattle.tera_lexer.specs.declared.lexer.tokens.Token.TheVariants.{Str}
use Rattle.tera_lexer.proofs.Finds.{found_cut, front_here, plain_printable}
use Rattle.tera_lexer.proofs.Readings.{lexeme_step, fault_step}
use Rattle.tera_lexer.proofs.lexer.scanner.Scanner.after_gap.Goals as goal
use Rattle.tera_lexer.proofs.lexer.scanner.Scanner.after_gap.Goals.{After-end_at, After-lexeme_at}

-- what was found is of what is left
end_is : (c : After-end_at) → IsEndOf (end_marker c.args.kind c.args.self.now.marks) c.args.self.now.rest c.end_at.result
end_is c =
    subst (λ (m : List ℕ). IsEndOf m c.args.self.now.rest c.end_at.result) (c.end.ensures ∙ ap (λ (r : Progress). end_marker c.args.kind r.marks) c.self.view_is)
    (subst (λ (l : List ℕ). IsEndOf c.end.result.now l c.end_at.result) c.rest-rest.ensures.rest c.end_at.ensures)

found_is : (c : After-lexeme_at) → IsFound c.lexeme_at.result (front_of c.args.self.now.rest)
found_is c = subst (λ (l : List ℕ). IsFound c.lexeme_at.result (front_of l)) c.rest-rest.ensures.rest c.lexeme_at.ensures

utf8 : (c : After-end_at) → IsUtf8 c.args.self.now.rest
utf8 c = subst IsUtf8 c.rest-rest.ensures.rest c.rest-rest.utf8

pub close-requires-clause-ends : goal.close-requires-clause-ends
close-requires-clause-ends c = rw c.in-Some.is at (end_is (goal.at.close-requires-clause-ends c).After-end_at)

pub advance_plain-span-requires-clause-cut : goal.advance_plain-span-requires-clause-cut
advance_plain-span-requires-clause-cut c =
    let at = goal.at.advance_plain-span-requires-clause-cut c in
    found_cut c.args.self.now.rest (Lexeme c.in-Lexeme.token c.in-Lexeme.len) (utf8 at.After-end_at) c.requires.some (rw c.in-Lexeme.is at (found_is at.After-lexeme_at))

pub advance_plain-span-requires-clause-printable : goal.advance_plain-span-requires-clause-printable
advance_plain-span-requires-clause-printable c =
    let at = goal.at.advance_plain-span-requires-clause-printable c in
    plain_printable c.args.self.now.rest (seen c.in-Lexeme.token) c.in-Lexeme.len (front_of c.args.self.now.rest) (front_here c.args.self.now.rest c.requires.some) (rw c.in-Lexeme.is at (found_is at.After-lexeme_at))

pub advance_string-span-requires : goal.advance_string-span-requires
advance_string-span-requires c =
    let at = goal.at.advance_string-span-requires c in
    found_cut c.args.self.now.rest (Text c.in-Text.inside c.in-Text.len) (utf8 at.After-end_at) c.requires.some (rw c.in-Text.is at (found_is at.After-lexeme_at))

pub escaped-requires-clause-cut : goal.escaped-requires-clause-cut
escaped-requires-clause-cut c =
    let at = goal.at.escaped-requires-clause-cut c in
    found_cut c.args.self.now.rest (Escaped c.in-Escaped.inside c.in-Escaped.len) (utf8 at.After-end_at) c.requires.some (rw c.in-Escaped.is at (found_is at.After-lexeme_at))

pub fail-requires : goal.fail-requires
fail-requires c =
    let at = goal.at.fail-requires c in
    found_cut c.args.self.now.rest (Fault c.in-Fault.field-0) (utf8 at.After-end_at) c.requires.some (rw c.in-Fault.is at (found_is at.After-lexeme_at))

pub returns-in-Lexeme : goal.returns-in-Lexeme
returns-in-Lexeme c =
    let at = goal.at.returns-in-Lexeme c in
    let found : IsPlainAt (seen c.in-Lexeme.token) c.in-Lexeme.len (front_of c.args.self.now.rest) = rw c.in-Lexeme.is at (found_is at.After-lexeme_at) in
    lexeme_step c.args.self.now c.requires.going c.args.kind c.requires.inside c.rest-rest.ensures.valid c.requires.stops c.requires.some (rw c.in_default.is at (end_is at.After-end_at)) c.advance_plain-span.new.self c.in-Lexeme.token c.advance_plain-span.result c.in-Lexeme.len
    (front_of c.args.self.now.rest) refl (front_here c.args.self.now.rest c.requires.some) found.0 c.advance_plain-span.ensures.state c.advance_plain-span.ensures.span c.advance_plain-span.ensures.within

pub returns-in-Text : goal.returns-in-Text
returns-in-Text c =
    let at = goal.at.returns-in-Text c in
    lexeme_step c.args.self.now c.requires.going c.args.kind c.requires.inside c.rest-rest.ensures.valid c.requires.stops c.requires.some (rw c.in_default.is at (end_is at.After-end_at)) c.advance_string-span.new.self (Str c.in-Text.inside) c.advance_string-span.result c.in-Text.len
    (front_of c.args.self.now.rest) refl (front_here c.args.self.now.rest c.requires.some) (rw c.in-Text.is at (found_is at.After-lexeme_at)) c.advance_string-span.ensures.state c.advance_string-span.ensures.span c.advance_string-span.ensures.within

pub returns-in-Fault : goal.returns-in-Fault
returns-in-Fault c =
    let at = goal.at.returns-in-Fault c in
    fault_step c.args.self.now c.requires.going c.args.kind c.requires.inside c.rest-rest.ensures.valid c.requires.stops c.requires.some (rw c.in_default.is at (end_is at.After-end_at)) c.fail.new.self c.fail.result c.in-Fault.field-0.message.now c.in-Fault.field-0.len
    (front_of c.args.self.now.rest) refl (front_here c.args.self.now.rest c.requires.some) (rw c.in-Fault.is at (found_is at.After-lexeme_at)) c.fail.ensures.state
    (c.fail.ensures.error c.in-Fault.field-0.message.now c.from_str-message.ensures.ok) c.fail.ensures.within
