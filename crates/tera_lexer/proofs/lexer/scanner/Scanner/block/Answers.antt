use Rattle.std.proofs.Common.{◌≡◌, ◌+◌, List, ℕ, Some, length, drop, ap, subst, refl, ◌∙◌, IsUtf8}
use Rattle.tera_lexer.specs.grammar.Marks.{IsValid}
use Rattle.tera_lexer.specs.grammar.Raw.{raw_word}
use Rattle.tera_lexer.specs.reading.State.{Progress}
use Rattle.tera_lexer.specs.reading.Front.{word_tag_at}
use Rattle.tera_lexer.specs.code.Markers.{marker_len, IsWordTagOf}
use Rattle.tera_lexer.specs.declared.lexer.delimiters.Kind.TheVariants.{Block}
use Rattle.tera_lexer.specs.declared.lexer.tokens.Token.TheVariants.{TagStart}
use Rattle.tera_lexer.proofs.TagCuts.{opens_by, opens_none}
use Rattle.tera_lexer.proofs.Readings.{outside_starts}
use Rattle.tera_lexer.proofs.lexer.scanner.Scanner.block.Goals as goal
use Rattle.tera_lexer.proofs.lexer.scanner.Scanner.block.Goals.{After-raw_tag_at}

start_is : (c : After-raw_tag_at) → c.len.result + c.dash_len.result ≡ marker_len c.args.self.now.marks.block_start c.args.dash
start_is c = λ i. (c.len.ensures ∙ ap (λ (r : Progress). length r.marks.block_start) c.self.view_is) i + c.dash_len.ensures i

-- the tag is looked for after the block start
after_is : (c : After-raw_tag_at) → c.as_bytes.result.now ≡ drop (marker_len c.args.self.now.marks.block_start c.args.dash) c.args.self.now.rest
after_is c = c.as_bytes.ensures.value ∙ c.split_at.ensures.back ∙ (λ i. drop (start_is c i) (c.rest.ensures.rest i))

end_is : (c : After-raw_tag_at) → c.as_bytes-end.result.now ≡ c.args.self.now.marks.block_end
end_is c = c.as_bytes-end.ensures.value ∙ c.as_str.ensures.value ∙ ap (λ (r : Progress). r.marks.block_end) c.self.view_is

tag_is : (c : After-raw_tag_at) → IsWordTagOf raw_word c.args.self.now.marks.block_end c.raw_tag_at.result (word_tag_at raw_word c.args.self.now.marks.block_end (drop (marker_len c.args.self.now.marks.block_start c.args.dash) c.args.self.now.rest))
tag_is c =
    subst (λ (l : List ℕ). IsWordTagOf raw_word c.args.self.now.marks.block_end c.raw_tag_at.result (word_tag_at raw_word c.args.self.now.marks.block_end l)) (after_is c)
    (subst (λ (l : List ℕ). IsWordTagOf raw_word l c.raw_tag_at.result (word_tag_at raw_word l c.as_bytes.result.now)) (end_is c) c.raw_tag_at.ensures)

pub raw-requires-clause-opens : goal.raw-requires-clause-opens
raw-requires-clause-opens c =
    let at = (goal.at.raw-requires-clause-opens c).After-raw_tag_at in
    let end_text : IsUtf8 c.args.self.now.marks.block_end = subst IsUtf8 (c.as_str.ensures.value ∙ ap (λ (r : Progress). r.marks.block_end) c.self.view_is) c.as_str.utf8 in
    opens_by c.args.self.now.marks c.args.dash c.in-Some.opening c.args.self.now.rest _ (subst IsUtf8 c.rest.ensures.rest c.rest.utf8) end_text c.requires.starts.1 refl (rw c.in-Some.is at (tag_is at))

pub returns : goal.returns
returns c =
    let at = (goal.at.returns c).After-raw_tag_at in
    let valid : IsValid c.args.self.now.marks = subst IsValid (ap (λ (r : Progress). r.marks) c.self.view_is) c.self.invariant.marks in
    let opens = opens_none raw_word c.args.self.now.marks.block_end (drop (marker_len c.args.self.now.marks.block_start c.args.dash) c.args.self.now.rest) _ refl (rw c.in_default.is at (tag_is at)) in
    outside_starts c.args.self.now c.requires.going c.requires.outside valid _ (TagStart c.args.dash) c.advance.result.1 Block c.args.dash (c.len.result + c.dash_len.result) c.requires.starts opens (start_is at) refl
    (ap (λ (r : Progress). record r { tag = Some Block }) (c.self-2.view_is ∙ c.advance.ensures.state)) c.advance.ensures.span c.advance.ensures.within
