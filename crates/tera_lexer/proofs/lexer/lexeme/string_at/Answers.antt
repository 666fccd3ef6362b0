use Rattle.std.proofs.Common.{◌≡◌, ℕ, Bool, true, false, List, [], ◌∷◌, take, drop, get_or, Option, Some, None, sym, subst, ap, ◌∙◌}
use Rattle.std.specs.Str.{IsCharBoundary}
use Rattle.tera_lexer.specs.grammar.Lexeme.{is_quote}
use Rattle.tera_lexer.specs.reading.Front.{closing_at, unknown_in}
use Rattle.tera_lexer.specs.code.Found.{IsClosing}
use Rattle.tera_lexer.proofs.Closings.{IsInsideOf}
use Rattle.tera_lexer.proofs.Cuts.{cut_after_byte, quote_ascii}
use Rattle.tera_lexer.proofs.Finds.{first_and_others, unclosed_is_found, inside_is_found, inside_cut, unknown_is_found, escaped_is_found, plain_is_found}
use Rattle.tera_lexer.proofs.lexer.lexeme.string_at.Goals as goal
use Rattle.tera_lexer.proofs.lexer.lexeme.string_at.Goals.{After-string_end, After-split_at-2}

pub split_at-requires : goal.split_at-requires
split_at-requires c =
    let (splits, quote) = first_and_others is_quote c.args.rest.now c.requires in
    cut_after_byte c.args.rest.now [] (drop 1 c.args.rest.now) (get_or c.args.rest.now 0 0) c.utf8.rest splits (quote_ascii (get_or c.args.rest.now 0 0) quote)

-- the text is the quote and what is after it
splits : (c : After-string_end) → c.args.rest.now ≡ get_or c.as_bytes.result.now 0 0 ∷ c.as_bytes-2.result.now
splits c =
    (first_and_others is_quote c.args.rest.now c.requires).0
    ∙ (λ i. get_or (sym c.as_bytes.ensures.value i) 0 0 ∷ sym (c.as_bytes-2.ensures.value ∙ c.split_at.ensures.back) i)

quote : (c : After-string_end) → is_quote (get_or c.as_bytes.result.now 0 0) ≡ true
quote c = rw c.as_bytes.ensures.value ((first_and_others is_quote c.args.rest.now c.requires).1)

-- where it closes, and whether a backslash is in it
end : (c : After-string_end) (o : Option (ℕ × Bool)) → c.string_end.result ≡ o → IsClosing (closing_at (get_or c.as_bytes.result.now 0 0) false c.as_bytes-2.result.now) c.as_bytes-2.result.now o
end c o is = subst (IsClosing (closing_at (get_or c.as_bytes.result.now 0 0) false c.as_bytes-2.result.now) c.as_bytes-2.result.now) is c.string_end.ensures

pub string_end-requires : goal.string_end-requires
string_end-requires c = rw c.as_bytes.ensures.value ((first_and_others is_quote c.args.rest.now c.requires).1)

pub returns-in_default : goal.returns-in_default
returns-in_default c =
    let at = (goal.at.returns-in_default c).After-string_end in
    rw c.unclosed.ensures (unclosed_is_found _ c.args.rest.now c.as_bytes-2.result.now (splits at) (quote at) (end at None c.in_default.is))

inside : (c : After-string_end) (n : ℕ) (escapes : Bool) → c.string_end.result ≡ Some (n, escapes) → IsInsideOf (get_or c.as_bytes.result.now 0 0) n c.as_bytes-2.result.now
inside c n escapes is = inside_is_found _ c.args.rest.now c.as_bytes-2.result.now (splits c) (quote c) n (end c (Some (n, escapes)) is).0

pub split_at-requires-2 : goal.split_at-requires-2
split_at-requires-2 c =
    let at = (goal.at.split_at-requires-2 c).After-string_end in
    subst (λ (l : List ℕ). IsCharBoundary l c.in-Some.len) c.as_bytes-2.ensures.value
    (inside_cut _ c.args.rest.now c.as_bytes-2.result.now (splits at) (quote at) c.in-Some.len (inside at c.in-Some.len c.in-Some.escapes c.in-Some.is))

-- what is between the quotes
text_is : (c : After-split_at-2) → c.split_at-2.result.0.now ≡ take c.in-Some.len c.as_bytes-2.result.now
text_is c = c.split_at-2.ensures.front ∙ ap (take c.in-Some.len) (sym c.as_bytes-2.ensures.value)

pub returns-then-not-escapes : goal.returns-then-not-escapes
returns-then-not-escapes c =
    let at = goal.at.returns-then-not-escapes c in
    let here = at.After-string_end in
    rw (text_is at.After-split_at-2) (plain_is_found _ c.args.rest.now c.as_bytes-2.result.now (splits here) (quote here) c.in-Some.len (inside here c.in-Some.len c.in-Some.escapes c.in-Some.is)
    ((end here (Some (c.in-Some.len, c.in-Some.escapes)) c.in-Some.is).1 ∙ c.if-not-escapes.true))

-- and whether an escape in it is unknown
pub returns-then-has_unknown_escape : goal.returns-then-has_unknown_escape
returns-then-has_unknown_escape c =
    let at = goal.at.returns-then-has_unknown_escape c in
    let here = at.After-string_end in
    let unknown = c.has_unknown_escape.ensures ∙ ap (unknown_in false) (c.as_bytes-3.ensures.value ∙ text_is at.After-split_at-2) in
    unknown_is_found _ c.args.rest.now c.as_bytes-2.result.now (splits here) (quote here) c.in-Some.len (inside here c.in-Some.len c.in-Some.escapes c.in-Some.is) (sym unknown ∙ c.if-has_unknown_escape.true)

pub returns : goal.returns
returns c =
    let at = goal.at.returns c in
    let here = at.After-string_end in
    let unknown = c.has_unknown_escape.ensures ∙ ap (unknown_in false) (c.as_bytes-3.ensures.value ∙ text_is at.After-split_at-2) in
    rw (text_is at.After-split_at-2) (escaped_is_found _ c.args.rest.now c.as_bytes-2.result.now (splits here) (quote here) c.in-Some.len (inside here c.in-Some.len c.in-Some.escapes c.in-Some.is)
    ((end here (Some (c.in-Some.len, c.in-Some.escapes)) c.in-Some.is).1 ∙ c.if-not-escapes.false) (sym unknown ∙ c.if-has_unknown_escape.false))
