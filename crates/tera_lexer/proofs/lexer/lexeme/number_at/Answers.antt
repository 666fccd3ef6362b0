use Rattle.std.proofs.Common.{◌≡◌, ◌+◌, [], ◌∷◌, take, drop, sym, ap, ◌∙◌, w64, to_z, of_z}
use Rattle.std.specs.List.{prefix_len}
use Rattle.std.specs.Char.{is_ascii_digit}
use Rattle.std.proofs.lemmas.List.{take_rest}
use Rattle.std.proofs.lemmas.Int.{to_z_pos}
use Rattle.tera_lexer.specs.grammar.Marks.{begins}
use Rattle.tera_lexer.specs.grammar.Lexeme.{decimal}
use Rattle.tera_lexer.specs.grammar.Tokens.{Integer}
use Rattle.tera_lexer.specs.reading.Front.{run_of, after_run}
use Rattle.tera_lexer.proofs.Cuts.{run_cut, digit_ascii}
use Rattle.tera_lexer.proofs.Finds.{float_is_found, integer_is_found, great_is_found, digits_parsed}
use Rattle.tera_lexer.proofs.lexer.lexeme.number_at.Goals as goal
use Rattle.tera_lexer.proofs.lexer.lexeme.number_at.Goals.{After-split_at, After-starts_with}

pub split_at-requires : goal.split_at-requires
split_at-requires c = rw (c.run_len-len.ensures.run ∙ ap (prefix_len is_ascii_digit) c.as_bytes.ensures.value) (run_cut is_ascii_digit c.args.rest.now c.utf8.rest digit_ascii)

-- the digits, how many there are, and what is after them
len_is : (c : After-split_at) → c.run_len-len.result ≡ prefix_len is_ascii_digit c.args.rest.now
len_is c = c.run_len-len.ensures.run ∙ ap (prefix_len is_ascii_digit) c.as_bytes.ensures.value

digits_are : (c : After-split_at) → c.split_at.result.0.now ≡ run_of is_ascii_digit c.args.rest.now
digits_are c = c.split_at.ensures.front ∙ ap (λ n. take n c.args.rest.now) (len_is c)

after_is : (c : After-starts_with) → c.as_bytes-following.result.now ≡ after_run is_ascii_digit c.args.rest.now
after_is c = c.as_bytes-following.ensures.value ∙ c.split_at.ensures.back ∙ ap (λ n. drop n c.args.rest.now) (c.run_len-len.ensures.run ∙ ap (prefix_len is_ascii_digit) c.as_bytes.ensures.value)

point_is : (c : After-starts_with) → c.starts_with.result ≡ begins (46 ∷ []) (after_run is_ascii_digit c.args.rest.now)
point_is c = c.starts_with.ensures.value ∙ ap (begins (46 ∷ [])) (after_is c)

pub returns-then-starts_with : goal.returns-then-starts_with
returns-then-starts_with c =
    let at = goal.at.returns-then-starts_with c in
    let more = c.run_len-more.ensures.run ∙ ap (prefix_len is_ascii_digit) (take_rest c.as_bytes-following.result.now 1 ∙ ap (drop 1) (after_is at.After-starts_with)) in
    float_is_found c.args.rest.now _ c.requires (sym (point_is at.After-starts_with) ∙ c.if-starts_with.true) (λ i. len_is at.After-split_at i + 1 + more i)

pub integer_of-requires-clause-some : goal.integer_of-requires-clause-some
integer_of-requires-clause-some c =
    let at = goal.at.integer_of-requires-clause-some c in rw (digits_are at.After-split_at) ((digits_parsed c.args.rest.now c.requires).0)

pub integer_of-requires-clause-digits : goal.integer_of-requires-clause-digits
integer_of-requires-clause-digits c =
    let at = goal.at.integer_of-requires-clause-digits c in rw (digits_are at.After-split_at) ((digits_parsed c.args.rest.now c.requires).1)

pub returns-in-Some : goal.returns-in-Some
returns-in-Some c =
    let at = goal.at.returns-in-Some c in
    let parsed = rw (digits_are at.After-split_at) at (rw c.in-Some.is at c.integer_of.ensures) in
    let value = ap Integer (ap (λ z. to_z w64 (of_z w64 z)) parsed.1 ∙ to_z_pos w64 (decimal (run_of is_ascii_digit c.args.rest.now)) parsed.0) in
    rw (len_is at.After-split_at) (integer_is_found c.args.rest.now _ c.requires (sym (point_is at.After-starts_with) ∙ c.if-starts_with.false) parsed.0 value)

pub returns-in-None : goal.returns-in-None
returns-in-None c =
    let at = goal.at.returns-in-None c in
    let high = rw (digits_are at.After-split_at) at (rw c.in-None.is at c.integer_of.ensures) in
    great_is_found c.args.rest.now _ c.requires (sym (point_is at.After-starts_with) ∙ c.if-starts_with.false) high (len_is at.After-split_at)
