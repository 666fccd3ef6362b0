use Rattle.std.proofs.Common.{◌≡◌, ◌++◌, ◌∷◌, [], ℕ, List, ◌≤◌, length, take, drop, get_or, false, string_bytes, sym, ap, subst, ◌∙◌, append_assoc, IsUtf8}
use Rattle.std.specs.List.{prefix_len}
use Rattle.std.specs.Str.{IsCharBoundary}
use Rattle.std.proofs.lemmas.Str.{IsUtf8-drop, IsUtf8-take}
use Rattle.tera_lexer.specs.grammar.Lexeme.{escaped}
use Rattle.tera_lexer.specs.reading.Front.{run_of, after_run, is_plain, unescaped, unknown_in}
use Rattle.tera_lexer.proofs.Escapes.{run_unescaped, short_unescaped, escape_at, escape_cut, backslash_cut, run_cut_plain, IsEscapeAt}
use Rattle.tera_lexer.proofs.lexer.lexeme.unescape.Goals as goal
use Rattle.tera_lexer.proofs.lexer.lexeme.unescape.Goals.{After-plain_len, After-split_at}

len_is : (c : After-plain_len) → c.plain_len.result ≡ prefix_len is_plain c.loop-text.rest.now
len_is c = c.plain_len.ensures.run ∙ ap (prefix_len is_plain) c.as_bytes.ensures.value

cut : (c : After-plain_len) → IsCharBoundary c.loop-text.rest.now c.plain_len.result
cut c = subst (IsCharBoundary c.loop-text.rest.now) (sym (len_is c)) (run_cut_plain c.loop-text.rest.now c.loop-text.invariant.utf8)

pub split_at-requires : goal.split_at-requires
split_at-requires c = cut ((goal.at.split_at-requires c).After-plain_len)

-- what is before the next backslash, and from it on
plain_is : (c : After-split_at) → c.split_at.result.0.now ≡ run_of is_plain c.loop-text.rest.now
plain_is c = c.split_at.ensures.front ∙ ap (λ n. take n c.loop-text.rest.now) (c.plain_len.ensures.run ∙ ap (prefix_len is_plain) c.as_bytes.ensures.value)

after_is : (c : After-split_at) → c.split_at.result.1.now ≡ after_run is_plain c.loop-text.rest.now
after_is c = c.split_at.ensures.back ∙ ap (λ n. drop n c.loop-text.rest.now) (c.plain_len.ensures.run ∙ ap (prefix_len is_plain) c.as_bytes.ensures.value)

text_is : (c : After-split_at) → unescaped c.loop-text.rest.now ≡ c.split_at.result.0.now ++ unescaped c.split_at.result.1.now
text_is c = run_unescaped c.loop-text.rest.now ∙ (λ i. sym (plain_is c) i ++ unescaped (sym (after_is c) i))

pub returns-then-escape-lt2 : goal.returns-then-escape-lt2
returns-then-escape-lt2 c =
    let at = (goal.at.returns-then-escape-lt2 c).After-split_at in
    c.in_ok-push_str-2.ensures.bytes ∙ ap (λ l. l ++ c.split_at.result.1.now) c.in_ok-push_str.ensures.bytes
    ∙ append_assoc (string_bytes c.loop-text.text) c.split_at.result.0.now c.split_at.result.1.now
    ∙ ap (λ l. string_bytes c.loop-text.text ++ (c.split_at.result.0.now ++ l)) (sym (short_unescaped c.split_at.result.1.now c.if-escape-lt2.true))
    ∙ ap (λ l. string_bytes c.loop-text.text ++ l) (sym (text_is at)) ∙ c.loop-text.invariant.text

escape_is : (c : After-split_at) → 2 ≤ length c.split_at.result.1.now → IsEscapeAt c.split_at.result.1.now
escape_is c two =
    subst IsEscapeAt (sym (after_is c)) (escape_at c.loop-text.rest.now (subst (λ (l : List ℕ). 2 ≤ length l) (after_is c) two) c.loop-text.invariant.known)

after_utf8 : (c : After-split_at) → IsCharBoundary c.loop-text.rest.now c.plain_len.result → IsUtf8 c.split_at.result.1.now
after_utf8 c here = subst IsUtf8 (sym c.split_at.ensures.back) (IsUtf8-drop c.loop-text.rest.now c.plain_len.result c.loop-text.invariant.utf8 here)

pub split_at-requires-in-loop-text : goal.split_at-requires-in-loop-text
split_at-requires-in-loop-text c =
    let at = goal.at.split_at-requires-in-loop-text c in
    escape_cut c.split_at.result.1.now (after_utf8 at.After-split_at (cut at.After-plain_len)) (escape_is at.After-split_at c.if-escape-lt2.false)

-- the two bytes of the escape
two_is : (following escape : List ℕ) → IsEscapeAt following → escape ≡ take 2 following → escape ≡ 92 ∷ get_or following 1 0 ∷ []
two_is following escape is e = e ∙ ap (take 2) is.splits

pub escaped-requires-clause-cut : goal.escaped-requires-clause-cut
escaped-requires-clause-cut c =
    let at = (goal.at.escaped-requires-clause-cut c).After-split_at in
    let is = two_is c.split_at.result.1.now c.split_at-in-loop-text.result.0.now (escape_is at c.if-escape-lt2.false) c.split_at-in-loop-text.ensures.front in
    let two = goal.at.escaped-requires-clause-cut c in
    let after_text = after_utf8 at (cut two.After-plain_len) in
    let utf8 : IsUtf8 c.split_at-in-loop-text.result.0.now
    = subst IsUtf8 (sym c.split_at-in-loop-text.ensures.front) (IsUtf8-take c.split_at.result.1.now 2 after_text (escape_cut c.split_at.result.1.now after_text (escape_is at c.if-escape-lt2.false))) in
    backslash_cut c.split_at-in-loop-text.result.0.now (get_or c.split_at.result.1.now 1 0 ∷ []) utf8 is

pub loop-text-preserved : goal.loop-text-preserved
loop-text-preserved c =
    let at = goal.at.loop-text-preserved c in
    let following : List ℕ = c.split_at.result.1.now in
    let is = escape_is at.After-split_at c.if-escape-lt2.false in
    let two = two_is following c.split_at-in-loop-text.result.0.now is c.split_at-in-loop-text.ensures.front in
    let rest : c.split_at-in-loop-text.result.1.now ≡ drop 2 following = c.split_at-in-loop-text.ensures.back in
    let value : c.escaped.result.now ++ unescaped c.split_at-in-loop-text.result.1.now ≡ unescaped following
    = (λ i. (c.escaped.ensures ∙ ap (λ l. escaped (get_or l 1 0) ∷ []) two) i ++ unescaped (rest i)) ∙ sym is.value in
    let text : string_bytes c.push_str-in-loop-text.new.self ++ unescaped c.split_at-in-loop-text.result.1.now ≡ unescaped c.args.inside.now
    = ap (λ l. l ++ unescaped c.split_at-in-loop-text.result.1.now) (c.in_ok-push_str-3.ensures.bytes ∙ ap (λ l. l ++ c.escaped.result.now) c.in_ok-push_str.ensures.bytes)
    ∙ append_assoc (string_bytes c.loop-text.text ++ c.split_at.result.0.now) c.escaped.result.now (unescaped c.split_at-in-loop-text.result.1.now)
    ∙ append_assoc (string_bytes c.loop-text.text) c.split_at.result.0.now (c.escaped.result.now ++ unescaped c.split_at-in-loop-text.result.1.now)
    ∙ ap (λ l. string_bytes c.loop-text.text ++ (c.split_at.result.0.now ++ l)) value
    ∙ ap (λ l. string_bytes c.loop-text.text ++ l) (sym (text_is at.After-split_at)) ∙ c.loop-text.invariant.text in
    let after_text : IsUtf8 following = after_utf8 at.After-split_at (cut at.After-plain_len) in
    record {
      utf8 = subst IsUtf8 (sym rest) (IsUtf8-drop following 2 after_text (escape_cut following after_text is));
      text = text;
      known = ap (unknown_in false) rest ∙ is.rest;
    }
