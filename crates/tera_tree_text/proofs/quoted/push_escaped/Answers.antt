use Rattle.std.proofs.Common.{◌≡◌, ◌++◌, ℕ, ◌<◌, List, length, take, drop, get_or, true, false, string_bytes, sym, ap, subst, ◌∙◌, arith, append_assoc, append-nil, IsUtf8}
use Rattle.std.specs.Prelude.{◌==◌}
use Rattle.std.specs.List.{flat_map, prefix_len}
use Rattle.std.specs.Str.{IsCharBoundary}
use Rattle.std.proofs.lemmas.Bool.Decides.{nat_tests}
use Rattle.std.proofs.lemmas.Str.{IsUtf8-drop, IsCharBoundary-after_ascii}
use Rattle.tera_tree_text.specs.QuotedBytes.{is_plain, escaped_byte}
use Rattle.tera_tree_text.proofs.Escapes.{text_escaped, run_escaped, run_cut, run_stops, stop_ascii, first_escaped, none_escaped}
use Rattle.tera_tree_text.proofs.quoted.push_escaped.Goals as goal
use Rattle.tera_tree_text.proofs.quoted.push_escaped.Goals.{After-plain_len, After-split_at}

none_left : (n : ℕ) → true ≡ (n == 0) → n ≡ 0
none_left n is = grind (arith, nat_tests)

some_left : (n : ℕ) → false ≡ (n == 0) → 0 < n
some_left n is = grind (arith, nat_tests)

len_is : (c : After-plain_len) → c.plain_len.result ≡ prefix_len is_plain c.loop-text.rest.now
len_is c = c.plain_len.ensures.run ∙ ap (prefix_len is_plain) c.as_bytes.ensures.value

cut : (c : After-plain_len) → IsCharBoundary c.loop-text.rest.now c.plain_len.result
cut c = subst (IsCharBoundary c.loop-text.rest.now) (sym (len_is c)) (run_cut c.loop-text.rest.now)

pub split_at-requires : goal.split_at-requires
split_at-requires c = cut ((goal.at.split_at-requires c).After-plain_len)

-- what is before the next escape, and from it on
plain_is : (c : After-split_at) → c.split_at.result.0.now ≡ take (prefix_len is_plain c.loop-text.rest.now) c.loop-text.rest.now
plain_is c = c.split_at.ensures.front ∙ ap (λ n. take n c.loop-text.rest.now) (c.plain_len.ensures.run ∙ ap (prefix_len is_plain) c.as_bytes.ensures.value)

after_is : (c : After-split_at) → c.split_at.result.1.now ≡ drop (prefix_len is_plain c.loop-text.rest.now) c.loop-text.rest.now
after_is c = c.split_at.ensures.back ∙ ap (λ n. drop n c.loop-text.rest.now) (c.plain_len.ensures.run ∙ ap (prefix_len is_plain) c.as_bytes.ensures.value)

text_is : (c : After-split_at) → flat_map escaped_byte c.loop-text.rest.now ≡ c.split_at.result.0.now ++ flat_map escaped_byte c.split_at.result.1.now
text_is c = run_escaped c.loop-text.rest.now ∙ (λ i. sym (plain_is c) i ++ flat_map escaped_byte (sym (after_is c) i))

after_utf8 : (c : After-split_at) → IsCharBoundary c.loop-text.rest.now c.plain_len.result → IsUtf8 c.split_at.result.1.now
after_utf8 c here = subst IsUtf8 (sym c.split_at.ensures.back) (IsUtf8-drop c.loop-text.rest.now c.plain_len.result c.loop-text.invariant.utf8 here)

stops : (c : After-split_at) → 0 < length c.split_at.result.1.now → is_plain (get_or c.split_at.result.1.now 0 0) ≡ false
stops c some =
    subst (λ l. is_plain (get_or l 0 0) ≡ false) (sym (after_is c)) (run_stops c.loop-text.rest.now (subst (λ (l : List ℕ). 0 < length l) (after_is c) some))

pub returns-then-is_empty : goal.returns-then-is_empty
returns-then-is_empty c =
    let at = (goal.at.returns-then-is_empty c).After-split_at in
    let plain : List ℕ = c.split_at.result.0.now in
    let done : plain ≡ flat_map escaped_byte c.loop-text.rest.now
    = sym (text_is at ∙ ap (λ l. plain ++ l) (none_escaped c.split_at.result.1.now (none_left _ c.if-is_empty.ensures)) ∙ append-nil plain) in
    c.in_ok-push_run.ensures.bytes ∙ ap (λ l. string_bytes c.loop-text.text ++ l) done ∙ c.loop-text.invariant.text
    ∙ ap (λ l. string_bytes c.args.text.now ++ l) (sym (text_escaped c.args.content.now c.utf8.content))

pub push_escape-requires : goal.push_escape-requires
push_escape-requires c =
    let at = (goal.at.push_escape-requires c).After-split_at in
    ap (λ l. is_plain (get_or l 0 0)) c.as_bytes-in-loop-text.ensures.value ∙ stops at (some_left _ c.if-is_empty.ensures)

pub split_at-requires-in-loop-text : goal.split_at-requires-in-loop-text
split_at-requires-in-loop-text c =
    let at = goal.at.split_at-requires-in-loop-text c in
    let some : 0 < length c.split_at.result.1.now = some_left _ c.if-is_empty.ensures in
    IsCharBoundary-after_ascii c.split_at.result.1.now 0 (after_utf8 at.After-split_at (cut at.After-plain_len)) some (stop_ascii _ (stops at.After-split_at some))

pub loop-text-preserved : goal.loop-text-preserved
loop-text-preserved c =
    let at = goal.at.loop-text-preserved c in
    let following : List ℕ = c.split_at.result.1.now in
    let some : 0 < length following = some_left _ c.if-is_empty.ensures in
    let left : List ℕ = c.split_at-in-loop-text.result.1.now in
    let rest : left ≡ drop 1 following = c.split_at-in-loop-text.ensures.back in
    let first : List ℕ = escaped_byte (get_or following 0 0) in
    let value : first ++ flat_map escaped_byte left ≡ flat_map escaped_byte following
    = ap (λ l. first ++ flat_map escaped_byte l) rest ∙ sym (first_escaped following some) in
    let text : string_bytes c.push_escape.new.text ++ flat_map escaped_byte left ≡ string_bytes c.args.text.now ++ flat_map escaped_byte c.args.content.now
    = ap (λ l. l ++ flat_map escaped_byte left) (c.in_ok-push_escape.ensures ∙ ap (λ l. string_bytes c.push_run.new.text ++ escaped_byte (get_or l 0 0)) c.as_bytes-in-loop-text.ensures.value
    ∙ ap (λ l. l ++ first) c.in_ok-push_run.ensures.bytes)
    ∙ append_assoc (string_bytes c.loop-text.text ++ c.split_at.result.0.now) first (flat_map escaped_byte left)
    ∙ append_assoc (string_bytes c.loop-text.text) c.split_at.result.0.now (first ++ flat_map escaped_byte left)
    ∙ ap (λ l. string_bytes c.loop-text.text ++ (c.split_at.result.0.now ++ l)) value
    ∙ ap (λ l. string_bytes c.loop-text.text ++ l) (sym (text_is at.After-split_at)) ∙ c.loop-text.invariant.text in
    let utf8 = after_utf8 at.After-split_at (cut at.After-plain_len) in
    record {
      utf8 = subst IsUtf8 (sym rest) (IsUtf8-drop following 1 utf8 (IsCharBoundary-after_ascii following 0 utf8 some (stop_ascii _ (stops at.After-split_at some))));
      text = text;
    }
