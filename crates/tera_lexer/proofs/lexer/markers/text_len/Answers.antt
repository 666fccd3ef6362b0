use Rattle.std.proofs.Common.{◌≡◌, ◌+◌, ◌<◌, ℕ, false, length, drop, List, subst, sym, ap, ◌∙◌, arith}
use Rattle.std.proofs.lemmas.List.{take_rest, length-drop}
use Rattle.std.specs.Str.{IsCharBoundary}
use Rattle.std.proofs.lemmas.Str.{IsCharBoundary-end}
use Rattle.tera_lexer.specs.grammar.Marks.{Marks}
use Rattle.tera_lexer.specs.grammar.Division.{is_at_start}
use Rattle.tera_lexer.specs.code.Markers.{ArePairs}
use Rattle.tera_lexer.proofs.Texts.{firsts, nowhere_before, none_passed, none_passed_yet, text_ends_here, text_ends_all}
use Rattle.tera_lexer.proofs.Markers.{start_cut}
use Rattle.tera_lexer.proofs.lexer.markers.text_len.Goals as goal
use Rattle.tera_lexer.proofs.lexer.markers.text_len.Goals.{After-begin}

tested : (c : After-begin) (m : Marks) → ArePairs m c.args.pairs.now → c.begin.result ≡ is_at_start m (drop (c.loop-len.from + c.in-Some.len) c.args.rest.now)
tested c m pairs = rw c.as_bytes-bytes.ensures.value at (rw take_rest at (c.begin.ensures m pairs))

-- no start marker begins before the place that the search answers
before : (c : After-begin) (m : Marks) → ArePairs m c.args.pairs.now → (k : ℕ) → k < c.loop-len.from + c.in-Some.len → is_at_start m (drop k c.args.rest.now) ≡ false
before c m pairs =
    let found = rw c.as_bytes-bytes.ensures.value at (rw take_rest at c.in-Some.ensures) in
    none_passed m pairs.valid _ _ _ (firsts m c.args.pairs.now pairs) c.args.rest.now c.loop-len.from c.in-Some.len (c.loop-len.invariant.none m pairs) found.0.before

within : (c : After-begin) → c.loop-len.from + c.in-Some.len < length c.args.rest.now
within c =
    let found = rw c.as_bytes-bytes.ensures.value at (rw take_rest at c.in-Some.ensures) in
    omega (arith, found.0.high, length-drop c.loop-len.from c.args.rest.now, c.loop-len.invariant.within)

pub returns-then-begin : goal.returns-then-begin
returns-then-begin c =
    let at = (goal.at.returns-then-begin c).After-begin in
    let fits = within at in
    λ m pairs.
    let here = sym (tested at m pairs) ∙ c.if-begin.true in
    record {
      cut = start_cut m c.args.rest.now (c.loop-len.from + c.in-Some.len) pairs.texts pairs.valid fits here;
      plain = nowhere_before (is_at_start m) c.args.rest.now (c.loop-len.from + c.in-Some.len) (omega arith) (before at m pairs);
      stops = text_ends_here m c.args.rest.now (c.loop-len.from + c.in-Some.len) fits here;
    }

pub loop-len-preserved : goal.loop-len-preserved
loop-len-preserved c =
    let at = (goal.at.loop-len-preserved c).After-begin in
    let fits = within at in
    record {
      within = omega arith;
      none = λ m pairs.
          none_passed_yet m pairs.valid _ _ _ (firsts m c.args.pairs.now pairs) c.args.rest.now (c.loop-len.from + c.in-Some.len) (before at m pairs) (sym (tested at m pairs) ∙ c.if-begin.false);
    }

pub returns : goal.returns
returns c =
    let none = rw c.as_bytes-bytes.ensures.value at (rw take_rest at c.in_default.ensures) in
    let left : List ℕ = drop c.loop-len.from c.args.rest.now in
    let len : length c.as_bytes-bytes.result.now ≡ length c.args.rest.now = ap length c.as_bytes-bytes.ensures.value in
    λ m pairs.
    let all = none_passed m pairs.valid _ _ _ (firsts m c.args.pairs.now pairs) c.args.rest.now c.loop-len.from (length left) (c.loop-len.invariant.none m pairs) none in
    record {
      cut = subst (IsCharBoundary c.args.rest.now) (sym len) (IsCharBoundary-end c.args.rest.now);
      plain = nowhere_before (is_at_start m) c.args.rest.now (length c.as_bytes-bytes.result.now) (omega arith)
          (λ k lt. all k (omega (arith, length-drop c.loop-len.from c.args.rest.now, c.loop-len.invariant.within)));
      stops = text_ends_all m c.args.rest.now (length c.as_bytes-bytes.result.now) (omega arith);
    }
