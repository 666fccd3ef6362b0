-- From the tokens that were passed to the yield that they are.
use Rattle.std.proofs.Common.{◌≡◌, ℕ, zero, suc, ◌+◌, List, [], ◌∷◌, length, sym, ap, subst, ◌∙◌, arith}
use Rattle.tera_base.specs.declared.utils.Span.{Span}
use Rattle.tera_lexer.specs.grammar.Tokens.{Tok, Items, Ended, Failed, Token}
use Rattle.tera_lexer.specs.code.Cursors.{Position, Passes, IsLater, size}
use Rattle.tera_grammar.proofs.expressions.InFront.{in_front, Puts}
use Rattle.tera_parser.specs.Promises.{last_span, TookTokens}
use Rattle.tera_expect.specs.Taking.{GoesOn}

-- how many tokens were passed
passed_size : (n : ℕ) (items : Items) (s : Span) (left : Items) (here : Span) → Passes n items s left here → size items ≡ n + size left
passed_size zero items s left here (is, same) = let sizes = ap size is in omega (arith, sizes)
passed_size (suc n) Ended s left here passes = absurd passes
passed_size (suc n) (Failed text span) s left here passes = absurd passes
passed_size (suc n) (Token t span items) s left here passes = let more = passed_size n items span left here passes in omega (arith, more)

front_size : (xs : List (Tok × Span)) (r : Items) → size (in_front xs r) ≡ length xs + size r
front_size [] r = omega arith
front_size (x ∷ xs) r = let more = front_size xs r in omega (arith, more)

-- the last of them
passed_last : (xs : List (Tok × Span)) (s : Span) (r left : Items) (here : Span) → Passes (length xs) (in_front xs r) s left here → here ≡ last_span s (in_front xs Ended)
passed_last [] s r left here (is, same) = same
passed_last (x ∷ xs) s r left here passes = passed_last xs x.1 r left here passes

pub took_tokens : (g : Items → Items) → Puts g → (old new : Position) → old.left ≡ g new.left → IsLater old new → TookTokens g old new
took_tokens g p old new is gone =
    let front = is ∙ p.puts new.left in
    let passes : Passes gone.count (in_front p.tokens new.left) old.span new.left new.span = subst (λ ts. Passes gone.count ts old.span new.left new.span) front gone.passes in
    let passed = passed_size gone.count (in_front p.tokens new.left) old.span new.left new.span passes in
    let whole = front_size p.tokens new.left in
    let own : size (g Ended) ≡ length p.tokens + 0 = ap size (p.puts Ended) ∙ front_size p.tokens Ended in
    let same : gone.count ≡ length p.tokens = omega (arith, passed, whole) in
    let exact : Passes (length p.tokens) (in_front p.tokens new.left) old.span new.left new.span = subst (λ n. Passes n (in_front p.tokens new.left) old.span new.left new.span) same passes in (
      is,
      omega (arith, gone.taken, same, own),
      passed_last p.tokens old.span new.left new.left new.span exact ∙ ap (last_span old.span) (sym (p.puts Ended)),
    )

-- a cursor that took some tokens or none
pub later_on : (old new : Position) → GoesOn old new → IsLater old new
unfolding GoesOn
later_on old new h = h.0
