-- The strings of attributes, and the ends of calls of components.
use Rattle.std.proofs.Common.{◌≡◌, ℕ, List, String, inl, inr, None, Result, Ok, Err, refl, sym, ap, ◌∙◌}
use Rattle.std.specs.Borrow.{Bor}
use Rattle.std.specs.declared.alloc.Global.{Global}
use Rattle.tera_base.specs.declared.errors.Error.{Error}
use Rattle.tera_base.specs.declared.utils.Span.{Span}
use Rattle.tera_lexer.specs.grammar.Tokens.{Items, Token}
use Rattle.tera_lexer.specs.code.Cursors.{Position}
use Rattle.tera_lexer.specs.code.Seen.{seen}
use Rattle.tera_lexer.specs.declared.lexer.tokens.Token.{Token as Lexed}
use Rattle.tera_lexer.specs.declared.lexer.tokens.Token.TheVariants as lexed
use Rattle.tera_grammar.specs.Reads.{found, stopped, ◌>>=◌, given, Takes, Fails}
use Rattle.tera_grammar.specs.expressions.Operators.{Div, GreaterThan}
use Rattle.tera_grammar.specs.expressions.Marks.{Operation, mark_token}
use Rattle.tera_grammar.specs.expressions.Reading.Front.{placed, quote_of, taken_quote, takes}
use Rattle.tera_grammar.proofs.stops.Fronts.{takes_ok}
use Rattle.tera_expr_parts.specs.Attributes.{ClosesAt, closed_at}
use Rattle.tera_expect.specs.Taking.{GivesAs, place_at}
use Rattle.tera_expect.proofs.Steps.{failed, failed_past}

-- a token that is not a string, which was taken
no_quote : (t : Lexed) → ((x : Bor (List ℕ)) → t ≡ lexed.Str x → ⊥) → ((x : String Global) → t ≡ lexed.String x → ⊥) → quote_of (seen t) ≡ None
no_quote (lexed.Str x) a b = absurd (a x refl)
no_quote (lexed.String x) a b = absurd (b x refl)
no_quote _ a b = refl

pub quote_refused : (old left : Items) (t : Lexed) (s : Span) (e : Error) → ((x : Bor (List ℕ)) → t ≡ lexed.Str x → ⊥) → ((x : String Global) → t ≡ lexed.String x → ⊥)
    → old ≡ Token (seen t) s left → Fails (taken_quote old) left e
quote_refused old left t s e a b is =
    inr (inr (inl (seen t, s, ap taken_quote is ∙ ap (λ q. given (Token (seen t) s left) (placed s q) >>= λ x. found (x, left)) (no_quote t a b))))

pub closed_gives : (ts : Items) (mid new : Position) (r : Result (Unit {0}) Error) → takes (Operation Div) ts ≡ found (mid.span, mid.left)
    → GivesAs (place_at new.span) r new.left (takes (Operation GreaterThan) mid.left) → ClosesAt r new (closed_at ts)
closed_gives ts mid new (Ok x) slash more = (mid.span, rw (slash, more) refl)
closed_gives ts mid new (Err e) slash h = failed_past (takes (Operation Div) ts) _ (mid.span, mid.left) new.left e slash (failed (takes (Operation GreaterThan) mid.left) _ new.left e h)

not_closed : (ts z : Items) → takes (Operation Div) ts ≡ stopped z → closed_at ts ≡ stopped z
not_closed ts z none = rw none refl

-- another token comes next, which was looked at
pub looked_at : (old mid new : Position) (e : Error) → (takes (Operation Div) old.left ≡ stopped old.left) × (mid ≡ old)
    → (takes (Operation GreaterThan) mid.left ≡ stopped mid.left) × (new ≡ mid) → ClosesAt (Err e) new (closed_at old.left)
looked_at old mid new e slash greater = inr (inl (not_closed old.left old.left slash.0 ∙ ap (λ (p : Position). stopped p.left) (sym (greater.1 ∙ slash.1))))

-- a `>`, which was taken
pub body_begins : (old mid new : Position) (e : Error) → (takes (Operation Div) old.left ≡ stopped old.left) × (mid ≡ old)
    → takes (Operation GreaterThan) mid.left ≡ found (new.span, new.left) → ClosesAt (Err e) new (closed_at old.left)
body_begins old mid new e slash greater =
    inr (inr (inl (
      mark_token (Operation GreaterThan),
      new.span,
      not_closed old.left old.left slash.0 ∙ ap stopped (sym (ap (λ (p : Position). p.left) slash.1) ∙ takes_ok (Operation GreaterThan) mid.left (new.span, new.left) greater),
    )))

-- no token comes next: the end of the input, or the fault in which the tokens end
pub nothing_closes : (ts : Items) (new : Position) (r : Result (Unit {0}) Error) → takes (Operation Div) ts ≡ stopped ts → GivesAs (place_at new.span) r new.left (takes (Operation Div) ts)
    → ClosesAt r new (closed_at ts)
nothing_closes ts new (Ok x) none h = absurd (apart (sym none ∙ h))
  where
    apart : ◌≡◌ {A = Takes Span} (stopped ts) (found (new.span, new.left)) → ⊥
    apart e = cc
nothing_closes ts new (Err e) none h = failed (takes (Operation Div) ts) _ new.left e h
