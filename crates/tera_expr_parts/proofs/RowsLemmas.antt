-- After an element of a row.
use Rattle.std.proofs.Common.{◌≡◌, inl, inr, Bool, true, false, not, Ok, Err, sym, ap, subst, ◌∙◌}
use Rattle.tera_lexer.specs.code.Cursors.{Position}
use Rattle.tera_lexer.specs.grammar.Tokens.{Items, Failed, Token}
use Rattle.tera_grammar.specs.expressions.Marks.{Mark, Comma}
use Rattle.tera_grammar.specs.expressions.Reading.Front.{takes}
use Rattle.tera_expr_parts.specs.CommaLists.{Continues}
use Rattle.tera_base.specs.declared.errors.Error.{Error}
use Rattle.tera_grammar.specs.Reads.{found, stopped, StopsAt, Fails}
use Rattle.tera_grammar.proofs.Readings.{stops_as}
use Rattle.tera_grammar.proofs.stops.Fronts.{takes_stays}
use Rattle.tera_expect.specs.Taking.{Eats}

-- after a comma
pub comma_then : (end : Mark) (old : Items) (mid new : Position) (b : Bool) → takes Comma old ≡ found (mid.span, mid.left) → Eats b mid new (takes end mid.left) → Continues end old new (Ok (not b))
comma_then end old mid new true comma (h, took) = inr (mid.span, mid.left, comma, h)
comma_then end old mid new false comma (h, same) = subst (λ (q : Position). Continues end old q (Ok true)) (sym same) (mid.span, comma, h)

-- where no comma is, reading stops as where no end is
pub comma_fails : (end : Mark) (old : Items) (left : Items) → takes end old ≡ stopped old → StopsAt (takes Comma old) left → (takes Comma old ≡ stopped old) × StopsAt (takes end old) left
comma_fails end old left none h = (
  is_stopped h,
  stops_as (takes Comma old) (takes end old) left (λ z is. none ∙ ap stopped (sym (takes_stays Comma old z is))) h,
)
  where
    is_stopped : StopsAt (takes Comma old) left → takes Comma old ≡ stopped old
    is_stopped (inl is) = is ∙ ap stopped (takes_stays Comma old left is)
    is_stopped (inr (inl (t, s, is))) = is ∙ ap stopped (takes_stays Comma old (Token t s left) is)
    is_stopped (inr (inr (text, s, is, ended))) = is ∙ ap stopped (takes_stays Comma old (Failed text s) is)

pub comma_missed : (end : Mark) (old mid new : Position) (e : Error) → (takes end old.left ≡ stopped old.left) × (mid ≡ old) → Fails (takes Comma mid.left) new.left e
    → Continues end old.left new (Err e)
comma_missed end old mid new e (none, same) h = by (subst (λ (q : Position). Fails (takes Comma q.left) new.left e) same h)
  where
    by : Fails (takes Comma old.left) new.left e → Continues end old.left new (Err e)
    by (inl memory) = inl memory
    by (inr h) = inr (comma_fails end old.left new.left none h)
