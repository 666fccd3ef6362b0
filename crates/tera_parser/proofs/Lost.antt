-- Where the reading of a template stops, its tokens are lost up to where the range of the error ends.
use Rattle.std.proofs.Common.{◌≡◌, inl, inr, ℕ, zero, suc, ◌≤◌, false, List, [], ◌∷◌, sym, subst, refl}
use Rattle.tera_base.specs.Errors.{KindReports, ReportsBy}
use Rattle.tera_base.specs.declared.errors.ErrorKind.{ErrorKind}
use Rattle.tera_base.specs.declared.errors.ErrorKind.TheVariants.{Memory, Message, SyntaxError}
use Rattle.tera_base.specs.declared.errors.Error.{Error}
use Rattle.tera_base.specs.declared.utils.Span.{Span}
use Rattle.tera_base.proofs.Tellings.{reports_weaker, reports_memory}
use Rattle.tera_lexer.specs.code.Cursors.{IsLater, Passes, Position}
use Rattle.tera_lexer.specs.grammar.Faults.{IsFaultOf}
use Rattle.tera_lexer.specs.grammar.Tiling.{Tile}
use Rattle.tera_lexer.specs.grammar.Tokens.{Tok, Items, Ended, Failed, Token}
use Rattle.tera_grammar.specs.Limits.{Limits}
use Rattle.tera_grammar.specs.Reads.{stopped, StopsAt, Fails}
use Rattle.tera_grammar.specs.statements.Lost.{AreLost}
use Rattle.tera_grammar.specs.statements.Reading.{template}
use Rattle.tera_grammar.proofs.statements.Tops.{template_complete}
use Rattle.tera_grammar.proofs.stops.Local.{in_front}
use Rattle.tera_grammar.proofs.stops.Bodies.{template_stops}
use Rattle.tera_grammar.proofs.stops.Final.{lost_after, lost_at, lost_in}
use Rattle.tera_expect.specs.Taking.{Reaches}

-- tokens that end in a fault are not taken up to the end of the input
ends_in_fault : (xs : List (Tok × Span)) (text : List ℕ) (s : Span) → IsFaultOf (in_front xs (Failed text s)) text s
ends_in_fault [] text s = (refl, refl)
ends_in_fault (x ∷ xs) text s = ends_in_fault xs text s

fault_stays : (n : ℕ) (items : Items) (last here : Span) (text : List ℕ) (s : Span) → Passes n items last Ended here → IsFaultOf items text s → ⊥
fault_stays zero items last here text s (left_is, span_is) fault = subst (λ ts. IsFaultOf ts text s) (sym left_is) fault
fault_stays (suc n) Ended last here text s passes fault = absurd passes
fault_stays (suc n) (Failed reported at) last here text s passes fault = absurd passes
fault_stays (suc n) (Token t at items) last here text s passes fault = fault_stays n items at here text s passes fault

-- both are said of an error
both_by : (P Q : List ℕ → Span → Type 0) (k : ErrorKind) → KindReports P k → KindReports Q k → KindReports (λ text span. P text span × Q text span) k
both_by P Q Memory one two = tt
both_by P Q (Message s) one two = one
both_by P Q (SyntaxError b) one two = (one, two)

module _ (l : Limits) (source : List ℕ) (old new : Position) (e : Error) (tile : Tile false [] source old.left) where
  -- beyond the token that was taken last
  lost_later : StopsAt (template l old.left) new.left → IsLater old new → (m : ℕ) → new.span.range.end ≤ m → AreLost l m old.left
  lost_later (inl here) later m le =
      lost_after l (template_complete l) source old.left new.left tile here later.count old.span new.span later.passes m le
  lost_later (inr (inl (t, s, taken))) later m le =
      lost_at l (template_complete l) source old.left new.left t s tile taken later.count old.span new.span later.passes m le
  lost_later (inr (inr (text, s, failed, ended))) later m le =
      let stops = template_stops l old.left (Failed text s) failed in
      absurd (fault_stays later.count old.left old.span new.span text s (subst (λ ts. Passes later.count old.left old.span ts new.span) ended later.passes)
      (subst (λ ts. IsFaultOf ts text s) (sym stops.spelled) (ends_in_fault stops.taken text s)))

  pub reading_lost : Fails (template l old.left) new.left e → ReportsBy (λ text span. span.range.start ≤ span.range.end) e → Reaches old new e
      → ReportsBy (λ text span. AreLost l span.range.end old.left) e
  reading_lost (inl memory) within reaches = reports_memory (λ text span. AreLost l span.range.end old.left) e memory
  reading_lost (inr stops) within (inl (later, reported)) =
      reports_weaker (λ text span. new.span.range.end ≤ span.range.end) (λ text span. AreLost l span.range.end old.left) e
      (λ text span le. lost_later stops later span.range.end le) reported
  reading_lost (inr stops) within (inr fault) =
      reports_weaker (λ text span. (span.range.start ≤ span.range.end) × IsFaultOf old.left text span) (λ text span. AreLost l span.range.end old.left) e
      (λ text span (le, f). lost_in l (template_complete l) source old.left text span tile f span.range.end le)
      (both_by (λ text span. span.range.start ≤ span.range.end) (λ text span. IsFaultOf old.left text span) e.kind within fault)
