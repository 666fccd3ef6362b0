-- Faults over several tokens that were taken.
use Rattle.tera_grammar.specs.Reads.{found}
use Rattle.std.proofs.Common.{◌≡◌, ◌⊎◌, ◌≤◌, inl, inr, ⊎_elim, ℕ, zero, suc, subst, sym, ◌∙◌}
use Rattle.tera_base.proofs.Tellings.{reports_weaker}
use Rattle.tera_base.specs.Errors.{HasNoNotes, ReportsBy}
use Rattle.tera_base.specs.declared.utils.Span.{Span}
use Rattle.tera_base.specs.declared.errors.Error.{Error}
use Rattle.tera_lexer.specs.code.Cursors.{Position, FaultsFrom, Passes}
use Rattle.tera_lexer.proofs.FaultsOfTokens.{later_later}
use Rattle.tera_lexer.specs.grammar.Faults.{EndsWith, EndsIn, Covers}
use Rattle.tera_lexer.specs.grammar.Place.{IsWithin}
use Rattle.tera_lexer.specs.grammar.Tokens.{Items, Ended, Failed, Token}
use Rattle.tera_grammar.specs.expressions.Marks.{Mark}
use Rattle.tera_grammar.specs.expressions.Reading.Front.{takes}
use Rattle.tera_grammar.proofs.stops.Fronts.{takes_ok}
use Rattle.tera_expr_parts.specs.Ranges.{RunsFrom}
use Rattle.tera_expect.specs.Taking.{Took, Refuses}
use Rattle.tera_expect.proofs.NotesLemmas.{notes_none}

-- where the last of some tokens ends, one of them ends
passed : (n : ℕ) (items : Items) (last : Span) (left : Items) (here : Span) → Passes n items last left here → (span : Span) → EndsWith here span → EndsWith last span ⊎ EndsIn items span
passed zero items last left here (left_is, span_is) span ends = inl (subst (λ s. EndsWith s span) span_is ends)
passed (suc n) Ended last left here passes span ends = absurd passes
passed (suc n) (Failed text at) last left here passes span ends = absurd passes
passed (suc n) (Token t at items) last left here passes span ends = inr (passed n items at left here passes span ends)

-- the span lies in the same source after tokens that were taken
pub still_within : (old new : Position) (span : Span) → Took old new → IsWithin old.source span → IsWithin new.source span
unfolding Took
still_within old new span took within = subst (λ s. IsWithin s span) (sym took.0.source) within

-- a fault from a mark on is one of the tokens from the mark on
pub refused_from : (m : Mark) (old mid new : Position) (e : Error) → takes m old.left ≡ found (mid.span, mid.left) → Took old mid → Took mid new
    → ReportsBy (λ text span. RunsFrom mid.span new span) e → HasNoNotes e → Refuses old new e
unfolding Took Refuses
refused_from m old mid new e read first more reported none = (
  reports_weaker (λ text span. RunsFrom mid.span new span) (λ text span. IsWithin old.source span × FaultsFrom old.span old.left text span) e
      (λ text span (within, starts, ends, reaches). (
        subst (λ s. IsWithin s span) (more.0.source ∙ first.0.source) within,
        inr (inr (inr (inr (subst (λ ts. Covers ts span) (sym (takes_ok m old.left (mid.span, mid.left) read))
            (inl (starts, ⊎_elim (λ here. inl here) (λ there. passed more.0.count mid.left mid.span new.left new.span more.0.passes span there) ends)))))),
      )) reported,
  inl (
    later_later old mid new first.0 more.0,
    reports_weaker (λ text span. RunsFrom mid.span new span) (λ text span. new.span.range.end ≤ span.range.end) e (λ text span (within, starts, ends, reaches). reaches) reported,
  ),
  notes_none old.left e none,
)
