-- Tokens of which none is refused: empty texts.
use Rattle.std.proofs.Common.{◌≡◌, ℕ, zero, suc, true, List, [], Option, Some, None, refl, sym, ap, subst, ◌∙◌}
use Rattle.std.proofs.lemmas.Option.{none-some}
use Rattle.tera_base.specs.declared.utils.Span.{Span}
use Rattle.tera_lexer.specs.code.Cursors.{Passes, Position, is_end}
use Rattle.tera_lexer.specs.grammar.Tokens.{Ended, Failed, Items, Token}
use Rattle.tera_grammar.specs.Reads.{found, stopped}
use Rattle.tera_grammar.specs.statements.Expressions.{Limits}
use Rattle.tera_grammar.specs.statements.Grammar.{Item, Path}
use Rattle.tera_grammar.specs.statements.Reading.Meeting.{Seen}
use Rattle.tera_grammar.specs.statements.Reading as reading
use Rattle.tera_grammar.specs.statements.Reading.Phases as phases
use Rattle.tera_grammar.specs.statements.Reading.{Place, Reader, Reads, step}
use Rattle.tera_grammar.specs.statements.Reading.Loops.{Silent, turn}
use Rattle.tera_grammar.specs.statements.Reading.TagParts.{front, front_at}
use Rattle.tera_statements.specs.Items.{AreEmptyTexts, BeginWithoutText}
use Rattle.tera_tags.specs.Kinds.{kind_of}
use Rattle.tera_expect.specs.Taking.{GoesOn}
use Rattle.tera_tags.specs.declared.fronts.Front.{Front}
use Rattle.tera_tags.specs.declared.fronts.Front.TheVariants.{Ends, Holds}

-- what empty texts begin with
abbrev pub IsQuiet : Front → Type 0
IsQuiet Ends = Unit {0}
IsQuiet Holds = Unit {0}
IsQuiet k = ⊥

pub quiet : (k : Front) (ts : Items) → k ≡ kind_of (front ts) → AreEmptyTexts ts → IsQuiet k
quiet k Ended h empty = subst IsQuiet (sym h) tt
quiet k (Failed text span) h empty = absurd empty
quiet k (Token t span items) h empty = subst IsQuiet (sym (h ∙ ap (λ u. kind_of (front_at u span items)) empty.0)) tt

passed_empty : (n : ℕ) (items : Items) (last : Span) (left : Items) (here : Span) → Passes n items last left here → AreEmptyTexts items → AreEmptyTexts left
passed_empty zero items last left here (left_is, span_is) empty = subst AreEmptyTexts (sym left_is) empty
passed_empty (suc n) Ended last left here passes empty = absurd passes
passed_empty (suc n) (Failed reported at) last left here passes empty = absurd passes
passed_empty (suc n) (Token t at items) last left here passes empty = passed_empty n items at left here passes empty.1

pub goes_empty : (old new : Position) → GoesOn old new → AreEmptyTexts old.left → AreEmptyTexts new.left
unfolding GoesOn
goes_empty old new goes empty = passed_empty goes.0.count old.left old.span new.left new.span goes.0.passes empty

abbrev first_of : Reads (Option Item) → Option Item
first_of (found x) = x.0
first_of (stopped z) = None

-- what the next step over empty texts comes to
module _ (l : Limits) (self : Reader) (path : Path) (seen : Seen) where
  holds_nothing : (ts : Items) (text : List ℕ) (span : Span) (us : Items) (q : Place) → step l self path seen ts (reading.TagParts.Holds text span us) ≡ found (None, q) → ⊥
  unfolding step
  holds_nothing ts text span us q h = none-some _ (sym (ap first_of h))

  pub empty_ends : (ts : Items) (q : Place) → AreEmptyTexts ts → step l self path seen ts (front ts) ≡ found (None, q) → is_end ts ≡ true
  empty_ends Ended q empty h = refl
  empty_ends (Failed text span) q empty h = absurd empty
  empty_ends (Token t span items) q empty h = absurd (holds_nothing (Token t span items) [] span items q (subst (λ u. step l self path seen (Token t span items) (front_at u span items) ≡ found (None, q)) empty.0 h))

  -- none of them is an item but a text
  pub no_item : (ts : Items) (i : Item) (p : Place) → AreEmptyTexts ts → BeginWithoutText ts → step l self path seen ts (front ts) ≡ found (Some i, p) → ⊥
  unfolding step
  no_item Ended i p empty none h = none-some _ (ap first_of h)
  no_item (Failed text span) i p empty none h = empty
  no_item (Token t span items) i p empty none h = none (sym (ap (λ u. kind_of (front_at u span items)) empty.0))

-- what is silent may be in each phase
pub silent_turns : (phase : phases.Phase) → turn phase Silent ≡ None → ⊥
silent_turns phases.Starting h = cc
silent_turns phases.Standalone h = cc
silent_turns phases.Extending h = cc
