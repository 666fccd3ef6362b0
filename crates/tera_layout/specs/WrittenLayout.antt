-- The layout as it is written: token by token, each with what is in the place of the gap before it.
use Rattle.std.specs.Prelude.{◌≡◌, ◌⊎◌, ◌≤◌, ℕ, Bool, true, false, if◌then◌else◌, List, [], ◌∷◌, ◌++◌, Option, Some, None, slice_range}
use Rattle.std.specs.Option.{option_map}
use Rattle.std.specs.Str.{IsCharBoundary}
use Rattle.tera_base.specs.Errors.{ReportsBy}
use Rattle.tera_base.specs.declared.utils.Span.{Span}
use Rattle.tera_base.specs.declared.errors.Error.{Error}
use Rattle.tera_lexer.specs.grammar.Marks.{Marks}
use Rattle.tera_lexer.specs.grammar.Place.{IsWithin}
use Rattle.tera_lexer.specs.grammar.Faults.{IsFaultOf, IsEndAfter, IsEndOf}
use Rattle.tera_lexer.specs.grammar.Tiling.{in_tag_after}
use Rattle.tera_lexer.specs.grammar.Tokens as toks
use Rattle.tera_lexer.specs.grammar.Tokens.{Tok, Items, Ended, Failed, Token}
use Rattle.tera_layout.specs.declared.formatting.Reached.{Reached}
use Rattle.tera_layout.specs.declared.formatting.Cut.{Cut}
use Rattle.tera_layout.specs.declared.sides.Left.{Left}
use Rattle.tera_layout.specs.declared.sides.Join.{Join}
use Rattle.tera_layout.specs.declared.sides.Join.TheVariants.{Space, Nothing, Kept}
use Rattle.tera_layout.specs.Sides.{outside, following}
use Rattle.tera_layout.specs.Apart.{meet_in_end}
use Rattle.tera_layout.specs.Layout.{laid_gap, join_inside, unless_end}

-- the token is the end of a tag
abbrev pub is_finish : Tok → Bool
is_finish (toks.Finish kind dash) = true
is_finish t = false

-- what joins a token to what is on its left
abbrev pub join_of : Left → Tok → Join
join_of l t = if is_finish t then Space else join_inside l t

-- a text and what is written after it, if that is
abbrev pub put : List ℕ → Option (List ℕ) → Option (List ℕ)
put text written = option_map (λ more. text ++ more) written

-- before the first token
abbrev pub nothing : Reached
nothing = record { end = 0; in_tag = false; left = outside }

-- after a token that ends there
abbrev pub reached : Reached → Tok → ℕ → Reached
reached r t end = record { end = end; in_tag = in_tag_after r.in_tag t; left = following r.left t }

-- what joins it to what was reached
abbrev pub join_at : Marks → List ℕ → Reached → Tok → Span → Join
join_at m source r t span =
    unless_end (join_of r.left t)
    (meet_in_end m (slice_range source 0 r.end) (slice_range source span.range.start span.range.end))

-- what is written of a token and the gap before it
abbrev pub token_text : Marks → List ℕ → Reached → Tok → Span → List ℕ
token_text m source r t span =
    laid_gap (join_at m source r t span) (slice_range source r.end span.range.start)
    ++ slice_range source span.range.start span.range.end

-- what is written of tokens that come after what was reached: nothing where they end in a fault, or in a tag
abbrev pub written : Marks → List ℕ → Reached → Items → Option (List ℕ)
written m source r Ended = if r.in_tag then None else Some []
written m source r (Failed text span) = None
written m source r (Token t span items) =
    put (token_text m source r t span) (written m source (reached r t span.range.end) items)

-- each token begins where the one before it ends, or later
abbrev pub Follow : ℕ → Items → Type 0
Follow end Ended = Unit {0}
Follow end (Failed text span) = Unit {0}
Follow end (Token t span items) = (end ≤ span.range.start) × Follow span.range.end items

-- a fault of the tokens that are left, or their end after the last that was taken, is one of all
abbrev pub KeepsFaults : Items → Span → Items → Type 0
KeepsFaults items last left =
    (text : List ℕ) (span : Span) →
    (IsFaultOf left text span → IsFaultOf items text span)
    × (IsEndAfter last left text span → IsEndOf items text span ⊎ (items ≡ Ended))

-- a refusal of tokens: nothing is written of them, and what is reported is the fault in which they end, or their end
-- where a tag is open
abbrev pub RefusesTokens : Marks → List ℕ → Items → Error → Type 0
RefusesTokens m source items e =
    ReportsBy (λ text span. IsWithin source span × (written m source nothing items ≡ None)
    × (IsFaultOf items text span ⊎ IsEndOf items text span)) e

-- one space is in the place of a gap without a line feed
abbrev pub is_one_space : Join → List ℕ → Bool
is_one_space Space gap = true
is_one_space Nothing gap = false
is_one_space Kept [] = false
is_one_space Kept (b ∷ bs) = true

-- the gap holds a byte
abbrev pub has_bytes : List ℕ → Bool
has_bytes [] = false
has_bytes (b ∷ bs) = true

-- a source is cut between characters, and in this order
pub record IsCut (source : List ℕ) (c : Cut) : Type 0 where
  pub run : IsCharBoundary source c.run
  pub gap : IsCharBoundary source c.gap
  pub token : IsCharBoundary source c.token
  pub end : IsCharBoundary source c.end
  pub after_run : c.run ≤ c.gap
  pub after_gap : c.gap ≤ c.token
  pub after_token : c.token ≤ c.end

-- what is in the place of the gap, where this is what joins the token to what is on its left
abbrev pub gap_text : Marks → List ℕ → Cut → Join → List ℕ
gap_text m source c join =
    laid_gap
    (unless_end join (meet_in_end m (slice_range source 0 c.gap) (slice_range source c.token c.end)))
    (slice_range source c.gap c.token)

-- tokens are written up to those that are left: what was pushed, the run after it and what is written of those are the
-- whole; the run may be cut out of the source; and a fault of those, or their end after the last that was written, is
-- one of all
pub record AreWritten (m : Marks) (source : List ℕ) (all : Items) (whole : Option (List ℕ))
    (out : List ℕ) (run : ℕ) (r : Reached) (last : Span) (left : Items) : Type 0 where
  pub begins : IsCharBoundary source run
  pub ends : IsCharBoundary source r.end
  pub order : run ≤ r.end
  pub follow : Follow r.end left
  pub text : put (out ++ slice_range source run r.end) (written m source r left) ≡ whole
  pub faults : KeepsFaults all last left
  pub within : IsWithin source last
