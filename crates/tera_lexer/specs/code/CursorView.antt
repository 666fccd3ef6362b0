-- From the fields of a `Cursor` to what it has left.
use Rattle.std.specs.Prelude.{◌≡◌, ℕ, suc, ◌+◌, ◌<◌, ◌≤◌, ◌^◌, length, Option, Some, None, Result, Ok, Err}
use Rattle.tera_base.specs.declared.utils.Span.{Span}
use Rattle.tera_base.specs.declared.errors.Error.{Error}
use Rattle.tera_lexer.specs.grammar.Place.{IsWithin}
use Rattle.tera_lexer.specs.grammar.Tokens as toks
use Rattle.tera_lexer.specs.grammar.Tokens.{Items, Ended}
use Rattle.tera_lexer.specs.grammar.Lexed.{AreLexed}
use Rattle.tera_lexer.specs.reading.Stream.{Stream}
use Rattle.tera_lexer.specs.code.Steps.{Stops}
use Rattle.tera_lexer.specs.code.Seen.{seen}
use Rattle.tera_lexer.specs.code.Cursors.{Position, size}
use Rattle.tera_lexer.specs.declared.lexer.tokens.Token.{Token}
use Rattle.tera_lexer.specs.declared.lexer.cursor.Cursor.TheInside.{Inside}

-- what reading stopped before, where it did
abbrev pub items_or_end : Option Items → Items
items_or_end None = Ended
items_or_end (Some items) = items

abbrev pub stopped_before : Stream → Items
stopped_before s = items_or_end s.stopped

-- an item that was read ahead: a token comes before what follows; where reading stopped, what it stopped before
-- comes; and where there was none, only what follows
abbrev pub with_item : Items → Option (Result (Token × Span) Error) → Items → Items
with_item stopped None items = items
with_item stopped (Some (Ok p)) items = toks.Token (seen p.0) p.1 items
with_item stopped (Some (Err e)) items = stopped

abbrev pub left_after : Stream → Option (Result (Token × Span) Error) → Option (Result (Token × Span) Error) → Items
left_after s first second = with_item (stopped_before s) first (with_item (stopped_before s) second s.left)

-- a token that was read ahead can be shown
abbrev pub in_sight : Option (Result (Token × Span) Error) → ℕ → ℕ
in_sight None n = 0
in_sight (Some (Ok p)) n = suc n
in_sight (Some (Err e)) n = 0

abbrev pub position_of : Inside → Position
position_of c = record {
  source = c.tokens.source;
  left = left_after c.tokens c.first c.second;
  sight = in_sight c.first (in_sight c.second 0);
  taken = c.taken;
  span = c.current_span;
}

-- an item that was read ahead of what is left: a token lies in the source; reading stopped at what is reported; and
-- where there was none, or reading stopped, nothing more is given
abbrev pub IsReadAhead : Stream → Option (Result (Token × Span) Error) → Type 0
IsReadAhead s None = s.left ≡ Ended
IsReadAhead s (Some (Ok p)) = IsWithin s.source p.1
IsReadAhead s (Some (Err e)) = (s.left ≡ Ended) × Stops s.source (stopped_before s) e

-- after an item that is not a token none was read
abbrev pub Follows : Option (Result (Token × Span) Error) → Option (Result (Token × Span) Error) → Type 0
Follows None second = second ≡ None
Follows (Some (Ok p)) second = Unit {0}
Follows (Some (Err e)) second = second ≡ None

pub record AreReadAhead (c : Inside) : Type 0 where
  pub first : IsReadAhead c.tokens c.first
  pub second : IsReadAhead c.tokens c.second
  pub follows : Follows c.first c.second
  pub tokens : AreLexed (left_after c.tokens c.first c.second)
  pub count : c.taken + size (left_after c.tokens c.first c.second) ≤ length c.tokens.source
  pub fits : length c.tokens.source < 2 ^ 64
  pub span : IsWithin c.tokens.source c.current_span

-- the token of an item that was read ahead, with its span
abbrev pub IsTokenAhead : Option (Result (Token × Span) Error) → Option (Token × Span) → Type 0
IsTokenAhead (Some (Ok p)) shown = shown ≡ Some p
IsTokenAhead (Some (Err e)) shown = shown ≡ None
IsTokenAhead None shown = shown ≡ None
