-- A step over the tokens of a source.
use Rattle.std.specs.Prelude.{◌≡◌, ℕ, List, ◌++◌, Option, Some, None, Result, Ok, Err, slice_range}
use Rattle.tera_lexer.specs.grammar.Place.{IsWithin}
use Rattle.tera_lexer.specs.grammar.Tokens as toks
use Rattle.tera_lexer.specs.grammar.Tokens.{Tok, Items, Ended, Failed, Content, Escaped}
use Rattle.tera_lexer.specs.grammar.Tiling.{Shows}
use Rattle.tera_base.specs.Errors.{HasNoNotes, IsMemory, Reports}
use Rattle.tera_lexer.specs.reading.Stream.{Stream}
use Rattle.tera_lexer.specs.code.Seen.{seen}
use Rattle.tera_base.specs.declared.utils.Span.{Span}
use Rattle.tera_base.specs.declared.errors.Error.{Error}
use Rattle.tera_lexer.specs.declared.lexer.tokens.Token.{Token}

-- the token takes memory: it is a string with an escape
abbrev pub TakesMemory : Tok → Type 0
TakesMemory (Escaped text) = Unit {0}
TakesMemory _ = ⊥

-- a syntax error with this text and span, and no notes, unless an allocation failed
abbrev pub ReportsAlone : List ℕ → Span → Error → Type 0
ReportsAlone text span e = Reports text span e × HasNoNotes e

-- reading stops before these tokens: at their fault, which is reported, or at a token for which an allocation failed
abbrev pub Stops : List ℕ → Items → Error → Type 0
Stops source Ended e = ⊥
Stops source (Failed text span) e = IsWithin source span × ReportsAlone text span e
Stops source (toks.Token t span items) e = TakesMemory t × IsMemory e

-- the text is a part of the bytes
abbrev pub IsPart : List ℕ → List ℕ → Type 0
IsPart text bytes = (before following : List ℕ) × (bytes ≡ before ++ (text ++ following))

-- the bytes of a token show it, and a text is a part of them
abbrev pub IsIn : Tok → List ℕ → Type 0
IsIn (Content text) bytes = IsPart text bytes
IsIn t bytes = Shows t bytes

-- the token is in the bytes that its span cuts out of the source
abbrev pub IsAt : List ℕ → Tok → Span → Type 0
IsAt source t span = IsWithin source span × IsIn t (slice_range source span.range.start span.range.end)

-- each of the tokens is so
abbrev pub EachIsAt : List ℕ → Items → Type 0
EachIsAt source Ended = Unit {0}
EachIsAt source (Failed text span) = Unit {0}
EachIsAt source (toks.Token t span items) = IsAt source t span × EachIsAt source items

-- the first of the tokens that are left was taken; or they end; or reading stopped before those that were left,
-- and none is left
abbrev pub Steps : Stream → Option (Result (Token × Span) Error) → Stream → Type 0
Steps old None new = (new ≡ old) × (old.left ≡ Ended)
Steps old (Some (Ok p)) new =
    (old.left ≡ toks.Token (seen p.0) p.1 new.left) × (new ≡ record old { left = new.left }) × IsAt old.source (seen p.0) p.1
Steps old (Some (Err e)) new =
    (new ≡ record { source = old.source; left = Ended; stopped = Some old.left }) × Stops old.source old.left e
