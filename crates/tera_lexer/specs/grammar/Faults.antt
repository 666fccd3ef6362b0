-- What a fault of some tokens says.
use Rattle.std.specs.Prelude.{◌≡◌, ◌⊎◌, ℕ, List, codes}
use Rattle.tera_base.specs.Errors.{end_of}
use Rattle.tera_base.specs.declared.utils.Span.{Span}
use Rattle.tera_lexer.specs.grammar.Tokens.{Items, Ended, Failed, Token}

-- the span begins where the token at this place begins: in bytes, and by line and column
abbrev pub BeginsWith : Span → Span → Type 0
BeginsWith here span = (span.range.start ≡ here.range.start) × (span.start_line ≡ here.start_line) × (span.start_col ≡ here.start_col)

-- the span ends where the token at this place ends
abbrev pub EndsWith : Span → Span → Type 0
EndsWith here span = (span.range.end ≡ here.range.end) × (span.end_line ≡ here.end_line) × (span.end_col ≡ here.end_col)

abbrev pub EndsIn : Items → Span → Type 0
EndsIn Ended span = ⊥
EndsIn (Failed text here) span = ⊥
EndsIn (Token t here items) span = EndsWith here span ⊎ EndsIn items span

-- the span begins where a token begins, and ends where that or a later token ends
abbrev pub Covers : Items → Span → Type 0
Covers Ended span = ⊥
Covers (Failed text here) span = ⊥
Covers (Token t here items) span =
    (BeginsWith here span × EndsIn (Token t here items) span) ⊎ Covers items span

-- the text and the span of the fault in which the tokens end
abbrev pub IsFaultOf : Items → List ℕ → Span → Type 0
IsFaultOf Ended text span = ⊥
IsFaultOf (Failed reported here) text span = (text ≡ reported) × (span ≡ here)
IsFaultOf (Token t here items) text span = IsFaultOf items text span

-- the text and the span of the end of the input, where only these tokens follow the one at a place: its line and column
-- are those of the end of the last
abbrev pub IsEndAfter : Span → Items → List ℕ → Span → Type 0
IsEndAfter last Ended text span = (text ≡ codes "Unexpected end of input") × (span ≡ end_of last)
IsEndAfter last (Failed reported here) text span = ⊥
IsEndAfter last (Token t here items) text span = IsEndAfter here items text span

-- the same, of the end after some tokens
abbrev pub IsEndOf : Items → List ℕ → Span → Type 0
IsEndOf Ended text span = ⊥
IsEndOf (Failed reported here) text span = ⊥
IsEndOf (Token t here items) text span = IsEndAfter here items text span

-- the lexical fault in which the tokens end, the end of the input after them, or a span that covers tokens
abbrev pub Faults : Items → List ℕ → Span → Type 0
Faults items text span = IsFaultOf items text span ⊎ IsEndOf items text span ⊎ Covers items span
