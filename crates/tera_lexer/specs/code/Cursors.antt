-- What a cursor has left, what it shows, and which faults it meets.
use Rattle.std.specs.Prelude.{◌≡◌, ◌⊎◌, ◌↔◌, ℕ, zero, suc, ◌+◌, ◌<◌, Bool, true, false, List, Option, Some, None, Result, Ok, Err, codes}
use Rattle.tera_base.specs.Errors.{ReportsBy, end_of}
use Rattle.tera_base.specs.declared.utils.Span.{Span}
use Rattle.tera_base.specs.declared.errors.Error.{Error}
use Rattle.tera_lexer.specs.grammar.Place.{IsWithin}
use Rattle.tera_lexer.specs.grammar.Tokens as toks
use Rattle.tera_lexer.specs.grammar.Tokens.{Tok, Items, Ended, Failed}
use Rattle.tera_lexer.specs.code.Steps.{ReportsAlone, TakesMemory, Stops}
use Rattle.tera_lexer.specs.code.Seen.{seen}
use Rattle.tera_lexer.specs.grammar.Faults.{BeginsWith, EndsWith, Faults, IsEndAfter}
use Rattle.tera_lexer.specs.declared.lexer.tokens.Token.{Token}

-- a cursor over the tokens of a source: those that are not taken yet; how many of the next two it can show;
-- how many were taken; and the span of the token taken last
pub record Position : Type 0 where
  pub source : List ℕ
  pub left : Items
  pub sight : ℕ
  pub taken : ℕ
  pub span : Span

-- the span before the first token
abbrev pub nowhere : Span
nowhere = record { start_line = 0; start_col = 0; end_line = 0; end_col = 0; range = record { start = 0; end = 0 } }

-- how many of the next few tokens can be shown: all, save a token for which an allocation failed, and those after it
abbrev pub Sight : ℕ → Items → ℕ → Type 0
Sight zero items n = n ≡ 0
Sight (suc few) Ended n = n ≡ 0
Sight (suc few) (Failed text span) n = n ≡ 0
Sight (suc few) (toks.Token t span items) zero = TakesMemory t
Sight (suc few) (toks.Token t span items) (suc n) = Sight few items n

-- the next two
abbrev pub SeesTwo : Position → Type 0
SeesTwo p = Sight 2 p.left p.sight

-- the first of the tokens that are left, and the second
abbrev pub FirstIs : Items → Tok → Type 0
FirstIs items t = (span : Span) × (following : Items) × (items ≡ toks.Token t span following)

abbrev pub FirstIsAt : Items → Span → Type 0
FirstIsAt items span = (t : Tok) × (following : Items) × (items ≡ toks.Token t span following)

abbrev pub SecondIs : Items → Tok → Type 0
SecondIs items t = (first : Tok) × (here there : Span) × (following : Items) × (items ≡ toks.Token first here (toks.Token t there following))

abbrev pub is_end : Items → Bool
is_end Ended = true
is_end (Failed text span) = false
is_end (toks.Token t span items) = false

-- after the token that was taken the next is shown where it was
abbrev pub KeepsSight : Position → Position → Type 0
KeepsSight old new = (1 < old.sight) ↔ (0 < new.sight)

-- the next token was taken; or none is left; or the fault is reported, or an allocation failed for the next token,
-- after which none is left
abbrev pub Takes : Position → Result (Option (Token × Span)) Error → Position → Type 0
Takes old (Ok None) new = (old.left ≡ Ended) × (new ≡ old)
Takes old (Ok (Some p)) new =
    (0 < old.sight) × (old.left ≡ toks.Token (seen p.0) p.1 new.left) × IsWithin old.source p.1
    × (new.source ≡ old.source) × (new.taken ≡ old.taken + 1) × (new.span ≡ p.1) × KeepsSight old new
Takes old (Err e) new = (old.sight ≡ 0) × Stops old.source old.left e × (new ≡ record old { left = Ended })

-- the next token was taken, where it can be shown, and else none
abbrev pub Skips : Position → Bool → Position → Type 0
Skips old true new = (p : Token × Span) × Takes old (Ok (Some p)) new
Skips old false new = (old.sight ≡ 0) × (new ≡ old)

-- the place of the token at this span
abbrev pub IsAt : Span → Span → Type 0
IsAt here span = BeginsWith here span × EndsWith here span

-- a fault at the token taken last, the end of the input after it, or a fault in the tokens that are left
abbrev pub FaultsFrom : Span → Items → List ℕ → Span → Type 0
FaultsFrom last items text span = IsAt last span ⊎ IsEndAfter last items text span ⊎ Faults items text span

-- a refusal is an allocation failure, or a syntax error of the source at the token taken last or later
abbrev pub RefusesFrom : Position → Error → Type 0
RefusesFrom old e = ReportsBy (λ text span. IsWithin old.source span × FaultsFrom old.span old.left text span) e

-- these tokens were taken up to those, so many, and the last span is now that of the last of them
abbrev pub Passes : ℕ → Items → Span → Items → Span → Type 0
Passes zero items last left span = (left ≡ items) × (span ≡ last)
Passes (suc n) Ended last left span = ⊥
Passes (suc n) (Failed text here) last left span = ⊥
Passes (suc n) (toks.Token t here items) last left span = Passes n items here left span

-- a cursor took some tokens, or none
pub record IsLater (old new : Position) : Type 0 where
  pub count : ℕ
  pub source : new.source ≡ old.source
  pub taken : new.taken ≡ old.taken + count
  pub passes : Passes count old.left old.span new.left new.span

-- none is left, which is the end of the input after the token taken last
abbrev pub MeetsEnd : Position → Error → Position → Type 0
MeetsEnd old e new = (old.left ≡ Ended) × ReportsAlone (codes "Unexpected end of input") (end_of old.span) e × (new ≡ old)

-- a cursor took the next token, or reported that there is none, or that reading stopped
abbrev pub TakesOne : Position → Result (Token × Span) Error → Position → Type 0
TakesOne old (Ok p) new = Takes old (Ok (Some p)) new
TakesOne old (Err e) new = MeetsEnd old e new ⊎ Takes old (Err e) new

-- a syntax error at this span, unless an allocation failed
abbrev pub ReportsAt : Span → Error → Type 0
ReportsAt here e = ReportsBy (λ text span. span ≡ here) e

-- how many tokens are left
abbrev pub size : Items → ℕ
size Ended = 0
size (Failed text span) = 0
size (toks.Token t span items) = size items + 1
