-- Refusals where names are known, which may come again.
use Rattle.std.specs.Prelude.{◌≡◌, ℕ, List, Some}
use Rattle.tera_base.specs.Errors.{ReportsBy}
use Rattle.tera_base.specs.declared.errors.Error.{Error}
use Rattle.tera_base.specs.declared.utils.Span.{Span}
use Rattle.tera_lexer.specs.code.Cursors.{Position, RefusesFrom}
use Rattle.tera_lexer.specs.grammar.Faults.{Faults}
use Rattle.tera_lexer.specs.grammar.Place.{IsWithin}
use Rattle.tera_lexer.specs.grammar.Tokens.{Items}
use Rattle.tera_grammar.specs.statements.Reading.Meeting.{Located}
use Rattle.tera_expect.specs.Notes.{AreFirst, AreLeft, Comes}
use Rattle.tera_expect.specs.Taking.{GoesOn, Reaches, name_in}
use Rattle.tera_tags.specs.Known.{CameBefore}

-- a cursor came to a name that is known, which was at this place before
abbrev pub MeetsAgain : Located → List ℕ → Span → Position → Position → Type 0
MeetsAgain known name first old new = GoesOn old new × (known name ≡ Some first) × Comes (name_in name new.span) new.left old.left

-- Where the names that are known came among all tokens, before these are left: each note of the error on where a name is
-- defined first is at that name.
abbrev pub AreFirstKnowing : Located → Items → Error → Type 0
AreFirstKnowing known left e = (items : Items) → AreLeft left items → CameBefore known left items → AreFirst items e

-- a refusal of what a cursor had left, where these names are known
unfoldable pub RefusesKnowing : Located → Position → Position → Error → Type 0
RefusesKnowing known old new e = RefusesFrom old e × Reaches old new e × AreFirstKnowing known old.left e

-- likewise in the tokens that a cursor had left
unfoldable pub RefusesInKnowing : Located → Position → Position → Error → Type 0
RefusesInKnowing known old new e =
    ReportsBy (λ text span. IsWithin old.source span × Faults old.left text span) e × Reaches old new e × AreFirstKnowing known old.left e
