-- What a refusal of a source says.
use Rattle.std.specs.Prelude.{◌≡◌, ◌⊎◌, ℕ, List, None}
use Rattle.tera_base.specs.Errors.{ReportsBy}
use Rattle.tera_base.specs.declared.errors.Error.{Error}
use Rattle.tera_lexer.specs.grammar.Faults.{IsFaultOf, IsEndOf}
use Rattle.tera_lexer.specs.grammar.Marks.{Marks}
use Rattle.tera_lexer.specs.grammar.Place.{IsWithin}
use Rattle.tera_lexer.specs.grammar.Tokens.{Items, AreTokensOf}
use Rattle.tera_layout.specs.Layout.{laid_out}

-- an allocation failure; or the source has no layout, and what is reported is the fault in which its tokens end, or
-- their end
abbrev pub Refuses : Marks → List ℕ → Error → Type 0
Refuses m source e =
    ReportsBy (λ text span. IsWithin source span × (laid_out m source ≡ None)
    × ((items : Items) × AreTokensOf m source items × (IsFaultOf items text span ⊎ IsEndOf items text span))) e
