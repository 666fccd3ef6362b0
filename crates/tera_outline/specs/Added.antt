-- What a reading of a text adds to the tokens that were read before.
use Rattle.std.specs.Prelude.{◌≡◌, ◌+◌, ◌++◌, ℕ, Bool, Option, None, List, drop, map, option_map}
use Rattle.tera_lexer.specs.grammar.Marks.{default_marks}
use Rattle.tera_lexer.specs.grammar.Tokens.{Items, AreTokensOf}
use Rattle.tera_outline.specs.Pieces.{Part, read_in, next_of, kept, moved}

-- to the old ones come those that are kept of the text from a byte on; and where they go on
abbrev pub Adds : Bool → List ℕ → ℕ → List Part → Option ℕ → List Part → Type 0
Adds again text from old next new =
    (items : Items) × AreTokensOf default_marks (drop from text) items
    × (next ≡ option_map (λ n. from + n) (next_of again (drop from text) items))
    × (new ≡ old ++ map (moved from) (kept (next_of again (drop from text) items) (read_in again (drop from text) None items)))
