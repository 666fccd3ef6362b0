-- Raw pieces: what is between their two tags is not read.
use Rattle.std.specs.Prelude.{◌≡◌, ℕ, Bool, List, [], ◌∷◌, ◌++◌, codes}
use Rattle.tera_lexer.specs.grammar.Marks.{Marks, begins, NowhereIn, dash_bytes, TakesDash}
use Rattle.tera_lexer.specs.grammar.Lexeme.{IsGap}

-- the tag that opens a raw piece, after its block start and the dash of that, or the one that closes it: a dash or
-- none, white space, the word, white space, a dash or none, and the block end
pub record WordTag : Type 0 where
  pub dash_in : Bool
  pub before : List ℕ
  pub following : List ℕ
  pub dash_out : Bool

abbrev pub word_tag_bytes : List ℕ → List ℕ → WordTag → List ℕ
word_tag_bytes word end t = dash_bytes t.dash_in ++ (t.before ++ (word ++ (t.following ++ (dash_bytes t.dash_out ++ end))))

-- the tag is there, before rest. A dash is taken where one is, and white space as its longest run.
pub record IsWordTag (word end : List ℕ) (t : WordTag) (bytes rest : List ℕ) : Type 0 where
  pub splits : bytes ≡ dash_bytes t.dash_in ++ (t.before ++ (word ++ (t.following ++ (dash_bytes t.dash_out ++ (end ++ rest)))))
  pub takes_in : TakesDash t.dash_in (t.before ++ (word ++ (t.following ++ (dash_bytes t.dash_out ++ (end ++ rest)))))
  pub gap_before : IsGap t.before (word ++ (t.following ++ (dash_bytes t.dash_out ++ (end ++ rest))))
  pub gap_after : IsGap t.following (dash_bytes t.dash_out ++ (end ++ rest))
  pub takes_out : TakesDash t.dash_out (end ++ rest)

abbrev pub raw_word : List ℕ
raw_word = codes "raw"

abbrev pub endraw_word : List ℕ
endraw_word = codes "endraw"

abbrev pub OpensRaw : Marks → WordTag → List ℕ → List ℕ → Type 0
OpensRaw m t bytes rest = IsWordTag raw_word m.block_end t bytes rest

abbrev pub ClosesRaw : Marks → WordTag → List ℕ → List ℕ → Type 0
ClosesRaw m t bytes rest = IsWordTag endraw_word m.block_end t bytes rest

-- a part of a raw piece up to the next block start, after which is what is after
abbrev pub IsBodyPart : Marks → List ℕ → List ℕ → List ℕ → Type 0
IsBodyPart m part bytes following =
    (bytes ≡ part ++ (m.block_start ++ following)) × NowhereIn (begins m.block_start) part (m.block_start ++ following)

-- no closing tag is there
abbrev pub ClosesNothing : Marks → List ℕ → Type 0
ClosesNothing m bytes = (t : WordTag) (rest : List ℕ) → ClosesRaw m t bytes rest → ⊥

-- the body of a raw piece: the parts before the block starts that close nothing, with these, and the last
abbrev pub body_of : Marks → List (List ℕ) → List ℕ → List ℕ
body_of m [] last = last
body_of m (part ∷ parts) last = part ++ (m.block_start ++ body_of m parts last)

abbrev pub AreParts : Marks → List (List ℕ) → List ℕ → WordTag → List ℕ → List ℕ → Type 0
AreParts m [] last close bytes rest = (following : List ℕ) × IsBodyPart m last bytes following × ClosesRaw m close following rest
AreParts m (part ∷ parts) last close bytes rest =
    (following : List ℕ) × IsBodyPart m part bytes following × ClosesNothing m following × AreParts m parts last close following rest

-- the body, the closing tag and then rest
abbrev pub IsBody : Marks → List ℕ → WordTag → List ℕ → List ℕ → Type 0
IsBody m body close bytes rest =
    (parts : List (List ℕ)) × (last : List ℕ) × (body ≡ body_of m parts last) × AreParts m parts last close bytes rest

-- no block start closes the raw piece
abbrev pub AreOpen : Marks → List (List ℕ) → List ℕ → Type 0
AreOpen m [] bytes = NowhereIn (begins m.block_start) bytes []
AreOpen m (part ∷ parts) bytes = (following : List ℕ) × IsBodyPart m part bytes following × ClosesNothing m following × AreOpen m parts following

abbrev pub IsOpenBody : Marks → List ℕ → Type 0
IsOpenBody m bytes = (parts : List (List ℕ)) × AreOpen m parts bytes
