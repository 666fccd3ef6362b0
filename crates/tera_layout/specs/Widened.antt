-- What a formatter may write: the same pieces with other white space in tags, where what was apart stays apart.
use Rattle.std.specs.Prelude.{◌≡◌, ℕ, true, List, [], ◌∷◌, ◌++◌}
use Rattle.std.specs.List.{AllByRecursion}
use Rattle.std.specs.Char.{is_ascii_whitespace}
use Rattle.tera_lexer.specs.grammar.Marks.{Marks, start_marker, end_marker, dash_bytes}
use Rattle.tera_lexer.specs.grammar.Lexeme.{Item, spelled}
use Rattle.tera_lexer.specs.grammar.Raw.{WordTag, raw_word, endraw_word}
use Rattle.tera_lexer.specs.grammar.Division.{Piece, Text, Comment, Raw, Tag}

-- the bytes of pieces, in front of others
abbrev pub items_bytes : List Item → List ℕ → List ℕ
items_bytes [] rest = rest
items_bytes (i ∷ is) rest = i.gap ++ (spelled i.lexeme ++ items_bytes is rest)

abbrev pub word_tag_front : List ℕ → List ℕ → WordTag → List ℕ → List ℕ
word_tag_front word end t rest =
    dash_bytes t.dash_in ++ (t.before ++ (word ++ (t.following ++ (dash_bytes t.dash_out ++ (end ++ rest)))))

abbrev pub piece_bytes : Marks → Piece → List ℕ → List ℕ
piece_bytes m (Text text) rest = text ++ rest
piece_bytes m (Comment dash inside) rest = m.comment_start ++ (dash_bytes dash ++ (inside ++ (m.comment_end ++ rest)))
piece_bytes m (Raw dash opening body closing) rest =
    m.block_start ++ (dash_bytes dash ++ word_tag_front raw_word m.block_end opening
    (body ++ (m.block_start ++ word_tag_front endraw_word m.block_end closing rest)))
piece_bytes m (Tag kind dash items gap end) rest =
    start_marker kind m ++ (dash_bytes dash ++ items_bytes items (gap ++ (dash_bytes end ++ (end_marker kind m ++ rest))))

abbrev pub pieces_bytes : Marks → List Piece → List ℕ
pieces_bytes m [] = []
pieces_bytes m (p ∷ ps) = piece_bytes m p (pieces_bytes m ps)

-- white space in the place of a gap: none only where there was none
abbrev pub Widens : List ℕ → List ℕ → Type 0
Widens gap new = AllByRecursion (λ b. is_ascii_whitespace b ≡ true) new × (new ≡ [] → gap ≡ [])

-- the same lexemes after such white space
abbrev pub AreWidenedItems : List Item → List Item → Type 0
AreWidenedItems [] [] = Unit {0}
AreWidenedItems (i ∷ is) (j ∷ js) = Widens i.gap j.gap × (j.lexeme ≡ i.lexeme) × AreWidenedItems is js
AreWidenedItems _ _ = ⊥

-- the same piece; of a tag with such white space
abbrev pub IsWidened : Piece → Piece → Type 0
IsWidened (Tag kind dash items gap end) q =
    (js : List Item) × (new : List ℕ) × (q ≡ Tag kind dash js new end) × AreWidenedItems items js × Widens gap new
IsWidened p q = q ≡ p

abbrev pub AreWidened : List Piece → List Piece → Type 0
AreWidened [] [] = Unit {0}
AreWidened (p ∷ ps) (q ∷ qs) = IsWidened p q × AreWidened ps qs
AreWidened _ _ = ⊥
