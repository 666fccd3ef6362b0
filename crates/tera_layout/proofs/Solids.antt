-- Sources that differ in the white space inside tags alone have the same bytes except white space.
use Rattle.std.proofs.Common.{◌≡◌, ℕ, Bool, true, not, List, [], ◌∷◌, ◌++◌, map, refl, sym, ap, ◌∙◌}
use Rattle.std.specs.List.{AllByRecursion}
use Rattle.std.specs.Char.{is_ascii_whitespace}
use Rattle.std.proofs.lemmas.List.Elements.{filter-append}
use Rattle.tera_lexer.specs.grammar.Marks.{Marks, start_marker, end_marker, dash_bytes}
use Rattle.tera_lexer.specs.grammar.Lexeme.{Item, spelled, End, IsInside}
use Rattle.tera_lexer.specs.grammar.Raw.{WordTag, raw_word, endraw_word}
use Rattle.tera_lexer.specs.grammar.Division.{Piece, Text, Comment, Raw, Tag, Complete, IsPiece, IsDivision}
use Rattle.tera_layout.specs.Respaced.{without_gap, without_gaps, IsRespaced, without_white}
use Rattle.tera_layout.specs.Widened.{items_bytes, word_tag_front, piece_bytes, pieces_bytes}
use Rattle.tera_layout.proofs.Bytes.{end_bytes, one_piece}

abbrev Same : List ℕ → List ℕ → Type 0
Same a b = without_white a ≡ without_white b

following : (front a b : List ℕ) → Same a b → Same (front ++ a) (front ++ b)
following front a b h =
    filter-append (λ b. not (is_ascii_whitespace b)) front a ∙ ap (λ x. without_white front ++ x) h
    ∙ sym (filter-append (λ b. not (is_ascii_whitespace b)) front b)

gap_goes : (gap bytes : List ℕ) → AllByRecursion (λ b. is_ascii_whitespace b ≡ true) gap → Same (gap ++ bytes) bytes
gap_goes [] bytes white = refl
gap_goes (b ∷ gap) bytes white = rw white.0 (gap_goes gap bytes white.1)

inside_same : (end : List ℕ) (is : List Item) (gap : List ℕ) (dash : Bool) (rest other bytes : List ℕ) → IsInside end is (End gap dash rest) bytes → Same rest other →
    Same bytes (items_bytes (map without_gap is) (dash_bytes dash ++ (end ++ other)))
inside_same end [] gap dash rest other bytes (at, splits, is_gap, ends) h =
    ap without_white splits ∙ gap_goes gap at is_gap.0 ∙ ap without_white (end_bytes end dash at rest ends)
    ∙ following (dash_bytes dash) (end ++ rest) (end ++ other) (following end rest other h)
inside_same end (i ∷ is) gap dash rest other bytes (more, splits, is_gap, no_end, sound, inside) h =
    ap without_white splits ∙ gap_goes i.gap (spelled i.lexeme ++ more) is_gap.0
    ∙ following (spelled i.lexeme) more _ (inside_same end is gap dash rest other more inside h)

word_same : (word end : List ℕ) (t : WordTag) (a b : List ℕ) → Same a b → Same (word_tag_front word end t a) (word_tag_front word end t b)
word_same word end t a b h =
    following (dash_bytes t.dash_in) _ _ (following t.before _ _ (following word _ _ (following t.following _ _ (following (dash_bytes t.dash_out) _ _ (following end a b h)))))

piece_same : (m : Marks) (p : Piece) (bytes rest other : List ℕ) → IsPiece m p bytes rest → Same rest other → Same bytes (piece_bytes m (without_gaps p) other)
piece_same m (Text text) bytes rest other piece h = ap without_white piece.0 ∙ following text rest other h
piece_same m (Comment dash inside) bytes rest other piece h =
    ap without_white (one_piece m (Comment dash inside) bytes rest piece)
    ∙ following m.comment_start _ _ (following (dash_bytes dash) _ _ (following inside _ _ (following m.comment_end rest other h)))
piece_same m (Raw dash opening body closing) bytes rest other piece h =
    ap without_white (one_piece m (Raw dash opening body closing) bytes rest piece)
    ∙ following m.block_start _ _ (following (dash_bytes dash) _ _ (word_same raw_word m.block_end opening _ _
    (following body _ _ (following m.block_start _ _ (word_same endraw_word m.block_end closing rest other h)))))
piece_same m (Tag kind dash is gap end) bytes rest other (inside, (splits, takes), opens, sound) h =
    ap without_white splits
    ∙ following (start_marker kind m) _ _ (following (dash_bytes dash) _ _ (inside_same (end_marker kind m) is gap end rest other inside sound h))

source_same : (m : Marks) (ps : List Piece) (source : List ℕ) → IsDivision m ps Complete source → Same source (pieces_bytes m (map without_gaps ps))
source_same m [] source h = ap without_white h
source_same m (p ∷ ps) source (rest, piece, more) = piece_same m p source rest (pieces_bytes m (map without_gaps ps)) piece (source_same m ps rest more)

pub respaced_same : (m : Marks) (one other : List ℕ) → IsRespaced m one other → without_white one ≡ without_white other
respaced_same m one other (ps, qs, first, second, same) =
    source_same m ps one first ∙ ap (λ rs. without_white (pieces_bytes m rs)) same ∙ sym (source_same m qs other second)
