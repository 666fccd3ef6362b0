-- A source is the bytes of its pieces.
use Rattle.std.proofs.Common.{◌≡◌, ℕ, Bool, true, false, List, [], ◌∷◌, ◌++◌, append_assoc, codes, sym, ap, ◌∙◌}
use Rattle.tera_lexer.specs.grammar.Marks.{Marks, start_marker, end_marker, dash_bytes}
use Rattle.tera_lexer.specs.grammar.Lexeme.{Item, spelled, End, IsEnd, IsInside}
use Rattle.tera_lexer.specs.grammar.Raw.{WordTag, endraw_word, body_of, AreParts}
use Rattle.tera_lexer.specs.grammar.Division.{Piece, Text, Comment, Raw, Tag, Complete, IsPiece, IsDivision}
use Rattle.tera_layout.specs.Widened.{items_bytes, word_tag_front, piece_bytes, pieces_bytes}

pub end_bytes : (end : List ℕ) (dash : Bool) (at rest : List ℕ) → IsEnd end dash at rest → at ≡ dash_bytes dash ++ (end ++ rest)
end_bytes end true at rest h = h
end_bytes end false at rest h = h.0

inside_bytes : (end : List ℕ) (is : List Item) (gap : List ℕ) (dash : Bool) (rest bytes : List ℕ) → IsInside end is (End gap dash rest) bytes →
    bytes ≡ items_bytes is (gap ++ (dash_bytes dash ++ (end ++ rest)))
inside_bytes end [] gap dash rest bytes (at, splits, is_gap, ends) = splits ∙ ap (λ b. gap ++ b) (end_bytes end dash at rest ends)
inside_bytes end (i ∷ is) gap dash rest bytes (following, splits, is_gap, no_end, sound, more) =
    splits ∙ ap (λ b. i.gap ++ (spelled i.lexeme ++ b)) (inside_bytes end is gap dash rest following more)

parts_bytes : (m : Marks) (parts : List (List ℕ)) (last : List ℕ) (close : WordTag) (bytes rest : List ℕ) → AreParts m parts last close bytes rest →
    bytes ≡ body_of m parts last ++ (m.block_start ++ word_tag_front endraw_word m.block_end close rest)
parts_bytes m [] last close bytes rest (following, (splits, nowhere), closes) = splits ∙ ap (λ b. last ++ (m.block_start ++ b)) closes.splits
parts_bytes m (part ∷ parts) last close bytes rest (following, (splits, nowhere), none, are) =
    let body : List ℕ = body_of m parts last in
    let end : List ℕ = m.block_start ++ word_tag_front endraw_word m.block_end close rest in
    splits ∙ ap (λ b. part ++ (m.block_start ++ b)) (parts_bytes m parts last close following rest are)
    ∙ sym (append_assoc part (m.block_start ++ body) end ∙ ap (λ b. part ++ b) (append_assoc m.block_start body end))

pub one_piece : (m : Marks) (p : Piece) (bytes rest : List ℕ) → IsPiece m p bytes rest → bytes ≡ piece_bytes m p rest
one_piece m (Text text) bytes rest h = h.0
one_piece m (Comment dash inside) bytes rest (following, (splits, takes), is, nowhere) =
    splits ∙ ap (λ b. m.comment_start ++ (dash_bytes dash ++ b)) is
one_piece m (Raw dash opening body closing) bytes rest (following, inside, (splits, takes), opens, (parts, last, is, are)) =
    let end : List ℕ = m.block_start ++ word_tag_front endraw_word m.block_end closing rest in
    splits ∙ ap (λ b. m.block_start ++ (dash_bytes dash ++ b)) opens.splits
    ∙ ap (λ b. m.block_start ++ (dash_bytes dash ++ word_tag_front (codes "raw") m.block_end opening b))
    (parts_bytes m parts last closing inside rest are ∙ ap (λ b. b ++ end) (sym is))
one_piece m (Tag kind dash is gap end) bytes rest (inside, (splits, takes), opens, sound) =
    splits ∙ ap (λ b. start_marker kind m ++ (dash_bytes dash ++ b)) (inside_bytes (end_marker kind m) is gap end rest inside sound)

pub source_bytes : (m : Marks) (ps : List Piece) (source : List ℕ) → IsDivision m ps Complete source → source ≡ pieces_bytes m ps
source_bytes m [] source h = h
source_bytes m (p ∷ ps) source (rest, piece, more) = one_piece m p source rest piece ∙ ap (piece_bytes m p) (source_bytes m ps rest more)
