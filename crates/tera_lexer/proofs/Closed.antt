-- Tokens that leave no tag unclosed, and end in no fault, are those of pieces alone.
use Rattle.std.proofs.Common.{◌≡◌, ℕ, Bool, true, false, List, [], ◌∷◌, ◌++◌, subst, refl}
use Rattle.tera_lexer.specs.grammar.Marks.{Marks, start_marker, end_marker, dash_bytes}
use Rattle.tera_lexer.specs.grammar.Lexeme.{Item, spelled}
use Rattle.tera_lexer.specs.grammar.Division.{Piece, Text, Comment, Raw, Tag, Ending, Complete, OpenTag, BadTag, OpenRaw, OpenComment}
use Rattle.tera_lexer.specs.grammar.Trimming.{trims_start, trims_end}
use Rattle.tera_lexer.specs.grammar.Tokens.{Items, Ended, lexemes, piece_tokens, ending_tokens, tokens_of}
use Rattle.tera_lexer.specs.grammar.Lexed.{IsClosed}
use Rattle.tera_lexer.proofs.Tilings.{lexeme_inside}

lexemes_closed : (front : List ℕ) (is : List Item) (follows : List ℕ → Items) → IsClosed true (lexemes front is follows) → (f : List ℕ) × IsClosed true (follows f)
lexemes_closed front [] follows closed = (front, closed)
lexemes_closed front (i ∷ is) follows closed =
    lexemes_closed ((front ++ i.gap) ++ spelled i.lexeme) is follows (subst (λ b. IsClosed b (lexemes ((front ++ i.gap) ++ spelled i.lexeme) is follows)) (lexeme_inside i.lexeme) closed)

-- what follows the tokens of a piece leaves no tag unclosed where they do not
piece_closed : (m : Marks) (front : List ℕ) (start end : Bool) (p : Piece) (follows : List ℕ → Items) → IsClosed false (piece_tokens m front start end p follows) → (f : List ℕ) × IsClosed false (follows f)
piece_closed m front start end (Text t) follows closed = (_, closed)
piece_closed m front start end (Comment dash inside) follows closed = (_, closed)
piece_closed m front start end (Raw dash opening body closing) follows closed = (_, closed)
piece_closed m front start end (Tag k dash is gap last) follows closed =
    let (f, rest) = lexemes_closed (front ++ (start_marker k m ++ dash_bytes dash)) is _ closed in
    ((f ++ gap) ++ (dash_bytes last ++ end_marker k m), rest)

ending_closed : (m : Marks) (front : List ℕ) (ending : Ending) → IsClosed false (ending_tokens m front ending) → ending ≡ Complete
ending_closed m front Complete closed = refl
ending_closed m front (OpenTag k dash is gap) closed = let (f, clash) = lexemes_closed (front ++ (start_marker k m ++ dash_bytes dash)) is (λ g. Ended) closed in cc
ending_closed m front (BadTag k dash is gap fault at) closed = absurd (lexemes_closed (front ++ (start_marker k m ++ dash_bytes dash)) is _ closed).1
ending_closed m front (OpenRaw dash) closed = absurd closed
ending_closed m front (OpenComment dash) closed = absurd closed

pub pieces_closed : (m : Marks) (front : List ℕ) (left ps : List Piece) (ending : Ending) → IsClosed false (tokens_of m front left ps ending) → ending ≡ Complete
pieces_closed m front left [] ending closed = ending_closed m front ending closed
pieces_closed m front left (p ∷ ps) ending closed =
    let (f, rest) = piece_closed m front (trims_start left) (trims_end ps ending) p (λ f. tokens_of m f (p ∷ left) ps ending) closed in
    pieces_closed m f (p ∷ left) ps ending rest
