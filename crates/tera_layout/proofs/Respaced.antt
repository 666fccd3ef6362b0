-- Sources that differ in the white space inside tags alone have the same tokens apart from places.
use Rattle.std.proofs.Common.{◌≡◌, ℕ, ◌||◌, List, [], ◌∷◌, map, refl, sym, ap, ap₂, ◌∙◌}
use Rattle.tera_lexer.specs.code.Cursors.{nowhere}
use Rattle.tera_lexer.specs.grammar.Marks.{Marks}
use Rattle.tera_lexer.specs.grammar.Lexeme.{Item}
use Rattle.tera_lexer.specs.grammar.Division.{Piece, Text, Comment, Raw, Tag, Complete}
use Rattle.tera_lexer.specs.grammar.Trimming.{ends_dashed, trims_start, trims_end, trimmed}
use Rattle.tera_lexer.specs.grammar.Tokens.{Items, Token, Content, Start, Finish, token_of, lexemes, tokens_of}
use Rattle.tera_layout.specs.Alike.{placeless_tokens, AreAlikeSources}
use Rattle.tera_layout.specs.Respaced.{without_gap, without_gaps, IsRespaced}

start_same : (left : List Piece) → trims_start (map without_gaps left) ≡ trims_start left
start_same [] = refl
start_same (Text text ∷ left) = refl
start_same (Comment dash inside ∷ left) = ap (λ b. b || ends_dashed inside) (start_same left)
start_same (Raw dash opening body closing ∷ left) = refl
start_same (Tag kind dash items gap end ∷ left) = refl

end_same : (right : List Piece) → trims_end (map without_gaps right) Complete ≡ trims_end right Complete
end_same [] = refl
end_same (Text text ∷ right) = refl
end_same (Comment dash inside ∷ right) = refl
end_same (Raw dash opening body closing ∷ right) = refl
end_same (Tag kind dash items gap end ∷ right) = refl

lexemes_same : (f g : List ℕ) (is : List Item) (follows following : List ℕ → Items) →
    ((x y : List ℕ) → placeless_tokens (follows x) ≡ placeless_tokens (following y)) →
    placeless_tokens (lexemes f is follows) ≡ placeless_tokens (lexemes g (map without_gap is) following)
lexemes_same f g [] follows following h = h f g
lexemes_same f g (i ∷ is) follows following h = ap (Token (token_of i.lexeme) nowhere) (lexemes_same _ _ is follows following h)

-- what is before the pieces has no part in it, nor do gaps
pieces_same : (m : Marks) (f g : List ℕ) (left ps : List Piece) →
    placeless_tokens (tokens_of m f left ps Complete) ≡ placeless_tokens (tokens_of m g (map without_gaps left) (map without_gaps ps) Complete)
pieces_same m f g left [] = refl
pieces_same m f g left (Text text ∷ right) =
    ap₂ (λ t items. Token t nowhere items) (ap₂ (λ a b. Content (trimmed a b text)) (sym (start_same left)) (sym (end_same right)))
    (pieces_same m _ _ (Text text ∷ left) right)
pieces_same m f g left (Comment dash inside ∷ right) = ap (Token (Content []) nowhere) (pieces_same m _ _ (Comment dash inside ∷ left) right)
pieces_same m f g left (Raw dash opening body closing ∷ right) =
    ap₂ (λ t items. Token t nowhere items)
    (ap₂ (λ a b. Content (trimmed (opening.dash_out || a) (closing.dash_in || b) body)) (sym (start_same left)) (sym (end_same right)))
    (pieces_same m _ _ (Raw dash opening body closing ∷ left) right)
pieces_same m f g left (Tag kind dash items gap end ∷ right) =
    ap (Token (Start kind dash) nowhere) (lexemes_same _ _ items _ _
    (λ x y. ap (Token (Finish kind end) nowhere) (pieces_same m _ _ (Tag kind dash items gap end ∷ left) right)))

pub respaced_alike : (m : Marks) (one other : List ℕ) → IsRespaced m one other → AreAlikeSources m one m other
respaced_alike m one other (ps, qs, first, second, same) = (
  tokens_of m [] [] ps Complete,
  tokens_of m [] [] qs Complete,
  (ps, Complete, first, refl),
  (qs, Complete, second, refl),
  pieces_same m [] [] [] ps ∙ ap (λ x. placeless_tokens (tokens_of m [] [] x Complete)) same ∙ sym (pieces_same m [] [] [] qs),
)
