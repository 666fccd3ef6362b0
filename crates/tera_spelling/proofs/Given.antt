-- Each token that a source gives is what a lexeme is, or a text or a marker.
use Rattle.std.proofs.Common.{◌≡◌, ℕ, Bool, true, false, ◌||◌, List, [], ◌∷◌, ◌++◌, ⊎_elim, sym, refl, subst, codes}
use Rattle.std.specs.Str.{bytes_eq}
use Rattle.std.proofs.lemmas.Bool.{cases_Bool}
use Rattle.tera_lexer.specs.grammar.Marks.{Marks, start_marker, end_marker, dash_bytes}
use Rattle.tera_lexer.specs.grammar.Lexeme.{Lexeme, Name, Number, Quoted, Operator, spelled, decimal, has_escape, IsLexeme, Item, Close, End, Open, Bad, IsInside}
use Rattle.tera_lexer.specs.grammar.Division.{Piece, Text, Comment, Raw, Tag, Ending, Complete, OpenTag, BadTag, OpenRaw, OpenComment, IsPiece, IsEnding, IsDivision}
use Rattle.tera_lexer.specs.grammar.Trimming.{trims_start, trims_end}
use Rattle.tera_lexer.specs.grammar.Tokens.{Items, name_token, token_of, lexemes, tag_end, failed, piece_tokens, ending_tokens, tokens_of, AreTokensOf}
use Rattle.tera_lexer.specs.grammar.Tokens as toks
use Rattle.tera_spelling.specs.Spelling.{IsName}
use Rattle.tera_spelling.specs.Given.{EachToken, IsGiven}
use Rattle.tera_spelling.proofs.Spaces.{operator_alone}

-- the words for a truth
abbrev is_true_word : List ℕ → Bool
is_true_word name = bytes_eq name (codes "true") || bytes_eq name (codes "True")

abbrev is_false_word : List ℕ → Bool
is_false_word name = bytes_eq name (codes "false") || bytes_eq name (codes "False")

by_words : (name : List ℕ) (t f : Bool) → IsName name → is_true_word name ≡ t → is_false_word name ≡ f → IsGiven (name_token name)
by_words name true f is a b = rw a tt
by_words name false true is a b = rw (a, b) tt
by_words name false false is a b = rw (a, b) (is, rw (a, b) refl)

name_given : (name : List ℕ) → IsName name → IsGiven (name_token name)
name_given name is = by_words name (is_true_word name) (is_false_word name) is refl refl

lexeme_given : (l : Lexeme) (rest : List ℕ) → IsLexeme l rest → IsGiven (token_of l)
lexeme_given (Name b bs) rest is = name_given (b ∷ bs) (is.0, is.1.0)
lexeme_given (Number b bs) rest is = (decimal (b ∷ bs), refl, is.2)
lexeme_given (Quoted quote inside) rest is =
    ⊎_elim (λ escape. rw escape tt) (λ plain. rw plain tt) (cases_Bool (has_escape inside))
lexeme_given (Operator op) rest is = operator_alone (op ++ rest) op is

lexemes_given : (end : List ℕ) (is : List Item) (close : Close) (bytes front : List ℕ) (follows : List ℕ → Items) → IsInside end is close bytes → ((f : List ℕ) → EachToken IsGiven (follows f)) → EachToken IsGiven (lexemes front is follows)
lexemes_given end [] close bytes front follows inside then = then front
lexemes_given end (i ∷ is) close bytes front follows (rest, e, gap, no_end, here, inside) then =
    (lexeme_given i.lexeme rest here, lexemes_given end is close rest ((front ++ i.gap) ++ spelled i.lexeme) follows inside then)

module _ (m : Marks) where
  ending_given : (ending : Ending) (front bytes : List ℕ) → IsEnding m ending bytes → EachToken IsGiven (ending_tokens m front ending)
  ending_given Complete front bytes is = tt
  ending_given (OpenTag kind dash items gap) front bytes (inside, starts, opens, here) =
      (tt, lexemes_given (end_marker kind m) items (Open gap) inside (front ++ (start_marker kind m ++ dash_bytes dash)) (λ g. toks.Ended) here (λ f. tt))
  ending_given (BadTag kind dash items gap fault at) front bytes (inside, starts, opens, here) =
      (tt, lexemes_given (end_marker kind m) items (Bad gap fault at) inside (front ++ (start_marker kind m ++ dash_bytes dash)) (λ g. failed (g ++ gap) fault) here (λ f. tt))
  ending_given (OpenRaw dash) front bytes is = tt
  ending_given (OpenComment dash) front bytes is = tt

  piece_given : (start end : Bool) (p : Piece) (front bytes rest : List ℕ) (follows : List ℕ → Items) → IsPiece m p bytes rest → ((f : List ℕ) → EachToken IsGiven (follows f))
      → EachToken IsGiven (piece_tokens m front start end p follows)
  piece_given start end (Text text) front bytes rest follows is then = (tt, then _)
  piece_given start end (Comment dash inside) front bytes rest follows is then = (tt, then _)
  piece_given start end (Raw dash opening body closing) front bytes rest follows is then = (tt, then _)
  piece_given start end (Tag kind dash items gap last) front bytes rest follows (inside, starts, opens, here) then =
      (tt, lexemes_given (end_marker kind m) items (End gap last rest) inside (front ++ (start_marker kind m ++ dash_bytes dash)) (λ g. tag_end m (g ++ gap) kind last follows) here (λ f. (tt, then _)))

  tokens_given : (ps : List Piece) (ending : Ending) (front : List ℕ) (left : List Piece) (bytes : List ℕ) → IsDivision m ps ending bytes → EachToken IsGiven (tokens_of m front left ps ending)
  tokens_given [] ending front left bytes is = ending_given ending front bytes is
  tokens_given (p ∷ ps) ending front left bytes (rest, is, divides) =
      piece_given (trims_start left) (trims_end ps ending) p front bytes rest (λ f. tokens_of m f (p ∷ left) ps ending) is (λ f. tokens_given ps ending f (p ∷ left) rest divides)

  pub source_given : (source : List ℕ) (items : Items) → AreTokensOf m source items → EachToken IsGiven items
  source_given source items (pieces, ending, divides, e) = subst (EachToken IsGiven) (sym e) (tokens_given pieces ending [] [] source divides)
