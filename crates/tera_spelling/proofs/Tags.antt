-- The text of tokens is the inside of a tag, and its tokens are these.
use Rattle.std.proofs.Common.{◌≡◌, ℕ, false, List, [], ◌∷◌, ◌++◌, append_assoc, sym, ap, ◌∙◌, refl, subst, codes}
use Rattle.tera_base.specs.declared.utils.Span.{Span}
use Rattle.tera_lexer.specs.declared.lexer.delimiters.Kind.TheVariants.{Variable}
use Rattle.tera_lexer.specs.grammar.Marks.{default_marks, IsValid}
use Rattle.tera_lexer.specs.grammar.Place.{span_of}
use Rattle.tera_lexer.specs.grammar.Lexeme.{Item, spelled, IsGap, IsLexeme, End, is_at_end, IsInside}
use Rattle.tera_lexer.specs.grammar.Division.{Tag, Complete, IsDivision}
use Rattle.tera_lexer.specs.grammar.Tokens.{Tok, Items, Ended, Failed, Token, lexemes, tag_end, AreTokensOf}
use Rattle.tera_lexer.proofs.Lefts.{tokens_one}
use Rattle.tera_spelling.specs.Spelling.{AreSpelled, spelling, spaced, tokens_text}
use Rattle.tera_spelling.specs.Sources.{in_tag, AreReadAs, IsTagOf}
use Rattle.tera_spelling.proofs.Lexemes.{HasLexeme, has_lexeme}

-- what follows a token of the text: a space, before the next token or the end of the tag
abbrev following : Items → List ℕ
following items = spaced items ++ codes " }}"

begins_space : (items : Items) → AreSpelled items → (rest : List ℕ) × (following items ≡ 32 ∷ rest)
begins_space Ended are = (_, refl)
begins_space (Failed text span) are = absurd are
begins_space (Token t span items) are = (_, refl)

-- items that are inside the tag, and have these tokens
pub record Stands (items : Items) : Type 0 where
  pub list : List Item
  pub inside : IsInside (codes "}}") list (End (32 ∷ []) false []) (following items)
  pub tokens : (front : List ℕ) (follows : List ℕ → Items) → (last : List ℕ) × AreReadAs items (follows last) (lexemes front list follows)

one_more : (t : Tok) (span : Span) (items : Items) → HasLexeme t → (rest : List ℕ) → following items ≡ 32 ∷ rest → Stands items → Stands (Token t span items)
one_more t span items has rest e sound = record {
  list = item ∷ sound.list;
  inside = (
    following items,
    splits,
    back (IsGap (32 ∷ [])) ((refl, tt), has.no_gap rest),
    back (λ l. is_at_end (codes "}}") l ≡ false) (has.no_end rest),
    subst (IsLexeme has.lexeme) (sym e) (has.sound rest),
    sound.inside,
  );
  tokens = λ front follows.
      let (last, are) = sound.tokens ((front ++ 32 ∷ []) ++ spelled has.lexeme) follows in
      (last, (_, _, ap (λ u. Token u (span_of (front ++ 32 ∷ []) (spelled has.lexeme)) (lexemes ((front ++ 32 ∷ []) ++ spelled has.lexeme) sound.list follows)) has.token, are));
}
  where
    item : Item
    item = record { gap = 32 ∷ []; lexeme = has.lexeme }

    splits : following (Token t span items) ≡ 32 ∷ (spelled has.lexeme ++ following items)
    splits = ap (λ l. 32 ∷ l) (append_assoc (spelling t) (spaced items) (codes " }}") ∙ ap (λ l. l ++ following items) (sym has.bytes))

    back : (P : List ℕ → Type 0) → P (spelled has.lexeme ++ 32 ∷ rest) → P (spelled has.lexeme ++ following items)
    back P h = subst (λ l. P (spelled has.lexeme ++ l)) (sym e) h

pub all_sound : (items : Items) → AreSpelled items → Stands items
all_sound Ended are = record {
  list = [];
  inside = (codes "}}", refl, ((refl, tt), refl), (refl, refl));
  tokens = λ front follows. (front, refl);
}
all_sound (Failed text span) are = absurd are
all_sound (Token t span items) are =
    let (rest, e) = begins_space items are.1 in one_more t span items (has_lexeme t are.0) rest e (all_sound items are.1)

-- the source is one variable tag
pub record OneTag (items : Items) : Type 0 where
  pub list : List Item
  pub gap : List ℕ
  pub divides : IsDivision default_marks (Tag Variable false list gap false ∷ []) Complete (in_tag (tokens_text items))
  pub tokens : (front : List ℕ) (follows : List ℕ → Items) → (last : List ℕ) × AreReadAs items (follows last) (lexemes front list follows)

pub one_tag : (items : Items) → AreSpelled items → OneTag items
one_tag Ended are = record {
  list = [];
  gap = 32 ∷ 32 ∷ [];
  divides = ([], (codes "  }}", (refl, refl), tt, (codes "}}", refl, ((refl, (refl, tt)), refl), (refl, refl))), refl);
  tokens = λ front follows. (front, refl);
}
one_tag (Failed text span) are = absurd are
one_tag (Token t span items) are =
    let sound = all_sound (Token t span items) are in
    record {
      list = sound.list;
      gap = 32 ∷ [];
      divides = ([], (following (Token t span items), (refl, refl), tt, sound.inside), refl);
      tokens = sound.tokens;
    }

pub tag_read : (items : Items) → AreSpelled items → (read : Items) × AreTokensOf default_marks (in_tag (tokens_text items)) read × IsTagOf items read
tag_read items are =
    let tag = one_tag items are in
    let (last, are_read) = tag.tokens (codes "{{") (λ front. tag_end default_marks (front ++ tag.gap) Variable false (λ f. Ended)) in
    (_, (Tag Variable false tag.list tag.gap false ∷ [], Complete, tag.divides, refl), (_, span_of (last ++ tag.gap) (codes "}}"), _, refl, are_read))

pub default_valid : IsValid default_marks
default_valid = record {
  block_start = refl;
  block_end = refl;
  variable_start = refl;
  variable_end = refl;
  comment_start = refl;
  comment_end = refl;
  block_variable = λ e. cc;
  block_comment = λ e. cc;
  variable_comment = λ e. cc;
}

-- and so is whatever is read of it
pub each_tag_read : (items read : Items) → AreSpelled items → AreTokensOf default_marks (in_tag (tokens_text items)) read → IsTagOf items read
each_tag_read items read spelled are =
    let (other, others, is) = tag_read items spelled in
    subst (IsTagOf items) (tokens_one default_marks default_valid (in_tag (tokens_text items)) other read others are) is
