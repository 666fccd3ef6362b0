-- Whether what begins some bytes begins with a dash, so that it trims a text before them.
use Rattle.std.proofs.Common.{◌≡◌, ℕ, Bool, true, false, ◌&&◌, ◌||◌, List, [], ◌∷◌, ◌++◌, length, drop, Option, Some, None, ap, sym, subst, ◌∙◌, refl}
use Rattle.std.proofs.lemmas.List.{drop_at}
use Rattle.std.specs.Option.{is_some}
use Rattle.tera_lexer.specs.grammar.Marks.{Marks, IsValid, end_marker, begins}
use Rattle.tera_lexer.specs.grammar.Lexeme.{Item, Close, End, Open, Bad}
use Rattle.tera_lexer.specs.grammar.Raw.{WordTag, word_tag_bytes, raw_word}
use Rattle.tera_lexer.specs.grammar.Division.{is_at_start, Piece, Ending, Starts}
use Rattle.tera_lexer.specs.grammar.Trimming.{trims_end}
use Rattle.tera_lexer.specs.reading.Front.{inside_of, find_marker, word_tag_at, RawEnd, raw_end, tag_step, comment_step, raw_step, block_step, division_by}
use Rattle.tera_lexer.specs.reading.Left.{starts_dashed}
use Rattle.tera_lexer.specs.code.Markers.{marker_len, IsStartOf, IsWordTagOf, IsRawEndOf, closes_by, is_block_piece, is_comment}
use Rattle.tera_lexer.specs.declared.lexer.markers.WordTag.{WordTag as WordTagOfCode}
use Rattle.tera_lexer.specs.declared.lexer.delimiters.Kind.{Kind}
use Rattle.tera_lexer.specs.declared.lexer.delimiters.Kind.TheVariants.{Variable, Block}
use Rattle.tera_lexer.proofs.Markers.{or_false}
use Rattle.tera_lexer.proofs.WordTags.{IsTagAt, word_tag_sound, word_tag_splits}
use Rattle.tera_lexer.proofs.Divisions.{at_variable, at_block, at_comment}

trims : List Piece × Ending → Bool
trims d = trims_end d.0 d.1

and_true : (b : Bool) → b ≡ (b && true)
and_true true = refl
and_true false = refl

and_false : (b : Bool) → false ≡ (b && false)
and_false true = refl
and_false false = refl

module _ (go : List ℕ → List Piece × Ending) (dash : Bool) where
  tag_trims : (kind : Kind) (items : List Item) (close : Close) → trims (tag_step go kind dash items close) ≡ dash
  unfolding trims
  tag_trims kind items (End gap end rest) = refl
  tag_trims kind items (Open gap) = refl
  tag_trims kind items (Bad gap fault at) = refl

  comment_trims : (m : Marks) (following : List ℕ) (o : Option ℕ) → trims (comment_step go m dash following o) ≡ (dash && is_some o)
  unfolding trims
  comment_trims m following None = and_false dash
  comment_trims m following (Some n) = and_true dash

  raw_trims : (opening : WordTag) (inside : List ℕ) (o : Option RawEnd) → trims (raw_step go dash opening inside o) ≡ (dash && is_some o)
  unfolding trims
  raw_trims opening inside None = and_false dash
  raw_trims opening inside (Some e) = and_true dash

  block_trims : (m : Marks) (following : List ℕ) (o : Option (WordTag × List ℕ)) → trims (block_step go m dash following o) ≡ (dash && closes_by m o)
  block_trims m following None = tag_trims Block (inside_of (end_marker Block m) following).0 (inside_of (end_marker Block m) following).1 ∙ and_true dash
  block_trims m following (Some p) = raw_trims p.0 p.1 (raw_end m.block_start m.block_end false p.1)

module _ (m : Marks) (valid : IsValid m) (bytes : List ℕ) where
  pub variable_dashed : (dash : Bool) (following : List ℕ) → Starts m.variable_start dash bytes following → starts_dashed m bytes ≡ dash
  unfolding trims
  variable_dashed dash following starts =
      ap trims (at_variable m valid (length bytes) dash bytes following starts) ∙ tag_trims (division_by (length bytes) m) dash Variable (inside_of (end_marker Variable m) following).0 (inside_of (end_marker Variable m) following).1

  pub block_dashed : (dash : Bool) (following : List ℕ) → Starts m.block_start dash bytes following → starts_dashed m bytes ≡ (dash && is_block_piece m following)
  unfolding trims
  block_dashed dash following starts =
      ap trims (at_block m valid (length bytes) dash bytes following starts) ∙ block_trims (division_by (length bytes) m) dash m following (word_tag_at raw_word m.block_end following)

  pub comment_dashed : (dash : Bool) (following : List ℕ) → Starts m.comment_start dash bytes following → starts_dashed m bytes ≡ (dash && is_comment m following)
  unfolding trims
  comment_dashed dash following starts =
      ap trims (at_comment m valid (length bytes) dash bytes following starts) ∙ comment_trims (division_by (length bytes) m) dash m following (find_marker m.comment_end following)

  -- a start without a dash, a text and the end of the source begin with none
  pub block_undashed : (dash : Bool) → dash ≡ false → IsStartOf m.block_start bytes (Some dash) → starts_dashed m bytes ≡ false
  block_undashed dash none starts =
      block_dashed dash _ starts.0 ∙ ap (λ b. b && is_block_piece m (drop (marker_len m.block_start dash) bytes)) none

  pub comment_undashed : (dash : Bool) → dash ≡ false → IsStartOf m.comment_start bytes (Some dash) → starts_dashed m bytes ≡ false
  comment_undashed dash none starts =
      comment_dashed dash _ starts.0 ∙ ap (λ b. b && is_comment m (drop (marker_len m.comment_start dash) bytes)) none

  pub nothing_dashed : is_at_start m bytes ≡ false → starts_dashed m bytes ≡ false
  unfolding division_by
  nothing_dashed none = by bytes none
    where
      by : (bytes : List ℕ) → is_at_start m bytes ≡ false → starts_dashed m bytes ≡ false
      by [] none = refl
      by (b ∷ bs) none =
          let (variable, other) = or_false (begins m.variable_start (b ∷ bs)) (begins m.block_start (b ∷ bs) || begins m.comment_start (b ∷ bs)) none in
          let (block, comment) = or_false (begins m.block_start (b ∷ bs)) (begins m.comment_start (b ∷ bs)) other in
          rw (variable, block, comment) refl

-- after the tag that opens a raw piece is its body
module _ (m : Marks) (bytes : List ℕ) (tag : WordTagOfCode) where
  tag_splits : (o : Option (WordTag × List ℕ)) → word_tag_at raw_word m.block_end bytes ≡ o → IsWordTagOf raw_word m.block_end (Some tag) o
      → (t : WordTag) × (body : List ℕ) × (o ≡ Some (t, body)) × (bytes ≡ word_tag_bytes raw_word m.block_end t ++ body) × (tag.len ≡ length (word_tag_bytes raw_word m.block_end t))
  tag_splits None e is = absurd is
  tag_splits (Some p) e is =
      let sound : IsTagAt raw_word m.block_end bytes (Some p) = subst (IsTagAt raw_word m.block_end bytes) e (word_tag_sound raw_word m.block_end bytes) in
      (p.0, p.1, refl, word_tag_splits raw_word m.block_end p.0 bytes p.1 sound, is.2)

  pub closes_here : IsWordTagOf raw_word m.block_end (Some tag) (word_tag_at raw_word m.block_end bytes) → (o : Option (ℕ × WordTagOfCode)) → IsRawEndOf m.block_end o (raw_end m.block_start m.block_end false (drop tag.len bytes))
      → is_some o ≡ is_block_piece m bytes
  closes_here is o ends =
      let (t, body, e, splits, len) = tag_splits (word_tag_at raw_word m.block_end bytes) refl is in
      let begins : drop tag.len bytes ≡ body = ap (drop tag.len) splits ∙ drop_at (word_tag_bytes raw_word m.block_end t) body tag.len (sym len) in
      same o (raw_end m.block_start m.block_end false (drop tag.len bytes)) ends ∙ ap (λ l. is_some (raw_end m.block_start m.block_end false l)) begins ∙ ap (closes_by m) (sym e)
    where
      same : (o : Option (ℕ × WordTagOfCode)) (e : Option RawEnd) → IsRawEndOf m.block_end o e → is_some o ≡ is_some e
      same None None ends = refl
      same (Some p) (Some e) ends = refl
      same None (Some e) ends = absurd ends
      same (Some p) None ends = absurd ends

pub opens_nothing : (m : Marks) (bytes : List ℕ) → IsWordTagOf raw_word m.block_end None (word_tag_at raw_word m.block_end bytes) → true ≡ is_block_piece m bytes
opens_nothing m bytes is = by (word_tag_at raw_word m.block_end bytes) is
  where
    by : (o : Option (WordTag × List ℕ)) → IsWordTagOf raw_word m.block_end None o → true ≡ closes_by m o
    by None is = refl
    by (Some p) is = absurd is
