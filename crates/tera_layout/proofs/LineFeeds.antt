-- The layout keeps each line feed.
use Rattle.std.proofs.Common.{◌≡◌, ℕ, ◌+◌, Bool, true, false, eqb, cond, ◌||◌, List, [], ◌∷◌, ◌++◌, refl, sym, ap, ap₂, ◌∙◌, map}
use Rattle.std.proofs.lemmas.Bool.{true≢false}
use Rattle.std.proofs.lemmas.List.Sums.{sum_by-append, sum_by-cons}
use Rattle.std.specs.List.{list_any, count_by}
use Rattle.tera_lexer.specs.grammar.Bytes.{line_feed, space}
use Rattle.tera_lexer.specs.grammar.Marks.{Marks, start_marker, end_marker, dash_bytes}
use Rattle.tera_lexer.specs.grammar.Lexeme.{Item, spelled}
use Rattle.tera_lexer.specs.grammar.Raw.{WordTag, raw_word, endraw_word}
use Rattle.tera_lexer.specs.grammar.Tokens.{token_of}
use Rattle.tera_lexer.specs.grammar.Division.{Piece, Text, Comment, Raw, Tag}
use Rattle.tera_layout.specs.declared.sides.Left.{Left}
use Rattle.tera_layout.specs.declared.sides.Join.{Join}
use Rattle.tera_layout.specs.declared.sides.Join.TheVariants.{Space, Nothing, Kept}
use Rattle.tera_layout.specs.Sides.{at_start, following}
use Rattle.tera_layout.specs.Widened.{items_bytes, word_tag_front, piece_bytes, pieces_bytes}
use Rattle.tera_layout.specs.Layout.{has_line_feed, laid_edge, laid_gap, join_after, laid_items, laid_piece, laid_pieces, IsLaidOut}
use Rattle.tera_layout.proofs.Bytes.{source_bytes}

-- how many line feeds the bytes have
abbrev feeds : List ℕ → ℕ
feeds bs = count_by (λ b. eqb b line_feed) bs

join : (a b x y : List ℕ) → feeds a ≡ feeds b → feeds x ≡ feeds y → feeds (a ++ x) ≡ feeds (b ++ y)
join a b x y e f =
    sum_by-append (λ n. cond (eqb n line_feed) 1 0) a x ∙ ap₂ (λ n k. n + k) e f ∙ sym (sum_by-append (λ n. cond (eqb n line_feed) 1 0) b y)

front : (a x y : List ℕ) → feeds x ≡ feeds y → feeds (a ++ x) ≡ feeds (a ++ y)
front a x y e = join a a x y refl e

-- a gap without a line feed has none
first_other : (t more : Bool) → (t || more) ≡ false → t ≡ false
first_other true more e = absurd (true≢false e)
first_other false more e = refl

others : (t more : Bool) → (t || more) ≡ false → more ≡ false
others true more e = absurd (true≢false e)
others false more e = e

none : (gap : List ℕ) → has_line_feed gap ≡ false → feeds gap ≡ 0
none [] e = refl
none (b ∷ bs) e =
    sum_by-cons (λ n. cond (eqb n line_feed) 1 0) b bs
    ∙ ap₂ (λ t n. cond t 1 0 + n) (first_other (eqb b line_feed) (has_line_feed bs) e) (none bs (others (eqb b line_feed) (has_line_feed bs) e))

in_place : (t : Bool) (gap new : List ℕ) → has_line_feed gap ≡ t → feeds new ≡ 0 → feeds (cond t gap new) ≡ feeds gap
in_place true gap new e h = refl
in_place false gap new e h = h ∙ sym (none gap e)

edge_feeds : (gap : List ℕ) → feeds (laid_edge gap) ≡ feeds gap
edge_feeds gap = in_place (has_line_feed gap) gap (space ∷ []) refl refl

gap_feeds : (join : Join) (gap : List ℕ) → feeds (laid_gap join gap) ≡ feeds gap
gap_feeds Space gap = edge_feeds gap
gap_feeds Nothing gap = in_place (has_line_feed gap) gap [] refl refl
gap_feeds Kept [] = refl
gap_feeds Kept (b ∷ bs) = edge_feeds (b ∷ bs)

items_feeds : (m : Marks) (before : List ℕ) (l : Left) (is : List Item) (x y : List ℕ) → feeds x ≡ feeds y → feeds (items_bytes (laid_items m before l is) x) ≡ feeds (items_bytes is y)
items_feeds m before l [] x y e = e
items_feeds m before l (i ∷ is) x y e =
    let now = items_bytes (laid_items m (spelled i.lexeme) (following l (token_of i.lexeme)) is) x in
    let old = items_bytes is y in
    join (laid_gap (join_after m before l i.lexeme) i.gap) i.gap (spelled i.lexeme ++ now) (spelled i.lexeme ++ old)
    (gap_feeds (join_after m before l i.lexeme) i.gap)
    (front (spelled i.lexeme) now old (items_feeds m (spelled i.lexeme) (following l (token_of i.lexeme)) is x y e))

word_feeds : (word end : List ℕ) (t : WordTag) (x y : List ℕ) → feeds x ≡ feeds y → feeds (word_tag_front word end t x) ≡ feeds (word_tag_front word end t y)
word_feeds word end t x y e =
    front (dash_bytes t.dash_in) _ _ (front t.before _ _ (front word _ _ (front t.following _ _ (front (dash_bytes t.dash_out) _ _ (front end x y e)))))

piece_feeds : (m : Marks) (p : Piece) (x y : List ℕ) → feeds x ≡ feeds y → feeds (piece_bytes m (laid_piece m p) x) ≡ feeds (piece_bytes m p y)
piece_feeds m (Text text) x y e = front text x y e
piece_feeds m (Comment dash inside) x y e =
    front m.comment_start _ _ (front (dash_bytes dash) _ _ (front inside _ _ (front m.comment_end x y e)))
piece_feeds m (Raw dash opening body closing) x y e =
    front m.block_start _ _ (front (dash_bytes dash) _ _ (word_feeds raw_word m.block_end opening _ _
    (front body _ _ (front m.block_start _ _ (word_feeds endraw_word m.block_end closing x y e)))))
piece_feeds m (Tag kind dash items gap end) x y e =
    front (start_marker kind m) _ _ (front (dash_bytes dash) _ _
    (items_feeds m (start_marker kind m ++ dash_bytes dash) at_start items _ _
    (join (laid_edge gap) gap _ _ (edge_feeds gap) (front (dash_bytes end) _ _ (front (end_marker kind m) x y e)))))

pieces_feeds : (m : Marks) (ps : List Piece) → feeds (pieces_bytes m (laid_pieces m ps)) ≡ feeds (pieces_bytes m ps)
pieces_feeds m [] = refl
pieces_feeds m (p ∷ ps) = piece_feeds m p _ _ (pieces_feeds m ps)

pub laid_feeds : (m : Marks) (one other : List ℕ) → IsLaidOut m one other → feeds one ≡ feeds other
laid_feeds m one other (ps, division, is) = ap feeds (source_bytes m ps one division) ∙ sym (pieces_feeds m ps) ∙ ap feeds (sym is)
