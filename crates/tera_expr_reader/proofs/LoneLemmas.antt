-- Expressions of one token, looked at and then taken.
use Rattle.std.proofs.Common.{◌≡◌, ◌≢◌, ℕ, zero, suc, ◌<◌, Bool, true, false, ◌||◌, List, Some, refl, sym, ap, subst, ◌∙◌, arith}
use Rattle.std.specs.Str.{bytes_eq}
use Rattle.std.specs.Prelude.{codes}
use Rattle.std.proofs.lemmas.Option.{same_Some}
use Rattle.tera_base.specs.declared.utils.Span.{Span}
use Rattle.tera_lexer.specs.code.Cursors.{FirstIs, FirstIsAt, Position, Skips}
use Rattle.tera_lexer.specs.grammar.Tokens as toks
use Rattle.tera_lexer.specs.grammar.Tokens.{Tok, Items, Ended, Failed, Token, Finish, Ident, Symbol}
use Rattle.tera_ast.specs.Tree as tree
use Rattle.tera_ast.specs.Tree.{Expr}
use Rattle.tera_ast.specs.View.{expression_view}
use Rattle.tera_ast.specs.declared.ast.Expression.{Expression}
use Rattle.tera_grammar.specs.Words.{is_none, is_not}
use Rattle.tera_grammar.specs.Options.{◌>>=◌}
use Rattle.tera_grammar.specs.expressions.Marks.{RightParen, RightBracket, RightBrace, Comma, Colon}
use Rattle.tera_grammar.specs.expressions.Concrete.{Lit, Number, Quoted, Simple, Escaped, Truth, Tree, Atomic, Chain, Literal, no_links, literal_token}
use Rattle.tera_grammar.specs.expressions.Output.{output}
use Rattle.tera_grammar.specs.expressions.Reading.Front.{at}
use Rattle.tera_grammar.proofs.plain.expressions.Reading.Front.{skip}
use Rattle.tera_grammar.specs.expressions.Reading.Rooms.{Room}
use Rattle.tera_grammar.proofs.plain.expressions.Reading.Bracketed.{links_by, links_of}
use Rattle.tera_grammar.proofs.plain.expressions.Reading.Atoms.{chain_of, word_head}
use Rattle.tera_grammar.proofs.plain.expressions.Reading.Loop.{expr, loop_by, step}
use Rattle.tera_grammar.specs.Reads.{found}
use Rattle.tera_grammar.specs.expressions.Reading.Loop.{expr as read_expr}
use Rattle.tera_grammar.proofs.stops.Forget.{expr_forget}
use Rattle.tera_grammar.proofs.Readings.{found_of}
use Rattle.tera_grammar.proofs.Options.{bound, bytes_same, or_false}
use Rattle.tera_grammar.proofs.expressions.Fronts.{Ends, ends_mark, ends_stop, fails_ok, holds_ok}
use Rattle.tera_expr_parts.proofs.FrontsLemmas.{took_token}
use Rattle.tera_expr_reader.specs.Lone.{is_stop, begins_stop, second_is_stop, leaf_of, leaf_at, lone_of, GivesLone}

-- Every expression ends at a stop.
symbol_stops : (o : List ℕ) (s : Span) (us : Items) → is_stop (Symbol o) ≡ true → Ends (Token (Symbol o) s us)
symbol_stops o s us h =
    by (bytes_eq o (codes ",")) (bytes_eq o (codes ":")) (bytes_eq o (codes ")")) (bytes_eq o (codes "]")) (bytes_eq o (codes "}")) refl refl refl refl refl h
  where
    it_is : (text : List ℕ) → bytes_eq o text ≡ true → Ends (Token (Symbol text) s us) → Ends (Token (Symbol o) s us)
    it_is text same ends = subst (λ x. Ends (Token (Symbol x) s us)) (sym (bytes_same o text same)) ends

    by : (a b c d e : Bool) → bytes_eq o (codes ",") ≡ a → bytes_eq o (codes ":") ≡ b → bytes_eq o (codes ")") ≡ c → bytes_eq o (codes "]") ≡ d → bytes_eq o (codes "}") ≡ e
        → is_stop (Symbol o) ≡ true → Ends (Token (Symbol o) s us)
    by true b c d e ha hb hc hd he h = it_is (codes ",") ha (ends_mark Comma tt s us)
    by false true c d e ha hb hc hd he h = it_is (codes ":") hb (ends_mark Colon tt s us)
    by false false true d e ha hb hc hd he h = it_is (codes ")") hc (ends_mark RightParen tt s us)
    by false false false true e ha hb hc hd he h = it_is (codes "]") hd (ends_mark RightBracket tt s us)
    by false false false false true ha hb hc hd he h = it_is (codes "}") he (ends_mark RightBrace tt s us)
    by false false false false false ha hb hc hd he h = let clash : false ≡ true = rw (ha, hb, hc, hd, he) at h in cc

stop_ends : (us : Items) → begins_stop us ≡ true → Ends us
stop_ends (Token (Finish kind dash) s us) h = ends_stop (Token (Finish kind dash) s us) tt
stop_ends (Token (Symbol o) s us) h = symbol_stops o s us h
stop_ends _ h = cc

-- a token by itself, before a stop
module _ (d : ℕ) (w : Room) (m k : ℕ) (s : Span) (us : Items) (ends : Ends us) where
  variable_read : (n : List ℕ) → is_none n ≡ false → is_not n ≡ false
      → expr (suc d) w m (at k (Token (Ident n) s us)) ≡ Some (Atomic (Chain (record { text = n; span = s }) no_links), at k us)
  unfolding expr word_head chain_of skip links_of links_by loop_by step
  variable_read n value word = rw (value, word, ends.apart.call, ends.apart.link, ends.front) refl

  constant_read : (x : Lit) → expr (suc d) w m (at k (Token (literal_token x) s us)) ≡ Some (Atomic (Literal x s), at k us)
  unfolding expr loop_by step
  constant_read (Number n) = rw ends.front refl
  constant_read (Quoted (Simple text)) = rw ends.front refl
  constant_read (Quoted (Escaped text)) = rw ends.front refl
  constant_read (Truth b) = rw ends.front refl

  leaf_read : (t : Tok) (e : Expr) → leaf_of t s ≡ Some e
      → (r : Tree) × (expr (suc d) w m (at k (Token t s us)) ≡ Some (r, at k us)) × (e ≡ output w.in_loop r)
  leaf_read (Ident n) e h =
      let (word, is) = fails_ok (is_none n || is_not n) (Some (tree.Var n s)) e h in
      let (none, other) = or_false (is_none n) (is_not n) word in
      (Atomic (Chain (record { text = n; span = s }) no_links), variable_read n none other, sym (same_Some _ _ is))
  leaf_read (toks.Integer n) e h = (Atomic (Literal (Number n) s), constant_read (Number n), sym (same_Some _ _ h))
  leaf_read (toks.Str text) e h = (Atomic (Literal (Quoted (Simple text)) s), constant_read (Quoted (Simple text)), sym (same_Some _ _ h))
  leaf_read (toks.Truth b) e h = (Atomic (Literal (Truth b) s), constant_read (Truth b), sym (same_Some _ _ h))
  leaf_read _ e h = cc

-- what is read where an expression of one token is
lone_plainly : (d : ℕ) (w : Room) (m k : ℕ) (ts us : Items) (e : Expr) → lone_of d ts ≡ Some (e, us)
    → (r : Tree) × (expr d w m (at k ts) ≡ Some (r, at k us)) × (e ≡ output w.in_loop r)
lone_plainly zero w m k ts us e h = cc
lone_plainly (suc d) w m k Ended us e h = cc
lone_plainly (suc d) w m k (Failed text span) us e h = cc
lone_plainly (suc d) w m k (Token t s vs) us e h =
    let (stop, leaf) = holds_ok (begins_stop vs) (leaf_at (Token t s vs)) (e, us) h in
    bound (leaf_of t s) (λ x. Some (x, vs)) (e, us) leaf (λ x is made.
    let same : (x, vs) ≡ (e, us) = same_Some _ _ made in
    subst (λ (y : Expr × Items). (r : Tree) × (expr (suc d) w m (at k (Token t s vs)) ≡ Some (r, at k y.1)) × (y.0 ≡ output w.in_loop r)) same
    (leaf_read d w m k s vs (stop_ends vs stop) t x is))

pub lone_read : (d : ℕ) (w : Room) (m k : ℕ) (ts us : Items) (e : Expr) → lone_of d ts ≡ Some (e, us)
    → (r : Tree) × (read_expr d w m (at k ts) ≡ found (r, at k us)) × (e ≡ output w.in_loop r)
lone_read d w m k ts us e h =
    let (r, read, shows) = lone_plainly d w m k ts us e h in
    (r, found_of _ _ (expr_forget d w m (at k ts) ∙ read), shows)

-- one token, seen and then taken
one_token : (ts us vs ws : Items) (t u v : Tok) (s q r : Span) → ts ≡ Token t q vs → ts ≡ Token u s ws → ts ≡ Token v r us → ts ≡ Token t s us
one_token ts us vs ws t u v s q r one two three = cc

pub lone_taken : (d : ℕ) (old new : Position) (b : Bool) (t : Tok) (s : Span) (e : Expression) → d ≢ 0 → second_is_stop old.left ≡ true
    → FirstIs old.left t → FirstIsAt old.left s → 0 < old.sight → leaf_of t s ≡ Some (expression_view e) → Skips old b new → GivesLone d (Some e) old new
lone_taken d old new false t s e opens stop first sound seen leaf (unseen, same) = absurd (omega arith)
lone_taken zero old new true t s e opens stop first sound seen leaf h = absurd (opens refl)
lone_taken (suc d) old new true t s e opens stop (q, vs, one) (u, ws, two) seen leaf (p, h) = (
  rw stop (ap leaf_at (one_token _ _ _ _ _ _ _ _ _ _ one two h.1) ∙ ap (λ o. o >>= λ e. Some (e, new.left)) leaf),
  took_token old new p h,
)
