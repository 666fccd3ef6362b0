-- What is written for the output of an expression is within the limits of the expression.
use Rattle.std.proofs.Common.{◌≡◌, ℕ, suc, ◌+◌, ◌≤◌, zero-le, le_refl, Bool, true, false, cond, ◌||◌, refl, arith, ltb-true, lt-ltb, le-ltb}
use Rattle.std.specs.Prelude.{ltb, ℤ, pos, negsuc, neg_ℤ}
use Rattle.tera_base.specs.declared.utils.Span.{Span}
use Rattle.tera_lexer.specs.code.Cursors.{nowhere}
use Rattle.tera_base.specs.Values as values
use Rattle.tera_ast.specs.Tree as tree
use Rattle.tera_grammar.specs.expressions.Operators.{In}
use Rattle.tera_ast.specs.Tree.{Expr}
use Rattle.tera_grammar.specs.expressions.Concrete.{Sign, Negative, Negates, plainly, negated, Single, NotIn, Tree, Atomic, Prefix, Suffixed, Infix, Suffix, Test, Filter, Subscript, Operator, Binary}
use Rattle.tera_grammar.specs.expressions.Powers.{sign_power, left_power, right_power}
use Rattle.tera_source.proofs.Depths.{Weight, deep}
use Rattle.tera_grammar.specs.expressions.Output.{prefixed}
use Rattle.tera_source.specs.Source.{number_tree, negation_of, tree_of, asked, kept_out, in_parens, paren, paren_suffix, paren_operator}

-- In two contexts

abbrev pub Weaker : Bool → Bool → Type 0
Weaker p r = p ≡ true → r ≡ true

-- the weights differ by at most one opening, and the weaker context makes none
abbrev pub Close : Weight → Tree → Type 0
Close w t = (m q n r : ℕ) (p o : Bool) →
    (deep w (paren m q p t) ≤ deep w (paren n r o t) + w.opening)
    × (m ≤ n → q ≤ r → Weaker p o → deep w (paren m q p t) ≤ deep w (paren n r o t))

-- a node with parentheses or without, in two contexts
compare : (w : Weight) (b c : Bool) (u v x : Tree) → deep w u ≤ deep w x → deep w v ≤ deep w u + w.opening → deep w v ≤ deep w x + w.opening →
    deep w (cond b (in_parens u) v) ≤ deep w (cond c (in_parens u) x) + w.opening
compare w true true u v x low one two = omega arith
compare w true false u v x low one two = omega arith
compare w false true u v x low one two = omega arith
compare w false false u v x low one two = omega arith

compare_weaker : (w : Weight) (b c : Bool) (u v x : Tree) → deep w v ≤ deep w u + w.opening → deep w v ≤ deep w x → Weaker b c →
    deep w (cond b (in_parens u) v) ≤ deep w (cond c (in_parens u) x)
compare_weaker w true true u v x one two weaker = omega arith
compare_weaker w true false u v x one two weaker = let h : false ≡ true = weaker refl in cc
compare_weaker w false true u v x one two weaker = omega arith
compare_weaker w false false u v x one two weaker = two

or_weaker : (a b c d : Bool) → Weaker a c → Weaker b d → Weaker (a || b) (c || d)
or_weaker true b c d f g h = rw (f refl) refl
or_weaker false b true d f g h = refl
or_weaker false b false d f g h = g h

ltb_weaker : (x m n : ℕ) → m ≤ n → Weaker (ltb x m) (ltb x n)
ltb_weaker x m n le h = let less = ltb-true x m h in lt-ltb x n (omega arith)

kept_weaker : (s : Suffix) (m n : ℕ) → m ≤ n → Weaker (kept_out m s) (kept_out n s)
kept_weaker (Test t k v g) m n le = ltb_weaker 5 m n le
kept_weaker (Filter t v g) m n le = ltb_weaker 17 m n le
kept_weaker (Subscript t b) m n le = λ h. h

same : (b : Bool) → Weaker b b
same b h = h

never : (b : Bool) → Weaker false b
never b h = cc

prefix_close : (w : Weight) (s : Sign) (e : Tree) → Close w e → Close w (Prefix s e)
prefix_close w s e near m q n r p o =
    let low = (near (sign_power s) 0 (sign_power s) r true true).1 (le_refl _) zero-le (same true) in
    let one = (near (sign_power s) q (sign_power s) 0 true true).0 in
    let two = (near (sign_power s) q (sign_power s) r true true).0 in (
      compare w (p || ltb (sign_power s) q) (o || ltb (sign_power s) r) (Prefix s (paren (sign_power s) 0 true e)) (Prefix s (paren (sign_power s) q true e)) (Prefix s (paren (sign_power s) r true e))
          (omega arith) (omega arith) (omega arith),
      λ le lq weaker.
          let less = (near (sign_power s) q (sign_power s) r true true).1 (le_refl _) lq (same true) in
          compare_weaker w (p || ltb (sign_power s) q) (o || ltb (sign_power s) r) (Prefix s (paren (sign_power s) 0 true e)) (Prefix s (paren (sign_power s) q true e)) (Prefix s (paren (sign_power s) r true e))
          (omega arith) (omega arith) (or_weaker p (ltb (sign_power s) q) o (ltb (sign_power s) r) weaker (ltb_weaker (sign_power s) q r lq)),
    )

suffixed_close : (w : Weight) (a : Tree) (s : Suffix) → Close w a → Close w (Suffixed a s)
suffixed_close w a s near m q n r p o =
    let low = (near 0 (asked s) n (asked s) false o).1 zero-le (le_refl _) (never o) in
    let one = (near m (asked s) 0 (asked s) p false).0 in
    let two = (near m (asked s) n (asked s) p o).0 in (
      compare w (kept_out m s) (kept_out n s) (Suffixed (paren 0 (asked s) false a) (paren_suffix s)) (Suffixed (paren m (asked s) p a) (paren_suffix s)) (Suffixed (paren n (asked s) o a) (paren_suffix s))
          (omega arith) (omega arith) (omega arith),
      λ le lq weaker.
          let less = (near m (asked s) n (asked s) p o).1 le (le_refl _) weaker in
          compare_weaker w (kept_out m s) (kept_out n s) (Suffixed (paren 0 (asked s) false a) (paren_suffix s)) (Suffixed (paren m (asked s) p a) (paren_suffix s)) (Suffixed (paren n (asked s) o a) (paren_suffix s))
          (omega arith) (omega arith) (kept_weaker s m n le),
    )

infix_close : (w : Weight) (a : Tree) (x : Operator) (b : Tree) → Close w a → Close w b → Close w (Infix a x b)
infix_close w a x b near far m q n r p o =
    let lp = suc (left_power x) in
    let rp = right_power x in
    let low = (near 0 lp n lp false o).1 zero-le (le_refl _) (never o) in
    let one = (near m lp 0 lp p false).0 in
    let two = (near m lp n lp p o).0 in
    let low' = (far rp 0 rp r false false).1 (le_refl _) zero-le (same false) in
    let one' = (far rp q rp 0 false false).0 in
    let two' = (far rp q rp r false false).0 in (
      compare w (ltb (left_power x) m || ltb (right_power x) q) (ltb (left_power x) n || ltb (right_power x) r)
          (Infix (paren 0 lp false a) (paren_operator x) (paren rp 0 false b)) (Infix (paren m lp p a) (paren_operator x) (paren rp q false b)) (Infix (paren n lp o a) (paren_operator x) (paren rp r false b))
          (omega arith) (omega arith) (omega arith),
      λ le lq weaker.
          let less = (near m lp n lp p o).1 le (le_refl _) weaker in
          let less' = (far rp q rp r false false).1 (le_refl _) lq (same false) in
          compare_weaker w (ltb (left_power x) m || ltb (right_power x) q) (ltb (left_power x) n || ltb (right_power x) r)
          (Infix (paren 0 lp false a) (paren_operator x) (paren rp 0 false b)) (Infix (paren m lp p a) (paren_operator x) (paren rp q false b)) (Infix (paren n lp o a) (paren_operator x) (paren rp r false b))
          (omega arith) (omega arith) (or_weaker _ _ _ _ (ltb_weaker (left_power x) m n le) (ltb_weaker (right_power x) q r lq)),
    )

pub close : (w : Weight) (t : Tree) → Close w t
close w (Atomic a) m q n r p o = (omega arith, λ le lq weaker. omega arith)
close w (Prefix s e) m q n r p o = prefix_close w s e (close w e) m q n r p o
close w (Suffixed a s) m q n r p o = suffixed_close w a s (close w a) m q n r p o
close w (Infix a x b) m q n r p o = infix_close w a x b (close w a) (close w b) m q n r p o

-- Prefixes

number_low : (w : Weight) (k : ℤ) (m q : ℕ) → q ≤ 20 → deep w (paren m q false (number_tree k)) ≤ w.opening
number_low w (pos n) m q le = zero-le
number_low w (negsuc n) m q le = rw (le-ltb 20 q le) (omega arith)

negates_low : (w : Weight) (t : Tree) (h m q : ℕ) → q ≤ 5 → deep w (paren 0 0 false t) ≤ h → deep w (paren 5 q true t) ≤ h →
    deep w (paren m q false (negation_of t)) ≤ h + w.opening
negates_low w (Suffixed a (Test s plainly v g)) h m q le one two =
    let near = (close w (Suffixed a (Test s (negated nowhere) v g)) m q 0 0 false false).0 in omega arith
negates_low w (Infix a (Binary (Single In s)) b) h m q le one two =
    let near = (close w (Infix a (Binary (NotIn nowhere nowhere)) b) m q 0 0 false false).0 in omega arith
negates_low w _ h m q le one two = rw (le-ltb 5 q le) (omega arith)

pub prefix_low : (w : Weight) (s : Sign) (e : Expr) (span : Span) (h m q : ℕ) → q ≤ sign_power s → deep w (paren 0 0 false (tree_of e)) ≤ h →
    deep w (paren (sign_power s) q true (tree_of e)) ≤ h → deep w (paren m q false (tree_of (prefixed s e span))) ≤ h + w.opening
prefix_low w (Negative s) (tree.Const (values.I64 n) t) span h m q le one two = let low = number_low w (neg_ℤ n) m q le in omega arith
prefix_low w (Negative s) _ span h m q le one two = rw (le-ltb 20 q le) (omega arith)
prefix_low w (Negates s) e span h m q le one two = negates_low w (tree_of e) h m q le one two
