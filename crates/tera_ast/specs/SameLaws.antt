-- The tests of `Same` decide.
use Rattle.std.proofs.Common.{◌≡◌, ℕ, List, [], ◌∷◌, get_or, Bool, true, false, true≢false, ◌&&◌, ◌==◌, Option, Some, None, refl, sym, ap, ◌∙◌}
use Rattle.std.specs.Bool.{Decides, beq}
use Rattle.std.specs.Cmp.{IsEquivalence, decided, booleans_Decides}
use Rattle.std.specs.Str.{bytes_eq}
use Rattle.std.proofs.lemmas.Slice.Eq.{bytes_eq-Decides}
use Rattle.std.proofs.lemmas.Bool.Decides.{Decides-eqb}
use Rattle.tera_base.specs.Same.{key_eq, value_eq}
use Rattle.tera_base.specs.SameLaws.{key_decides, value_decides}
use Rattle.tera_base.specs.Values.{KeyVal, Val}
use Rattle.tera_base.specs.declared.utils.Span.{Span}
use Rattle.tera_ast.specs.Tree as tree
use Rattle.tera_ast.specs.Tree.{Expr, MaybeExpr, Filters, Args, Entries, Items, Stmt, Nodes}
use Rattle.tera_ast.specs.Same.{span_eq, unary_eq, operator_place, binary_eq, name_eq, expr_eq, maybe_eq, filters_eq, args_eq, entries_eq, items_eq, stmt_eq, nodes_eq}
use Rattle.tera_ast.specs.declared.ast.UnaryOperator.{UnaryOperator}
use Rattle.tera_ast.specs.declared.ast.UnaryOperator.TheVariants as unary
use Rattle.tera_ast.specs.declared.ast.BinaryOperator.{BinaryOperator}
use Rattle.tera_ast.specs.declared.ast.BinaryOperator.TheVariants as binary

both : (a b : Bool) → (a && b) ≡ true → (a ≡ true) × (b ≡ true)
both true b e = (refl, e)
both false b e = absurd (true≢false (sym e))

no : {P : Type 0} → false ≡ true → P
no e = absurd (true≢false (sym e))

key_sound : (k l : KeyVal) → key_eq k l ≡ true → k ≡ l
key_sound k l h = (key_decides k l).0 h

key_itself : (k : KeyVal) → key_eq k k ≡ true
key_itself k = (key_decides k k).1 refl

value_sound : (v w : Val) → value_eq v w ≡ true → v ≡ w
value_sound v w h = (value_decides v w).0 h

value_itself : (v : Val) → value_eq v v ≡ true
value_itself v = (value_decides v v).1 refl

span_sound : (s u : Span) → span_eq s u ≡ true → s ≡ u
span_sound s u h =
    let a = both (s.start_line == u.start_line) _ h in
    let b = both (s.start_col == u.start_col) _ a.1 in
    let c = both (s.end_line == u.end_line) _ b.1 in
    let d = both (s.end_col == u.end_col) _ c.1 in
    let e = both (s.range.start == u.range.start) _ d.1 in
    λ i. record {
      start_line = (Decides-eqb s.start_line u.start_line).0 a.0 i;
      start_col = (Decides-eqb s.start_col u.start_col).0 b.0 i;
      end_line = (Decides-eqb s.end_line u.end_line).0 c.0 i;
      end_col = (Decides-eqb s.end_col u.end_col).0 d.0 i;
      range = record { start = (Decides-eqb s.range.start u.range.start).0 e.0 i; end = (Decides-eqb s.range.end u.range.end).0 e.1 i };
    }

span_itself : (s : Span) → span_eq s s ≡ true
span_itself s =
    let itself : (n : ℕ) → (n == n) ≡ true = λ n. (Decides-eqb n n).1 refl in
    rw (itself s.start_line, itself s.start_col, itself s.end_line, itself s.end_col, itself s.range.start, itself s.range.end) refl

unary_sound : (o p : UnaryOperator) → unary_eq o p ≡ true → o ≡ p
unary_sound unary.Not unary.Not h = refl
unary_sound unary.Minus unary.Minus h = refl
unary_sound _ _ h = no h

unary_itself : (o : UnaryOperator) → unary_eq o o ≡ true
unary_itself unary.Not = refl
unary_itself unary.Minus = refl

operators : List BinaryOperator
operators =
    binary.Mul ∷ binary.Div ∷ binary.Mod ∷ binary.Plus ∷ binary.Minus ∷ binary.FloorDiv ∷ binary.Power ∷ binary.LessThan ∷ binary.GreaterThan
    ∷ binary.LessThanOrEqual ∷ binary.GreaterThanOrEqual ∷ binary.Equal ∷ binary.NotEqual ∷ binary.And ∷ binary.Or ∷ binary.StrConcat ∷ binary.In ∷ binary.Is
    ∷ binary.Pipe ∷ []

-- an operator is known by its place
at_its_place : (o : BinaryOperator) → get_or operators (operator_place o) binary.Mul ≡ o
unfolding operators
at_its_place binary.Mul = refl
at_its_place binary.Div = refl
at_its_place binary.Mod = refl
at_its_place binary.Plus = refl
at_its_place binary.Minus = refl
at_its_place binary.FloorDiv = refl
at_its_place binary.Power = refl
at_its_place binary.LessThan = refl
at_its_place binary.GreaterThan = refl
at_its_place binary.LessThanOrEqual = refl
at_its_place binary.GreaterThanOrEqual = refl
at_its_place binary.Equal = refl
at_its_place binary.NotEqual = refl
at_its_place binary.And = refl
at_its_place binary.Or = refl
at_its_place binary.StrConcat = refl
at_its_place binary.In = refl
at_its_place binary.Is = refl
at_its_place binary.Pipe = refl

binary_sound : (o p : BinaryOperator) → binary_eq o p ≡ true → o ≡ p
binary_sound o p h =
    sym (at_its_place o) ∙ (ap (λ n. get_or operators n binary.Mul) ((Decides-eqb (operator_place o) (operator_place p)).0 h) ∙ at_its_place p)

binary_itself : (o : BinaryOperator) → binary_eq o o ≡ true
binary_itself o = (Decides-eqb (operator_place o) (operator_place o)).1 refl

text_itself : (s : List ℕ) → bytes_eq s s ≡ true
text_itself s = (bytes_eq-Decides s s).1 refl

text_sound : (s u : List ℕ) → bytes_eq s u ≡ true → s ≡ u
text_sound s u h = (bytes_eq-Decides s u).0 h

flag_itself : (b : Bool) → beq b b ≡ true
flag_itself b = (booleans_Decides b b).1 refl

flag_sound : (a b : Bool) → beq a b ≡ true → a ≡ b
flag_sound a b h = (booleans_Decides a b).0 h

name_sound : (k l : Option (List ℕ)) → name_eq k l ≡ true → k ≡ l
name_sound None None h = refl
name_sound (Some m) (Some n) h = ap Some (text_sound m n h)
name_sound _ _ h = no h

name_itself : (k : Option (List ℕ)) → name_eq k k ≡ true
name_itself None = refl
name_itself (Some n) = text_itself n

mutual
  pub expr_sound : (d e : Expr) → expr_eq d e ≡ true → d ≡ e
  expr_sound (tree.Const v s) (tree.Const w u) h =
      let p = both (span_eq s u) _ h in
      rw (span_sound s u p.0, value_sound v w p.1)
  expr_sound (tree.Array xs s) (tree.Array ys u) h =
      let p = both (span_eq s u) _ h in
      rw (span_sound s u p.0, items_sound xs ys p.1)
  expr_sound (tree.Map xs s) (tree.Map ys u) h =
      let p = both (span_eq s u) _ h in
      rw (span_sound s u p.0, entries_sound xs ys p.1)
  expr_sound (tree.Var m s) (tree.Var n u) h =
      let p = both (span_eq s u) _ h in
      rw (span_sound s u p.0, text_sound m n p.1)
  expr_sound (tree.GetAttr d m o s) (tree.GetAttr e n p u) h =
      let x = both (span_eq s u) _ h in
      let y = both (expr_eq d e) _ x.1 in
      let z = both (bytes_eq m n) _ y.1 in
      rw (span_sound s u x.0, expr_sound d e y.0, text_sound m n z.0, flag_sound o p z.1)
  expr_sound (tree.GetItem d i o s) (tree.GetItem e j p u) h =
      let x = both (span_eq s u) _ h in
      let y = both (expr_eq d e) _ x.1 in
      let z = both (expr_eq i j) _ y.1 in
      rw (span_sound s u x.0, expr_sound d e y.0, expr_sound i j z.0, flag_sound o p z.1)
  expr_sound (tree.Slice d a b c o s) (tree.Slice e f g k p u) h =
      let v = both (span_eq s u) _ h in
      let w = both (expr_eq d e) _ v.1 in
      let x = both (maybe_eq a f) _ w.1 in
      let y = both (maybe_eq b g) _ x.1 in
      let z = both (maybe_eq c k) _ y.1 in
      rw (span_sound s u v.0, expr_sound d e w.0, maybe_sound a f x.0, maybe_sound b g y.0, maybe_sound c k z.0, flag_sound o p z.1)
  expr_sound (tree.Filter d m a s) (tree.Filter e n b u) h =
      let x = both (span_eq s u) _ h in
      let y = both (expr_eq d e) _ x.1 in
      let z = both (bytes_eq m n) _ y.1 in
      rw (span_sound s u x.0, expr_sound d e y.0, text_sound m n z.0, args_sound a b z.1)
  expr_sound (tree.Test d m a s) (tree.Test e n b u) h =
      let x = both (span_eq s u) _ h in
      let y = both (expr_eq d e) _ x.1 in
      let z = both (bytes_eq m n) _ y.1 in
      rw (span_sound s u x.0, expr_sound d e y.0, text_sound m n z.0, args_sound a b z.1)
  expr_sound (tree.Ternary c d e s) (tree.Ternary f g k u) h =
      let x = both (span_eq s u) _ h in
      let y = both (expr_eq c f) _ x.1 in
      let z = both (expr_eq d g) _ y.1 in
      rw (span_sound s u x.0, expr_sound c f y.0, expr_sound d g z.0, expr_sound e k z.1)
  expr_sound (tree.ListComprehension d k m i a s) (tree.ListComprehension e l n j b u) h =
      let v = both (span_eq s u) _ h in
      let w = both (expr_eq d e) _ v.1 in
      let x = both (name_eq k l) _ w.1 in
      let y = both (bytes_eq m n) _ x.1 in
      let z = both (expr_eq i j) _ y.1 in
      rw (span_sound s u v.0, expr_sound d e w.0, name_sound k l x.0, text_sound m n y.0, expr_sound i j z.0, maybe_sound a b z.1)
  expr_sound (tree.ComponentCall m xs a o s) (tree.ComponentCall n ys b p u) h =
      let w = both (span_eq s u) _ h in
      let x = both (bytes_eq m n) _ w.1 in
      let y = both (entries_eq xs ys) _ x.1 in
      let z = both (nodes_eq a b) _ y.1 in
      rw (span_sound s u w.0, text_sound m n x.0, entries_sound xs ys y.0, nodes_sound a b z.0, flag_sound o p z.1)
  expr_sound (tree.FunctionCall m a s) (tree.FunctionCall n b u) h =
      let x = both (span_eq s u) _ h in
      let y = both (bytes_eq m n) _ x.1 in
      rw (span_sound s u x.0, text_sound m n y.0, args_sound a b y.1)
  expr_sound (tree.UnaryOperation o d s) (tree.UnaryOperation p e u) h =
      let x = both (span_eq s u) _ h in
      let y = both (unary_eq o p) _ x.1 in
      rw (span_sound s u x.0, unary_sound o p y.0, expr_sound d e y.1)
  expr_sound (tree.BinaryOperation o c d s) (tree.BinaryOperation p e f u) h =
      let x = both (span_eq s u) _ h in
      let y = both (binary_eq o p) _ x.1 in
      let z = both (expr_eq c e) _ y.1 in
      rw (span_sound s u x.0, binary_sound o p y.0, expr_sound c e z.0, expr_sound d f z.1)
  expr_sound _ _ h = no h

  pub maybe_sound : (a b : MaybeExpr) → maybe_eq a b ≡ true → a ≡ b
  maybe_sound tree.NoExpr tree.NoExpr h = refl
  maybe_sound (tree.OneExpr d) (tree.OneExpr e) h = ap tree.OneExpr (expr_sound d e h)
  maybe_sound _ _ h = no h

  pub filters_sound : (ds es : Filters) → filters_eq ds es ≡ true → ds ≡ es
  filters_sound tree.NoFilters tree.NoFilters h = refl
  filters_sound (tree.OneFilter d ds) (tree.OneFilter e es) h =
      let p = both (expr_eq d e) _ h in
      rw (expr_sound d e p.0, filters_sound ds es p.1)
  filters_sound _ _ h = no h

  pub args_sound : (a b : Args) → args_eq a b ≡ true → a ≡ b
  args_sound tree.NoArgs tree.NoArgs h = refl
  args_sound (tree.Arg m d a) (tree.Arg n e b) h =
      let p = both (bytes_eq m n) _ h in
      let q = both (expr_eq d e) _ p.1 in
      rw (text_sound m n p.0, expr_sound d e q.0, args_sound a b q.1)
  args_sound _ _ h = no h

  pub entries_sound : (xs ys : Entries) → entries_eq xs ys ≡ true → xs ≡ ys
  entries_sound tree.NoEntries tree.NoEntries h = refl
  entries_sound (tree.Entry k d xs) (tree.Entry l e ys) h =
      let p = both (key_eq k l) _ h in
      let q = both (expr_eq d e) _ p.1 in
      rw (key_sound k l p.0, expr_sound d e q.0, entries_sound xs ys q.1)
  entries_sound (tree.SpreadEntry d xs) (tree.SpreadEntry e ys) h =
      let p = both (expr_eq d e) _ h in
      rw (expr_sound d e p.0, entries_sound xs ys p.1)
  entries_sound _ _ h = no h

  pub items_sound : (xs ys : Items) → items_eq xs ys ≡ true → xs ≡ ys
  items_sound tree.NoItems tree.NoItems h = refl
  items_sound (tree.Item d xs) (tree.Item e ys) h =
      let p = both (expr_eq d e) _ h in
      rw (expr_sound d e p.0, items_sound xs ys p.1)
  items_sound (tree.SpreadItem d xs) (tree.SpreadItem e ys) h =
      let p = both (expr_eq d e) _ h in
      rw (expr_sound d e p.0, items_sound xs ys p.1)
  items_sound _ _ h = no h

  pub stmt_sound : (m n : Stmt) → stmt_eq m n ≡ true → m ≡ n
  stmt_sound (tree.Content a) (tree.Content b) h = ap tree.Content (text_sound a b h)
  stmt_sound (tree.Shown d) (tree.Shown e) h = ap tree.Shown (expr_sound d e h)
  stmt_sound (tree.Set m d o) (tree.Set n e p) h =
      let x = both (bytes_eq m n) _ h in
      let y = both (expr_eq d e) _ x.1 in
      rw (text_sound m n x.0, expr_sound d e y.0, flag_sound o p y.1)
  stmt_sound (tree.BlockSet m ds a o) (tree.BlockSet n es b p) h =
      let x = both (bytes_eq m n) _ h in
      let y = both (filters_eq ds es) _ x.1 in
      let z = both (nodes_eq a b) _ y.1 in
      rw (text_sound m n x.0, filters_sound ds es y.0, nodes_sound a b z.0, flag_sound o p z.1)
  stmt_sound (tree.Include m s) (tree.Include n u) h =
      let x = both (span_eq s u) _ h in
      rw (span_sound s u x.0, text_sound m n x.1)
  stmt_sound (tree.Block m s a) (tree.Block n u b) h =
      let x = both (span_eq s u) _ h in
      let y = both (bytes_eq m n) _ x.1 in
      rw (span_sound s u x.0, text_sound m n y.0, nodes_sound a b y.1)
  stmt_sound (tree.ForLoop k m d a b) (tree.ForLoop l n e f g) h =
      let w = both (name_eq k l) _ h in
      let x = both (bytes_eq m n) _ w.1 in
      let y = both (expr_eq d e) _ x.1 in
      let z = both (nodes_eq a f) _ y.1 in
      rw (name_sound k l w.0, text_sound m n x.0, expr_sound d e y.0, nodes_sound a f z.0, nodes_sound b g z.1)
  stmt_sound tree.Break tree.Break h = refl
  stmt_sound tree.Continue tree.Continue h = refl
  stmt_sound (tree.If d a b) (tree.If e f g) h =
      let x = both (expr_eq d e) _ h in
      let y = both (nodes_eq a f) _ x.1 in
      rw (expr_sound d e x.0, nodes_sound a f y.0, nodes_sound b g y.1)
  stmt_sound (tree.FilterSection ds a) (tree.FilterSection es b) h =
      let x = both (filters_eq ds es) _ h in
      rw (filters_sound ds es x.0, nodes_sound a b x.1)
  stmt_sound _ _ h = no h

  pub nodes_sound : (ms ns : Nodes) → nodes_eq ms ns ≡ true → ms ≡ ns
  nodes_sound tree.NoNodes tree.NoNodes h = refl
  nodes_sound (tree.OneNode m ms) (tree.OneNode n ns) h =
      let p = both (stmt_eq m n) _ h in
      rw (stmt_sound m n p.0, nodes_sound ms ns p.1)
  nodes_sound _ _ h = no h

mutual
  pub expr_itself : (e : Expr) → expr_eq e e ≡ true
  expr_itself (tree.Const v s) = rw (span_itself s) (value_itself v)
  expr_itself (tree.Array xs s) = rw (span_itself s) (items_itself xs)
  expr_itself (tree.Map xs s) = rw (span_itself s) (entries_itself xs)
  expr_itself (tree.Var n s) = rw (span_itself s) (text_itself n)
  expr_itself (tree.GetAttr e n o s) = rw (span_itself s, expr_itself e, text_itself n) (flag_itself o)
  expr_itself (tree.GetItem e i o s) = rw (span_itself s, expr_itself e, expr_itself i) (flag_itself o)
  expr_itself (tree.Slice e a b c o s) = rw (span_itself s, expr_itself e, maybe_itself a, maybe_itself b, maybe_itself c) (flag_itself o)
  expr_itself (tree.Filter e n a s) = rw (span_itself s, expr_itself e, text_itself n) (args_itself a)
  expr_itself (tree.Test e n a s) = rw (span_itself s, expr_itself e, text_itself n) (args_itself a)
  expr_itself (tree.Ternary c d e s) = rw (span_itself s, expr_itself c, expr_itself d) (expr_itself e)
  expr_itself (tree.ListComprehension e k n x a s) = rw (span_itself s, expr_itself e, name_itself k, text_itself n, expr_itself x) (maybe_itself a)
  expr_itself (tree.ComponentCall n xs a o s) = rw (span_itself s, text_itself n, entries_itself xs, nodes_itself a) (flag_itself o)
  expr_itself (tree.FunctionCall n a s) = rw (span_itself s, text_itself n) (args_itself a)
  expr_itself (tree.UnaryOperation o e s) = rw (span_itself s, unary_itself o) (expr_itself e)
  expr_itself (tree.BinaryOperation o c d s) = rw (span_itself s, binary_itself o, expr_itself c) (expr_itself d)

  pub maybe_itself : (a : MaybeExpr) → maybe_eq a a ≡ true
  maybe_itself tree.NoExpr = refl
  maybe_itself (tree.OneExpr e) = expr_itself e

  pub filters_itself : (es : Filters) → filters_eq es es ≡ true
  filters_itself tree.NoFilters = refl
  filters_itself (tree.OneFilter e es) = rw (expr_itself e) (filters_itself es)

  pub args_itself : (a : Args) → args_eq a a ≡ true
  args_itself tree.NoArgs = refl
  args_itself (tree.Arg n e a) = rw (text_itself n, expr_itself e) (args_itself a)

  pub entries_itself : (xs : Entries) → entries_eq xs xs ≡ true
  entries_itself tree.NoEntries = refl
  entries_itself (tree.Entry k e xs) = rw (key_itself k, expr_itself e) (entries_itself xs)
  entries_itself (tree.SpreadEntry e xs) = rw (expr_itself e) (entries_itself xs)

  pub items_itself : (xs : Items) → items_eq xs xs ≡ true
  items_itself tree.NoItems = refl
  items_itself (tree.Item e xs) = rw (expr_itself e) (items_itself xs)
  items_itself (tree.SpreadItem e xs) = rw (expr_itself e) (items_itself xs)

  pub stmt_itself : (n : Stmt) → stmt_eq n n ≡ true
  stmt_itself (tree.Content s) = text_itself s
  stmt_itself (tree.Shown e) = expr_itself e
  stmt_itself (tree.Set n e o) = rw (text_itself n, expr_itself e) (flag_itself o)
  stmt_itself (tree.BlockSet n es a o) = rw (text_itself n, filters_itself es, nodes_itself a) (flag_itself o)
  stmt_itself (tree.Include n s) = rw (span_itself s) (text_itself n)
  stmt_itself (tree.Block n s a) = rw (span_itself s, text_itself n) (nodes_itself a)
  stmt_itself (tree.ForLoop k n e a b) = rw (name_itself k, text_itself n, expr_itself e, nodes_itself a) (nodes_itself b)
  stmt_itself tree.Break = refl
  stmt_itself tree.Continue = refl
  stmt_itself (tree.If e a b) = rw (expr_itself e, nodes_itself a) (nodes_itself b)
  stmt_itself (tree.FilterSection es a) = rw (filters_itself es) (nodes_itself a)

  pub nodes_itself : (ns : Nodes) → nodes_eq ns ns ≡ true
  nodes_itself tree.NoNodes = refl
  nodes_itself (tree.OneNode n ns) = rw (stmt_itself n) (nodes_itself ns)

pub expr_decides : (d e : Expr) → Decides (expr_eq d e) (d ≡ e)
expr_decides d e = (expr_sound d e, λ p. rw (← p) (expr_itself d))

pub expr_equivalence : IsEquivalence expr_eq
expr_equivalence = decided expr_eq expr_decides

pub stmt_decides : (m n : Stmt) → Decides (stmt_eq m n) (m ≡ n)
stmt_decides m n = (stmt_sound m n, λ p. rw (← p) (stmt_itself m))

pub stmt_equivalence : IsEquivalence stmt_eq
stmt_equivalence = decided stmt_eq stmt_decides
