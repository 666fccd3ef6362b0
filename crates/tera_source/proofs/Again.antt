-- Expressions that are the same apart from places have one source text.
use Rattle.std.proofs.Common.{◌≡◌, List, ℕ, false, refl, sym, ap, ap₂, ◌∙◌}
use Rattle.tera_base.specs.Values as values
use Rattle.tera_lexer.specs.code.Cursors.{nowhere}
use Rattle.tera_lexer.specs.grammar.Tokens.{Ended}
use Rattle.tera_ast.specs.declared.ast.UnaryOperator.TheVariants as unary
use Rattle.tera_ast.specs.Tree as tree
use Rattle.tera_ast.specs.Tree.{Expr}
use Rattle.tera_grammar.specs.expressions.Concrete.{Negative, plainly, Single, Tree, Atomic, Prefix, Suffixed, Infix, Call, Array, Map, Component, index, present, extra, plain, spread, pair, argument, Attributes, spreading, Test, Filter, args, Binary, yield}
use Rattle.tera_spelling.specs.Spelling.{tokens_text}
use Rattle.tera_source.specs.Source.{word, key_literal, in_front, with_field, with_sub, negation_of, operator_for, path_from, key_text, attribute, tree_of, part_of, extra_of, arguments_row, args_of, items_row, entries_row, attributes_of, paren, source_text}
use Rattle.tera_source.specs.Placeless.{placeless, placeless_part, placeless_args, placeless_items, placeless_entries}

attribute_same : (n : List ℕ) (e : Expr) (t : Tree) (ats : Attributes) → attribute n (placeless e) t ats ≡ attribute n e t ats
attribute_same n (tree.Var name s) t ats = refl
attribute_same n (tree.Const (values.Text text) s) t ats = refl
attribute_same n _ t ats = refl

mutual
  tree_same : (e : Expr) → tree_of (placeless e) ≡ tree_of e
  tree_same (tree.Const v s) = refl
  tree_same (tree.Var name s) = refl
  tree_same (tree.GetAttr e name o s) = ap (λ t. with_field t o name) (tree_same e)
  tree_same (tree.GetItem e i o s) = ap₂ (λ t u. with_sub t o (index u nowhere)) (tree_same e) (tree_same i)
  tree_same (tree.Slice e a b c o s) = rw (tree_same e, part_same a, part_same b, extra_same c) refl
  tree_same (tree.UnaryOperation unary.Not e s) = ap negation_of (tree_same e)
  tree_same (tree.UnaryOperation unary.Minus e s) = ap (Prefix (Negative nowhere)) (tree_same e)
  tree_same (tree.BinaryOperation o a b s) = ap₂ (λ t u. Infix t (Binary (Single (operator_for o) nowhere)) u) (tree_same a) (tree_same b)
  tree_same (tree.Test e name g s) = ap₂ (λ t x. Suffixed t (Test nowhere plainly (word name) x)) (tree_same e) (args_same g)
  tree_same (tree.Filter e name g s) = ap₂ (λ t x. Suffixed t (Filter nowhere (word name) x)) (tree_same e) (args_same g)
  tree_same (tree.FunctionCall name g s) = ap (λ row. Atomic (Call (word name) nowhere row)) (arguments_same g)
  tree_same (tree.Ternary c a b s) = rw (tree_same c, tree_same a, tree_same b) refl
  tree_same (tree.Array is s) = ap (λ row. Atomic (Array nowhere row)) (items_same is)
  tree_same (tree.Map es s) = ap (λ row. Atomic (Map nowhere row)) (entries_same es)
  tree_same (tree.ListComprehension e k v t c s) = rw (tree_same e, tree_same t, extra_same c) refl
  tree_same (tree.ComponentCall name es body closed s) =
      ap (λ ats. Atomic (Component nowhere (path_from name).name (path_from name).further ats nowhere nowhere)) (attributes_same es)

  part_same : (a : tree.MaybeExpr) → part_of (placeless_part a) ≡ part_of a
  part_same tree.NoExpr = refl
  part_same (tree.OneExpr e) = ap present (tree_same e)

  extra_same : (a : tree.MaybeExpr) → extra_of (placeless_part a) ≡ extra_of a
  extra_same tree.NoExpr = refl
  extra_same (tree.OneExpr e) = ap (extra nowhere) (tree_same e)

  arguments_same : (g : tree.Args) → arguments_row (placeless_args g) ≡ arguments_row g
  arguments_same tree.NoArgs = refl
  arguments_same (tree.Arg name e g) = ap₂ (λ t row. in_front (argument (word name) nowhere t) row) (tree_same e) (arguments_same g)

  args_same : (g : tree.Args) → args_of (placeless_args g) ≡ args_of g
  args_same tree.NoArgs = refl
  args_same (tree.Arg name e g) = ap₂ (λ t row. args nowhere (in_front (argument (word name) nowhere t) row)) (tree_same e) (arguments_same g)

  items_same : (is : tree.Items) → items_row (placeless_items is) ≡ items_row is
  items_same tree.NoItems = refl
  items_same (tree.Item e is) = ap₂ (λ t row. in_front (plain t) row) (tree_same e) (items_same is)
  items_same (tree.SpreadItem e is) = ap₂ (λ t row. in_front (spread nowhere t) row) (tree_same e) (items_same is)

  entries_same : (es : tree.Entries) → entries_row (placeless_entries es) ≡ entries_row es
  entries_same tree.NoEntries = refl
  entries_same (tree.Entry k e es) = ap₂ (λ t row. in_front (pair (key_literal k) nowhere nowhere t) row) (tree_same e) (entries_same es)
  entries_same (tree.SpreadEntry e es) = ap₂ (λ t row. in_front (spread nowhere t) row) (tree_same e) (entries_same es)

  attributes_same : (es : tree.Entries) → attributes_of (placeless_entries es) ≡ attributes_of es
  attributes_same tree.NoEntries = refl
  attributes_same (tree.Entry k e es) =
      attribute_same (key_text k) e (tree_of (placeless e)) (attributes_of (placeless_entries es))
      ∙ ap₂ (attribute (key_text k) e) (tree_same e) (attributes_same es)
  attributes_same (tree.SpreadEntry e es) = ap₂ (λ t ats. spreading nowhere nowhere t nowhere ats) (tree_same e) (attributes_same es)

text_same : (e : Expr) → source_text (placeless e) ≡ source_text e
text_same e = ap (λ t. tokens_text (yield (paren 0 0 false t) Ended)) (tree_same e)

pub same_text : (one other : Expr) → placeless one ≡ placeless other → source_text one ≡ source_text other
same_text one other h = sym (text_same one) ∙ ap source_text h ∙ text_same other
