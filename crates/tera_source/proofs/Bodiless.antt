-- An expression that has a source text holds no call of a component with a body.
use Rattle.std.proofs.Common.{◌≡◌, Bool, true, false, ◌||◌, not, refl, sym, true≢false}
use Rattle.tera_base.specs.Values.{KeyVal, TextKey}
use Rattle.tera_ast.specs.Tree as tree
use Rattle.tera_ast.specs.Tree.{Expr}
use Rattle.tera_source.specs.Bodies.{has_body, maybe_has_body, args_have_body, items_have_body, entries_have_body}
use Rattle.tera_source.specs.Writing.{is_bare}
use Rattle.tera_source.specs.Writable.{IsWritable, MaybeWritable, AreWritableArgs, AreWritableItems, AreWritableEntries, AreWritableAttributes}

both : (a b : Bool) → a ≡ false → b ≡ false → (a || b) ≡ false
both a b h k = rw (h, k) refl

closed : (c : Bool) → c ≡ true → not c ≡ false
closed c h = rw h refl

mutual
  pub bodiless : (e : Expr) → IsWritable e → has_body e ≡ false
  bodiless (tree.Const v s) h = refl
  bodiless (tree.Array es s) h = items_bodiless es h
  bodiless (tree.Map es s) h = entries_bodiless es h
  bodiless (tree.Var name s) h = refl
  bodiless (tree.GetAttr e name o s) h = bodiless e h.0
  bodiless (tree.GetItem e i o s) h = both _ _ (bodiless e h.0) (bodiless i h.1)
  bodiless (tree.Slice e a b c o s) h =
      both _ _ (bodiless e h.0) (both _ _ (maybe_bodiless a h.1) (both _ _ (maybe_bodiless b h.2) (maybe_bodiless c h.3)))
  bodiless (tree.Filter e name g s) h = both _ _ (bodiless e h.0) (args_bodiless g h.1)
  bodiless (tree.Test e name g s) h = both _ _ (bodiless e h.0) (args_bodiless g h.1)
  bodiless (tree.Ternary e a b s) h = both _ _ (bodiless e h.0) (both _ _ (bodiless a h.1) (bodiless b h.2))
  bodiless (tree.ListComprehension e k v t c s) h = both _ _ (bodiless e h.0) (both _ _ (bodiless t h.1) (maybe_bodiless c h.2))
  bodiless (tree.ComponentCall name es body c s) h = both _ _ (closed c h.1) (attributes_bodiless es h.0)
  bodiless (tree.FunctionCall name g s) h = args_bodiless g h
  bodiless (tree.UnaryOperation o e s) h = bodiless e h
  bodiless (tree.BinaryOperation o a b s) h = both _ _ (bodiless a h.0) (bodiless b h.1)

  maybe_bodiless : (x : tree.MaybeExpr) → MaybeWritable x → maybe_has_body x ≡ false
  maybe_bodiless tree.NoExpr h = refl
  maybe_bodiless (tree.OneExpr e) h = bodiless e h

  args_bodiless : (g : tree.Args) → AreWritableArgs g → args_have_body g ≡ false
  args_bodiless tree.NoArgs h = refl
  args_bodiless (tree.Arg name e g) h = both _ _ (bodiless e h.0) (args_bodiless g h.1)

  items_bodiless : (es : tree.Items) → AreWritableItems es → items_have_body es ≡ false
  items_bodiless tree.NoItems h = refl
  items_bodiless (tree.Item e es) h = both _ _ (bodiless e h.0) (items_bodiless es h.1)
  items_bodiless (tree.SpreadItem e es) h = both _ _ (bodiless e h.0) (items_bodiless es h.1)

  entries_bodiless : (es : tree.Entries) → AreWritableEntries es → entries_have_body es ≡ false
  entries_bodiless tree.NoEntries h = refl
  entries_bodiless (tree.Entry k e es) h = both _ _ (bodiless e h.0) (entries_bodiless es h.1)
  entries_bodiless (tree.SpreadEntry e es) h = both _ _ (bodiless e h.0) (entries_bodiless es h.1)

  attributes_bodiless : (es : tree.Entries) → AreWritableAttributes es → entries_have_body es ≡ false
  attributes_bodiless tree.NoEntries h = refl
  attributes_bodiless (tree.Entry k e es) h = both _ _ (bodiless e h.1) (attributes_bodiless es h.2)
  attributes_bodiless (tree.SpreadEntry e es) h = both _ _ (bodiless e h.0) (attributes_bodiless es h.1)

-- a variable that is written as a name alone
pub bare_bodiless : (k : KeyVal) (e : Expr) → is_bare k e ≡ true → has_body e ≡ false
bare_bodiless (TextKey name) (tree.Var variable s) h = refl
bare_bodiless _ _ h = absurd (true≢false (sym h))
