-- Maps of constants alone.
use Rattle.std.proofs.Common.{◌≡◌, Bool, true, false, cond, if◌then◌else◌, List, [], ◌∷◌, map, Option, Some, None, Result, Ok, Err, refl, sym, ap, subst, ◌∙◌}
use Rattle.std.specs.Prelude.{IfOk}
use Rattle.std.specs.List.{list_all, fold}
use Rattle.tera_base.specs.Pairs as base
use Rattle.tera_base.specs.Pairs.{put}
use Rattle.tera_base.specs.Same.{key_eq}
use Rattle.tera_base.specs.Values as values
use Rattle.tera_base.specs.Values.{Val, Pairs, NoPairs, OnePair}
use Rattle.tera_base.specs.ValueView.{key_view, value_view, pairs_view}
use Rattle.tera_base.specs.declared.utils.Span.{Span}
use Rattle.tera_base.specs.declared.errors.Error.{Error}
use Rattle.tera_base.specs.declared.values.Key.{Key}
use Rattle.tera_base.specs.declared.values.Value.{Value}
use Rattle.tera_ast.specs.Tree as tree
use Rattle.tera_ast.specs.Tree.{Expr, Entries}
use Rattle.tera_ast.specs.View.{entries_of, entry_view, entries_view, expression_view}
use Rattle.tera_ast.specs.declared.ast.MapEntryOf.{MapEntryOf}
use Rattle.tera_ast.specs.declared.ast.MapEntryOf.TheVariants.{KeyValue, Spread}
use Rattle.tera_ast.specs.declared.ast.Expression.{Expression}
use Rattle.tera_grammar.specs.expressions.Output.{put_pair, constant_entries, map_made, map_of}
use Rattle.tera_expr_parts.specs.Folding.{constant_of, put_entry, is_constant_entry}
use Rattle.tera_expr_parts.specs.Literals.{MayBeNegated}
use Rattle.tera_expr_parts.proofs.Constants.{mapped_all}

-- a pair that is put into a map
view_if : (b : Bool) (x y : List (Key × Value)) → pairs_view (if b then x else y) ≡ cond b (pairs_view x) (pairs_view y)
view_if true x y = refl
view_if false x y = refl

pub put_view : (k : Key) (v : Value) (ps : List (Key × Value)) → pairs_view (put k v ps) ≡ put_pair (key_view k) (value_view v) (pairs_view ps)
put_view k v [] = refl
put_view k v (p ∷ ps) =
    view_if (base.same_key k p.0) ((p.0, v) ∷ ps) (p ∷ put k v ps)
    ∙ ap (λ more. cond (key_eq (key_view k) (key_view p.0)) (OnePair (key_view p.0) (value_view v) (pairs_view ps)) (OnePair (key_view p.0) (value_view p.1) more)) (put_view k v ps)

pub pair_put : (k : Key) (e : Expr) (v : Val) (ps : Pairs) → Some v ≡ constant_of e → put_pair (key_view k) v ps ≡ put_entry ps (KeyValue k e)
pair_put k (tree.Const x s) v ps h = let same : v ≡ x = cc in ap (λ y. put_pair (key_view k) y ps) same
pair_put k _ v ps h = cc

-- all entries are constants, or some is not
all_constant : (es : List (MapEntryOf Expr)) (ps : Pairs) → list_all is_constant_entry es ≡ true → constant_entries (entries_of es) ps ≡ Some (fold put_entry ps es)
all_constant [] ps h = refl
all_constant (KeyValue k (tree.Const x s) ∷ es) ps h = all_constant es (put_pair (key_view k) x ps) h
all_constant (KeyValue k _ ∷ es) ps h = cc
all_constant (Spread e ∷ es) ps h = cc

some_other : (es : List (MapEntryOf Expr)) (ps : Pairs) → list_all is_constant_entry es ≡ false → constant_entries (entries_of es) ps ≡ None
some_other [] ps h = cc
some_other (KeyValue k (tree.Const x s) ∷ es) ps h = some_other es (put_pair (key_view k) x ps) h
some_other (KeyValue k _ ∷ es) ps h = refl
some_other (Spread e ∷ es) ps h = refl

-- a map that was read, as a constant or as what it is
pub map_folds : (es : List (MapEntryOf Expression)) (m : List (Key × Value)) (span : Span) → list_all (λ e. is_constant_entry (entry_view e)) es ≡ true
    → pairs_view m ≡ fold put_entry NoPairs (map entry_view es) → tree.Const (values.Map (pairs_view m)) span ≡ map_of (entries_view es) span
map_folds es m span all h =
    ap (λ ps. tree.Const (values.Map ps) span) h
    ∙ ap (map_made (entries_view es) span) (sym (all_constant (map entry_view es) NoPairs (mapped_all is_constant_entry entry_view es ∙ all)))

pub map_stays : (es : List (MapEntryOf Expression)) (span : Span) → list_all (λ e. is_constant_entry (entry_view e)) es ≡ false
    → tree.Map (entries_view es) span ≡ map_of (entries_view es) span
map_stays es span other = ap (map_made (entries_view es) span) (sym (some_other (map entry_view es) NoPairs (mapped_all is_constant_entry entry_view es ∙ other)))

-- a map is not a number
made_negatable : (es : Entries) (span : Span) (o : Option Pairs) → MayBeNegated (map_made es span o)
made_negatable es span None = tt
made_negatable es span (Some ps) = tt

pub map_negatable : (es : Entries) (span : Span) → MayBeNegated (map_of es span)
map_negatable es span = made_negatable es span (constant_entries es NoPairs)

pub negatable_if_ok : (r : Result Expression Error) (es : Entries) (span : Span) → IfOk r (λ e. expression_view e ≡ map_of es span) → IfOk r (λ e. MayBeNegated (expression_view e))
negatable_if_ok (Ok e) es span h = subst MayBeNegated (sym h) (map_negatable es span)
negatable_if_ok (Err e) es span h = tt
