-- Arguments that are found, and into which one is put.
use Rattle.std.proofs.Common.{◌≡◌, ℕ, Bool, true, false, ◌||◌, cond, List, [], ◌∷◌, Option, Some, Global, String, string_bytes, Ordering, Less, Equal, Greater, nat_cmp, string_cmp, refl, ap, ◌∙◌}
use Rattle.std.specs.Option.{is_some}
use Rattle.std.specs.Ordering.{is_eq, match_ordering}
use Rattle.std.specs.Str.{bytes_eq}
use Rattle.std.specs.Cmp.Lexicographic.{slice_cmp}
use Rattle.std.specs.BTreeMap.{is_at, insert_entry}
use Rattle.std.specs.Map.{lookup}
use Rattle.std.proofs.lemmas.Map.Text.{is_eq-slice_cmp}
use Rattle.tera_ast.specs.Tree.{Arg}
use Rattle.tera_ast.specs.View.{args_view, expression_view}
use Rattle.tera_ast.specs.declared.ast.Expression.{Expression}
use Rattle.tera_grammar.specs.expressions.Output.{put_arg}
use Rattle.tera_expr_parts.specs.CommaLists.{has_argument}

cond_some : {A : Type 0} (b : Bool) (x : A) (o : Option A) → is_some (cond b (Some x) o) ≡ (b || is_some o)
cond_some true x o = refl
cond_some false x o = refl

pub has_found : (name : List ℕ) (es : List (String Global × Expression))
    → is_some (lookup (is_at (λ k. slice_cmp nat_cmp name (string_bytes k))) es) ≡ has_argument name (args_view es)
has_found name [] = refl
has_found name (e ∷ es) =
    cond_some (is_eq (slice_cmp nat_cmp name (string_bytes e.0))) e.1 _
    ∙ ap (λ b. b || is_some (lookup (is_at (λ k. slice_cmp nat_cmp name (string_bytes k))) es)) (is_eq-slice_cmp name (string_bytes e.0))
    ∙ ap (λ b. bytes_eq name (string_bytes e.0) || b) (has_found name es)

-- a map of arguments into which one is put
view_match : (r : Ordering) (a b c : List (String Global × Expression))
    → args_view (match_ordering r a b c) ≡ match_ordering r (args_view a) (args_view b) (args_view c)
view_match Less a b c = refl
view_match Equal a b c = refl
view_match Greater a b c = refl

pub put_view : (es : List (String Global × Expression)) (k : String Global) (v : Expression)
    → args_view (insert_entry string_cmp es k v) ≡ put_arg (string_bytes k) (expression_view v) (args_view es)
put_view [] k v = refl
put_view (e ∷ es) k v =
    view_match (string_cmp k e.0) ((k, v) ∷ e ∷ es) ((e.0, v) ∷ es) (e ∷ insert_entry string_cmp es k v)
    ∙ ap (λ more. match_ordering (string_cmp k e.0) (args_view ((k, v) ∷ e ∷ es)) (args_view ((e.0, v) ∷ es)) (Arg (string_bytes e.0) (expression_view e.1) more)) (put_view es k v)
