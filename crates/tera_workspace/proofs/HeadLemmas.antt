-- The tests of what heads consist of.
use Rattle.std.proofs.Common.{◌≡◌, ◌∙◌, ℕ, Bool, true, false, true≢false, ◌&&◌, List, map, String, string_bytes, Option, Some, None, refl, sym, ap}
use Rattle.std.specs.Bool.{Decides}
use Rattle.std.specs.Cmp.Derive.Mapped.{pointwise-map}
use Rattle.std.specs.Cmp.Lexicographic.{pointwise}
use Rattle.std.specs.Option.{option_eq}
use Rattle.std.specs.Str.{bytes_eq}
use Rattle.std.specs.declared.alloc.Global.{Global}
use Rattle.std.proofs.lemmas.Slice.Eq.{bytes_eq-Decides, slice_eq-Decides}
use Rattle.tera_ast.specs.View.{name_view}
use Rattle.tera_tree.specs.Definitions.{named_argument, named_argument_eq}
use Rattle.tera_tree.specs.DefinitionLaws.{argument_decides}
use Rattle.tera_tree.specs.Tree.{Argument}
use Rattle.tera_tree.specs.declared.ast.ComponentArgument.{ComponentArgument}

both : (a b : Bool) → (a && b) ≡ true → (a ≡ true) × (b ≡ true)
both true b e = (refl, e)
both false b e = absurd (true≢false (sym e))

together : (a b : Bool) → a ≡ true → b ≡ true → (a && b) ≡ true
together a b e f = rw (e, f) refl

named_decides : (p q : List ℕ × Argument) → Decides (named_argument_eq p q) (p ≡ q)
named_decides p q = (
  λ e. let h = both (bytes_eq p.0 q.0) _ e in λ i. ((bytes_eq-Decides p.0 q.0).0 h.0 i, (argument_decides p.1 q.1).0 h.1 i),
  λ e. together _ _ ((bytes_eq-Decides p.0 q.0).1 (λ i. (e i).0)) ((argument_decides p.1 q.1).1 (λ i. (e i).1)),
)

pub arguments_are : (xs ys : List (String Global × ComponentArgument)) → pointwise (λ a b. named_argument_eq (named_argument a) (named_argument b)) xs ys ≡ true
    → map named_argument xs ≡ map named_argument ys
arguments_are xs ys e =
    (slice_eq-Decides named_decides (map named_argument xs) (map named_argument ys) (pointwise named_argument_eq (map named_argument xs) (map named_argument ys)) refl).0
    (pointwise-map named_argument named_argument_eq xs ys ∙ e)

pub rest_is : (o p : Option (String Global)) → option_eq (λ x y. bytes_eq (string_bytes x) (string_bytes y)) o p ≡ true → name_view o ≡ name_view p
rest_is None None e = refl
rest_is None (Some y) e = absurd (true≢false (sym e))
rest_is (Some x) None e = absurd (true≢false (sym e))
rest_is (Some x) (Some y) e = ap Some ((bytes_eq-Decides (string_bytes x) (string_bytes y)).0 e)
