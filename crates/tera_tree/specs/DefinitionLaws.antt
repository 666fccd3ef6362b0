-- The tests of `Definitions` decide.
use Rattle.std.proofs.Common.{◌≡◌, ℕ, Bool, true, false, true≢false, ◌&&◌, List, [], ◌∷◌, get_or, Option, Some, None, refl, sym, ap, ◌∙◌}
use Rattle.std.specs.Bool.{Decides}
use Rattle.std.specs.Option.{option_eq}
use Rattle.std.specs.Str.{bytes_eq}
use Rattle.std.specs.Cmp.{IsEquivalence, decided, booleans_Decides}
use Rattle.std.specs.Cmp.Lexicographic.{pointwise}
use Rattle.std.proofs.lemmas.Bool.Decides.{Decides-eqb}
use Rattle.std.proofs.lemmas.Slice.Eq.{bytes_eq-Decides, slice_eq-Decides}
use Rattle.tera_base.specs.Same.{value_eq}
use Rattle.tera_base.specs.SameLaws.{value_decides}
use Rattle.tera_ast.specs.Same.{stmt_eq}
use Rattle.tera_ast.specs.SameLaws.{stmt_decides}
use Rattle.tera_tree.specs.Tree.{Argument, Definition, Output}
use Rattle.tera_tree.specs.Definitions.{type_place, type_eq, argument_eq, named_argument_eq, named_value_eq, definition_eq, output_eq}
use Rattle.tera_tree.specs.declared.ast.ArgType.{ArgType}
use Rattle.tera_tree.specs.declared.ast.ArgType.TheVariants as types

both : (a b : Bool) → (a && b) ≡ true → (a ≡ true) × (b ≡ true)
both true b e = (refl, e)
both false b e = absurd (true≢false (sym e))

together : (a b : Bool) → a ≡ true → b ≡ true → (a && b) ≡ true
together a b e f = rw (e, f) refl

option_decides : {A : Type 0} (E : A → A → Bool) → ((x y : A) → Decides (E x y) (x ≡ y)) → (o p : Option A) → Decides (option_eq E o p) (o ≡ p)
option_decides E d None None = (λ e. refl, λ e. refl)
option_decides E d None (Some y) = (λ e. absurd (true≢false (sym e)), λ e. cc)
option_decides E d (Some x) None = (λ e. absurd (true≢false (sym e)), λ e. cc)
option_decides E d (Some x) (Some y) = (λ e. ap Some ((d x y).0 e), λ e. (d x y).1 cc)

list_decides : {A : Type 0} (E : A → A → Bool) → ((x y : A) → Decides (E x y) (x ≡ y)) → (xs ys : List A) → Decides (pointwise E xs ys) (xs ≡ ys)
list_decides E d xs ys = slice_eq-Decides d xs ys (pointwise E xs ys) refl

all_types : List ArgType
all_types = types.String ∷ types.Bool ∷ types.Integer ∷ types.Number ∷ types.Array ∷ types.Map ∷ types.Bytes ∷ []

-- a type is known by its place
at_its_place : (t : ArgType) → get_or all_types (type_place t) types.String ≡ t
unfolding all_types
at_its_place types.String = refl
at_its_place types.Bool = refl
at_its_place types.Integer = refl
at_its_place types.Number = refl
at_its_place types.Array = refl
at_its_place types.Map = refl
at_its_place types.Bytes = refl

type_decides : (t u : ArgType) → Decides (type_eq t u) (t ≡ u)
type_decides t u = (
  λ e. sym (at_its_place t) ∙ (ap (λ n. get_or all_types n types.String) ((Decides-eqb (type_place t) (type_place u)).0 e) ∙ at_its_place u),
  λ e. (Decides-eqb (type_place t) (type_place u)).1 (ap type_place e),
)

pub argument_decides : (a b : Argument) → Decides (argument_eq a b) (a ≡ b)
argument_decides a b =
    let default = option_decides value_eq value_decides a.default b.default in
    let typ = option_decides type_eq type_decides a.typ b.typ in
    let implicit = booleans_Decides a.implicit b.implicit in (
      λ e. let p = both (option_eq value_eq a.default b.default) _ e in
          let q = both (option_eq type_eq a.typ b.typ) _ p.1 in
          λ i. record { default = default.0 p.0 i; typ = typ.0 q.0 i; implicit = implicit.0 q.1 i },
      λ e. together _ _ (default.1 (λ i. (e i).default)) (together _ _ (typ.1 (λ i. (e i).typ)) (implicit.1 (λ i. (e i).implicit))),
    )

named_decides : {A : Type 0} (E : A → A → Bool) → ((x y : A) → Decides (E x y) (x ≡ y)) → (p q : List ℕ × A) → Decides (bytes_eq p.0 q.0 && E p.1 q.1) (p ≡ q)
named_decides E d p q = (
  λ e. let h = both (bytes_eq p.0 q.0) _ e in λ i. ((bytes_eq-Decides p.0 q.0).0 h.0 i, (d p.1 q.1).0 h.1 i),
  λ e. together _ _ ((bytes_eq-Decides p.0 q.0).1 (λ i. (e i).0)) ((d p.1 q.1).1 (λ i. (e i).1)),
)

pub definition_decides : (d e : Definition) → Decides (definition_eq d e) (d ≡ e)
definition_decides d e =
    let name = bytes_eq-Decides d.name e.name in
    let arguments = list_decides named_argument_eq (named_decides argument_eq argument_decides) d.arguments e.arguments in
    let rest = option_decides bytes_eq bytes_eq-Decides d.rest e.rest in
    let metadata = list_decides named_value_eq (named_decides value_eq value_decides) d.metadata e.metadata in
    let body = list_decides stmt_eq stmt_decides d.body e.body in (
      λ h. let p = both (bytes_eq d.name e.name) _ h in
          let q = both (pointwise named_argument_eq d.arguments e.arguments) _ p.1 in
          let r = both (option_eq bytes_eq d.rest e.rest) _ q.1 in
          let s = both (pointwise named_value_eq d.metadata e.metadata) _ r.1 in
          λ i. record { name = name.0 p.0 i; arguments = arguments.0 q.0 i; rest = rest.0 r.0 i; metadata = metadata.0 s.0 i; body = body.0 s.1 i },
      λ h. together _ _ (name.1 (λ i. (h i).name))
          (together _ _ (arguments.1 (λ i. (h i).arguments)) (together _ _ (rest.1 (λ i. (h i).rest)) (together _ _ (metadata.1 (λ i. (h i).metadata)) (body.1 (λ i. (h i).body))))),
    )

pub output_decides : (o p : Output) → Decides (output_eq o p) (o ≡ p)
output_decides o p =
    let parent = option_decides bytes_eq bytes_eq-Decides o.parent p.parent in
    let nodes = list_decides stmt_eq stmt_decides o.nodes p.nodes in
    let definitions = list_decides definition_eq definition_decides o.definitions p.definitions in (
      λ h. let q = both (option_eq bytes_eq o.parent p.parent) _ h in
          let r = both (pointwise stmt_eq o.nodes p.nodes) _ q.1 in
          λ i. record { parent = parent.0 q.0 i; nodes = nodes.0 r.0 i; definitions = definitions.0 r.1 i },
      λ h. together _ _ (parent.1 (λ i. (h i).parent)) (together _ _ (nodes.1 (λ i. (h i).nodes)) (definitions.1 (λ i. (h i).definitions))),
    )

pub argument_equivalence : IsEquivalence argument_eq
argument_equivalence = decided argument_eq argument_decides

pub definition_equivalence : IsEquivalence definition_eq
definition_equivalence = decided definition_eq definition_decides

pub output_equivalence : IsEquivalence output_eq
output_equivalence = decided output_eq output_decides
