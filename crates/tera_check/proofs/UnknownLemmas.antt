-- What a program does not have, in a part.
use Rattle.std.proofs.Common.{◌≡◌, ◌∙◌, List, [], ◌∷◌, ◌++◌, refl, string_bytes, sym, ap, append_assoc, append-nil}
use Rattle.tera_base.specs.Spanned.{node_of, span_of}
use Rattle.tera_base.specs.declared.utils.Spanned.{Spanned}
use Rattle.tera_ast.specs.View.{expression_view}
use Rattle.tera_ast.specs.declared.ast.Expression.{Expression}
use Rattle.tera_ast.specs.declared.ast.Expression.TheVariants as code
use Rattle.tera_ast.specs.declared.ast.FilterOf.{FilterOf}
use Rattle.tera_ast.specs.declared.ast.FunctionCallOf.{FunctionCallOf}
use Rattle.tera_ast.specs.declared.ast.TestOf.{TestOf}
use Rattle.tera_ast.proofs.Views.{view_filter, view_function_call, view_test}
use Rattle.std.specs.List.{flat_map}
use Rattle.tera_tree.specs.Parts.{PartVal, ExpressionPart, children, parts_view}
use Rattle.tera_tree.specs.declared.parts.Part.{Part}
use Rattle.tera_rules.specs.Registered.{RegisteredVal}
use Rattle.tera_check.specs.Unknown.{unknown_if, unknown_in}
use Rattle.tera_rules.specs.Within.{all_parts}
use Rattle.tera_rules.specs.declared.registered.Registry.TheVariants as registries
use Rattle.tera_rules.proofs.RulesLemmas.{last_part}

pub filter_view : (r : RegisteredVal) (s : Spanned (FilterOf Expression))
    → unknown_in r (ExpressionPart (expression_view (code.Filter s))) ≡ unknown_if r registries.Filters (string_bytes (node_of s).name) (span_of s)
filter_view r s = rw (view_filter s) refl

pub test_view : (r : RegisteredVal) (s : Spanned (TestOf Expression))
    → unknown_in r (ExpressionPart (expression_view (code.Test s))) ≡ unknown_if r registries.Tests (string_bytes (node_of s).name) (span_of s)
test_view r s = rw (view_test s) refl

pub function_view : (r : RegisteredVal) (s : Spanned (FunctionCallOf Expression))
    → unknown_in r (ExpressionPart (expression_view (code.FunctionCall s))) ≡ unknown_if r registries.Functions (string_bytes (node_of s).name) (span_of s)
function_view r s = rw (view_function_call s) refl

-- what was found, and is found in the part, and then in what is to come
pub taken : {X : Type 0} (f : PartVal → List X) (old now : List PartVal) (p : PartVal) (start found : List X) → now ≡ old ++ children p → found ≡ start ++ f p
    → found ++ flat_map f (all_parts now) ≡ start ++ flat_map f (all_parts (old ++ p ∷ []))
taken f old now p start found h k =
    (λ i. k i ++ flat_map f (all_parts (h i)))
    ∙ append_assoc start (f p) (flat_map f (all_parts (old ++ children p)))
    ∙ ap (λ ps. start ++ flat_map f ps) (sym (last_part old p))

-- no part is left
pub all_taken : {X : Type 0} (f : PartVal → List X) (ps : List Part) (found all : List X) → found ++ flat_map f (all_parts (parts_view ps)) ≡ all → ps ≡ [] → found ≡ all
all_taken f ps found all held none =
    sym (append-nil found) ∙ sym (ap (λ qs. found ++ flat_map f (all_parts (parts_view qs))) none) ∙ held
