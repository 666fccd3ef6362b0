-- The names that a program registers for its templates.
use Rattle.std.specs.Prelude.{◌≡◌, ◌||◌, ℕ, List, Bool, true, Option, None, Some, String, bytes_eq, codes, map, option_map, string_bytes}
use Rattle.std.specs.BTreeSet.{BTreeSet, contains_by}
use Rattle.std.specs.Borrow.{Bor}
use Rattle.std.specs.Cmp.Lexicographic.{slice_cmp}
use Rattle.std.specs.List.{list_any}
use Rattle.std.specs.Ordering.{nat_cmp}
use Rattle.std.specs.declared.alloc.Global.{Global}
use Rattle.tera_rules.specs.declared.registered.Registered.{Registered}
use Rattle.tera_rules.specs.declared.registered.Registry.{Registry}
use Rattle.tera_rules.specs.declared.registered.Registry.TheVariants as registries

-- the names that filters, tests and functions may have
pub record RegisteredVal : Type 0 where
  pub filters : List ℕ → Bool
  pub tests : List ℕ → Bool
  pub functions : List ℕ → Bool

-- there may be one of the name; `super` is a function of every program
abbrev pub has : RegisteredVal → Registry → List ℕ → Bool
has r registries.Filters n = r.filters n
has r registries.Tests n = r.tests n
has r registries.Functions n = r.functions n || bytes_eq n (codes "super")

-- the listed names; if there is no list, any name
abbrev pub is_listed : Option (List (List ℕ)) → List ℕ → Bool
is_listed None n = true
is_listed (Some names) n = list_any (λ name. bytes_eq name n) names

pub record AreListed (filters tests functions : Option (List (List ℕ))) (registered : RegisteredVal) : Type 0 where
  pub by_filters : (n : List ℕ) → registered.filters n ≡ is_listed filters n
  pub by_tests : (n : List ℕ) → registered.tests n ≡ is_listed tests n
  pub by_functions : (n : List ℕ) → registered.functions n ≡ is_listed functions n

-- ---- in the code

abbrev pub list_view : Option (Bor (List (String Global))) → Option (List (List ℕ))
list_view = option_map (λ names. map string_bytes names.now)

abbrev pub has_name : BTreeSet (Bor (List ℕ)) → List ℕ → Bool
has_name names n = contains_by (λ k. slice_cmp nat_cmp n k.now) names

abbrev pub may_be : Option (BTreeSet (Bor (List ℕ))) → List ℕ → Bool
may_be None n = true
may_be (Some names) n = has_name names n

abbrev pub registered_view : Registered → RegisteredVal
registered_view r = record { filters = may_be r.filters; tests = may_be r.tests; functions = may_be r.functions }

abbrev pub registered_if_any : Option (Bor Registered) → Option RegisteredVal
registered_if_any = option_map (λ r. registered_view r.now)
