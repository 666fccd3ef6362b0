-- The context of a call of a component.
use Rattle.std.specs.Prelude.{◌≡◌, ℕ, List, [], ◌∷◌, ◌++◌, Bool, true, false, not, codes, map, filter, ◌⊎◌, Option, None, Some, Result, Ok, Err, String, if◌then◌else◌}
use Rattle.std.specs.declared.alloc.Global.{Global}
use Rattle.std.specs.Borrow.{Bor}
use Rattle.std.specs.List.{flat_map, list_any}
use Rattle.std.specs.Cmp.Lexicographic.{slice_cmp}
use Rattle.std.specs.Ordering.{match_ordering, nat_cmp}
use Rattle.std.specs.Str.{bytes_eq}
use Rattle.tera_base.specs.Contexts.{put_all}
use Rattle.tera_base.specs.Kinds.{kind_of, kind_name}
use Rattle.tera_base.specs.Same.{key_eq}
use Rattle.tera_tree.specs.Outcomes.{Outcome, Gives, Passes, Refuses, Then, InTurn}
use Rattle.tera_base.specs.Values.{KeyVal, TextKey, Val, Undefined, Map, Pairs, NoPairs, OnePair}
use Rattle.tera_base.specs.ValueView.{value_view}
use Rattle.tera_base.specs.declared.errors.Error.{Error}
use Rattle.tera_base.specs.declared.values.Value.{Value}
use Rattle.tera_tree.specs.Definitions.{named_argument}
use Rattle.tera_tree.specs.Tree.{Argument, Definition}
use Rattle.tera_tree.specs.Types.{type_name, is_of_type}
use Rattle.tera_tree.specs.declared.ast.ArgType.{ArgType}
use Rattle.tera_tree.specs.declared.ast.ComponentArgument.{ComponentArgument}

-- the arguments of a definition, each with its name
abbrev pub arguments_view : List (String Global × ComponentArgument) → List (List ℕ × Argument)
arguments_view entries = map named_argument entries

-- whether a value is of the type of an argument: without a type each is
abbrev pub is_of : Option ArgType → Val → Bool
is_of None v = true
is_of (Some t) v = is_of_type t (kind_of v)

-- ---- names

abbrev pub texts : List (Bor (List ℕ)) → List (List ℕ)
texts names = map (λ n. n.now) names

-- whether a name is the name of an argument
abbrev pub is_argument : List (List ℕ × Argument) → List ℕ → Bool
is_argument arguments n = list_any (λ a. bytes_eq n a.0) arguments

-- the names, of those provided, that are not arguments
abbrev pub unknown : List (List ℕ × Argument) → List (List ℕ) → List (List ℕ)
unknown arguments names = filter (λ n. not (is_argument arguments n)) names

-- whether a name is one of these
abbrev pub IsAmong : List (List ℕ) → List ℕ → Type 0
IsAmong [] n = ⊥
IsAmong (m ∷ ms) n = (n ≡ m) ⊎ IsAmong ms n

abbrev pub argument_names : List (List ℕ × Argument) → List (List ℕ)
argument_names arguments = map (λ a. a.0) arguments

-- the names at which a call may ask for a value: those of arguments, and those that are provided
abbrev pub IsAsked : List (List ℕ × Argument) → (List (Bor (List ℕ)) → Type 0) → List ℕ → Type 0
IsAsked arguments Provided n = IsAmong (argument_names arguments) n ⊎ ((names : List (Bor (List ℕ))) × Provided names × IsAmong (texts names) n)

-- a name put at its place among names in byte order, where it is not there already
abbrev pub place_name : List ℕ → List (List ℕ) → List (List ℕ)
place_name n [] = n ∷ []
place_name n (m ∷ ms) = match_ordering (slice_cmp nat_cmp n m) (n ∷ m ∷ ms) (m ∷ ms) (m ∷ place_name n ms)

abbrev pub place_names : List (List ℕ) → List (List ℕ) → List (List ℕ)
place_names [] done = done
place_names (n ∷ ns) done = place_names ns (place_name n done)

-- the names once each, in byte order
abbrev pub once_each : List (List ℕ) → List (List ℕ)
once_each names = place_names names []

-- ---- texts

abbrev pub quoted : List ℕ → List ℕ
quoted n = codes "`" ++ (n ++ codes "`")

abbrev pub names_text : List (List ℕ) → List ℕ
names_text [] = []
names_text (n ∷ ns) = quoted n ++ flat_map (λ m. codes ", " ++ quoted m) ns

abbrev pub possible_text : List (List ℕ) → List ℕ
possible_text [] = []
possible_text (n ∷ ns) = codes " Possible argument(s) are: " ++ names_text (n ∷ ns)

abbrev pub unknown_text : List (List ℕ) → List (List ℕ × Argument) → List ℕ
unknown_text names arguments = codes "Unknown argument(s) " ++ (names_text (once_each names) ++ (codes " in component call." ++ possible_text (map (λ a. a.0) arguments)))

abbrev pub no_value_text : List ℕ → List ℕ
no_value_text n = codes "Argument `" ++ (n ++ codes "` was given without a value.")

abbrev pub wrong_type_text : List ℕ → Val → ArgType → List ℕ
wrong_type_text n v t =
    codes "Component argument `" ++ (n ++ (codes "` (type: `" ++ (kind_name (kind_of v) ++ (codes "`) does not match expected type: `" ++ (type_name t ++ codes "`")))))

abbrev pub type_text : Option ArgType → List ℕ
type_text None = []
type_text (Some t) = codes " (type: `" ++ (type_name t ++ codes "`)")

-- no value for an argument, implicit or not, that has no default
abbrev pub missing_text : List ℕ → Option ArgType → Bool → List ℕ
missing_text n typ true = codes "Implicit argument `" ++ (n ++ (codes "`" ++ (type_text typ ++ codes " not found in context or passed directly.")))
missing_text n typ false = codes "Argument `" ++ (n ++ (codes "`" ++ (type_text typ ++ codes " missing.")))

-- ---- one name

abbrev pub Pair : Type 0
Pair = List ℕ × Val

-- what was passed for an argument, or found for it: a value, of its type where it has one
abbrev pub of_type : List ℕ → Option ArgType → Val → Outcome Pair
of_type n None v = Gives (n, v)
of_type n (Some t) v = if is_of_type t (kind_of v) then Gives (n, v) else Refuses (wrong_type_text n v t)

-- an argument for which nothing was passed or found: its default, unchecked
abbrev pub by_default : List ℕ → Option Val → Option ArgType → Bool → Outcome Pair
by_default n (Some v) typ implicit = Gives (n, v)
by_default n None typ implicit = Refuses (missing_text n typ implicit)

abbrev pub default_of : List ℕ → Argument → Outcome Pair
default_of n a = by_default n a.default a.typ a.implicit

-- an implicit argument takes the value that is found for it, unless that is undefined
abbrev pub found_value : List ℕ → Argument → Val → Outcome Pair
found_value n a Undefined = default_of n a
found_value n a v = of_type n a.typ v

abbrev pub found_outcome : List ℕ → Argument → Result Value Error → Outcome Pair
found_outcome n a (Ok v) = found_value n a (value_view v)
found_outcome n a (Err e) = Passes e

-- a name that is not an argument has to have a value
abbrev pub rest_outcome : List ℕ → Result (Option Value) Error → Outcome Pair
rest_outcome n (Ok (Some v)) = Gives (n, value_view v)
rest_outcome n (Ok None) = Refuses (no_value_text n)
rest_outcome n (Err e) = Passes e

-- ---- a map of names with these values, put one after another: a new name goes last, a name that is there
-- keeps its place and takes the later value

abbrev pub put_pair : KeyVal → Val → Pairs → Pairs
put_pair k v NoPairs = OnePair k v NoPairs
put_pair k v (OnePair l w ps) = if key_eq k l then OnePair l v ps else OnePair l w (put_pair k v ps)

abbrev pub put_pairs : List Pair → Pairs → Pairs
put_pairs [] m = m
put_pairs (p ∷ ps) m = put_pairs ps (put_pair (TextKey p.0) p.1 m)

-- a name with its value, where there is one
abbrev pub passed_pairs : Option (Bor (List ℕ) × Value) → List Pair
passed_pairs None = []
passed_pairs (Some p) = (p.0.now, value_view p.1) ∷ []

-- the body under its name
abbrev pub body_pairs : Option Value → List Pair
body_pairs None = []
body_pairs (Some v) = (codes "body", value_view v) ∷ []

-- ---- the names that are not arguments, by what `get_value` may answer at a name

module _ (Value_at : List ℕ → Result (Option Value) Error → Type 0) where
  -- with a rest parameter each has to have a value
  abbrev pub RestNameComesTo : List ℕ → Outcome Pair → Type 0
  RestNameComesTo n o = (answer : Result (Option Value) Error) × Value_at n answer × (o ≡ rest_outcome n answer)

  abbrev pub RestMapComesTo : List (List ℕ) → Outcome Pairs → Type 0
  RestMapComesTo names o = Then (InTurn RestNameComesTo names) (λ pairs o. o ≡ Gives (put_pairs pairs NoPairs)) o

  -- without one they are refused
  abbrev pub RestComesTo : Option (List ℕ) → List (List ℕ × Argument) → List (List ℕ) → Outcome (List Pair) → Type 0
  RestComesTo None arguments [] o = o ≡ Gives []
  RestComesTo None arguments (n ∷ ns) o = o ≡ Refuses (unknown_text (n ∷ ns) arguments)
  RestComesTo (Some r) arguments names o = Then (RestMapComesTo names) (λ pairs o. o ≡ Gives ((r, Map pairs) ∷ [])) o

-- ---- arguments, by what `get_value` may answer at a name, and `get_implicit_value`

module _ (Value_at : List ℕ → Result (Option Value) Error → Type 0) (Found_at : List ℕ → Result Value Error → Type 0) where
  -- nothing was passed: what is found where the argument is implicit, or its default
  abbrev pub NotPassed : List ℕ → Argument → Bool → Outcome Pair → Type 0
  NotPassed n a true o = (answer : Result Value Error) × Found_at n answer × (o ≡ found_outcome n a answer)
  NotPassed n a false o = o ≡ default_of n a

  abbrev pub AfterAnswer : List ℕ → Argument → Result (Option Value) Error → Outcome Pair → Type 0
  AfterAnswer n a (Ok (Some v)) o = o ≡ of_type n a.typ (value_view v)
  AfterAnswer n a (Ok None) o = NotPassed n a a.implicit o
  AfterAnswer n a (Err e) o = o ≡ Passes e

  abbrev pub ArgumentComesTo : List ℕ × Argument → Outcome Pair → Type 0
  ArgumentComesTo a o = (answer : Result (Option Value) Error) × Value_at a.0 answer × AfterAnswer a.0 a.1 answer o

  -- the arguments in byte order, the first that has no value deciding; put after one another
  abbrev pub ArgumentsComeTo : List (List ℕ × Argument) → Outcome (List Pair) → Type 0
  ArgumentsComeTo arguments o = Then (InTurn ArgumentComesTo arguments) (λ given o. o ≡ Gives (put_all given [])) o

  -- ---- the call: the context has the arguments, then the rest parameter, then the body, a later one in
  -- the place of one before
  abbrev pub ContextComesTo : Definition → List (List ℕ) → List Pair → Outcome (List Pair) → Type 0
  ContextComesTo d names body o =
      Then (RestComesTo Value_at d.rest d.arguments (unknown d.arguments names))
      (λ rest o. Then (ArgumentsComeTo d.arguments) (λ given o. o ≡ Gives (put_all body (put_all rest given))) o) o

  -- the same, with the names that were provided
  abbrev pub BuildsContext : (List (Bor (List ℕ)) → Type 0) → Definition → Option Value → Outcome (List Pair) → Type 0
  BuildsContext Provided d body o = (names : List (Bor (List ℕ))) × Provided names × ContextComesTo d (texts names) (body_pairs body) o
