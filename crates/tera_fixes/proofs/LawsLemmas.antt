-- What is suggested is in the text, and has names that there are.
use Rattle.std.proofs.Common.{◌≡◌, ◌∙◌, ◌⊎◌, ◌+◌, ◌-◌, ◌<◌, ◌≤◌, ℕ, zero, suc, Bool, true, false, List, [], ◌∷◌, Option, None, Some, All, Contains, drop, find, get_or, length, map, inl, inr, refl, sym, ap, subst, take, arith}
use Rattle.std.specs.Prelude.{◌&&◌, ◌||◌, if◌then◌else◌, nat_le, not, slice_index}
use Rattle.std.specs.List.{filter, prefix_len}
use Rattle.std.specs.Option.{option_and_then, option_map}
use Rattle.std.specs.Str.{IsCharBoundary, bytes_eq}
use Rattle.std.proofs.lemmas.Bool.{cases_Bool, false≢true}
use Rattle.std.proofs.lemmas.Bool.Decides.{nat_tests}
use Rattle.std.proofs.lemmas.Option.{none-some, same_Some}
use Rattle.tera_base.specs.declared.utils.Span.{Span}
use Rattle.tera_templates.specs.Boundaries.{is_boundary}
use Rattle.tera_findings.specs.Findings.{FindingOf, FindingVal, FoundAs}
use Rattle.tera_rules.specs.Judged.{KnownVal}
use Rattle.tera_findings.specs.declared.finding.Kind.{Kind}
use Rattle.tera_findings.specs.declared.finding.Kind.TheVariants as kinds
use Rattle.tera_fixes.specs.Attributes.{AttributeVal, CallVal, attribute_at, call_at, passes}
use Rattle.tera_fixes.specs.Laws.{IsPartOf}
use Rattle.tera_fixes.specs.Meant.{has_at_most, is_meant, meant, meant_among}
use Rattle.tera_fixes.specs.Names.{free_of, free_parameters, parameter_names}
use Rattle.tera_fixes.specs.Parts.{argument_end, argument_part, between_characters, has_equals, has_room, has_word, is_closing, is_mark, name_before, part_after, part_at, part_before, part_ending, without_marks}
use Rattle.tera_fixes.specs.Suggestions.{ContextVal, SuggestionVal, argument_for, component_for, meant_parameter, name_parts, removal, removal_for, removed_argument, renamed_argument, renamed_call, renaming, suggestion_by, suggestion_of, with_last}
use Rattle.tera_fixes.specs.declared.parts.Part.{Part}

-- ---- what there is of an option

and_then_some : {X Y : Type 0} (f : X → Option Y) (o : Option X) (y : Y) → option_and_then f o ≡ Some y → (x : X) × (o ≡ Some x) × (f x ≡ Some y)
and_then_some f None y is = absurd (none-some y is)
and_then_some f (Some x) y is = (x, refl, is)

map_some : {X Y : Type 0} (f : X → Y) (o : Option X) (y : Y) → option_map f o ≡ Some y → (x : X) × (o ≡ Some x) × (f x ≡ y)
map_some f None y is = absurd (none-some y is)
map_some f (Some x) y is = (x, refl, same_Some (f x) y is)

if_some : {X : Type 0} (b : Bool) (x y : X) → (if b then Some x else None) ≡ Some y → (b ≡ true) × (x ≡ y)
if_some true x y is = (refl, same_Some x y is)
if_some false x y is = absurd (none-some y is)

if_any : {X : Type 0} (b : Bool) (o : Option X) (y : X) → (if b then o else None) ≡ Some y → o ≡ Some y
if_any true o y is = is
if_any false o y is = absurd (none-some y is)

both : (a b : Bool) → (a && b) ≡ true → (a ≡ true) × (b ≡ true)
both true b is = (refl, is)
both false b is = absurd (false≢true is)

-- ---- parts

boundary_from : (text : List ℕ) (at : ℕ) → is_boundary text at ≡ true → IsCharBoundary text at
boundary_from text at is = (grind (arith, nat_tests), λ less high. grind (arith, nat_tests))

at_part : (text word : List ℕ) (start : ℕ) (p : Part) → part_at text word start ≡ Some p → IsPartOf text p
at_part text word start p is =
    let made : Part = record { start = start; end = start + length word } in
    let (has, same) = if_some (has_word text word start) made p is in
    let rest = both (has_room text word start) _ has in
    let ends = both (bytes_eq _ word) _ rest.1 in
    let sides = both (is_boundary text start) (is_boundary text (start + length word)) ends.1 in
    let one : IsPartOf text made = record { order = omega arith; starts = boundary_from text start sides.0; ends = boundary_from text (start + length word) sides.1 } in
    subst (IsPartOf text) same one

after_part : (text word : List ℕ) (byte : ℕ) (p : Part) → part_after text word byte ≡ Some p → IsPartOf text p
after_part text word byte p is =
    let start : ℕ = byte + prefix_len is_mark (drop byte text) in
    at_part text word start p (if_any (nat_le byte (length text)) (part_at text word start) p is)

before_part : (text word : List ℕ) (byte : ℕ) (p : Part) → part_before text word byte ≡ Some p → IsPartOf text p
before_part text word byte p is =
    let end : ℕ = length (without_marks (take byte text)) in
    let ending : part_ending text word end ≡ Some p = if_any (nat_le byte (length text)) (part_ending text word end) p is in
    at_part text word (end - length word) p (if_any (nat_le (length word) end) (part_at text word (end - length word)) p ending)

-- the name of an argument
name_part : (text name : List ℕ) (byte : ℕ) (p : Part) → name_before text name byte ≡ Some p → IsPartOf text p
name_part text name byte p is =
    let (q, found, equals) = and_then_some (λ (q : Part). if has_equals text q.end byte then Some q else None) (part_before text name byte) p is in
    subst (IsPartOf text) (if_some (has_equals text q.end byte) q p equals).1 (before_part text name byte q found)

-- the argument itself
argument_is_part : (text : List ℕ) (start end : ℕ) (p : Part) → IsCharBoundary text start → argument_part text start end ≡ Some p → IsPartOf text p
argument_is_part text start end p starts is =
    let (e, found, made) = and_then_some (λ e. if nat_le start e then Some (record { start = start; end = e }) else None) (argument_end text end) p is in
    let (order, same) = if_some (nat_le start e) (record { start = start; end = e }) p made in
    let last : ℕ = end + prefix_len is_closing (drop end text) in
    let between : between_characters text last ≡ Some e = if_any (nat_le end (length text)) (between_characters text last) e found in
    let (bound, at) = if_some (is_boundary text last) last e between in
    let le : start ≤ e = grind (arith, nat_tests) in
    let one : IsPartOf text (record { start = start; end = e }) = record { order = le; starts = starts; ends = subst (IsCharBoundary text) at (boundary_from text last bound) } in
    subst (IsPartOf text) same one

all_one : (P : Part → Type 0) (p : Part) → P p → All P (p ∷ [])
all_one P p is zero d below = is
all_one P p is (suc k) d below = absurd (omega arith)

all_two : (P : Part → Type 0) (p q : Part) → P p → P q → All P (p ∷ q ∷ [])
all_two P p q first last zero d below = first
all_two P p q first last (suc zero) d below = last
all_two P p q first last (suc (suc k)) d below = absurd (omega arith)

-- of a call: one part, or two
by_body : (closed : Bool) (first : Part) (last : Option Part) (parts : List Part) → (if closed then Some (first ∷ []) else with_last first last) ≡ Some parts
    → (first ∷ [] ≡ parts) ⊎ ((p : Part) × (last ≡ Some p) × (first ∷ p ∷ [] ≡ parts))
by_body true first last parts is = inl (same_Some (first ∷ []) parts is)
by_body false first last parts is = inr (map_some (λ p. first ∷ p ∷ []) last parts is)

call_parts : (text : List ℕ) (c : CallVal) (span : Span) (parts : List Part) → name_parts text c span ≡ Some parts → All (IsPartOf text) parts
call_parts text c span parts is =
    let (first, found, rest) = and_then_some (λ (first : Part). if c.is_closed then Some (first ∷ []) else with_last first (part_before text c.name span.range.end))
    (part_after text c.name span.range.start) parts is in
    let start : IsPartOf text first = after_part text c.name span.range.start first found in
    elim (by_body c.is_closed first (part_before text c.name span.range.end) parts rest) [
      | inl one ↦ subst (All (IsPartOf text)) one (all_one (IsPartOf text) first start)
      | inr (last, there, two) ↦ subst (All (IsPartOf text)) two (all_two (IsPartOf text) first last start (before_part text c.name span.range.end last there))
    ]

-- ---- suggestions

-- the parts of one
component_parts : (x : ContextVal) (span : Span) (s : SuggestionVal) → component_for x span ≡ Some s → All (IsPartOf x.source) s.parts
component_parts x span s is =
    let (c, at, renamed) = and_then_some (renamed_call x span) (call_at x.calls span.range.start) s is in
    let (name, named, made) = and_then_some (λ (name : List ℕ). option_map (λ parts. renaming parts c.name name) (name_parts x.source c span)) (meant c.name x.names) s renamed in
    let (parts, there, same) = map_some (λ parts. renaming parts c.name name) (name_parts x.source c span) s made in
    subst (λ (v : SuggestionVal). All (IsPartOf x.source) v.parts) same (call_parts x.source c span parts there)

argument_parts : (x : ContextVal) (span : Span) (s : SuggestionVal) → argument_for x span ≡ Some s → All (IsPartOf x.source) s.parts
argument_parts x span s is =
    let (a, at, renamed) = and_then_some (renamed_argument x span.range.start) (attribute_at x.calls span.range.start) s is in
    let (part, there, made) = and_then_some (λ (part : Part). option_map (renaming (part ∷ []) a.name) (meant_parameter x.known a)) (name_before x.source a.name span.range.start) s renamed in
    let (name, named, same) = map_some (renaming (part ∷ []) a.name) (meant_parameter x.known a) s made in
    subst (λ (v : SuggestionVal). All (IsPartOf x.source) v.parts) same (all_one (IsPartOf x.source) part (name_part x.source a.name span.range.start part there))

removal_parts : (x : ContextVal) (span : Span) (s : SuggestionVal) → removal_for x span ≡ Some s → All (IsPartOf x.source) s.parts
removal_parts x span s is =
    let (a, at, removed) = and_then_some (removed_argument x span) (attribute_at x.calls span.range.start) s is in
    let (name, there, made) = and_then_some (λ (name : Part). option_map (removal a.name) (argument_part x.source name.start span.range.end)) (name_before x.source a.name span.range.start) s removed in
    let (part, cut, same) = map_some (removal a.name) (argument_part x.source name.start span.range.end) s made in
    let starts : IsCharBoundary x.source name.start = (name_part x.source a.name span.range.start name there).starts in
    subst (λ (v : SuggestionVal). All (IsPartOf x.source) v.parts) same (all_one (IsPartOf x.source) part (argument_is_part x.source name.start span.range.end part starts cut))

pub parts_in_text : (x : ContextVal) (f : FindingVal) (s : SuggestionVal) → suggestion_of x f ≡ Some s → All (IsPartOf x.source) s.parts
parts_in_text x (FoundAs kinds.UndefinedComponent severity span text notes) s is = component_parts x span s is
parts_in_text x (FoundAs kinds.UnknownArgument severity span text notes) s is = argument_parts x span s is
parts_in_text x (FoundAs kinds.RepeatedArgument severity span text notes) s is = removal_parts x span s is
parts_in_text x (FoundAs kinds.Fault severity span text notes) s is = absurd (none-some s is)
parts_in_text x (FoundAs kinds.MissingArgument severity span text notes) s is = absurd (none-some s is)
parts_in_text x (FoundAs kinds.WrongType severity span text notes) s is = absurd (none-some s is)
parts_in_text x (FoundAs kinds.UnusedBody severity span text notes) s is = absurd (none-some s is)
parts_in_text x (FoundAs kinds.UnusedParameter severity span text notes) s is = absurd (none-some s is)
parts_in_text x (FoundAs kinds.UnusedComponent severity span text notes) s is = absurd (none-some s is)
parts_in_text x (FoundAs kinds.DefinedAgain severity span text notes) s is = absurd (none-some s is)
parts_in_text x (FoundAs kinds.RepeatedKey severity span text notes) s is = absurd (none-some s is)
parts_in_text x (FoundAs kinds.RepeatedCondition severity span text notes) s is = absurd (none-some s is)
parts_in_text x (FoundAs kinds.UnusedIgnore severity span text notes) s is = absurd (none-some s is)
parts_in_text x (FoundAs kinds.UnknownFilter severity span text notes) s is = absurd (none-some s is)
parts_in_text x (FoundAs kinds.UnknownTest severity span text notes) s is = absurd (none-some s is)
parts_in_text x (FoundAs kinds.UnknownFunction severity span text notes) s is = absurd (none-some s is)
parts_in_text x (FoundAs kinds.MissingTemplate severity span text notes) s is = absurd (none-some s is)
parts_in_text x (FoundAs kinds.CircularExtends severity span text notes) s is = absurd (none-some s is)
parts_in_text x (FoundAs kinds.CircularInclude severity span text notes) s is = absurd (none-some s is)
parts_in_text x (FoundAs kinds.UndefinedBlock severity span text notes) s is = absurd (none-some s is)
parts_in_text x (FoundAs kinds.SuperWithoutParent severity span text notes) s is = absurd (none-some s is)

-- ---- names

-- one further
later : {X : Type 0} (x y : X) (xs : List X) → Contains xs y → Contains (x ∷ xs) y
later x y xs (k, below, at) = (suc k, omega arith, at)

find_on : {X : Type 0} (p : X → Bool) (x : X) (xs : List X) → p x ≡ true → find p (x ∷ xs) ≡ Some x
find_on p x xs passes = rw passes refl

find_off : {X : Type 0} (p : X → Bool) (x : X) (xs : List X) → p x ≡ false → find p (x ∷ xs) ≡ find p xs
find_off p x xs fails = rw fails refl

found_is_there : {X : Type 0} (p : X → Bool) (xs : List X) (y : X) → find p xs ≡ Some y → Contains xs y
found_is_there p [] y is = absurd (none-some y is)
found_is_there p (x ∷ xs) y is =
    elim (cases_Bool (p x)) [
      | inl passes ↦
          let same : x ≡ y = same_Some x y (sym (find_on p x xs passes) ∙ is) in
          (0, omega arith, same)
      | inr fails ↦ later x y xs (found_is_there p xs y (sym (find_off p x xs fails) ∙ is))
    ]

filter_on : {X : Type 0} (p : X → Bool) (x : X) (xs : List X) → p x ≡ true → filter p (x ∷ xs) ≡ x ∷ filter p xs
filter_on p x xs passes = rw passes refl

filter_off : {X : Type 0} (p : X → Bool) (x : X) (xs : List X) → p x ≡ false → filter p (x ∷ xs) ≡ filter p xs
filter_off p x xs fails = rw fails refl

kept_first : {X : Type 0} (x y : X) (ks xs : List X) → (Contains ks y → Contains xs y) → Contains (x ∷ ks) y → Contains (x ∷ xs) y
kept_first x y ks xs up (zero, below, at) = (0, omega arith, at)
kept_first x y ks xs up (suc k, below, at) = later x y xs (up (k, omega arith, at))

kept_is_there : {X : Type 0} (p : X → Bool) (xs : List X) (y : X) → Contains (filter p xs) y → Contains xs y
kept_is_there p [] y has = has
kept_is_there p (x ∷ xs) y has =
    elim (cases_Bool (p x)) [
      | inl passes ↦ kept_first x y (filter p xs) xs (kept_is_there p xs y) (subst (λ ys. Contains ys y) (filter_on p x xs passes) has)
      | inr fails ↦ later x y xs (kept_is_there p xs y (subst (λ ys. Contains ys y) (filter_off p x xs fails) has))
    ]

meant_is_there : (word : List ℕ) (names : List (List ℕ)) (name : List ℕ) → meant word names ≡ Some name → Contains names name
meant_is_there word names name is =
    let short : List (List ℕ) = filter (has_at_most 200) names in
    let among : meant_among word short ≡ Some name = if_any (has_at_most 100 word) (meant_among word short) name is in
    kept_is_there (has_at_most 200) names name (found_is_there (is_meant word short) short name among)

pub component_exists : (x : ContextVal) (span : Span) (s : SuggestionVal) → component_for x span ≡ Some s → Contains x.names s.text
component_exists x span s is =
    let (c, at, renamed) = and_then_some (renamed_call x span) (call_at x.calls span.range.start) s is in
    let (name, named, made) = and_then_some (λ (name : List ℕ). option_map (λ parts. renaming parts c.name name) (name_parts x.source c span)) (meant c.name x.names) s renamed in
    let (parts, there, same) = map_some (λ parts. renaming parts c.name name) (name_parts x.source c span) s made in
    subst (λ (v : SuggestionVal). Contains x.names v.text) same (meant_is_there c.name x.names name named)

pub argument_exists : (x : ContextVal) (span : Span) (s : SuggestionVal) → argument_for x span ≡ Some s
    → (name : List ℕ) × (k : KnownVal) × (x.known name ≡ Some k) × Contains (parameter_names k.definition) s.text
argument_exists x span s is =
    let (a, at, renamed) = and_then_some (renamed_argument x span.range.start) (attribute_at x.calls span.range.start) s is in
    let (part, there, made) = and_then_some (λ (part : Part). option_map (renaming (part ∷ []) a.name) (meant_parameter x.known a)) (name_before x.source a.name span.range.start) s renamed in
    let (name, named, same) = map_some (renaming (part ∷ []) a.name) (meant_parameter x.known a) s made in
    let (k, known, is_meant_there) = and_then_some (λ (k : KnownVal). meant a.name (free_parameters k.definition a.call)) (x.known a.call.name) name named in
    let names = parameter_names k.definition in
    let free : Contains (free_of a.call names) name = meant_is_there a.name (free_of a.call names) name is_meant_there in
    (a.call.name, k, known, subst (λ (v : SuggestionVal). Contains names v.text) same (kept_is_there (λ n. not (passes a.call n)) names name free))
