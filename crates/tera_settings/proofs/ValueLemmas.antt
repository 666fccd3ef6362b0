-- What values say, element by element.
use Rattle.std.proofs.Common.{◌≡◌, ◌∙◌, ◌+◌, ◌<◌, Bool, true, false, Bor, bytes_eq, cond, drop, find, not, get_or, length, List, [], ◌∷◌, ◌++◌, Option, None, Some, ℕ, String, BTreeMap, Global, map, string_bytes, refl, ap, sym, append_assoc}
use Rattle.std.specs.Map.{keys_of}
use Rattle.std.proofs.lemmas.List.{append-nil, drop_more, map-append}
use Rattle.std.specs.Option.{option_map}
use Rattle.toml.specs.Data.{Data, Members, get_member}
use Rattle.toml.specs.View.{items_view, members_view, view}
use Rattle.toml.specs.declared.value.Value.{Value}
use Rattle.toml.specs.Data.{as_str}
use Rattle.tera_settings.specs.Levels.{level_of, rule_levels, rule_of, rule_view}
use Rattle.tera_settings.specs.Values.{each_of, entries_of, is_among, setting, setting_at, texts, texts_in, unknown_key, values_of, with_first}
use Rattle.tera_settings.specs.declared.settings.Level.{Level}
use Rattle.tera_settings.specs.declared.settings.RuleLevel.{RuleLevel}

abbrev pub Entry : Type 0
Entry = String Global × Value

abbrev pub entry_view : Entry → List ℕ × Data
entry_view e = (string_bytes e.0, view e.1)

pub values_of-view : (vs : List Value) → values_of (items_view vs) ≡ map view vs
values_of-view [] = refl
values_of-view (v ∷ vs) = ap (λ ds. view v ∷ ds) (values_of-view vs)

pub entries_of-view : (es : List Entry) → entries_of (members_view es) ≡ map entry_view es
entries_of-view [] = refl
entries_of-view (e ∷ es) = ap (λ more. entry_view e ∷ more) (entries_of-view es)

pub keys_of-view : (es : List Entry) → map (λ (e : List ℕ × Data). e.0) (entries_of (members_view es)) ≡ map string_bytes (keys_of es)
keys_of-view [] = refl
keys_of-view (e ∷ es) = ap (λ more. string_bytes e.0 ∷ more) (keys_of-view es)

-- those that were found, before those that are to come
abbrev pub after : {B : Type 0} → List B → Option (List B) → Option (List B)
after ys None = None
after ys (Some more) = Some (ys ++ more)

-- one more is found
pub after-next : {B : Type 0} (ys : List B) (y : B) (more : Option (List B)) → after ys (with_first (Some y) more) ≡ after (ys ++ y ∷ []) more
after-next ys y None = refl
after-next ys y (Some more) = ap Some (sym (append_assoc ys (y ∷ []) more))

pub after-nothing : {B : Type 0} (more : Option (List B)) → after [] more ≡ more
after-nothing None = refl
after-nothing (Some more) = refl

-- one that is nothing
pub after-none : {B : Type 0} (ys : List B) (more : Option (List B)) → after ys (with_first None more) ≡ None
after-none ys more = refl

-- ---- a value at a key

-- what is found
abbrev pub found_view : Option (Bor Value) → Option Data
found_view = option_map (λ v. view v.now)

pub absent : {A : Type 0} (f : Data → Option A) (found : Option (Bor Value)) (key : List ℕ) (ms : Members) → found_view found ≡ get_member key ms → found ≡ None
    → setting_at f key ms ≡ Some None
absent f found key ms same is = ap (setting f) (sym same ∙ ap found_view is)

pub present : {A : Type 0} (f : Data → Option A) (found : Option (Bor Value)) (value : Bor Value) (x : A) (key : List ℕ) (ms : Members) → found_view found ≡ get_member key ms
    → found ≡ Some value → f (view value.now) ≡ Some x → setting_at f key ms ≡ Some (Some x)
present f found value x key ms same is reads = ap (setting f) (sym same ∙ ap found_view is) ∙ ap (option_map Some) reads

pub unfit : {A : Type 0} (f : Data → Option A) (found : Option (Bor Value)) (value : Bor Value) (key : List ℕ) (ms : Members) → found_view found ≡ get_member key ms → found ≡ Some value
    → f (view value.now) ≡ None → setting_at f key ms ≡ None
unfit f found value key ms same is reads = ap (setting f) (sym same ∙ ap found_view is) ∙ ap (option_map Some) reads

pub ruleset at_key = (absent, present, unfit)

-- ---- names

abbrev pub no_name : Bor (List ℕ)
no_name = record { ref_ptr = (0, 0); now = [] }

pub among_here : (key : List ℕ) (names : List (Bor (List ℕ))) (i : ℕ) → i < length names → bytes_eq (get_or names i no_name).now key ≡ true → is_among (texts (drop i names)) key ≡ true
among_here key names i below same = rw (drop_more names i no_name below, same) refl

pub among_later : (key : List ℕ) (names : List (Bor (List ℕ))) (i : ℕ) → i < length names → bytes_eq (get_or names i no_name).now key ≡ false
    → is_among (texts (drop i names)) key ≡ is_among (texts (drop (i + 1) names)) key
among_later key names i below other = rw (drop_more names i no_name below, other) refl

-- ---- texts in an array

-- what is said of the values from an index on
abbrev pub TextsFrom : List Value → ℕ → List (String Global) → Type 0
TextsFrom items i texts = texts_in (items_view items) ≡ after (map string_bytes texts) (texts_in (items_view (drop i items)))

at_value : (items : List Value) (i : ℕ) (value : Value) → i < length items → value ≡ get_or items i value
    → texts_in (items_view (drop i items)) ≡ with_first (as_str (view value)) (texts_in (items_view (drop (i + 1) items)))
at_value items i value below is =
    ap (λ vs. texts_in (items_view vs)) (drop_more items i value below) ∙ ap (λ v. texts_in (items_view (v ∷ drop (i + 1) items))) (sym is)

pub texts_next : (items : List Value) (i : ℕ) (value : Value) (before now : List (String Global)) (text : String Global) → i < length items → value ≡ get_or items i value
    → as_str (view value) ≡ Some (string_bytes text) → TextsFrom items i before → now ≡ before ++ text ∷ [] → TextsFrom items (i + 1) now
texts_next items i value before now text below is reads held step =
    let rest = texts_in (items_view (drop (i + 1) items)) in
    held
    ∙ ap (after (map string_bytes before)) (at_value items i value below is ∙ ap (λ t. with_first t rest) reads)
    ∙ after-next (map string_bytes before) (string_bytes text) rest
    ∙ ap (λ ts. after ts rest) (sym (ap (map string_bytes) step ∙ map-append string_bytes before (text ∷ [])))

pub texts_stop : (items : List Value) (i : ℕ) (value : Value) (before : List (String Global)) → i < length items → value ≡ get_or items i value
    → as_str (view value) ≡ None → TextsFrom items i before → texts_in (items_view items) ≡ None
texts_stop items i value before below is reads held =
    let rest = texts_in (items_view (drop (i + 1) items)) in
    held
    ∙ ap (after (map string_bytes before)) (at_value items i value below is ∙ ap (λ t. with_first t rest) reads)
    ∙ after-none (map string_bytes before) rest

pub after-all : {B : Type 0} (ys : List B) → after ys (Some []) ≡ Some ys
after-all ys = ap Some (append-nil ys)

-- ---- keys of a table

abbrev pub first_unknown : List (List ℕ) → List (String Global) → Option (List ℕ)
first_unknown names keys = find (λ key. not (is_among names key)) (map string_bytes keys)

pub unknown_first : (names : List (List ℕ)) (es : List Entry) → unknown_key names (members_view es) ≡ first_unknown names (keys_of es)
unknown_first names es = ap (find (λ key. not (is_among names key))) (keys_of-view es)

pub unknown_later : (names : List (List ℕ)) (left rest : List (String Global)) (k : String Global) (n : List ℕ) → left ≡ k ∷ rest → n ≡ string_bytes k → true ≡ is_among names n
    → first_unknown names left ≡ first_unknown names rest
unknown_later names left rest k n e named is =
    let known : is_among names (string_bytes k) ≡ true = ap (is_among names) (sym named) ∙ sym is in
    ap (first_unknown names) e ∙ rw known refl

pub unknown_here : (names : List (List ℕ)) (left rest : List (String Global)) (k : String Global) (n : List ℕ) → left ≡ k ∷ rest → n ≡ string_bytes k → false ≡ is_among names n
    → first_unknown names left ≡ Some n
unknown_here names left rest k n e named is =
    let unknown : is_among names (string_bytes k) ≡ false = ap (is_among names) (sym named) ∙ sym is in
    ap (first_unknown names) e ∙ rw unknown (ap Some (sym named))

pub unknown_none : (names : List (List ℕ)) (left : List (String Global)) → left ≡ [] → first_unknown names left ≡ None
unknown_none names left e = ap (first_unknown names) e

-- ---- rules

-- what is said of the ms that are left
abbrev pub RulesFrom : List (List ℕ) → List Entry → List Entry → List RuleLevel → Type 0
RulesFrom names all left rules = rule_levels names (members_view all) ≡ after (map rule_view rules) (rule_levels names (members_view left))

pub rules_next : (names : List (List ℕ)) (all left rest : List Entry) (e : Entry) (before now : List RuleLevel) (rule : RuleLevel) → left ≡ e ∷ rest
    → rule_of names (entry_view e) ≡ Some (rule_view rule) → RulesFrom names all left before → now ≡ before ++ rule ∷ [] → RulesFrom names all rest now
rules_next names all left rest e before now rule is reads held step =
    let more = rule_levels names (members_view rest) in
    held
    ∙ ap (λ es. after (map rule_view before) (rule_levels names (members_view es))) is
    ∙ ap (λ r. after (map rule_view before) (with_first r more)) reads
    ∙ after-next (map rule_view before) (rule_view rule) more
    ∙ ap (λ rs. after rs more) (sym (ap (map rule_view) step ∙ map-append rule_view before (rule ∷ [])))

pub rules_stop : (names : List (List ℕ)) (all left rest : List Entry) (e : Entry) (before : List RuleLevel) → left ≡ e ∷ rest → rule_of names (entry_view e) ≡ None
    → RulesFrom names all left before → rule_levels names (members_view all) ≡ None
rules_stop names all left rest e before is reads held =
    let more = rule_levels names (members_view rest) in
    held
    ∙ ap (λ es. after (map rule_view before) (rule_levels names (members_view es))) is
    ∙ ap (λ r. after (map rule_view before) (with_first r more)) reads
    ∙ after-none (map rule_view before) more

pub rules_done : (names : List (List ℕ)) (all left : List Entry) (rules : List RuleLevel) → left ≡ [] → RulesFrom names all left rules
    → rule_levels names (members_view all) ≡ Some (map rule_view rules)
rules_done names all left rules is held =
    held ∙ ap (λ es. after (map rule_view rules) (rule_levels names (members_view es))) is ∙ after-all (map rule_view rules)

-- a rule by another name of the same bytes
pub named_as : (names : List (List ℕ)) (name key : List ℕ) (d : Data) (level : Level) (text : String Global) → name ≡ key → string_bytes text ≡ name
    → rule_of names (name, d) ≡ Some (name, level) → rule_of names (key, d) ≡ Some (string_bytes text, level)
named_as names name key d level text same copied reads =
    ap (λ n. rule_of names (n, d)) (sym same) ∙ reads ∙ ap (λ n. Some (n, level)) (sym copied)
