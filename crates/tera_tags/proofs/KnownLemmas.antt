-- Names that were met.
use Rattle.std.proofs.Common.{◌≡◌, Bool, true, false, cond, List, ℕ, [], ◌∷◌, Option, Some, None, is_some, option_copied, Global, String, string_bytes, string_cmp, refl, sym, ap, ◌∙◌}
use Rattle.std.proofs.lemmas.Map.Text.{btree_map_updates_text, is_eq-slice_cmp}
use Rattle.std.proofs.lemmas.Slice.Eq.{bytes_eq-Decides}
use Rattle.std.proofs.lemmas.Cmp.{nat_list_eq_equiv}
use Rattle.std.specs.Borrow.{Bor}
use Rattle.std.specs.BTreeMap.{BTreeMap, Updates, get_by_text}
use Rattle.std.specs.Cmp.Lexicographic.{slice_cmp}
use Rattle.std.specs.List.{AllByRecursion}
use Rattle.std.specs.List.Sorted.{IsStrictlySortedBy}
use Rattle.std.specs.Map.{keys_of, lookup}
use Rattle.std.specs.Option.{option_map, option_or}
use Rattle.std.specs.Ordering.{is_eq, nat_cmp}
use Rattle.std.specs.Str.{bytes_eq}
use Rattle.std.specs.declared.cmp.Ordering.TheVariants.{Less}
use Rattle.tera_base.specs.declared.utils.Span.{Span}
use Rattle.tera_grammar.specs.statements.Reading.Meeting.{Grouped, Located, group, locate, nothing_located}
use Rattle.tera_expect.specs.Taking.{name_in}
use Rattle.tera_tags.specs.Known.{grouped_of, located_of, met_of}

-- what is lent is there where it is found
some_copied : (r : Option (Bor Span)) → is_some r ≡ is_some (option_copied r)
some_copied None = refl
some_copied (Some s) = refl

pub known_as : (names : BTreeMap (String Global) Span) (name : List ℕ) (r : Option (Bor Span)) → option_copied r ≡ get_by_text names name → is_some r ≡ met_of names name
known_as names name r h = some_copied r ∙ ap is_some h

-- where none is kept, none was met
pub none_located : (names : BTreeMap (String Global) Span) → names.entries ≡ [] → located_of names ≡ nothing_located
none_located names h = λ i name. lookup (λ k. is_eq (slice_cmp nat_cmp name (string_bytes k))) (h i)

-- a name that is kept is met where it is
pub kept_at : (old new : BTreeMap (String Global) Span) (key : String Global) (span : Span) → Updates string_cmp old new key (Some span)
    → located_of new ≡ locate (name_in (string_bytes key) span) (located_of old)
kept_at old new key span h = λ i name. btree_map_updates_text (string_bytes key) old new (Some span) h name i

pub same_place : (located : Located) {text other : List ℕ} {span there : Span} → text ≡ other → span ≡ there → locate (name_in text span) located ≡ locate (name_in other there) located
same_place located same represents = λ i. locate (name_in (same i) (represents i)) located

-- the test by which a name is looked for
abbrev looked_for : List ℕ → String Global → Bool
looked_for name = λ k. is_eq (slice_cmp nat_cmp name (string_bytes k))

same_test : (name : List ℕ) (k : String Global) → bytes_eq (string_bytes k) name ≡ looked_for name k
same_test name k = nat_list_eq_equiv.symm (string_bytes k) name ∙ sym (is_eq-slice_cmp name (string_bytes k))

-- What is kept under names, each as it is viewed.
module _ {V A : Type 0} (view : V → A) where
  -- the entries are kept one after another
  abbrev pub put_all : List (String Global × V) → (List ℕ → Option A) → List ℕ → Option A
  put_all [] f = f
  put_all (e ∷ es) f = put_all es (λ name. cond (bytes_eq (string_bytes e.0) name) (Some (view e.1)) (f name))

  abbrev pub viewed : BTreeMap (String Global) V → List ℕ → Option A
  viewed m = λ name. option_map view (get_by_text m name)

  one_viewed : (b : Bool) (v : V) (r : Option V) → option_map view (cond b (Some v) r) ≡ cond b (Some (view v)) (option_map view r)
  one_viewed true v r = refl
  one_viewed false v r = refl

  pub put_at : (old new : BTreeMap (String Global) V) (key : String Global) (v : V) → Updates string_cmp old new key (Some v)
      → viewed new ≡ (λ name. cond (bytes_eq (string_bytes key) name) (Some (view v)) (viewed old name))
  put_at old new key v h =
      let is : (name : List ℕ) → viewed new name ≡ cond (bytes_eq (string_bytes key) name) (Some (view v)) (viewed old name) = λ name.
      ap (option_map view) (btree_map_updates_text (string_bytes key) old new (Some v) h name) ∙ one_viewed (bytes_eq (string_bytes key) name) v (get_by_text old name) in
      λ i name. is name i

  -- keys ascend, so after one that is found none is
  none_after : (name : List ℕ) (k : String Global) (es : List (String Global × V)) → looked_for name k ≡ true → AllByRecursion (λ j. string_cmp k j ≡ Less) (keys_of es)
      → lookup (looked_for name) es ≡ None
  none_after name k [] found above = refl
  none_after name k (e ∷ es) found above =
      let same : name ≡ string_bytes k = (bytes_eq-Decides name (string_bytes k)).0 (sym (is_eq-slice_cmp name (string_bytes k)) ∙ found) in
      let apart : looked_for name e.0 ≡ false = ap (λ t. is_eq (slice_cmp nat_cmp t (string_bytes e.0))) same ∙ ap is_eq above.0 in
      rw apart (none_after name k es found above.1)

  -- so it is the same to keep the entries one after another
  entries_put : (name : List ℕ) (es : List (String Global × V)) (f : List ℕ → Option A) → IsStrictlySortedBy string_cmp (keys_of es)
      → put_all es f name ≡ option_or (option_map view (lookup (looked_for name) es)) (f name)
  unfolding IsStrictlySortedBy
  entries_put name [] f sorted = refl
  entries_put name (e ∷ es) f sorted =
      entries_put name es (λ other. cond (bytes_eq (string_bytes e.0) other) (Some (view e.1)) (f other)) sorted.1 ∙ by (looked_for name e.0) refl
    where
      by : (b : Bool) → looked_for name e.0 ≡ b
          → option_or (option_map view (lookup (looked_for name) es)) (cond (bytes_eq (string_bytes e.0) name) (Some (view e.1)) (f name))
          ≡ option_or (option_map view (cond (looked_for name e.0) (Some e.1) (lookup (looked_for name) es))) (f name)
      by true h = rw (same_test name e.0, h, none_after name e.0 es h sorted.0) refl
      by false h = rw (same_test name e.0, h) refl

  or_nothing : (o : Option A) → option_or o None ≡ o
  or_nothing None = refl
  or_nothing (Some a) = refl

  pub all_put : (names : BTreeMap (String Global) V) → IsStrictlySortedBy string_cmp (keys_of names.entries) → put_all names.entries (λ name. None) ≡ viewed names
  all_put names sorted =
      let is : (name : List ℕ) → put_all names.entries (λ other. None) name ≡ viewed names name = λ name.
      entries_put name names.entries (λ other. None) sorted ∙ or_nothing (option_map view (lookup (looked_for name) names.entries)) in
      λ i name. is name i

-- a place is viewed as itself
place_viewed : (o : Option Span) → option_map (λ s. s) o ≡ o
place_viewed None = refl
place_viewed (Some s) = refl

pub places_viewed : (names : BTreeMap (String Global) Span) → viewed (λ s. s) names ≡ located_of names
places_viewed names = λ i name. place_viewed (get_by_text names name) i

-- the parameters of a component are kept under its name
pub group_kept : (old new : BTreeMap (String Global) (BTreeMap (String Global) Span)) (key : String Global) (names : BTreeMap (String Global) Span) → Updates string_cmp old new key (Some names)
    → grouped_of new ≡ group (string_bytes key) (located_of names) (grouped_of old)
group_kept old new key names h = put_at located_of old new key names h

pub same_group : (grouped : Grouped) {text other : List ℕ} {names more : Located} → text ≡ other → names ≡ more → group text names grouped ≡ group other more grouped
same_group grouped same stand = λ i. group (same i) (stand i) grouped
