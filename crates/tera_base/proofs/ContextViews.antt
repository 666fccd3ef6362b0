-- A map in byte order beside the names and values that it stands for.
use Rattle.std.proofs.Common.{◌≡◌, ℕ, Bool, true, false, cond, List, [], ◌∷◌, map, Option, Some, None, String, string_bytes, Global, Ordering, Less, Equal, Greater, string_cmp, nat_cmp, Bor, refl, ◌∙◌}
use Rattle.std.specs.BTreeMap.{insert_entry, is_at}
use Rattle.std.specs.Cmp.Lexicographic.{slice_cmp}
use Rattle.std.specs.List.{AllByRecursion}
use Rattle.std.specs.List.Sorted.{IsStrictlySortedBy}
use Rattle.std.specs.Map.{lookup, keys_of}
use Rattle.std.specs.Option.{option_map, option_copied}
use Rattle.std.specs.Ordering.{match_ordering, is_eq}
use Rattle.std.proofs.lemmas.Map.Text.{is_eq-slice_cmp}
use Rattle.tera_base.specs.Contexts.{put, found, named_value}
use Rattle.tera_base.specs.ValueView.{value_view}
use Rattle.tera_base.specs.declared.values.Value.{Value}

abbrev pub Entry : Type 0
Entry = String Global × Value

seen_by_order : (o : Ordering) (a b c : List Entry) → map named_value (match_ordering o a b c) ≡ match_ordering o (map named_value a) (map named_value b) (map named_value c)
seen_by_order Less a b c = refl
seen_by_order Equal a b c = refl
seen_by_order Greater a b c = refl

pub put_entry : (es : List Entry) (k : String Global) (v : Value) → map named_value (insert_entry string_cmp es k v) ≡ put (string_bytes k) (value_view v) (map named_value es)
put_entry [] k v = refl
put_entry (e ∷ es) k v = seen_by_order (string_cmp k e.0) _ _ _ ∙ rw (put_entry es k v)

found_by : (b : Bool) (e : Entry) (o : Option Value) → option_map value_view (cond b (Some e.1) o) ≡ cond b (Some (value_view e.1)) (option_map value_view o)
found_by true e o = refl
found_by false e o = refl

pub found_entry : (n : List ℕ) (es : List Entry) → option_map value_view (lookup (is_at (λ k. slice_cmp nat_cmp n (string_bytes k))) es) ≡ found n (map named_value es)
found_entry n [] = refl
found_entry n (e ∷ es) = found_by (is_eq (slice_cmp nat_cmp n (string_bytes e.0))) e _ ∙ rw (is_eq-slice_cmp n (string_bytes e.0), found_entry n es)

pub seen_after : (o : Option (Bor Value)) → option_map (λ v. value_view v.now) o ≡ option_map value_view (option_copied o)
seen_after None = refl
seen_after (Some v) = refl

-- names that ascend as texts ascend as bytes
above : (k : String Global) (es : List Entry) → AllByRecursion (λ l. string_cmp k l ≡ Less) (keys_of es) → AllByRecursion (λ m. slice_cmp nat_cmp (string_bytes k) m ≡ Less) (keys_of (map named_value es))
above k [] all = tt
above k (e ∷ es) all = (all.0, above k es all.1)

pub ordered : (es : List Entry) → IsStrictlySortedBy string_cmp (keys_of es) → IsStrictlySortedBy (slice_cmp nat_cmp) (keys_of (map named_value es))
unfolding IsStrictlySortedBy
ordered [] h = tt
ordered (e ∷ es) h = (above e.0 es h.0, ordered es h.1)
