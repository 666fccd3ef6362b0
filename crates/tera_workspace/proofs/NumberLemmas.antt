-- The document of a number that was found by a name.
use Rattle.std.proofs.Common.{◌≡◌, ◌∙◌, ◌<◌, ◌+◌, ℕ, zero, suc, List, [], ◌∷◌, length, get_or, false, cond, Result, Ok, Err, MatchResult, refl, sym, ap, inl, inr, arith, rules, tests}
use Rattle.std.proofs.lemmas.Bool.Decides.{leb_tells}
use Rattle.std.proofs.lemmas.Cmp.{nat_list_cmp_total}
use Rattle.std.proofs.lemmas.List.Sorted.{searchable_from_sorted}
use Rattle.std.proofs.lemmas.Map.Text.{is_eq-slice_cmp}
use Rattle.std.proofs.lemmas.Slice.Eq.{bytes_eq-Decides}
use Rattle.std.specs.Cmp.Lexicographic.{slice_cmp}
use Rattle.std.specs.List.Sorted.{IsSearchInRange, IsBinarySearchResult, IsNonDecreasingBy, IsPartitionPoint, IsSortedBy}
use Rattle.std.specs.Ordering.{nat_cmp, is_eq, is_gt, is_lt, ordering_index, ordering_reverse}
use Rattle.std.specs.declared.cmp.Ordering.{Ordering}
use Rattle.std.specs.declared.cmp.Ordering.TheVariants.{Less, Equal, Greater}
use Rattle.text_edits.specs.Lines.{lines_of}
use Rattle.text_edits.specs.Positions.{is_boundary, boundary_to, position_of}
use Rattle.text_edits.specs.declared.positions.Encoding.{Encoding}
use Rattle.tera_workspace.specs.Diagnostics.{position_in}
use Rattle.tera_workspace.specs.Kept.{name_of, sources_of, reported_of, reported_named, has_name, NoneBefore, IsNumbered, IsNewPlace}
use Rattle.tera_workspace.specs.Sources.{AreAscending, text_named}
use Rattle.tera_workspace.specs.declared.judged.Judged.{Judged}
use Rattle.tera_workspace.proofs.SettleLemmas.{names_at}

pub text_numbered : (name : List ℕ) (js : List Judged) (k : ℕ) (d : Judged) → IsNumbered name js k → text_named name (sources_of js) ≡ (get_or js k d).text
text_numbered name [] k d h = absurd (omega (arith, h.within))
text_numbered name (j ∷ js) zero d h = ap (λ b. cond b j.text (text_named name (sources_of js))) (h.is d)
text_numbered name (j ∷ js) (suc k) d h =
    ap (λ b. cond b j.text (text_named name (sources_of js))) (h.first 0 d (omega arith))
    ∙ text_numbered name js k d (record { within = omega (arith, h.within); is = h.is; first = λ m e below. h.first (suc m) e (omega arith) })

pub reported_numbered : (name : List ℕ) (js : List Judged) (k : ℕ) (d : Judged) → IsNumbered name js k → reported_named name js ≡ reported_of (get_or js k d)
reported_numbered name [] k d h = absurd (omega (arith, h.within))
reported_numbered name (j ∷ js) zero d h = ap (λ b. cond b (reported_of j) (reported_named name js)) (h.is d)
reported_numbered name (j ∷ js) (suc k) d h =
    ap (λ b. cond b (reported_of j) (reported_named name js)) (h.first 0 d (omega arith))
    ∙ reported_numbered name js k d (record { within = omega (arith, h.within); is = h.is; first = λ m e below. h.first (suc m) e (omega arith) })

pub text_nowhere : (name : List ℕ) (js : List Judged) → NoneBefore name js (length js) → text_named name (sources_of js) ≡ []
text_nowhere name [] h = refl
text_nowhere name (j ∷ js) h =
    ap (λ b. cond b j.text (text_named name (sources_of js))) (h 0 j (omega arith)) ∙ text_nowhere name js (λ m e below. h (suc m) e (omega arith))

pub reported_nowhere : (name : List ℕ) (js : List Judged) → NoneBefore name js (length js) → reported_named name js ≡ []
reported_nowhere name [] h = refl
reported_nowhere name (j ∷ js) h =
    ap (λ b. cond b (reported_of j) (reported_named name js)) (h 0 j (omega arith)) ∙ reported_nowhere name js (λ m e below. h (suc m) e (omega arith))

-- in no text each byte is at the beginning
no_boundary : (byte : ℕ) → is_boundary [] (suc byte) ≡ false
no_boundary byte = search (rules, tests)

none_to : (byte : ℕ) → boundary_to [] byte ≡ 0
none_to zero = refl
none_to (suc byte) = ap (λ b. cond b (suc byte) (boundary_to [] byte)) (no_boundary byte) ∙ none_to byte

pub nowhere : (e : Encoding) (byte : ℕ) → position_in e [] byte ≡ record { line = 0; character = 0 }
unfolding lines_of
nowhere e byte = ap (position_of e (lines_of [])) (none_to byte)

-- ---- where a search by the order of the names ends

-- of two documents the earlier one has the lesser name
earlier_less : (js : List Judged) (i k : ℕ) (d : Judged) → AreAscending (sources_of js) → i < k → k < length js → slice_cmp nat_cmp (name_of (get_or js i d)) (name_of (get_or js k d)) ≡ Less
earlier_less [] i k d o before within = absurd (omega arith)
earlier_less (j ∷ js) i zero d o before within = absurd (omega arith)
earlier_less (j ∷ js) zero (suc k) d o before within = names_at js k d (λ n. slice_cmp nat_cmp (name_of j) n ≡ Less) (omega arith) o.0
earlier_less (j ∷ js) (suc i) (suc k) d o before within = earlier_less js i k d o.1 (omega arith) (omega arith)

module _ (name : List ℕ) (js : List Judged) (o : AreAscending (sources_of js)) where
  are_sorted : IsSortedBy (λ a b. is_lt (slice_cmp nat_cmp (name_of a) (name_of b))) js
  are_sorted k d low high =
      ap is_lt
      (nat_list_cmp_total.antisymm (name_of (get_or js (k + 1) d)) (name_of (get_or js k d))
      ∙ ap ordering_reverse (earlier_less js k (k + 1) d o (omega arith) high))

  rises : IsNonDecreasingBy (λ j. ordering_index (slice_cmp nat_cmp (name_of j) name)) js
  rises = searchable_from_sorted nat_list_cmp_total name_of js name are_sorted

  by_order : (j : Judged) (r : Ordering) → slice_cmp nat_cmp (name_of j) name ≡ r → has_name name j ≡ is_eq r
  by_order j r e = sym (is_eq-slice_cmp (name_of j) name) ∙ ap is_eq e

  is_named : (j : Judged) → slice_cmp nat_cmp (name_of j) name ≡ Equal → name_of j ≡ name
  is_named j e = (bytes_eq-Decides (name_of j) name).0 (by_order j Equal e)

  -- at one of the name, or where it would be
  pub place_found : (r : Result ℕ ℕ) → IsSearchInRange r (length js) → IsBinarySearchResult (λ j. slice_cmp nat_cmp (name_of j) name) js r → MatchResult r (IsNumbered name js) (IsNewPlace name js)
  place_found (Ok k) within at = record {
    within = within;
    is = λ d. by_order (get_or js k d) Equal (at d);
    first = λ m d before.
        by_order (get_or js m d) Less (sym (ap (slice_cmp nat_cmp (name_of (get_or js m d))) (is_named (get_or js k d) (at d))) ∙ earlier_less js m k d o before within);
  }
  place_found (Err k) within parted = by (parted rises)
    where
      by : IsPartitionPoint (λ j. slice_cmp nat_cmp (name_of j) name ≡ Less) (λ j. slice_cmp nat_cmp (name_of j) name ≡ Greater) js k → IsNewPlace name js k
      by (below, above) = record {
        none = λ m d h. elim (leb_tells (suc m) k) [
          | inl w ↦ by_order (get_or js m d) Less (below m d (omega arith) (omega (arith, w.1)))
          | inr w ↦ by_order (get_or js m d) Greater (above m d (omega (arith, w.1)) h)
        ];
        within = within;
        before = λ m d h. ap is_gt (below m d (omega arith) h);
        following = λ d h. ap is_gt (above k d (omega arith) h);
      }
