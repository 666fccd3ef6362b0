-- What stays so where all documents are marked, if one may define more components than its tree now and none did before, or
-- the other way round.
use Rattle.std.proofs.Common.{◌≡◌, ◌∙◌, ◌<◌, ◌≤◌, ◌+◌, ◌||◌, ℕ, zero, suc, List, [], ◌∷◌, ◌++◌, length, take, drop, get_or, set, map, Bool, true, false, cond, string_bytes, refl, sym, ap, subst, arith}
use Rattle.std.specs.List.{list_any, insert}
use Rattle.std.specs.Str.{bytes_eq}
use Rattle.std.proofs.lemmas.List.Edits.{map_over_more}
use Rattle.tera_templates.specs.Lost.{is_open, are_open}
use Rattle.text_edits.specs.declared.positions.Encoding.{Encoding}
use Rattle.tera_workspace.specs.Kept.{source_of, sources_of, templates_of, reported_of, reported_named, AllWhole, AreCurrent, StayKept, IsTextAt, made_stale, marked, marked_if, marked_since, open_if}
use Rattle.tera_workspace.specs.Sources.{AreAscending, text_named}
use Rattle.tera_workspace.specs.declared.judged.Judged.{Judged}
use Rattle.tera_workspace.proofs.CurrentLemmas.{map_length, marked_at, marked_length}

false_true : false ≡ true → ⊥
false_true e = cc

-- ---- all are marked

stale_whole : (js : List Judged) → AllWhole js → AllWhole (map made_stale js)
stale_whole [] w = tt
stale_whole (j ∷ js) w = (record { read = w.0.read; names = w.0.names; page = w.0.page }, stale_whole js w.1)

stale_sources : (js : List Judged) → sources_of (map made_stale js) ≡ sources_of js
stale_sources [] = refl
stale_sources (j ∷ js) = ap (λ ss. source_of j ∷ ss) (stale_sources js)

stale_reported : (n : List ℕ) (js : List Judged) → reported_named n (map made_stale js) ≡ reported_named n js
stale_reported n [] = refl
stale_reported n (j ∷ js) = ap (cond (bytes_eq (string_bytes j.template.file) n) (reported_of j)) (stale_reported n js)

stale_at : (js : List Judged) (k : ℕ) (d : Judged) → k < length js → (get_or (map made_stale js) k d).stale ≡ true
stale_at [] k d h = absurd (omega arith)
stale_at (j ∷ js) zero d h = refl
stale_at (j ∷ js) (suc k) d h = stale_at js k d (omega arith)

stale_current : (e : Encoding) (js : List Judged) → AreCurrent e (map made_stale js)
stale_current e js k d h fresh =
    let within : k < length js = omega (arith, h, map_length made_stale js) in
    absurd (false_true (sym fresh ∙ stale_at js k d within))

pub stale_next : (old items : List Judged) (i : ℕ) (j : Judged) → i < length old
    → items ≡ map made_stale (take i old) ++ drop i old → j ≡ get_or items i j
    → set items i (record j { stale = true }) ≡ map made_stale (take (i + 1) old) ++ drop (i + 1) old
stale_next old items i j within before is = map_over_more made_stale old items i j within before is

-- ---- .. or none

if_whole : (was now : Bool) (js : List Judged) → AllWhole js → AllWhole (marked_if was now js)
if_whole true true js w = w
if_whole false false js w = w
if_whole true false js w = stale_whole js w
if_whole false true js w = stale_whole js w

if_sources : (was now : Bool) (js : List Judged) → sources_of (marked_if was now js) ≡ sources_of js
if_sources true true js = refl
if_sources false false js = refl
if_sources true false js = stale_sources js
if_sources false true js = stale_sources js

if_reported : (was now : Bool) (n : List ℕ) (js : List Judged) → reported_named n (marked_if was now js) ≡ reported_named n js
if_reported true true n js = refl
if_reported false false n js = refl
if_reported true false n js = stale_reported n js
if_reported false true n js = stale_reported n js

if_current : (was now : Bool) (e : Encoding) (js : List Judged) → (was ≡ now → AreCurrent e js) → AreCurrent e (marked_if was now js)
if_current true true e js h = h refl
if_current false false e js h = h refl
if_current true false e js h = stale_current e js
if_current false true e js h = stale_current e js

if_same : (was now : Bool) (js : List Judged) → was ≡ now → js ≡ marked_if was now js
if_same true true js same = refl
if_same false false js same = refl
if_same true false js same = absurd (false_true (sym same))
if_same false true js same = absurd (false_true same)

-- documents in the place of others, of which may be said what was reported where as many may define more as before
pub record StayIf (old now : List Judged) : Type 0 where
  pub whole : AllWhole old → AllWhole now
  pub current : (e : Encoding) → AllWhole old → are_open (templates_of old) ≡ are_open (templates_of now) → AreCurrent e old → AreCurrent e now
  pub ordered : AreAscending (sources_of old) → AreAscending (sources_of now)
  pub reported : (n : List ℕ) → reported_named n now ≡ reported_named n old

module _ (old now : List Judged) where
  abbrev pub now_marked : List Judged
  now_marked = marked_if (are_open (templates_of old)) (are_open (templates_of now)) now

  pub kept_if : StayIf old now → StayKept old now_marked
  kept_if h = record {
    whole = λ w. if_whole (are_open (templates_of old)) (are_open (templates_of now)) now (h.whole w);
    current = λ e w current. if_current (are_open (templates_of old)) (are_open (templates_of now)) e now (λ same. h.current e w same current);
    ordered = λ o. subst AreAscending (sym (if_sources (are_open (templates_of old)) (are_open (templates_of now)) now)) (h.ordered o);
    reported = λ n. if_reported (are_open (templates_of old)) (are_open (templates_of now)) n now ∙ h.reported n;
  }

  -- .. as the code does it, where one document may define more after it, or before
  pub since_is : (from to : Bool) → (from ≡ to → are_open (templates_of old) ≡ are_open (templates_of now)) → marked_since (open_if from to old) now ≡ now_marked
  since_is true true same = if_same (are_open (templates_of old)) (are_open (templates_of now)) now (same refl)
  since_is false false same = if_same (are_open (templates_of old)) (are_open (templates_of now)) now (same refl)
  since_is true false same = refl
  since_is false true same = refl

  pub text_if : (name text : List ℕ) → IsTextAt name text old now → IsTextAt name text old now_marked
  text_if name text h n = ap (text_named n) (if_sources (are_open (templates_of old)) (are_open (templates_of now)) now) ∙ h n

-- ---- whether one may define more

pub any_open : (js : List Judged) → are_open (templates_of js) ≡ list_any (λ j. is_open j.template) js
any_open [] = refl
any_open (j ∷ js) = ap (λ b. is_open j.template || b) (any_open js)

open_marked : (touched : List (List ℕ)) (file : List ℕ) (js : List Judged) → are_open (templates_of (map (marked touched file) js)) ≡ are_open (templates_of js)
open_marked touched file [] = refl
open_marked touched file (j ∷ js) = ap (λ b. is_open j.template || b) (open_marked touched file js)

open_set : (js : List Judged) (i : ℕ) (j d : Judged) → i < length js → is_open (get_or js i d).template ≡ is_open j.template → are_open (templates_of (set js i j)) ≡ are_open (templates_of js)
open_set [] i j d within same = absurd (omega arith)
open_set (x ∷ js) zero j d within same = ap (λ b. b || are_open (templates_of js)) (sym same)
open_set (x ∷ js) (suc i) j d within same = ap (λ b. is_open x.template || b) (open_set js i j d (omega arith) same)

open_insert : (js : List Judged) (i : ℕ) (j : Judged) → i ≤ length js → is_open j.template ≡ false → are_open (templates_of (insert js i j)) ≡ are_open (templates_of js)
open_insert js zero j within none = ap (λ b. b || are_open (templates_of js)) none
open_insert [] (suc i) j within none = absurd (omega arith)
open_insert (x ∷ js) (suc i) j within none = ap (λ b. is_open x.template || b) (open_insert js i j (omega arith) none)

-- .. where it is in the place of another, or among others, of which some are marked
pub stays_set : (touched : List (List ℕ)) (file : List ℕ) (js : List Judged) (i : ℕ) (j d : Judged) → i < length js → is_open (get_or js i d).template ≡ is_open j.template
    → are_open (templates_of js) ≡ are_open (templates_of (set (map (marked touched file) js) i j))
stays_set touched file js i j d within same =
    let there : is_open (get_or (map (marked touched file) js) i d).template ≡ is_open j.template = ap (λ (x : Judged). is_open x.template) (marked_at touched file js i d within) ∙ same in
    let few : i < length (map (marked touched file) js) = omega (arith, marked_length touched file js) in
    sym (open_set (map (marked touched file) js) i j d few there ∙ open_marked touched file js)

pub stays_insert : (touched : List (List ℕ)) (file : List ℕ) (js : List Judged) (i : ℕ) (j : Judged) → i ≤ length js → false ≡ is_open j.template
    → are_open (templates_of js) ≡ are_open (templates_of (map (marked touched file) (insert js i j)))
stays_insert touched file js i j within none = sym (open_marked touched file (insert js i j) ∙ open_insert js i j within (sym none))
