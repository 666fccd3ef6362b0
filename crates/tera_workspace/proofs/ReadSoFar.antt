-- Documents of whose names the first ones were gone through.
use Rattle.std.proofs.Common.{◌≡◌, ◌∙◌, ◌<◌, ◌≤◌, ◌+◌, ◌||◌, ℕ, zero, suc, List, [], ◌∷◌, length, get_or, take, map, Bool, true, false, cond, Option, None, Some, String, string_bytes, unwrap_or, Bor, refl, sym, ap, arith}
use Rattle.std.proofs.Common.{if◌then◌else◌}
use Rattle.std.proofs.lemmas.List.{take_all}
use Rattle.std.proofs.lemmas.Slice.Eq.{bytes_eq-Decides}
use Rattle.std.specs.Option.{option_map}
use Rattle.std.specs.Str.{bytes_eq}
use Rattle.std.specs.declared.alloc.Global.{Global}
use Rattle.text_edits.specs.Documents.{text_of}
use Rattle.text_edits.specs.Stored.{document_of}
use Rattle.text_edits.specs.declared.documents.Documents.{Documents}
use Rattle.tera_workspace.specs.Kept.{sources_of, StayKept, IsTextAt}
use Rattle.tera_workspace.specs.Names.{is_among}
use Rattle.tera_workspace.specs.Sources.{text_named}
use Rattle.tera_workspace.specs.declared.judged.Judged.{Judged}
use Rattle.tera_workspace.proofs.ReadingLemmas.{stay_same, stay_after}

-- those of the first names have the texts of the documents, and those of other names what they had
pub record AreRead (ds : Documents) (names : List (List ℕ)) (i : ℕ) (old now : List Judged) : Type 0 where
  pub kept : StayKept old now
  pub others : (n : List ℕ) → is_among n names ≡ false → text_named n (sources_of now) ≡ text_named n (sources_of old)
  pub read : (n : List ℕ) → is_among n (take i names) ≡ true → text_named n (sources_of now) ≡ unwrap_or (text_of (document_of ds n)) []

false_true : false ≡ true → ⊥
false_true e = cc

pub none_read : (ds : Documents) (names : List (List ℕ)) (js : List Judged) → AreRead ds names 0 js js
none_read ds names js = record { kept = stay_same js; others = λ n free. refl; read = λ n among. absurd (false_true among) }

-- ---- one name more

first_not : (b c : Bool) → (if b then true else c) ≡ false → b ≡ false
first_not true c h = h
first_not false c h = refl

others_not : (b c : Bool) → (if b then true else c) ≡ false → c ≡ false
others_not true c h = absurd (false_true (sym h))
others_not false c h = h

apart_at : (n : List ℕ) (items : List (String Global)) (i : ℕ) (s : String Global) → i < length items → is_among n (map string_bytes items) ≡ false → bytes_eq (string_bytes (get_or items i s)) n ≡ false
apart_at n [] i s h free = absurd (omega arith)
apart_at n (x ∷ items) zero s h free = first_not (bytes_eq (string_bytes x) n) (is_among n (map string_bytes items)) free
apart_at n (x ∷ items) (suc i) s h free = apart_at n items i s (omega arith) (others_not (bytes_eq (string_bytes x) n) (is_among n (map string_bytes items)) free)

if_itself : (b : Bool) → (if b then true else false) ≡ (false || b)
if_itself true = refl
if_itself false = refl

after_one : (b x y : Bool) → (if b then true else (x || y)) ≡ ((if b then true else x) || y)
after_one true x y = refl
after_one false x y = refl

one_taken : (n : List ℕ) (items : List (String Global)) (i : ℕ) (s : String Global) → i < length items
    → is_among n (take (suc i) (map string_bytes items)) ≡ (is_among n (take i (map string_bytes items)) || bytes_eq (string_bytes (get_or items i s)) n)
one_taken n [] i s h = absurd (omega arith)
one_taken n (x ∷ items) zero s h = if_itself (bytes_eq (string_bytes x) n)
one_taken n (x ∷ items) (suc i) s h =
    ap (λ (c : Bool). if bytes_eq (string_bytes x) n then true else c) (one_taken n items i s (omega arith))
    ∙ after_one (bytes_eq (string_bytes x) n) (is_among n (take i (map string_bytes items))) (bytes_eq (string_bytes (get_or items i s)) n)

or_left : (a b : Bool) → b ≡ false → (a || b) ≡ true → a ≡ true
or_left true b none h = refl
or_left false b none h = sym none ∙ h

module _ (ds : Documents) (items : List (String Global)) (i : ℕ) (s : String Global) (text : List ℕ) (old now next : List Judged) (within : i < length items) (is : s ≡ get_or items i s)
    (has : text ≡ unwrap_or (text_of (document_of ds (string_bytes s))) []) (stay : StayKept now next) (at : IsTextAt (string_bytes s) text now next) (h : AreRead ds (map string_bytes items) i old now) where
  by_name : (n : List ℕ) (b : Bool) → bytes_eq (string_bytes s) n ≡ b → is_among n (take (suc i) (map string_bytes items)) ≡ true → text_named n (sources_of next) ≡ unwrap_or (text_of (document_of ds n)) []
  by_name n true e among =
      at n ∙ ap (λ (b : Bool). cond b text (text_named n (sources_of now))) e ∙ has
      ∙ ap (λ m. unwrap_or (text_of (document_of ds m)) []) ((bytes_eq-Decides (string_bytes s) n).0 e)
  by_name n false e among =
      at n ∙ ap (λ (b : Bool). cond b text (text_named n (sources_of now))) e
      ∙ h.read n (or_left (is_among n (take i (map string_bytes items))) (bytes_eq (string_bytes (get_or items i s)) n)
      (ap (λ x. bytes_eq (string_bytes x) n) (sym is) ∙ e) (sym (one_taken n items i s within) ∙ among))

  pub one_read : AreRead ds (map string_bytes items) (i + 1) old next
  one_read = record {
    kept = stay_after old now next h.kept stay;
    others = λ n free.
        at n ∙ ap (λ (b : Bool). cond b text (text_named n (sources_of now))) (ap (λ x. bytes_eq (string_bytes x) n) is ∙ apart_at n items i s within free)
        ∙ h.others n free;
    read = λ n among.
        let next : suc i ≡ i + 1 = omega arith in
        by_name n (bytes_eq (string_bytes s) n) refl (ap (λ (k : ℕ). is_among n (take k (map string_bytes items))) next ∙ among);
  }

-- ---- all names

length_bytes : (items : List (String Global)) → length (map string_bytes items) ≡ length items
length_bytes [] = refl
length_bytes (x ∷ items) = ap suc (length_bytes items)

pub all_read : (ds : Documents) (items : List (String Global)) (i : ℕ) (old now : List Judged) → length items ≤ i → AreRead ds (map string_bytes items) i old now
    → (n : List ℕ) → is_among n (map string_bytes items) ≡ true → text_named n (sources_of now) ≡ unwrap_or (text_of (document_of ds n)) []
all_read ds items i old now all h n among =
    h.read n (ap (is_among n) (take_all i (map string_bytes items) (omega (arith, length_bytes items))) ∙ among)

-- the text that there is, or the empty one
pub text_or_none : (o : Option (Bor (List ℕ))) (t d : Bor (List ℕ)) (text : Option (List ℕ)) → t ≡ unwrap_or o d → d.now ≡ [] → option_map (λ (x : Bor (List ℕ)). x.now) o ≡ text → t.now ≡ unwrap_or text []
text_or_none (Some x) t d text is none same = ap (λ (y : Bor (List ℕ)). y.now) is ∙ ap (λ z. unwrap_or z []) same
text_or_none None t d text is none same = ap (λ (y : Bor (List ℕ)). y.now) is ∙ none ∙ ap (λ z. unwrap_or z []) same
