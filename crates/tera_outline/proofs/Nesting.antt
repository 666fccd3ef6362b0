-- How the symbols of an outline are to one another, by where its tags are.
use Rattle.std.proofs.Common.{◌≡◌, ◌<◌, ◌≤◌, ◌⊎◌, inl, inr, ◌++◌, ℕ, true, false, if◌then◌else◌, List, [], ◌∷◌, refl, ◌∙◌, arith}
use Rattle.std.specs.Prelude.{All}
use Rattle.std.proofs.lemmas.Bool.{cases_Bool}
use Rattle.std.proofs.lemmas.List.Elements.{All-nil, All-cons, All-weaker}
use Rattle.std.proofs.lemmas.List.Kept.{AllPairs-cons}
use Rattle.tera_outline.specs.declared.symbols.SymbolKind.{SymbolKind}
use Rattle.tera_outline.specs.Pieces.{Part}
use Rattle.tera_outline.specs.Dotted.{text_of, start_of, end_of}
use Rattle.tera_outline.specs.Symbols.{Outlined, Mark, Opens, Closes, same_kind, is_open, after_last, end_in, outline, AreNested, IsWithin}
use Rattle.tera_outline.proofs.Outlines.{not_here, open_through}

-- the tags are between these bytes, one after the other, and each name after the start of its tag
abbrev pub Ascend : ℕ → ℕ → List Mark → Type 0
Ascend from last [] = from ≤ last
Ascend from last (Opens k start name ∷ ms) =
    (from ≤ start) × (start < start_of name) × (start_of name < end_of name) × Ascend (end_of name) last ms
Ascend from last (Closes k start end ∷ ms) = (from ≤ start) × (start ≤ end) × Ascend end last ms

pub sooner : (less from last : ℕ) (ms : List Mark) → less ≤ from → Ascend from last ms → Ascend less last ms
sooner less from last [] le h = omega arith
sooner less from last (Opens k s n ∷ ms) le (a, b, c, rest) = (omega arith, b, c, rest)
sooner less from last (Closes k s e ∷ ms) le (a, b, rest) = (omega arith, b, rest)

reaches : (from last : ℕ) (ms : List Mark) → Ascend from last ms → from ≤ last
reaches from last [] h = h
reaches from last (Opens k s n ∷ ms) (a, b, c, rest) = let r = reaches (end_of n) last ms rest in omega arith
reaches from last (Closes k s e ∷ ms) (a, b, rest) = let r = reaches e last ms rest in omega arith

-- an end comes after what is read, and within the text
ends_after : (from last : ℕ) (ins : List SymbolKind) (k : SymbolKind) (around : List SymbolKind) (ms : List Mark) → Ascend from last ms → from ≤ end_in last ins k around ms
ends_after from last ins k around [] h = h
ends_after from last ins k around (Opens j s n ∷ ms) (a, b, c, rest) =
    let r = ends_after (end_of n) last (j ∷ ins) k around ms rest in omega arith
ends_after from last ins k around (Closes j s e ∷ ms) (a, b, rest) = elim (cases_Bool (is_open j ins)) [
  | inl in_ins ↦ let r = ends_after e last (after_last j ins) k around ms rest in rw in_ins (omega arith)
  | inr not_in ↦ elim (cases_Bool (same_kind j k)) [
    | inl is_k ↦ rw (not_in, is_k) (omega arith)
    | inr not_k ↦ elim (cases_Bool (is_open j around)) [
      | inl out ↦ rw (not_in, not_k, out) a
      | inr none ↦ let r = ends_after e last ins k around ms rest in rw (not_in, not_k, none) (omega arith)
    ]
  ]
]

ends_within : (from last : ℕ) (ins : List SymbolKind) (k : SymbolKind) (around : List SymbolKind) (ms : List Mark) → Ascend from last ms → end_in last ins k around ms ≤ last
ends_within from last ins k around [] h = omega arith
ends_within from last ins k around (Opens j s n ∷ ms) (a, b, c, rest) = ends_within (end_of n) last (j ∷ ins) k around ms rest
ends_within from last ins k around (Closes j s e ∷ ms) (a, b, rest) =
    let r = reaches e last ms rest in
    elim (cases_Bool (is_open j ins)) [
      | inl in_ins ↦ rw in_ins (ends_within e last (after_last j ins) k around ms rest)
      | inr not_in ↦ elim (cases_Bool (same_kind j k)) [
        | inl is_k ↦ rw (not_in, is_k) r
        | inr not_k ↦ elim (cases_Bool (is_open j around)) [
          | inl out ↦ rw (not_in, not_k, out) (omega arith)
          | inr none ↦ rw (not_in, not_k, none) (ends_within e last ins k around ms rest)
        ]
      ]
    ]

open_after : (c j : SymbolKind) (a b : List SymbolKind) → is_open c a ≡ true
    → (is_open c (a ++ j ∷ b) ≡ true) × (after_last c (a ++ j ∷ b) ≡ after_last c a ++ j ∷ b)
open_after c j [] b is = cc
open_after c j (x ∷ a) b is = elim (cases_Bool (same_kind c x)) [
  | inl same ↦ (rw same refl, rw same refl)
  | inr other ↦
      let more : is_open c a ≡ true = rw other at is in
      let r = open_after c j a b more in
      (rw other r.0, rw other r.1)
]

not_through : (c j : SymbolKind) (a b : List SymbolKind) → is_open c a ≡ false → same_kind c j ≡ false
    → (is_open c (a ++ j ∷ b) ≡ is_open c b) × (after_last c (a ++ j ∷ b) ≡ after_last c b)
not_through c j [] b none other = (rw other refl, rw other refl)
not_through c j (x ∷ a) b none other =
    let others = not_here c x a none in
    let r = not_through c j a b others.1 other in
    (rw others.0 r.0, rw others.0 r.1)

-- what is opened in another ends no later
ends_sooner : (from last : ℕ) (a : List SymbolKind) (j : SymbolKind) (b : List SymbolKind) (k : SymbolKind) (around : List SymbolKind) (ms : List Mark) → Ascend from last ms
    → end_in last a j (b ++ k ∷ around) ms ≤ end_in last (a ++ j ∷ b) k around ms
ends_sooner from last a j b k around [] h = omega arith
ends_sooner from last a j b k around (Opens x s n ∷ ms) (p, q, r, rest) = ends_sooner (end_of n) last (x ∷ a) j b k around ms rest
ends_sooner from last a j b k around (Closes c s e ∷ ms) (p, q, rest) = elim (cases_Bool (is_open c a)) [
  | inl in_a ↦
      let through = open_after c j a b in_a in
      rw (in_a, through.0, through.1) (ends_sooner e last (after_last c a) j b k around ms rest)
  | inr not_a ↦ elim (cases_Bool (same_kind c j)) [
    | inl is_j ↦
        let through = open_through c j a b not_a is_j in
        rw (not_a, is_j, through.0, through.1) (ends_after e last b k around ms rest)
    | inr not_j ↦
        let past = not_through c j a b not_a not_j in
        elim (cases_Bool (is_open c b)) [
          | inl in_b ↦
              let outer = (open_after c k b around in_b).0 in
              let inner : is_open c (a ++ j ∷ b) ≡ true = past.0 ∙ in_b in
              let r = ends_after e last (after_last c b) k around ms rest in
              rw (not_a, not_j, outer, inner, past.1) (omega arith)
          | inr not_b ↦
              let inner : is_open c (a ++ j ∷ b) ≡ false = past.0 ∙ not_b in
              elim (cases_Bool (same_kind c k)) [
                | inl is_k ↦
                    let outer = (open_through c k b around not_b is_k).0 in
                    rw (not_a, not_j, outer, inner, is_k) q
                | inr not_k ↦
                    let further = (not_through c k b around not_b not_k).0 in
                    elim (cases_Bool (is_open c around)) [
                      | inl out ↦
                          let outer : is_open c (b ++ k ∷ around) ≡ true = further ∙ out in
                          rw (not_a, not_j, outer, inner, not_k, out) (omega arith)
                      | inr none ↦
                          let outer : is_open c (b ++ k ∷ around) ≡ false = further ∙ none in
                          rw (not_a, not_j, outer, inner, not_k, none) (ends_sooner e last a j b k around ms rest)
                    ]
              ]
        ]
  ]
]

abbrev Later : ℕ → Outlined → Type 0
Later low s = low ≤ s.start

-- each comes after this byte, or ends no later
abbrev Clear : ℕ → Outlined → Type 0
Clear e s = (e ≤ s.start) ⊎ (s.end ≤ e)

abbrev symbol : ℕ → List SymbolKind → SymbolKind → ℕ → List Part → List Mark → Outlined
symbol last around kind start name ms = record {
  kind = kind;
  name = text_of name;
  start = start;
  end = end_in last [] kind around ms;
  name_start = start_of name;
  name_end = end_of name;
}

start_later : (low from last : ℕ) (os : List SymbolKind) (ms : List Mark) → low ≤ from → Ascend from last ms → All (Later low) (outline last os ms)
start_later low from last os [] le h = All-nil (Later low)
start_later low from last os (Opens k s n ∷ ms) le (a, b, c, rest) =
    All-cons (Later low) (symbol last os k s n ms) (outline last (k ∷ os) ms) (omega arith) (start_later low (end_of n) last (k ∷ os) ms (omega arith) rest)
start_later low from last os (Closes k s e ∷ ms) le (a, b, rest) =
    start_later low e last (if is_open k os then after_last k os else os) ms (omega arith) rest

start_clear : (low from last : ℕ) (os : List SymbolKind) (ms : List Mark) → low ≤ from → Ascend from last ms → All (Clear low) (outline last os ms)
start_clear low from last os ms le h =
    All-weaker (Later low) (Clear low) (λ s later. inl later) (outline last os ms) (start_later low from last os ms le h)

-- what is opened while another is open, or later
stand_clear : (end from last : ℕ) (ins : List SymbolKind) (k : SymbolKind) (around : List SymbolKind) (ms : List Mark)
    → end ≡ end_in last ins k around ms → Ascend from last ms → All (Clear end) (outline last (ins ++ k ∷ around) ms)
stand_clear end from last ins k around [] is h = All-nil (Clear end)
stand_clear end from last ins k around (Opens j s n ∷ ms) is (a, b, c, rest) =
    let sooner_end = ends_sooner (end_of n) last [] j ins k around ms rest in
    All-cons (Clear end) (symbol last (ins ++ k ∷ around) j s n ms) (outline last (j ∷ (ins ++ k ∷ around)) ms)
    (inr (omega (arith, is, sooner_end))) (stand_clear end (end_of n) last (j ∷ ins) k around ms is rest)
stand_clear end from last ins k around (Closes c s e ∷ ms) is (a, b, rest) = elim (cases_Bool (is_open c ins)) [
  | inl in_ins ↦
      let through = open_after c k ins around in_ins in
      let left : end ≡ end_in last (after_last c ins) k around ms = rw in_ins at is in
      rw (through.0, through.1) (stand_clear end e last (after_last c ins) k around ms left rest)
  | inr not_in ↦ elim (cases_Bool (same_kind c k)) [
    | inl is_k ↦
        let through = open_through c k ins around not_in is_k in
        let here : end ≡ e = rw (not_in, is_k) at is in
        rw (through.0, through.1) (start_clear end e last around ms (omega arith) rest)
    | inr not_k ↦
        let past = not_through c k ins around not_in not_k in
        elim (cases_Bool (is_open c around)) [
          | inl out ↦
              let here : end ≡ s = rw (not_in, not_k, out) at is in
              let open_out : is_open c (ins ++ k ∷ around) ≡ true = past.0 ∙ out in
              rw (open_out, past.1) (start_clear end e last (after_last c around) ms (omega arith) rest)
          | inr none ↦
              let left : end ≡ end_in last ins k around ms = rw (not_in, not_k, none) at is in
              let shut : is_open c (ins ++ k ∷ around) ≡ false = past.0 ∙ none in
              rw shut (stand_clear end e last ins k around ms left rest)
        ]
  ]
]

abbrev Nested : Outlined → Outlined → Type 0
Nested a b = (a.start < b.start) × ((a.end ≤ b.start) ⊎ (b.end ≤ a.end))

pub are_nested : (from last : ℕ) (os : List SymbolKind) (ms : List Mark) → Ascend from last ms → AreNested (outline last os ms)
are_nested from last os [] h = λ i j d before within. absurd (omega arith)
are_nested from last os (Opens k s n ∷ ms) (a, b, c, rest) =
    let others = outline last (k ∷ os) ms in
    let end = end_in last [] k os ms in
    let later = start_later (end_of n) (end_of n) last (k ∷ os) ms (omega arith) rest in
    let clear = stand_clear end (end_of n) last [] k os ms refl rest in
    AllPairs-cons Nested (symbol last os k s n ms) others (λ i d within. (let l = later i d within in omega arith, clear i d within))
    (are_nested (end_of n) last (k ∷ os) ms rest)
are_nested from last os (Closes k s e ∷ ms) (a, b, rest) = are_nested e last (if is_open k os then after_last k os else os) ms rest

pub are_within : (from last : ℕ) (os : List SymbolKind) (ms : List Mark) → Ascend from last ms → All (IsWithin last) (outline last os ms)
are_within from last os [] h = All-nil (IsWithin last)
are_within from last os (Opens k s n ∷ ms) (a, b, c, rest) =
    All-cons (IsWithin last) (symbol last os k s n ms) (outline last (k ∷ os) ms)
    (record {
      begins = b;
      named = c;
      ends = ends_after (end_of n) last [] k os ms rest;
      text = ends_within (end_of n) last [] k os ms rest;
    }) (are_within (end_of n) last (k ∷ os) ms rest)
are_within from last os (Closes k s e ∷ ms) (a, b, rest) = are_within e last (if is_open k os then after_last k os else os) ms rest
