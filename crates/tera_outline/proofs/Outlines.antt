-- An outline as it grows, a tag at a time.
use Rattle.std.proofs.Common.{◌≡◌, ◌<◌, ◌++◌, ℕ, zero, suc, true, false, List, [], ◌∷◌, length, refl, ap, sym, subst, ◌∙◌, inl, inr, arith}
use Rattle.std.specs.Prelude.{All}
use Rattle.std.proofs.lemmas.Bool.{cases_Bool}
use Rattle.std.proofs.lemmas.List.{append_assoc}
use Rattle.std.proofs.lemmas.List.Elements.{All-head, All-tail}
use Rattle.tera_outline.specs.declared.symbols.SymbolKind.{SymbolKind}
use Rattle.tera_outline.specs.declared.symbols.Open.{Open}
use Rattle.tera_outline.specs.Pieces.{Part}
use Rattle.tera_outline.specs.Dotted.{text_of, start_of, end_of}
use Rattle.tera_outline.specs.Symbols.{Outlined, Mark, Opens, Closes, same_kind, is_open, after_last, end_in, outline}
use Rattle.tera_outline.specs.Opened.{State, kinds_of, ended, unwound_in, took, all_ended_in}

-- the symbols with the ends of those that are open around these, before these tags
abbrev pub settled : ℕ → List SymbolKind → List Outlined → List Open → List Mark → List Outlined
settled last inside symbols [] ms = symbols
settled last inside symbols (o ∷ os) ms =
    settled last (inside ++ o.kind ∷ []) (ended o.number (end_in last inside o.kind (kinds_of os) ms) symbols) os ms

-- the outline that comes of a state and these tags
abbrev pub settles : ℕ → State → List Mark → List Outlined
settles last s ms = settled last [] s.symbols s.opened ms ++ outline last (kinds_of s.opened) ms

length-ended : (n end : ℕ) (ss : List Outlined) → length (ended n end ss) ≡ length ss
length-ended n end [] = refl
length-ended zero end (s ∷ ss) = refl
length-ended (suc n) end (s ∷ ss) = ap suc (length-ended n end ss)

ended_front : (n end : ℕ) (ss : List Outlined) (s : Outlined) → n < length ss → ended n end (ss ++ s ∷ []) ≡ ended n end ss ++ s ∷ []
ended_front n end [] s within = absurd (omega arith)
ended_front zero end (t ∷ ss) s within = refl
ended_front (suc n) end (t ∷ ss) s within = ap (λ us. t ∷ us) (ended_front n end ss s (omega arith))

ended_last : (end : ℕ) (ss : List Outlined) (s : Outlined) → ended (length ss) end (ss ++ s ∷ []) ≡ ss ++ record s { end = end } ∷ []
ended_last end [] s = refl
ended_last end (t ∷ ss) s = ap (λ us. t ∷ us) (ended_last end ss s)

settled_front : (last : ℕ) (ins : List SymbolKind) (ss : List Outlined) (os : List Open) (ms : List Mark) (s : Outlined) → All (λ (o : Open). o.number < length ss) os
    → settled last ins (ss ++ s ∷ []) os ms ≡ settled last ins ss os ms ++ s ∷ []
settled_front last ins ss [] ms s fits = refl
settled_front last ins ss (o ∷ os) ms s all =
    let here : o.number < length ss = All-head (λ (p : Open). p.number < length ss) o os all in
    let fits = All-tail (λ (p : Open). p.number < length ss) o os all in
    let end = end_in last ins o.kind (kinds_of os) ms in
    let next = ins ++ o.kind ∷ [] in
    rw (ended_front o.number end ss s here)
    (settled_front last next (ended o.number end ss) os ms s
    (subst (λ n. All (λ (p : Open). p.number < n) os) (sym (length-ended o.number end ss)) fits))

settled_opens : (last : ℕ) (k : SymbolKind) (start : ℕ) (name : List Part) (ins : List SymbolKind) (ss : List Outlined) (os : List Open) (ms : List Mark)
    → settled last (k ∷ ins) ss os ms ≡ settled last ins ss os (Opens k start name ∷ ms)
settled_opens last k start name ins ss [] ms = refl
settled_opens last k start name ins ss (o ∷ os) ms =
    settled_opens last k start name (ins ++ o.kind ∷ []) (ended o.number (end_in last (k ∷ ins) o.kind (kinds_of os) ms) ss) os ms

-- a kind that is not open in some is not with one of another
no_more : (c k : SymbolKind) (ins : List SymbolKind) → is_open c ins ≡ false → same_kind c k ≡ false → is_open c (ins ++ k ∷ []) ≡ false
no_more c k [] none other = rw other refl
no_more c k (i ∷ ins) none other = elim (cases_Bool (same_kind c i)) [
  | inl yes_i ↦ let e : true ≡ false = rw yes_i at none in cc
  | inr no_i ↦ let e : is_open c ins ≡ false = rw no_i at none in rw no_i (no_more c k ins e other)
]

pub not_here : (c k : SymbolKind) (ks : List SymbolKind) → is_open c (k ∷ ks) ≡ false → (same_kind c k ≡ false) × (is_open c ks ≡ false)
not_here c k ks none = elim (cases_Bool (same_kind c k)) [
  | inl yes_k ↦ let e : true ≡ false = rw yes_k at none in cc
  | inr no_k ↦ let e : is_open c ks ≡ false = rw no_k at none in (no_k, e)
]

-- what fits none is passed over
settled_passes : (last : ℕ) (c : SymbolKind) (start end : ℕ) (ins : List SymbolKind) (ss : List Outlined) (os : List Open) (ms : List Mark)
    → is_open c ins ≡ false → is_open c (kinds_of os) ≡ false
    → settled last ins ss os (Closes c start end ∷ ms) ≡ settled last ins ss os ms
settled_passes last c start end ins ss [] ms none around = refl
settled_passes last c start end ins ss (o ∷ os) ms none around =
    let others = not_here c o.kind (kinds_of os) around in
    let e : end_in last ins o.kind (kinds_of os) (Closes c start end ∷ ms) ≡ end_in last ins o.kind (kinds_of os) ms =
    rw (none, others.0, others.1) refl in
    rw e (settled_passes last c start end (ins ++ o.kind ∷ []) (ended o.number (end_in last ins o.kind (kinds_of os) ms) ss) os ms
    (no_more c o.kind ins none others.0) others.1)

pub open_through : (c j : SymbolKind) (ins more : List SymbolKind) → is_open c ins ≡ false → same_kind c j ≡ true
    → (is_open c (ins ++ j ∷ more) ≡ true) × (after_last c (ins ++ j ∷ more) ≡ more)
open_through c j [] more none same = (rw same refl, rw same refl)
open_through c j (i ∷ ins) more none same =
    let others = not_here c i ins none in
    let rest = open_through c j ins more others.1 same in
    (rw others.0 rest.0, rw others.0 rest.1)

-- what is open around one that closes is as before
settled_around : (last : ℕ) (c j : SymbolKind) (start end : ℕ) (ins more : List SymbolKind) (ss : List Outlined) (os : List Open) (ms : List Mark)
    → is_open c ins ≡ false → same_kind c j ≡ true
    → settled last (ins ++ j ∷ more) ss os (Closes c start end ∷ ms) ≡ settled last more ss os ms
settled_around last c j start end ins more ss [] ms none same = refl
settled_around last c j start end ins more ss (o ∷ os) ms none same =
    let through = open_through c j ins more none same in
    let e : end_in last (ins ++ j ∷ more) o.kind (kinds_of os) (Closes c start end ∷ ms) ≡ end_in last more o.kind (kinds_of os) ms =
    rw (through.0, through.1) refl in
    rw (e, append_assoc ins (j ∷ more) (o.kind ∷ []))
    (settled_around last c j start end ins (more ++ o.kind ∷ []) (ended o.number (end_in last more o.kind (kinds_of os) ms) ss) os ms none same)

-- one closes, with what is open in it
settled_closes : (last : ℕ) (c : SymbolKind) (start end : ℕ) (ins : List SymbolKind) (ss : List Outlined) (os : List Open) (ms : List Mark)
    → is_open c ins ≡ false → is_open c (kinds_of os) ≡ true
    → settled last ins ss os (Closes c start end ∷ ms)
    ≡ settled last [] (unwound_in c start end ss os).symbols (unwound_in c start end ss os).opened ms
settled_closes last c start end ins ss [] ms none is = cc
settled_closes last c start end ins ss (o ∷ os) ms none is = elim (cases_Bool (same_kind c o.kind)) [
  | inl same ↦
      let e : end_in last ins o.kind (kinds_of os) (Closes c start end ∷ ms) ≡ end = rw (none, same) refl in
      rw (e, same) (settled_around last c o.kind start end ins [] (ended o.number end ss) os ms none same)
  | inr other ↦
      let around : is_open c (kinds_of os) ≡ true = rw other at is in
      let e : end_in last ins o.kind (kinds_of os) (Closes c start end ∷ ms) ≡ start = rw (none, other, around) refl in
      rw (e, other) (settled_closes last c start end (ins ++ o.kind ∷ []) (ended o.number start ss) os ms (no_more c o.kind ins none other) around)
]

kinds_after : (c : SymbolKind) (start end : ℕ) (ss : List Outlined) (os : List Open) → is_open c (kinds_of os) ≡ true
    → kinds_of (unwound_in c start end ss os).opened ≡ after_last c (kinds_of os)
kinds_after c start end ss [] is = cc
kinds_after c start end ss (o ∷ os) is = elim (cases_Bool (same_kind c o.kind)) [
  | inl same ↦ rw same refl
  | inr other ↦
      let around : is_open c (kinds_of os) ≡ true = rw other at is in
      rw other (kinds_after c start end (ended o.number start ss) os around)
]

-- a tag that is taken leaves what comes of all
pub took_settles : (last : ℕ) (m : Mark) (s : State) (ms : List Mark) → All (λ (o : Open). o.number < length s.symbols) s.opened
    → settles last (took m s) ms ≡ settles last s (m ∷ ms)
took_settles last (Opens k start name) s ms fits =
    let end = end_in last [] k (kinds_of s.opened) ms in
    let new : Outlined = record { kind = k; name = text_of name; start = start; end = end_of name; name_start = start_of name; name_end = end_of name } in
    let new_ended : Outlined = record new { end = end } in
    let rest = outline last (k ∷ kinds_of s.opened) ms in
    let ends = ap (λ (ss : List Outlined). settled last (k ∷ []) ss s.opened ms) (ended_last end s.symbols new)
    ∙ settled_front last (k ∷ []) s.symbols s.opened ms new_ended fits in
    ap (λ (ss : List Outlined). ss ++ rest) ends
    ∙ (append_assoc (settled last (k ∷ []) s.symbols s.opened ms) (new_ended ∷ []) rest
    ∙ ap (λ (ss : List Outlined). ss ++ new_ended ∷ rest) (settled_opens last k start name [] s.symbols s.opened ms))
took_settles last (Closes k start end) s ms fits = elim (cases_Bool (is_open k (kinds_of s.opened))) [
  | inl is ↦ rw (is, settled_closes last k start end [] s.symbols s.opened ms refl is, kinds_after k start end s.symbols s.opened is) refl
  | inr none ↦ rw (none, settled_passes last k start end [] s.symbols s.opened ms refl none) refl
]

-- where no tag is left all that are open end with the text
pub all_settled : (last : ℕ) (ins : List SymbolKind) (ss : List Outlined) (os : List Open) → settled last ins ss os [] ≡ all_ended_in last ss os
all_settled last ins ss [] = refl
all_settled last ins ss (o ∷ os) = all_settled last (ins ++ o.kind ∷ []) (ended o.number last ss) os
