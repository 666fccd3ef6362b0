-- Places that are kept under words.
use Rattle.std.proofs.Common.{◌≡◌, ◌≢◌, ◌∙◌, ◌+◌, ◌-◌, ◌<◌, ◌≤◌, ◌⊎◌, inl, inr, ℕ, zero, suc, Bool, true, false, cond, List, [], ◌∷◌, ◌++◌, Option, None, Some, String, Global, length, get_or, take, drop, refl, sym, ap, subst, arith, string_bytes, unwrap_or}
use Rattle.std.specs.Prelude.{◌↔◌}
use Rattle.std.specs.BTreeMap.{BTreeMap, get_by_text}
use Rattle.std.specs.BTreeSet.{BTreeSet, keys, insert_key}
use Rattle.std.specs.List.{Contains}
use Rattle.std.specs.Map.{update}
use Rattle.std.specs.Option.{option_map_or}
use Rattle.std.specs.Ordering.{nat_cmp, match_ordering}
use Rattle.std.specs.Str.{bytes_eq, IsUtf8, IsCharBoundary}
use Rattle.std.specs.declared.cmp.Ordering.{Ordering}
use Rattle.std.specs.declared.cmp.Ordering.TheVariants.{Less, Equal, Greater}
use Rattle.std.proofs.lemmas.List.{take_more, length-take, length-drop}
use Rattle.std.proofs.lemmas.List.Elements.{Contains-append_left, Contains-push, Contains-push_cases}
use Rattle.std.proofs.lemmas.Map.Lookups.{exact_unsigned}
use Rattle.std.proofs.lemmas.Slice.Eq.{bytes_eq-Decides}
use Rattle.std.proofs.lemmas.Str.{IsCharBoundary-after_ascii, IsCharBoundary-before_ascii}
use Rattle.tera_lexer.proofs.Cuts.{name_ascii}
use Rattle.tera_templates.specs.Lost.{AreWordsOf, HasBetween, IsBetween, IsLostAt, IsLostBetween, IsWordAt, part_at, places_under}

-- ---- a list and one more

cons_cases : {X : Type 0} (y : X) (ys : List X) (x : X) → Contains (y ∷ ys) x → (y ≡ x) ⊎ Contains ys x
cons_cases y ys x (zero, below, is) = inl is
cons_cases y ys x (suc k, below, is) = inr (k, omega (arith, below), is)

cons_first : {X : Type 0} (y : X) (ys : List X) (x : X) → x ≡ y → Contains (y ∷ ys) x
cons_first y ys x same = (zero, omega arith, sym same)

cons_more : {X : Type 0} (y : X) (ys : List X) (x : X) → Contains ys x → Contains (y ∷ ys) x
cons_more y ys x (k, below, is) = (suc k, omega (arith, below), is)

-- ---- a set and one more

has_by : (o : Ordering) (y k x : ℕ) (ys more : List ℕ) → (Contains more x → Contains ys x ⊎ (x ≡ k)) → Contains (match_ordering o (k ∷ y ∷ ys) (y ∷ ys) (y ∷ more)) x
    → Contains (y ∷ ys) x ⊎ (x ≡ k)
has_by Less y k x ys more rest has = elim (cons_cases k (y ∷ ys) x has) [ inl same ↦ inr (sym same) | inr there ↦ inl there ]
has_by Equal y k x ys more rest has = inl has
has_by Greater y k x ys more rest has = elim (cons_cases y more x has) [
  | inl same ↦ inl (cons_first y ys x (sym same))
  | inr there ↦ elim (rest there) [ inl old ↦ inl (cons_more y ys x old) | inr new ↦ inr new ]
]

keeps_by : (o : Ordering) (y k x : ℕ) (ys more : List ℕ) → (o ≡ Equal → k ≡ y) → (Contains ys x ⊎ (x ≡ k) → Contains more x) → Contains (y ∷ ys) x ⊎ (x ≡ k)
    → Contains (match_ordering o (k ∷ y ∷ ys) (y ∷ ys) (y ∷ more)) x
keeps_by Less y k x ys more same rest has = elim has [ inl old ↦ cons_more k (y ∷ ys) x old | inr new ↦ cons_first k (y ∷ ys) x new ]
keeps_by Equal y k x ys more same rest has = elim has [ inl old ↦ old | inr new ↦ cons_first y ys x (new ∙ same refl) ]
keeps_by Greater y k x ys more same rest has = elim has [
  | inl old ↦ elim (cons_cases y ys x old) [ inl first ↦ cons_first y more x (sym first) | inr there ↦ cons_more y more x (rest (inl there)) ]
  | inr new ↦ cons_more y more x (rest (inr new))
]

inserted_has : (ks : List ℕ) (k x : ℕ) → Contains (insert_key nat_cmp ks k) x → Contains ks x ⊎ (x ≡ k)
inserted_has [] k x has = elim (cons_cases k [] x has) [ inl same ↦ inr (sym same) | inr none ↦ inl none ]
inserted_has (y ∷ ys) k x has = has_by (nat_cmp k y) y k x ys (insert_key nat_cmp ys k) (inserted_has ys k x) has

inserted_keeps : (ks : List ℕ) (k x : ℕ) → Contains ks x ⊎ (x ≡ k) → Contains (insert_key nat_cmp ks k) x
inserted_keeps [] k x has = elim has [ inl none ↦ cons_more k [] x none | inr new ↦ cons_first k [] x new ]
inserted_keeps (y ∷ ys) k x has = keeps_by (nat_cmp k y) y k x ys (insert_key nat_cmp ys k) (exact_unsigned k y) (inserted_keeps ys k x) has

-- ---- a place is put under a word

abbrev pub Places : Type 0
Places = BTreeMap (String Global) (BTreeSet ℕ)

-- those that were found, or none
pub some_known : (places : Places) (word : List ℕ) (known found : BTreeSet ℕ) → known ≡ found → Some found ≡ get_by_text places word → keys known ≡ places_under places word
some_known places word known found is there = ap (λ (s : BTreeSet ℕ). keys s) is ∙ ap (λ o. option_map_or (λ (t : BTreeSet ℕ). keys t) o []) there

pub no_known : (places : Places) (word : List ℕ) (known made : BTreeSet ℕ) → known ≡ made → keys made ≡ [] → None ≡ get_by_text places word → keys known ≡ places_under places word
no_known places word known made is empty there = ap (λ (s : BTreeSet ℕ). keys s) is ∙ empty ∙ ap (λ o. option_map_or (λ (t : BTreeSet ℕ). keys t) o []) there

under_by : (b : Bool) (n word : List ℕ) (place at : ℕ) (all : Option (BTreeSet ℕ)) (old ks : List ℕ) → (b ≡ true → n ≡ word) → (n ≡ word → b ≡ true)
    → (Contains (insert_key nat_cmp ks place) at → Contains ks at ⊎ (at ≡ place)) → (Contains ks at ⊎ (at ≡ place) → Contains (insert_key nat_cmp ks place) at)
    → (b ≡ true → ks ≡ old) → Contains (cond b (insert_key nat_cmp ks place) old) at ↔ (Contains old at ⊎ ((n ≡ word) × (at ≡ place)))
under_by true n word place at all old ks same back has keeps is = (
  λ there. elim (has there) [ inl before ↦ inl (subst (λ l. Contains l at) (is refl) before) | inr new ↦ inr (same refl, new) ],
  λ there. elim there [ inl before ↦ keeps (inl (subst (λ l. Contains l at) (sym (is refl)) before)) | inr new ↦ keeps (inr new.1) ],
)
under_by false n word place at all old ks same back has keeps is = (
  λ there. inl there,
  λ there. elim there [ inl before ↦ before | inr new ↦ let no : false ≡ true = back new.0 in absurd (let never : false ≡ true = no in cc) ],
)

under_cond : (b : Bool) (s : BTreeSet ℕ) (rest old : Option (BTreeSet ℕ)) → (b ≡ false → rest ≡ old)
    → option_map_or (λ (t : BTreeSet ℕ). keys t) (cond b (Some s) rest) [] ≡ cond b (keys s) (option_map_or (λ (t : BTreeSet ℕ). keys t) old [])
under_cond true s rest old same = refl
under_cond false s rest old same = ap (λ o. option_map_or (λ (t : BTreeSet ℕ). keys t) o []) (same refl)

cond_false : (b : Bool) (other old : Option (BTreeSet ℕ)) → b ≡ false → cond b other old ≡ old
cond_false b other old is = rw is refl

-- The known places of a word are taken out, one is put among them, and they are put back.
pub put : (old mid new : Places) (word n : List ℕ) (place at : ℕ) (known more : BTreeSet ℕ)
    → keys known ≡ places_under old word → keys more ≡ insert_key nat_cmp (keys known) place
    → ((m : List ℕ) → get_by_text mid m ≡ update bytes_eq (get_by_text old) word None m)
    → ((m : List ℕ) → get_by_text new m ≡ update bytes_eq (get_by_text mid) word (Some more) m)
    → Contains (places_under new n) at ↔ (Contains (places_under old n) at ⊎ ((n ≡ word) × (at ≡ place)))
put old mid new word n place at known more of_word inserted taken back =
    let b : Bool = bytes_eq word n in
    let there : places_under new n ≡ cond b (keys more) (places_under old n)
    = ap (λ o. option_map_or (λ (t : BTreeSet ℕ). keys t) o []) (back n)
    ∙ under_cond b more (get_by_text mid n) (get_by_text old n) (λ other. taken n ∙ cond_false b None (get_by_text old n) other) in
    let here : places_under new n ≡ cond b (insert_key nat_cmp (keys known) place) (places_under old n)
    = there ∙ ap (λ ks. cond b ks (places_under old n)) inserted in
    subst (λ ks. Contains ks at ↔ (Contains (places_under old n) at ⊎ ((n ≡ word) × (at ≡ place)))) (sym here)
    (under_by b n word place at (get_by_text old n) (places_under old n) (keys known) (λ e. sym ((bytes_eq-Decides word n).0 e)) (λ e. (bytes_eq-Decides word n).1 (sym e))
    (inserted_has (keys known) place at) (inserted_keeps (keys known) place at) (λ e. of_word ∙ ap (places_under old) ((bytes_eq-Decides word n).0 e)))

-- no places
pub none_under : (places : Places) (n : List ℕ) (at : ℕ) → places.entries ≡ [] → Contains (places_under places n) at → ⊥
none_under places n at is has = let none : places_under places n ≡ [] = rw is refl in omega (arith, (subst (λ ks. Contains ks at) none has).1)

-- ---- the words that are lost

length_part : (s e : ℕ) (text : List ℕ) → e ≤ length text → s ≤ e → length (part_at s (e - s) text) ≡ e - s
length_part s e text within ordered = omega (arith, length-take (e - s) (drop s text), length-drop s text, within, ordered)

-- a word that is not between the bytes of a text
pub not_there : (text word : List ℕ) (s e : ℕ) → s < e → length word + s ≡ e → (HasBetween text word s e → ⊥) → part_at s (e - s) text ≢ word
not_there text word s e some long other same =
    other (omega (arith, some), omega (arith, ap length same, length-take (e - s) (drop s text), length-drop s text, some, long), same)

pub some_of : (text : List ℕ) (s e : ℕ) → IsBetween text s e → (s < e) × (e ≤ length text)
some_of text s e is = elim is [
  | inl word ↦ (word.some, word.within)
  | inr mark ↦ (omega (arith, mark.one), mark.within)
]

-- .. which are between characters
pub between : (text : List ℕ) (s e : ℕ) → IsUtf8 text → IsBetween text s e → IsCharBoundary text s × IsCharBoundary text e
between text s e utf8 is =
    let some = some_of text s e is in
    let last : (e - 1) + 1 ≡ e = omega (arith, some.0) in
    elim is [
      | inl word ↦ (
        IsCharBoundary-before_ascii text s (omega (arith, some.0, some.1)) (name_ascii (get_or text s 0) (word.all s (omega arith) some.0)),
        subst (IsCharBoundary text) last
            (IsCharBoundary-after_ascii text (e - 1) utf8 (omega (arith, some.0, some.1)) (name_ascii (get_or text (e - 1) 0) (word.all (e - 1) (omega (arith, some.0)) (omega (arith, some.0))))),
      )
      | inr mark ↦ (
        IsCharBoundary-before_ascii text s (omega (arith, some.0, some.1)) (omega (arith, mark.is)),
        subst (IsCharBoundary text) (sym mark.one) (IsCharBoundary-after_ascii text s utf8 (omega (arith, some.0, some.1)) (omega (arith, mark.is))),
      )
    ]

-- the word of a source that is kept, as the text has something else there
pub kept : (source text word : List ℕ) (old new : Places) (s e : ℕ) → IsBetween source s e → word ≡ part_at s (e - s) source → length word + s ≡ e → (HasBetween text word s e → ⊥)
    → ((n : List ℕ) (at : ℕ) → Contains (places_under new n) at ↔ (Contains (places_under old n) at ⊎ ((n ≡ word) × (at ≡ s))))
    → (n : List ℕ) (at : ℕ) → Contains (places_under new n) at ↔ (Contains (places_under old n) at ⊎ ((at ≡ s) × IsLostBetween source text n s e))
kept source text word old new s e is cut long other put n at =
    let apart : part_at s (e - s) text ≢ word = not_there text word s e (some_of source s e is).0 long other in (
      λ has. elim ((put n at).0 has) [
        | inl before ↦ inl before
        | inr here ↦ inr (here.1, (sym cut ∙ sym here.0, subst (λ w. part_at s (e - s) text ≢ w) (sym here.0) apart))
      ],
      λ has. (put n at).1 (elim has [
        | inl before ↦ inl before
        | inr here ↦ inr (sym here.1.0 ∙ sym cut, here.0)
      ]),
    )

-- .. and one that is not, as the text has it
pub left_out : (source text word : List ℕ) (old : Places) (s e : ℕ) → word ≡ part_at s (e - s) source → HasBetween text word s e
    → (n : List ℕ) (at : ℕ) → Contains (places_under old n) at ↔ (Contains (places_under old n) at ⊎ ((at ≡ s) × IsLostBetween source text n s e))
left_out source text word old s e cut has n at = (
  λ there. inl there,
  λ there. elim there [
    | inl before ↦ before
    | inr lost ↦ absurd (lost.1.1 (has.2 ∙ cut ∙ lost.1.0))
  ],
)

-- the first words of a source that are lost
pub record IsLostIn (source text : List ℕ) (words : List (ℕ × ℕ)) (n : List ℕ) (at : ℕ) : Type 0 where
  pub end : ℕ
  pub known : Contains words (at, end)
  pub lost : IsLostBetween source text n at end

none_known : (w : ℕ × ℕ) → Contains [] w → ⊥
none_known w (k, below, is) = omega (arith, below)

pub none_lost : (source text n : List ℕ) (at : ℕ) → IsLostIn source text [] n at → ⊥
none_lost source text n at is = none_known (at, is.end) is.known

-- one word more
pub lost_more : (source text : List ℕ) (words : List (ℕ × ℕ)) (w : ℕ × ℕ) (old new : Places) (n : List ℕ) (at : ℕ)
    → Contains (places_under old n) at ↔ IsLostIn source text words n at
    → Contains (places_under new n) at ↔ (Contains (places_under old n) at ⊎ ((at ≡ w.0) × IsLostBetween source text n w.0 w.1))
    → Contains (places_under new n) at ↔ IsLostIn source text (words ++ w ∷ []) n at
lost_more source text words w old new n at known step = (
  λ has. elim (step.0 has) [
    | inl before ↦ let is = known.0 before in record { end = is.end; known = Contains-append_left words (w ∷ []) (at, is.end) is.known; lost = is.lost }
    | inr here ↦ record {
      end = w.1;
      known = subst (λ a. Contains (words ++ w ∷ []) (a, w.1)) (sym here.0) (Contains-push words w);
      lost = subst (λ a. IsLostBetween source text n a w.1) (sym here.0) here.1;
    }
  ],
  λ is. step.1 (elim (Contains-push_cases words w (at, is.end) is.known) [
    | inl before ↦ inl (known.1 (record { end = is.end; known = before; lost = is.lost }))
    | inr same ↦
        let begin : at ≡ w.0 = sym (ap (λ (p : ℕ × ℕ). p.0) same) in
        let end : is.end ≡ w.1 = sym (ap (λ (p : ℕ × ℕ). p.1) same) in
        inr (begin, subst (λ a. IsLostBetween source text n a w.1) begin (subst (λ e. IsLostBetween source text n at e) end is.lost))
  ]),
)

minus_plus : (at n : ℕ) → (at + n) - at ≡ n
minus_plus at n = omega arith

-- all words
pub lost_are : (source text : List ℕ) (words : List (ℕ × ℕ)) (n : List ℕ) (at : ℕ) → AreWordsOf source words → IsLostIn source text words n at ↔ IsLostAt source text n at
lost_are source text words n at are = (
  λ is.
      let between : IsBetween source at is.end = (are at is.end).0 is.known in
      let some = some_of source at is.end between in
      let long : length n ≡ is.end - at = sym (ap length is.lost.0) ∙ length_part at is.end source some.1 (omega (arith, some.0)) in
      let end : at + length n ≡ is.end = omega (arith, long, some.0) in
      record {
        is = record {
          alone = subst (λ e. IsBetween source at e) (sym end) between;
          is = subst (λ k. part_at at k source ≡ n) (sym long) is.lost.0;
        };
        other = subst (λ k. part_at at k text ≢ n) (sym long) is.lost.1;
      },
  λ is. record {
    end = at + length n;
    known = (are at (at + length n)).1 is.is.alone;
    lost = (
      subst (λ k. part_at at k source ≡ n) (sym (minus_plus at (length n))) is.is.is,
      subst (λ k. part_at at k text ≢ n) (sym (minus_plus at (length n))) is.other,
    );
  },
)

-- ---- the places of a word

pub record IsWordIn (text word : List ℕ) (words : List (ℕ × ℕ)) (at : ℕ) : Type 0 where
  pub end : ℕ
  pub known : Contains words (at, end)
  pub has : HasBetween text word at end

pub none_placed : (text word : List ℕ) (at : ℕ) → IsWordIn text word [] at → ⊥
none_placed text word at is = none_known (at, is.end) is.known

-- one word more, which is this one or another
pub placed_more : (text word : List ℕ) (words : List (ℕ × ℕ)) (w : ℕ × ℕ) (old new : List ℕ) (at : ℕ) → Contains old at ↔ IsWordIn text word words at
    → HasBetween text word w.0 w.1 → new ≡ insert_key nat_cmp old w.0 → Contains new at ↔ IsWordIn text word (words ++ w ∷ []) at
placed_more text word words w old new at known has is = (
  λ there. elim (inserted_has old w.0 at (subst (λ ks. Contains ks at) is there)) [
    | inl before ↦ let one = known.0 before in record { end = one.end; known = Contains-append_left words (w ∷ []) (at, one.end) one.known; has = one.has }
    | inr here ↦ record {
      end = w.1;
      known = subst (λ a. Contains (words ++ w ∷ []) (a, w.1)) (sym here) (Contains-push words w);
      has = subst (λ a. HasBetween text word a w.1) (sym here) has;
    }
  ],
  λ one. subst (λ ks. Contains ks at) (sym is) (inserted_keeps old w.0 at (elim (Contains-push_cases words w (at, one.end) one.known) [
    | inl before ↦ inl (known.1 (record { end = one.end; known = before; has = one.has }))
    | inr same ↦ inr (sym (ap (λ (p : ℕ × ℕ). p.0) same))
  ])),
)

pub placed_other : (text word : List ℕ) (words : List (ℕ × ℕ)) (w : ℕ × ℕ) (old : List ℕ) (at : ℕ) → Contains old at ↔ IsWordIn text word words at
    → (HasBetween text word w.0 w.1 → ⊥) → Contains old at ↔ IsWordIn text word (words ++ w ∷ []) at
placed_other text word words w old at known other = (
  λ there. let one = known.0 there in record { end = one.end; known = Contains-append_left words (w ∷ []) (at, one.end) one.known; has = one.has },
  λ one. elim (Contains-push_cases words w (at, one.end) one.known) [
    | inl before ↦ known.1 (record { end = one.end; known = before; has = one.has })
    | inr same ↦
        let begin : at ≡ w.0 = sym (ap (λ (p : ℕ × ℕ). p.0) same) in
        let end : one.end ≡ w.1 = sym (ap (λ (p : ℕ × ℕ). p.1) same) in
        absurd (other (subst (λ a. HasBetween text word a w.1) begin (subst (λ e. HasBetween text word at e) end one.has)))
  ],
)

pub placed_are : (text word : List ℕ) (words : List (ℕ × ℕ)) (at : ℕ) → AreWordsOf text words → IsWordIn text word words at ↔ IsWordAt text word at
placed_are text word words at are = (
  λ one.
      let between : IsBetween text at one.end = (are at one.end).0 one.known in
      let some = some_of text at one.end between in
      let long : length word ≡ one.end - at = sym (ap length one.has.2) ∙ length_part at one.end text some.1 (omega (arith, some.0)) in
      let end : at + length word ≡ one.end = omega (arith, long, some.0) in
      record {
        alone = subst (λ e. IsBetween text at e) (sym end) between;
        is = subst (λ k. part_at at k text ≡ word) (sym long) one.has.2;
      },
  λ is. record {
    end = at + length word;
    known = (are at (at + length word)).1 is.alone;
    has = (omega arith, (some_of text at (at + length word) is.alone).1, subst (λ k. part_at at k text ≡ word) (sym (minus_plus at (length word))) is.is);
  },
)
