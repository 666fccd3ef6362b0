-- The words of a text, one by one.
use Rattle.std.proofs.Common.{◌≡◌, ◌≢◌, ◌∙◌, ◌+◌, ◌-◌, ◌<◌, ◌≤◌, ◌⊎◌, inl, inr, ℕ, zero, suc, Bool, true, false, cond, List, [], ◌∷◌, ◌++◌, length, get_or, refl, sym, ap, subst, arith}
use Rattle.std.specs.Prelude.{◌↔◌, nat_lt, nat_eq}
use Rattle.std.specs.List.{Contains}
use Rattle.std.proofs.lemmas.Bool.Decides.{leb_tells, eqb_tells}
use Rattle.std.proofs.lemmas.List.Elements.{Contains-append_left, Contains-append_cases, Contains-push, Contains-push_cases}
use Rattle.tera_lexer.specs.grammar.Lexeme.{goes_on_name}
use Rattle.tera_templates.specs.Lost.{IsWordBetween, IsMarkBetween, IsBetween, AreWordsOf}

-- some words of a text: those that end at this byte or before it
abbrev pub AreWordsTo : List ℕ → List (ℕ × ℕ) → ℕ → Type 0
AreWordsTo text words to = (s e : ℕ) → Contains words (s, e) ↔ (IsBetween text s e × (e ≤ to))

-- .. and from `start` to `at` all bytes are in one word, of which there is nothing before
pub record Begun (text : List ℕ) (words : List (ℕ × ℕ)) (start at : ℕ) : Type 0 where
  pub below : start ≤ at
  pub run : (k : ℕ) → start ≤ k → k < at → goes_on_name (get_or text k 0) ≡ true
  pub first : (k : ℕ) → suc k ≡ start → goes_on_name (get_or text k 0) ≡ false
  pub known : AreWordsTo text words start

contains_none : (w : ℕ × ℕ) → Contains [] w → ⊥
contains_none w (k, below, is) = omega (arith, below)

pub begun_none : (text : List ℕ) (words : List (ℕ × ℕ)) → words ≡ [] → Begun text words 0 0
begun_none text words none = record {
  below = omega arith;
  run = λ k above below. absurd (omega (arith, below));
  first = λ k is. absurd (omega (arith, is));
  known = λ s e. (
    λ has. absurd (contains_none (s, e) (subst (λ ws. Contains ws (s, e)) none has)),
    λ is. elim is.0 [
      | inl word ↦ absurd (omega (arith, word.some, is.1))
      | inr mark ↦ absurd (omega (arith, mark.one, is.1))
    ],
  );
}

pub begun_on : (text : List ℕ) (words : List (ℕ × ℕ)) (start at : ℕ) → Begun text words start at → goes_on_name (get_or text at 0) ≡ true → Begun text words start (at + 1)
begun_on text words start at begun on = record {
  below = omega (arith, begun.below);
  run = λ k above below. elim (leb_tells (suc k) at) [
    | inl within ↦ begun.run k above within.1
    | inr beyond ↦ let same : k ≡ at = omega (arith, below, beyond.1) in subst (λ n. goes_on_name (get_or text n 0) ≡ true) (sym same) on
  ];
  first = begun.first;
  known = begun.known;
}

both : {b : Bool} → b ≡ true → b ≡ false → ⊥
both is not = let e : true ≡ false = sym is ∙ not in cc

-- a word between the byte where one begins and a byte that ends it
word_is : (text : List ℕ) (words : List (ℕ × ℕ)) (start at : ℕ) → Begun text words start at → at ≤ length text → (at < length text → goes_on_name (get_or text at 0) ≡ false)
    → start < at → IsWordBetween text start at
word_is text words start at begun within ends some = record {
  some = some;
  within = within;
  all = begun.run;
  first = begun.first;
  last = ends;
}

-- where a word or a mark begins at the run or after its first byte, and ends in it, it is the run
run_is : (text : List ℕ) (words : List (ℕ × ℕ)) (start at s e : ℕ) → Begun text words start at → at ≤ length text → start < e → e ≤ at → IsBetween text s e → (s ≡ start) × (e ≡ at)
run_is text words start at s e begun within above below is = elim is [
  | inl word ↦
      let end : e ≡ at = elim (leb_tells (suc e) at) [
        | inl inside ↦ absurd (both (begun.run e (omega (arith, above)) inside.1) (word.last (omega (arith, inside.1, within))))
        | inr there ↦ omega (arith, below, there.1)
      ] in
      let begin : s ≡ start = elim (leb_tells (suc s) start) [
        | inl before ↦ absurd (run_before before.1 word)
        | inr after ↦ elim (leb_tells (suc start) s) [
          | inl later ↦ absurd (run_after later.1 word)
          | inr same ↦ omega (arith, after.1, same.1)
        ]
      ] in
      (begin, end)
  | inr mark ↦ absurd (both (begun.run s (omega (arith, mark.one, above)) (omega (arith, mark.one, below))) (ap goes_on_name mark.is))
]
  where
    run_before : s < start → IsWordBetween text s e → ⊥
    run_before before word = elim (leb_tells 1 start) [
      | inl some ↦ both (word.all (start - 1) (omega (arith, before)) (omega (arith, above, some.1))) (begun.first (start - 1) (omega (arith, some.1)))
      | inr none ↦ omega (arith, before, none.1)
    ]

    run_after : start < s → IsWordBetween text s e → ⊥
    run_after later word = both (begun.run (s - 1) (omega (arith, later)) (omega (arith, later, word.some, below))) (word.first (s - 1) (omega (arith, later)))

pushed : (text : List ℕ) (words : List (ℕ × ℕ)) (start at s e : ℕ) (b : Bool) → Contains (words ++ (cond b ((start, at) ∷ []) [])) (s, e)
    → Contains words (s, e) ⊎ ((b ≡ true) × (start ≡ s) × (at ≡ e))
pushed text words start at s e true has = elim (Contains-push_cases words (start, at) (s, e) has) [
  | inl before ↦ inl before
  | inr same ↦ inr (refl, ap (λ (w : ℕ × ℕ). w.0) same, ap (λ (w : ℕ × ℕ). w.1) same)
]
pushed text words start at s e false has = elim (Contains-append_cases words [] (s, e) has) [
  | inl before ↦ inl before
  | inr none ↦ absurd (contains_none (s, e) none)
]

is_pushed : (words : List (ℕ × ℕ)) (start at s e : ℕ) (b : Bool) → b ≡ true → s ≡ start → e ≡ at → Contains (words ++ (cond b ((start, at) ∷ []) [])) (s, e)
is_pushed words start at s e true is begin end = rw (begin, end) (Contains-push words (start, at))
is_pushed words start at s e false is begin end = let none : false ≡ true = is in cc

-- the run is pushed, if there is one
pub word_pushed : (text : List ℕ) (words more : List (ℕ × ℕ)) (start at : ℕ) → Begun text words start at → at ≤ length text → (at < length text → goes_on_name (get_or text at 0) ≡ false)
    → more ≡ words ++ (cond (nat_lt start at) ((start, at) ∷ []) []) → AreWordsTo text more at
word_pushed text words more start at begun within ends is = λ s e. (
  λ has. elim (pushed text words start at s e (nat_lt start at) (subst (λ ws. Contains ws (s, e)) is has)) [
    | inl before ↦ let there = (begun.known s e).0 before in (there.0, omega (arith, there.1, begun.below))
    | inr new ↦ elim (leb_tells (suc start) at) [
      | inl some ↦ (
        inl (subst (λ n. IsWordBetween text n e) new.1 (subst (λ n. IsWordBetween text start n) new.2 (word_is text words start at begun within ends some.1))),
        omega (arith, new.2),
      )
      | inr none ↦ absurd (both new.0 none.0)
    ]
  ],
  λ there. subst (λ ws. Contains ws (s, e)) (sym is) (elim (leb_tells (suc start) e) [
    | inl above ↦
        let here = run_is text words start at s e begun within above.1 there.1 there.0 in
        let some : start < at = omega (arith, above.1, there.1) in
        is_pushed words start at s e (nat_lt start at) (elim (leb_tells (suc start) at) [ inl h ↦ h.0 | inr h ↦ absurd (omega (arith, h.1, some)) ]) here.0 here.1
    | inr below ↦ Contains-append_left words (cond (nat_lt start at) ((start, at) ∷ []) []) (s, e) ((begun.known s e).1 (there.0, omega (arith, below.1)))
  ]),
)

-- and the byte after it, if that is a mark
pub mark_pushed : (text : List ℕ) (words more : List (ℕ × ℕ)) (at b : ℕ) → AreWordsTo text words at → at < length text → goes_on_name (get_or text at 0) ≡ false → b ≡ get_or text at 0
    → more ≡ words ++ (cond (nat_eq b 60) ((at, at + 1) ∷ []) []) → Begun text more (at + 1) (at + 1)
mark_pushed text words more at b known within ends byte is = record {
  below = omega arith;
  run = λ k above below. absurd (omega (arith, above, below));
  first = λ k next. let same : k ≡ at = omega (arith, next) in subst (λ n. goes_on_name (get_or text n 0) ≡ false) (sym same) ends;
  known = λ s e. (
    λ has. elim (pushed text words at (at + 1) s e (nat_eq b 60) (subst (λ ws. Contains ws (s, e)) is has)) [
      | inl before ↦ let there = (known s e).0 before in (there.0, omega (arith, there.1))
      | inr new ↦ elim (eqb_tells b 60) [
        | inl mark ↦ (
          inr (record {
            one = omega (arith, new.1, new.2);
            within = omega (arith, new.2, within);
            is = subst (λ n. get_or text n 0 ≡ 60) new.1 (sym byte ∙ mark.1);
          }),
          omega (arith, new.2),
        )
        | inr other ↦ absurd (both new.0 other.0)
      ]
    ],
    λ there. subst (λ ws. Contains ws (s, e)) (sym is) (elim (leb_tells e at) [
      | inl before ↦ Contains-append_left words (cond (nat_eq b 60) ((at, at + 1) ∷ []) []) (s, e) ((known s e).1 (there.0, before.1))
      | inr beyond ↦
          let end : e ≡ at + 1 = omega (arith, beyond.1, there.1) in
          elim there.0 [
            | inl word ↦ absurd (both (word.all at (omega (arith, word.some, end)) (omega (arith, end))) ends)
            | inr mark ↦
                let begin : s ≡ at = omega (arith, mark.one, end) in
                let is_mark : b ≡ 60 = byte ∙ subst (λ n. get_or text n 0 ≡ 60) begin mark.is in
                is_pushed words at (at + 1) s e (nat_eq b 60) (rw is_mark refl) begin end
          ]
    ]),
  );
}

-- those that end in the text are all
pub words_are : (text : List ℕ) (words : List (ℕ × ℕ)) → AreWordsTo text words (length text) → AreWordsOf text words
words_are text words known = λ s e. (
  λ has. ((known s e).0 has).0,
  λ is. (known s e).1 (is, elim is [ inl word ↦ word.within | inr mark ↦ mark.within ]),
)
