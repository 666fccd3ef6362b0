-- Where the tags of a text are that open or close a symbol.
use Rattle.std.proofs.Common.{◌≡◌, ◌<◌, ◌≤◌, inl, inr, ◌++◌, ℕ, Bool, true, false, ◌&&◌, None, List, [], ◌∷◌, codes, refl, ◌∙◌, arith}
use Rattle.std.specs.Str.{bytes_eq}
use Rattle.std.specs.Option.{option_to_list}
use Rattle.std.proofs.lemmas.Bool.{cases_Bool}
use Rattle.tera_lexer.specs.grammar.Tokens.{Tok, Finish, Ident, Symbol}
use Rattle.tera_outline.specs.declared.symbols.SymbolKind.{SymbolKind}
use Rattle.tera_outline.specs.declared.symbols.SymbolKind.TheVariants as kinds
use Rattle.tera_outline.specs.Pieces.{Part, AreBetween}
use Rattle.tera_outline.specs.Dotted.{is_name, is_operator, begins_link, links, dotted, end_of}
use Rattle.tera_outline.specs.Symbols.{Mark, Closes, begins_tag, ends_tag, tag_end, opening, word_mark, marks}
use Rattle.tera_outline.proofs.Nesting.{Ascend, sooner}

abbrev end_from : ℕ → List Part → ℕ
end_from e [] = e
end_from e (p ∷ ps) = end_from p.end ps

end_of_from : (p : Part) (ps : List Part) → end_of (p ∷ ps) ≡ end_from p.end ps
end_of_from p [] = refl
end_of_from p (q ∷ ps) = end_of_from q ps

end_no_start : (t : Tok) → ends_tag t ≡ true → begins_tag t ≡ false
end_no_start (Finish kind dash) is = refl
end_no_start t is = cc

name_no_start : (t : Tok) → is_name t ≡ true → begins_tag t ≡ false
name_no_start (Ident name) is = refl
name_no_start t is = cc

operator_no_start : (op : List ℕ) (t : Tok) → is_operator op t ≡ true → begins_tag t ≡ false
operator_no_start op (Symbol other) is = refl
operator_no_start op t is = cc

no_mark : (last : ℕ) (p : Part) (ps : List Part) → begins_tag p.token ≡ false → marks last (p ∷ ps) ≡ marks last ps
no_mark last p [] none = refl
no_mark last p (w ∷ ps) none = rw none refl

not_word : (last start : ℕ) (t : Tok) (ps : List Part) → is_name t ≡ false → word_mark last start t ps ≡ None
not_word last start (Ident name) ps none = cc
not_word last start t ps none = refl

-- these parts of a name are there, and then the tags
abbrev IsNamed : ℕ → ℕ → List Part → List Part → Type 0
IsNamed to from ps [] = Unit {0}
IsNamed to from ps (n ∷ ns) = (from ≤ n.start) × (n.start < end_of (n ∷ ns)) × Ascend (end_of (n ∷ ns)) to (marks to ps)

record Rises (to : ℕ) (ps : List Part) : Type 0 where
  marked : (from : ℕ) → AreBetween from to ps → Ascend from to (marks to ps)
  tagged : (from : ℕ) → AreBetween from to ps → (from ≤ tag_end to ps) × Ascend (tag_end to ps) to (marks to ps)
  linked : (from : ℕ) → AreBetween from to ps → (from ≤ end_from from (links ps)) × Ascend (end_from from (links ps)) to (marks to ps)
  named : (from : ℕ) → AreBetween from to ps → IsNamed to from ps (dotted ps)

opens : (to from following start : ℕ) (k : SymbolKind) (ps name : List Part) → from ≤ start → start < following → IsNamed to following ps name → Ascend from to (marks to ps)
    → Ascend from to (option_to_list (opening k start name) ++ marks to ps)
opens to from following start k ps [] a b named none = none
opens to from following start k ps (n ∷ ns) a b (c, d, rest) none = (a, omega arith, d, rest)

-- what is so of the tags after a word, whichever tag it makes, is so of them with it
pub a_word : (P : List Mark → Type 0) (to start : ℕ) (t : Tok) (ps : List Part) (ms : List Mark) → P ms
    → ((k : SymbolKind) → P (option_to_list (opening k start (dotted ps)) ++ ms))
    → ((k : SymbolKind) → P (Closes k start (tag_end to ps) ∷ ms))
    → P (option_to_list (word_mark to start t ps) ++ ms)
a_word P to start (Ident word) ps ms none opened closed = elim (cases_Bool (bytes_eq word (codes "block"))) [
  | inl is ↦ rw is (opened kinds.Block)
  | inr not_block ↦ elim (cases_Bool (bytes_eq word (codes "component"))) [
    | inl is ↦ rw (not_block, is) (opened kinds.Component)
    | inr not_component ↦ elim (cases_Bool (bytes_eq word (codes "endblock"))) [
      | inl is ↦ rw (not_block, not_component, is) (closed kinds.Block)
      | inr not_endblock ↦ elim (cases_Bool (bytes_eq word (codes "endcomponent"))) [
        | inl is ↦ rw (not_block, not_component, not_endblock, is) (closed kinds.Component)
        | inr other ↦ rw (not_block, not_component, not_endblock, other) none
      ]
    ]
  ]
]
a_word P to start t ps ms none opened closed = none

marks_rise : (to : ℕ) (p w : Part) (ps : List Part) → Rises to (w ∷ ps) → Rises to ps → (from : ℕ) → AreBetween from to (p ∷ w ∷ ps)
    → Ascend from to (marks to (p ∷ w ∷ ps))
marks_rise to p w ps one two from (a, b, following) =
    let none = sooner from p.end to (marks to (w ∷ ps)) (omega arith) (one.marked p.end following) in
    elim (cases_Bool (begins_tag p.token)) [
      | inr no_tag ↦ rw no_tag none
      | inl tag ↦ elim (cases_Bool (is_name w.token)) [
        | inr no_word ↦ rw (tag, not_word to p.start w.token ps no_word) none
        | inl word ↦
            let same = no_mark to w ps (name_no_start w.token word) in
            let (c, d, further) = following in
            let none_after : Ascend from to (marks to ps) = rw same at none in
            let closes = two.tagged w.end further in
            rw (tag, same)
            (a_word (Ascend from to) to p.start w.token ps (marks to ps) none_after
            (λ k. opens to from w.end p.start k ps (dotted ps) a (omega arith) (two.named w.end further) none_after)
            (λ k. (a, omega (arith, closes.0), closes.1)))
      ]
    ]

both : (x y : Bool) → x && y ≡ true → (x ≡ true) × (y ≡ true)
both true y is = (refl, is)
both false y is = cc

links_rise : (to : ℕ) (p w : Part) (ps : List Part) → Rises to ps → (from : ℕ) → Ascend from to (marks to (p ∷ w ∷ ps)) → AreBetween from to (p ∷ w ∷ ps)
    → (from ≤ end_from from (links (p ∷ w ∷ ps))) × Ascend (end_from from (links (p ∷ w ∷ ps))) to (marks to (p ∷ w ∷ ps))
links_rise to p w ps two from whole (a, b, (c, d, further)) = elim (cases_Bool (begins_link (p ∷ w ∷ ps))) [
  | inr none ↦
      let no_links : links (p ∷ w ∷ ps) ≡ [] = rw none refl in
      rw no_links (omega arith, whole)
  | inl link ↦
      let parts = both (is_operator (codes ".") p.token) (is_name w.token) link in
      let some : links (p ∷ w ∷ ps) ≡ p ∷ w ∷ links ps = rw link refl in
      let same : marks to (p ∷ w ∷ ps) ≡ marks to ps =
      no_mark to p (w ∷ ps) (operator_no_start (codes ".") p.token parts.0) ∙ no_mark to w ps (name_no_start w.token parts.1) in
      let rest = two.linked w.end further in
      rw (some, same) (omega (arith, rest.0), rest.1)
]

tags_rise : (to : ℕ) (p : Part) (ps : List Part) → Rises to ps → ((from : ℕ) → AreBetween from to (p ∷ ps) → Ascend from to (marks to (p ∷ ps)))
    → (from : ℕ) → AreBetween from to (p ∷ ps) → (from ≤ tag_end to (p ∷ ps)) × Ascend (tag_end to (p ∷ ps)) to (marks to (p ∷ ps))
tags_rise to p ps one marked from (a, b, following) = elim (cases_Bool (ends_tag p.token)) [
  | inl ends ↦
      let e : tag_end to (p ∷ ps) ≡ p.end = rw ends refl in
      let same = no_mark to p ps (end_no_start p.token ends) in
      rw (e, same) (omega arith, one.marked p.end following)
  | inr no_end ↦ elim (cases_Bool (begins_tag p.token)) [
    | inl begins ↦
        let e : tag_end to (p ∷ ps) ≡ p.start = rw (no_end, begins) refl in
        rw e (a, marked p.start (omega arith, b, following))
    | inr no_start ↦
        let e : tag_end to (p ∷ ps) ≡ tag_end to ps = rw (no_end, no_start) refl in
        let same = no_mark to p ps no_start in
        let rest = one.tagged p.end following in
        rw (e, same) (omega (arith, rest.0), rest.1)
  ]
]

names_rise : (to : ℕ) (p : Part) (ps : List Part) → Rises to ps → (from : ℕ) → AreBetween from to (p ∷ ps) → IsNamed to from (p ∷ ps) (dotted (p ∷ ps))
names_rise to p ps one from (a, b, following) = elim (cases_Bool (is_name p.token)) [
  | inr none ↦ let e : dotted (p ∷ ps) ≡ [] = rw none refl in rw e tt
  | inl is ↦
      let e : dotted (p ∷ ps) ≡ p ∷ links ps = rw is refl in
      let same = no_mark to p ps (name_no_start p.token is) in
      let rest = one.linked p.end following in
      rw (e, end_of_from p (links ps), same) (a, omega (arith, rest.0), rest.1)
]

rises : (to : ℕ) (ps : List Part) → Rises to ps
rises to [] = record {
  marked = λ from h. h;
  tagged = λ from h. (h, omega arith);
  linked = λ from h. (omega arith, h);
  named = λ from h. tt;
}
rises to (p ∷ []) =
    let one = rises to [] in
    let marked : (from : ℕ) → AreBetween from to (p ∷ []) → Ascend from to (marks to (p ∷ [])) = λ from (a, b, c). omega arith in
    record {
      marked = marked;
      tagged = tags_rise to p [] one marked;
      linked = λ from h. (omega arith, marked from h);
      named = names_rise to p [] one;
    }
rises to (p ∷ w ∷ ps) =
    let one = rises to (w ∷ ps) in
    let two = rises to ps in
    let marked = marks_rise to p w ps one two in
    record {
      marked = marked;
      tagged = tags_rise to p (w ∷ ps) one marked;
      linked = λ from h. links_rise to p w ps two from (marked from h) h;
      named = names_rise to p (w ∷ ps) one;
    }

-- the tags of parts that are between two bytes
pub marks_ascend : (from to : ℕ) (ps : List Part) → AreBetween from to ps → Ascend from to (marks to ps)
marks_ascend from to ps stand = (rises to ps).marked from stand
