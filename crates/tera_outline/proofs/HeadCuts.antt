-- Where the head of a definition is cut out of its text.
use Rattle.std.proofs.Common.{◌≡◌, ◌≤◌, ◌++◌, ◌||◌, ℕ, zero, suc, Bool, true, false, Option, Some, None, List, [], ◌∷◌, length, drop, map, min, nat_lt, inl, inr, refl, subst, arith}
use Rattle.std.specs.List.{AllByRecursion, find}
use Rattle.std.specs.Option.{option_to_list}
use Rattle.std.specs.Str.{IsCharBoundary, IsUtf8}
use Rattle.std.proofs.lemmas.Bool.{cases_Bool}
use Rattle.std.proofs.lemmas.Bool.Decides.{leb_tells, nat_tests}
use Rattle.std.proofs.lemmas.Str.{IsCharBoundary-from_rest, IsUtf8-drop}
use Rattle.tera_lexer.specs.grammar.Marks.{default_marks}
use Rattle.tera_lexer.specs.grammar.Tokens.{Items, Ended, Failed, Token}
use Rattle.tera_lexer.specs.code.Steps.{EachIsAt}
use Rattle.tera_lexer.proofs.TokensInLemmas.{each_sound}
use Rattle.tera_layout.proofs.Defaults.{default_valid}
use Rattle.tera_outline.specs.declared.symbols.SymbolKind.{SymbolKind}
use Rattle.tera_outline.specs.Pieces.{Part, opened_after, goes_over, read_in, stopped_after, next_of, before, moved, AreWithRest, AreReadBy, ArePartsOf}
use Rattle.tera_outline.specs.Dotted.{is_name, begins_link, links, dotted, start_of, end_of}
use Rattle.tera_outline.specs.Symbols.{Outlined, Mark, Opens, Closes, begins_tag, ends_tag, opening, marks, is_open, after_last, outline, outline_of}
use Rattle.tera_outline.specs.Heads.{head_end}
use Rattle.tera_outline.proofs.Nesting.{Ascend}
use Rattle.tera_outline.proofs.Rising.{a_word, marks_ascend}
use Rattle.tera_outline.proofs.Starts.{default_texts, next_cut}
use Rattle.tera_outline.proofs.Stopping.{parts_sound}

-- the part between two bytes can be cut out
pub record IsCut (text : List ℕ) (start end : ℕ) : Type 0 where
  pub order : start ≤ end
  pub begins : IsCharBoundary text start
  pub ends : IsCharBoundary text end

abbrev AreCut : List ℕ → List Part → Type 0
AreCut text ps = AllByRecursion (λ (p : Part). IsCut text p.start p.end) ps

-- ---- tokens

before_cut : (text : List ℕ) (stop : ℕ) (ps : List Part) → IsCharBoundary text stop → AreCut text ps → AreCut text (before stop ps)
before_cut text stop [] h cut = tt
before_cut text stop (p ∷ ps) h (a, rest) = elim (leb_tells (suc p.start) stop) [
  | inl starts ↦ elim (leb_tells p.end stop) [
    | inl within ↦
        let same : min p.end stop ≡ p.end = omega (arith, within.1) in
        rw (starts.0, same) (record { order = a.order; begins = a.begins; ends = a.ends }, before_cut text stop ps h rest)
    | inr over ↦
        let same : min p.end stop ≡ stop = omega (arith, over.1) in
        rw (starts.0, same) (record { order = omega (arith, starts.1); begins = a.begins; ends = h }, before_cut text stop ps h rest)
  ]
  | inr none ↦ rw none.0 tt
]

moved_cut : (text : List ℕ) (n : ℕ) (ps : List Part) → n ≤ length text → AreCut (drop n text) ps → AreCut text (map (moved n) ps)
moved_cut text n [] h cut = tt
moved_cut text n (p ∷ ps) h (a, rest) = (
  record {
    order = omega (arith, a.order);
    begins = IsCharBoundary-from_rest text n p.start h a.begins;
    ends = IsCharBoundary-from_rest text n p.end h a.ends;
  },
  moved_cut text n ps h rest,
)

both_cut : (text : List ℕ) (ps qs : List Part) → AreCut text ps → AreCut text qs → AreCut text (ps ++ qs)
both_cut text [] qs h cut = cut
both_cut text (p ∷ ps) qs (a, rest) cut = (a, both_cut text ps qs rest cut)

rest_cut : (P : List ℕ → List Part → Type 0) (text : List ℕ) (read : List Part) (next : Option ℕ) (parts : List Part) → IsUtf8 text
    → ((t : List ℕ) (ps : List Part) → IsUtf8 t → P t ps → AreCut t ps) → AreCut text read → ((k : ℕ) → next ≡ Some k → IsCharBoundary text k)
    → AreWithRest P text read next parts → AreCut text parts
rest_cut P text read None parts utf8 each cut fits same = rw same cut
rest_cut P text read (Some k) parts utf8 each cut fits (rest, are, same) =
    let at : IsCharBoundary text k = fits k refl in
    let following : AreCut (drop k text) rest = each (drop k text) rest (IsUtf8-drop text k utf8 at) are in
    rw same (both_cut text (before k read) (map (moved k) rest) (before_cut text k read at cut) (moved_cut text k rest at.0 following))

read_cut : (again : Bool) (text source : List ℕ) (opened : Option ℕ) (items : Items) → EachIsAt text items → AreCut text (read_in again source opened items)
read_cut again text source opened Ended h = tt
read_cut again text source opened (Failed message span) h = tt
read_cut again text source opened (Token t span items) (sound, rest) =
    let cut : IsCut text span.range.start span.range.end = record { order = sound.0.0; begins = sound.0.1; ends = sound.0.2 } in
    elim (cases_Bool (goes_over again source opened span.range.end)) [
      | inl over ↦ rw over (cut, tt)
      | inr within ↦ rw within (cut, read_cut again text source (opened_after opened t span.range.end) items rest)
    ]

cut_by : (n : ℕ) (again : Bool) (text : List ℕ) (parts : List Part) → IsUtf8 text → AreReadBy n again text parts → AreCut text parts
unfolding AreReadBy
cut_by zero again text parts utf8 none = rw none tt
cut_by (suc n) again text parts utf8 (items, tokens, whole) =
    rest_cut (AreReadBy n true) text (read_in again text None items) (next_of again text items) parts utf8 (λ t ps u are. cut_by n true t ps u are)
    (read_cut again text text None items (each_sound default_marks default_valid default_texts text utf8 items tokens))
    (λ k is. next_cut text (stopped_after again text None items) k is) whole

parts_cut : (text : List ℕ) (parts : List Part) → IsUtf8 text → ArePartsOf text parts → AreCut text parts
parts_cut text parts utf8 are = cut_by 100 false text parts utf8 are

-- ---- names

links_cut : (text : List ℕ) (ps : List Part) → AreCut text ps → AreCut text (links ps)
links_cut text [] h = tt
links_cut text (p ∷ []) h = tt
links_cut text (p ∷ q ∷ ps) (a, (b, rest)) = elim (cases_Bool (begins_link (p ∷ q ∷ ps))) [
  | inl link ↦ let some : links (p ∷ q ∷ ps) ≡ p ∷ q ∷ links ps = rw link refl in rw some (a, (b, links_cut text ps rest))
  | inr none ↦ let e : links (p ∷ q ∷ ps) ≡ [] = rw none refl in rw e tt
]

dotted_cut : (text : List ℕ) (ps : List Part) → AreCut text ps → AreCut text (dotted ps)
dotted_cut text [] h = tt
dotted_cut text (p ∷ ps) (a, rest) = elim (cases_Bool (is_name p.token)) [
  | inl name ↦ let some : dotted (p ∷ ps) ≡ p ∷ links ps = rw name refl in rw some (a, links_cut text ps rest)
  | inr none ↦ let e : dotted (p ∷ ps) ≡ [] = rw none refl in rw e tt
]

end_cut : (text : List ℕ) (p : Part) (ps : List Part) → AreCut text (p ∷ ps) → IsCharBoundary text (end_of (p ∷ ps))
end_cut text p [] h = h.0.ends
end_cut text p (q ∷ ps) (a, rest) = end_cut text q ps rest

-- ---- tags, by the ends of their names

record IsNameCut (text : List ℕ) (start end : ℕ) : Type 0 where
  begins : IsCharBoundary text start
  ends : IsCharBoundary text end

abbrev AreNamesCut : List ℕ → List Mark → Type 0
AreNamesCut text [] = Unit {0}
AreNamesCut text (Opens k start name ∷ ms) = IsNameCut text (start_of name) (end_of name) × AreNamesCut text ms
AreNamesCut text (Closes k start end ∷ ms) = AreNamesCut text ms

opened_cut : (text : List ℕ) (k : SymbolKind) (start : ℕ) (name : List Part) (ms : List Mark) → AreCut text name → AreNamesCut text ms
    → AreNamesCut text (option_to_list (opening k start name) ++ ms)
opened_cut text k start [] ms h rest = rest
opened_cut text k start (n ∷ ns) ms h rest = (record { begins = h.0.begins; ends = end_cut text n ns h }, rest)

marks_cut : (text : List ℕ) (last : ℕ) (ps : List Part) → AreCut text ps → AreNamesCut text (marks last ps)
marks_cut text last [] h = tt
marks_cut text last (p ∷ []) h = tt
marks_cut text last (p ∷ w ∷ ps) (a, (b, rest)) =
    let following = marks_cut text last (w ∷ ps) (b, rest) in
    elim (cases_Bool (begins_tag p.token)) [
      | inl tag ↦
          rw tag
          (a_word (AreNamesCut text) last p.start w.token ps (marks last (w ∷ ps)) following
          (λ k. opened_cut text k p.start (dotted ps) (marks last (w ∷ ps)) (dotted_cut text ps rest) following)
          (λ k. following))
      | inr none ↦ rw none following
    ]

outline_cut : (text : List ℕ) (from last : ℕ) (around : List SymbolKind) (ms : List Mark) → Ascend from last ms → AreNamesCut text ms
    → AllByRecursion (λ (s : Outlined). IsCut text s.name_start s.name_end) (outline last around ms)
outline_cut text from last around [] h cut = tt
outline_cut text from last around (Opens k start name ∷ ms) (a, b, c, rest) (named, cut) =
    (record { order = omega arith; begins = named.begins; ends = named.ends }, outline_cut text (end_of name) last (k ∷ around) ms rest cut)
outline_cut text from last around (Closes k start end ∷ ms) (a, b, rest) cut = elim (cases_Bool (is_open k around)) [
  | inl is ↦ rw is (outline_cut text end last (after_last k around) ms rest cut)
  | inr none ↦ rw none (outline_cut text end last around ms rest cut)
]

-- ---- the head

find_among : (P : Outlined → Type 0) (test : Outlined → Bool) (ss : List Outlined) (s : Outlined) → AllByRecursion P ss → find test ss ≡ Some s → P s
find_among P test [] s all is = cc
find_among P test (t ∷ ss) s (a, rest) is = elim (cases_Bool (test t)) [
  | inl passes ↦ let e : Some t ≡ Some s = rw passes at is in subst P (some_one t s e) a
  | inr fails ↦ let e : find test ss ≡ Some s = rw fails at is in find_among P test ss s rest e
]
  where
    some_one : (t s : Outlined) → Some t ≡ Some s → t ≡ s
    some_one t s e = cc

end_of_head : (text : List ℕ) (from byte : ℕ) (ps : List Part) → IsCut text from byte → AreCut text ps → IsCut text from (head_end byte ps)
end_of_head text from byte [] h all = h
end_of_head text from byte (p ∷ ps) h (a, rest) = elim (cases_Bool (nat_lt p.start byte)) [
  | inl before ↦ rw before (end_of_head text from byte ps h rest)
  | inr following ↦ elim (cases_Bool (ends_tag p.token || begins_tag p.token)) [
    | inl stops ↦ rw (following, stops) h
    | inr goes_on ↦
        rw (following, goes_on)
        (end_of_head text from p.end ps
        (record { order = grind (arith, nat_tests, h.order, a.order, following); begins = h.begins; ends = a.ends }) rest)
  ]
]

pub head_cut : (text : List ℕ) (parts : List Part) (test : Outlined → Bool) (s : Outlined) → IsUtf8 text → ArePartsOf text parts
    → find test (outline_of (length text) parts) ≡ Some s → IsCut text s.name_start (head_end s.name_end parts)
head_cut text parts test s utf8 are found =
    let cut = parts_cut text parts utf8 are in
    let tags = marks (length text) parts in
    let named = outline_cut text 0 (length text) [] tags (marks_ascend 0 (length text) parts (parts_sound text parts are)) (marks_cut text (length text) parts cut) in
    end_of_head text s.name_start s.name_end parts
    (find_among (λ (o : Outlined). IsCut text o.name_start o.name_end) test (outline_of (length text) parts) s named found) cut
