-- Which components have the same heads.
use Rattle.std.proofs.Common.{◌≡◌, ◌≢◌, ◌∙◌, ◌⊎◌, ◌<◌, ◌≤◌, ◌+◌, ℕ, suc, List, [], ◌∷◌, ◌++◌, ◌||◌, length, drop, get_or, map, Bool, true, false, not, cond, Option, None, Some, String, string_bytes, refl, sym, ap, subst, inl, inr, arith}
use Rattle.std.proofs.Common.{if◌then◌else◌}
use Rattle.std.specs.Str.{bytes_eq}
use Rattle.std.specs.declared.alloc.Global.{Global}
use Rattle.std.proofs.lemmas.List.{map-append, at_drop_more, at_drop_all}
use Rattle.std.specs.Cmp.Lexicographic.{slice_cmp}
use Rattle.std.specs.List.{list_any}
use Rattle.std.specs.Ordering.{is_eq, nat_cmp}
use Rattle.std.proofs.lemmas.Map.Text.{is_eq-slice_cmp}
use Rattle.std.proofs.lemmas.Slice.Eq.{bytes_eq-Decides}
use Rattle.tera_tree.specs.Tree.{Definition}
use Rattle.tera_tree.specs.View.{definition_view}
use Rattle.tera_tree.specs.declared.ast.ComponentDefinition.{ComponentDefinition}
use Rattle.tera_workspace.specs.Heads.{definition_named, HaveOneHead, HaveOneHeadIfAny}
use Rattle.tera_workspace.specs.Names.{is_among}
use Rattle.tera_workspace.proofs.NameSets.{among_append, drop_next}
use Rattle.tera_workspace.proofs.PlaceLemmas.{first_false, second_false, differ}

false_true : false ≡ true → ⊥
false_true e = cc

pub same_tests : (b c : Bool) → (b ≡ true → c ≡ true) → (c ≡ true → b ≡ true) → not b ≡ not c
same_tests true true h g = refl
same_tests true false h g = absurd (false_true (h refl))
same_tests false true h g = absurd (false_true (g refl))
same_tests false false h g = refl

-- ---- a pair of definitions more

-- two definitions have one head, or neither has this name
abbrev pub AgreeOn : List ℕ → Definition → Definition → Type 0
AgreeOn n d e = HaveOneHead d e ⊎ ((d.name ≢ n) × (e.name ≢ n))

by_tests : (d e : Definition) (b c : Bool) (o p : Option Definition) → b ≡ c → HaveOneHead d e → HaveOneHeadIfAny o p → HaveOneHeadIfAny (cond b (Some d) o) (cond c (Some e) p)
by_tests d e true true o p same head h = head
by_tests d e false false o p same head h = h
by_tests d e true false o p same head h = absurd (false_true (sym same))
by_tests d e false true o p same head h = absurd (false_true same)

pair_more : (n : List ℕ) (d e : Definition) (ds es : List Definition) → AgreeOn n d e → HaveOneHeadIfAny (definition_named n ds) (definition_named n es)
    → HaveOneHeadIfAny (definition_named n (d ∷ ds)) (definition_named n (e ∷ es))
pair_more n d e ds es (inl head) h =
    by_tests d e (bytes_eq d.name n) (bytes_eq e.name n) (definition_named n ds) (definition_named n es) (ap (λ m. bytes_eq m n) head.name) head h
pair_more n d e ds es (inr other) h =
    subst (λ b. HaveOneHeadIfAny (cond b (Some d) (definition_named n ds)) (definition_named n (e ∷ es))) (sym (differ d.name n other.0))
    (subst (λ b. HaveOneHeadIfAny (definition_named n ds) (cond b (Some e) (definition_named n es))) (sym (differ e.name n other.1)) h)

pub pair_next : (n : List ℕ) (before after : List ComponentDefinition) (i : ℕ) (one other : ComponentDefinition) → i < length before → one ≡ get_or before i one → i < length after → other ≡ get_or after i other
    → AgreeOn n (definition_view one) (definition_view other)
    → HaveOneHeadIfAny (definition_named n (map definition_view (drop (i + 1) before))) (definition_named n (map definition_view (drop (i + 1) after)))
    → HaveOneHeadIfAny (definition_named n (map definition_view (drop i before))) (definition_named n (map definition_view (drop i after)))
pair_next n before after i one other h is g js agree rest =
    let next : i + 1 ≡ suc i = omega arith in
    let more : HaveOneHeadIfAny (definition_named n (map definition_view (drop (suc i) before))) (definition_named n (map definition_view (drop (suc i) after))) =
    subst (λ m. HaveOneHeadIfAny (definition_named n (map definition_view (drop m before))) (definition_named n (map definition_view (drop m after)))) next rest in
    subst (λ xs. HaveOneHeadIfAny (definition_named n (map definition_view xs)) (definition_named n (map definition_view (drop i after)))) (sym (drop_next before i one h is))
    (subst (λ ys. HaveOneHeadIfAny (definition_named n (map definition_view (one ∷ drop (suc i) before))) (definition_named n (map definition_view ys))) (sym (drop_next after i other g js))
    (pair_more n (definition_view one) (definition_view other) (map definition_view (drop (suc i) before)) (map definition_view (drop (suc i) after)) agree more))

-- ---- a pair of definitions more at the end

abbrev or_else : Option Definition → Option Definition → Option Definition
or_else None p = p
or_else (Some d) p = Some d

cond_else : (b : Bool) (d : Definition) (o p : Option Definition) → cond b (Some d) (or_else o p) ≡ or_else (cond b (Some d) o) p
cond_else true d o p = refl
cond_else false d o p = refl

named_last : (n : List ℕ) (ds : List Definition) (e : Definition) → definition_named n (ds ++ e ∷ []) ≡ or_else (definition_named n ds) (definition_named n (e ∷ []))
named_last n [] e = refl
named_last n (d ∷ ds) e =
    ap (cond (bytes_eq d.name n) (Some d)) (named_last n ds e) ∙ cond_else (bytes_eq d.name n) d (definition_named n ds) (definition_named n (e ∷ []))

either_of : (o p q r : Option Definition) → HaveOneHeadIfAny o p → HaveOneHeadIfAny q r → HaveOneHeadIfAny (or_else o q) (or_else p r)
either_of None None q r before last = last
either_of (Some d) (Some e) q r before last = before
either_of None (Some e) q r before last = absurd before
either_of (Some d) None q r before last = absurd before

pub pair_last : (n : List ℕ) (before older after newer : List ComponentDefinition) (one other : ComponentDefinition) → before ≡ older ++ one ∷ [] → after ≡ newer ++ other ∷ []
    → HaveOneHead (definition_view one) (definition_view other)
    → HaveOneHeadIfAny (definition_named n (map definition_view older)) (definition_named n (map definition_view newer))
    → HaveOneHeadIfAny (definition_named n (map definition_view before)) (definition_named n (map definition_view after))
pair_last n before older after newer one other is js head agree =
    let d = definition_view one in
    let e = definition_view other in
    let ds = map definition_view older in
    let es = map definition_view newer in
    let first : definition_named n (map definition_view before) ≡ or_else (definition_named n ds) (definition_named n (d ∷ [])) =
    ap (definition_named n) (ap (map definition_view) is ∙ map-append definition_view older (one ∷ [])) ∙ named_last n ds d in
    let second : definition_named n (map definition_view after) ≡ or_else (definition_named n es) (definition_named n (e ∷ [])) =
    ap (definition_named n) (ap (map definition_view) js ∙ map-append definition_view newer (other ∷ [])) ∙ named_last n es e in
    subst (λ o. HaveOneHeadIfAny o (definition_named n (map definition_view after))) (sym first)
    (subst (HaveOneHeadIfAny (or_else (definition_named n ds) (definition_named n (d ∷ [])))) (sym second)
    (either_of (definition_named n ds) (definition_named n es) _ _ agree (pair_more n d e [] [] (inl head) tt)))

-- ---- names that were added

if_true : (b : Bool) → (if b then true else false) ≡ false → b ≡ false
if_true true h = h
if_true false h = refl

unequal : (a n : List ℕ) → bytes_eq a n ≡ false → a ≢ n
unequal a n e same = false_true (sym e ∙ (bytes_eq-Decides a n).1 same)

pub one_pushed : (old now : List (String Global)) (key : String Global) (name n : List ℕ) → now ≡ old ++ key ∷ [] → string_bytes key ≡ name → is_among n (map string_bytes now) ≡ false
    → (is_among n (map string_bytes old) ≡ false) × (name ≢ n)
one_pushed old now key name n is same free =
    let both : (is_among n (map string_bytes old) || is_among n (string_bytes key ∷ [])) ≡ false =
    sym (among_append n (map string_bytes old) (string_bytes key ∷ [])) ∙ ap (is_among n) (sym (ap (map string_bytes) is ∙ map-append string_bytes old (key ∷ []))) ∙ free in (
      first_false (is_among n (map string_bytes old)) (is_among n (string_bytes key ∷ [])) both,
      unequal name n (ap (λ m. bytes_eq m n) (sym same) ∙ if_true (bytes_eq (string_bytes key) n) (second_false (is_among n (map string_bytes old)) (is_among n (string_bytes key ∷ [])) both)),
    )

pub two_pushed : (old mid now : List (String Global)) (key other : String Global) (name last n : List ℕ) → mid ≡ old ++ key ∷ [] → string_bytes key ≡ name → now ≡ mid ++ other ∷ [] → string_bytes other ≡ last
    → is_among n (map string_bytes now) ≡ false → (is_among n (map string_bytes old) ≡ false) × ((name ≢ n) × (last ≢ n))
two_pushed old mid now key other name last n is same js alike free =
    let (before, apart) = one_pushed mid now other last n js alike free in
    let (first, differs) = one_pushed old mid key name n is same before in
    (first, (differs, apart))

-- a name that is not among those of definitions is that of none
if_else : (b r : Bool) → (if b then true else r) ≡ false → (b ≡ false) × (r ≡ false)
if_else true r h = absurd (false_true (sym h))
if_else false r h = (refl, h)

none_named : (n : List ℕ) (ds : List Definition) → is_among n (map (λ d. d.name) ds) ≡ false → definition_named n ds ≡ None
none_named n [] h = refl
none_named n (d ∷ ds) h =
    let (here, more) = if_else (bytes_eq d.name n) (is_among n (map (λ e. e.name) ds)) h in
    ap (λ b. cond b (Some d) (definition_named n ds)) here ∙ none_named n ds more

pub all_pushed : (n : List ℕ) (ds es : List Definition) (start first now : List (List ℕ)) → start ≡ [] → first ≡ start ++ map (λ d. d.name) ds → now ≡ first ++ map (λ d. d.name) es → is_among n now ≡ false
    → HaveOneHeadIfAny (definition_named n ds) (definition_named n es)
all_pushed n ds es start first now none is js free =
    let both : (is_among n first || is_among n (map (λ d. d.name) es)) ≡ false = sym (among_append n first (map (λ d. d.name) es)) ∙ ap (is_among n) (sym js) ∙ free in
    let before : is_among n (map (λ d. d.name) ds) ≡ false = ap (is_among n) (sym (is ∙ ap (λ ns. ns ++ map (λ d. d.name) ds) none)) ∙ first_false (is_among n first) (is_among n (map (λ d. d.name) es)) both in
    subst (λ o. HaveOneHeadIfAny o (definition_named n es)) (sym (none_named n ds before))
    (subst (λ p. HaveOneHeadIfAny None p) (sym (none_named n es (second_false (is_among n first) (is_among n (map (λ d. d.name) es)) both))) tt)

-- ---- names of which one is among others

pub named_in : (n : List ℕ) (names : List (String Global)) → list_any (λ s. bytes_eq (string_bytes s) n) names ≡ is_among n (map string_bytes names)
named_in n [] = refl
named_in n (s ∷ names) = either (bytes_eq (string_bytes s) n) (list_any (λ t. bytes_eq (string_bytes t) n) names) (is_among n (map string_bytes names)) (named_in n names)
  where
    either : (b x y : Bool) → x ≡ y → (b || x) ≡ (if b then true else y)
    either true x y h = refl
    either false x y h = h

pub any_next : (test : List ℕ → Bool) (names : List (String Global)) (i : ℕ) (s : String Global) (b : Bool) → i < length names → s ≡ get_or names i s → test (string_bytes s) ≡ b
    → list_any test (map string_bytes (drop i names)) ≡ (b || list_any test (map string_bytes (drop (i + 1) names)))
any_next test names i s b within is has =
    at_drop_more (λ ss. list_any test (map string_bytes ss)) names i s within
    ∙ ap (λ t. test (string_bytes t) || list_any test (map string_bytes (drop (i + 1) names))) (sym is)
    ∙ ap (λ x. x || list_any test (map string_bytes (drop (i + 1) names))) has

pub any_last : (test : List ℕ → Bool) (names : List (String Global)) (i : ℕ) → length names ≤ i → list_any test (map string_bytes (drop i names)) ≡ false
any_last test names i over = at_drop_all (λ ss. list_any test (map string_bytes ss)) names i over

-- ---- names of a set that are not in another

either : (b rest : Bool) → (if b then true else rest) ≡ true → (b ≡ true) ⊎ (rest ≡ true)
either true rest h = inl refl
either false rest h = inr h

among_by : (b c rest among : Bool) → b ≡ c → (rest ≡ true → among ≡ true) → (b || rest) ≡ true → (if c then true else among) ≡ true
among_by b true rest among same later h = refl
among_by true false rest among same later h = absurd (false_true (sym same))
among_by false false rest among same later h = later h

same_either_way : (xs ys : List ℕ) (b c : Bool) → bytes_eq xs ys ≡ b → bytes_eq ys xs ≡ c → b ≡ c
same_either_way xs ys true true is back = refl
same_either_way xs ys false false is back = refl
same_either_way xs ys true false is back = sym ((bytes_eq-Decides ys xs).1 (sym ((bytes_eq-Decides xs ys).0 is))) ∙ back
same_either_way xs ys false true is back = sym is ∙ (bytes_eq-Decides xs ys).1 (sym ((bytes_eq-Decides ys xs).0 back))

key_test : (n : List ℕ) (k : String Global) → is_eq (slice_cmp nat_cmp n (string_bytes k)) ≡ bytes_eq (string_bytes k) n
key_test n k = is_eq-slice_cmp n (string_bytes k) ∙ same_either_way n (string_bytes k) _ _ refl refl

-- a set has only its names
pub key_among : (n : List ℕ) (ks : List (String Global)) → list_any (λ k. is_eq (slice_cmp nat_cmp n (string_bytes k))) ks ≡ true → is_among n (map string_bytes ks) ≡ true
key_among n [] h = h
key_among n (k ∷ ks) h = among_by _ (bytes_eq (string_bytes k) n) _ (is_among n (map string_bytes ks)) (key_test n k) (key_among n ks) h

-- A name that is not among those that were added was not before. If the set has it, the other one does too, or it is to
-- come.
abbrev pub IsLeft : (touched start left : List (List ℕ)) (has others : List ℕ → Bool) → List ℕ → Type 0
IsLeft touched start left has others n =
    is_among n touched ≡ false → (is_among n start ≡ false) × (has n ≡ true → (others n ≡ true) ⊎ (is_among n left ≡ true))

-- one more name, which the other set has, or which is added
kept_next : (touched start rest : List (List ℕ)) (has others : List ℕ → Bool) (k : List ℕ) → others k ≡ true
    → ((n : List ℕ) → IsLeft touched start (k ∷ rest) has others n) → (n : List ℕ) → IsLeft touched start rest has others n
kept_next touched start rest has others k there held n free =
    let (before, left) = held n free in (
      before,
      λ is. elim (left is) [
        | inl other ↦ inl other
        | inr among ↦ elim (either (bytes_eq k n) (is_among n rest) among) [
          | inl same ↦ inl (subst (λ m. others m ≡ true) ((bytes_eq-Decides k n).0 same) there)
          | inr later ↦ inr later
        ]
      ],
    )

added_next : (touched start rest : List (List ℕ)) (has others : List ℕ → Bool) (k : List ℕ)
    → ((n : List ℕ) → IsLeft touched start (k ∷ rest) has others n) → (n : List ℕ) → IsLeft (touched ++ k ∷ []) start rest has others n
added_next touched start rest has others k held n free =
    let both : (is_among n touched || is_among n (k ∷ [])) ≡ false = sym (among_append n touched (k ∷ [])) ∙ free in
    let (before, left) = held n (first_false (is_among n touched) (is_among n (k ∷ [])) both) in (
      before,
      λ is. elim (left is) [
        | inl other ↦ inl other
        | inr among ↦ elim (either (bytes_eq k n) (is_among n rest) among) [
          | inl same ↦ absurd (false_true (sym (if_true (bytes_eq k n) (second_false (is_among n touched) (is_among n (k ∷ [])) both)) ∙ same))
          | inr later ↦ inr later
        ]
      ],
    )

pub name_next : (touched now start rest : List (List ℕ)) (has others : List ℕ → Bool) (k : List ℕ) → now ≡ (if others k then touched else touched ++ k ∷ [])
    → ((n : List ℕ) → IsLeft touched start (k ∷ rest) has others n) → (n : List ℕ) → IsLeft now start rest has others n
name_next touched now start rest has others k made held = by_test (others k) refl made
  where
    by_test : (b : Bool) → others k ≡ b → now ≡ (if b then touched else touched ++ k ∷ []) → (n : List ℕ) → IsLeft now start rest has others n
    by_test true there is = subst (λ ts. (n : List ℕ) → IsLeft ts start rest has others n) (sym is) (kept_next touched start rest has others k there held)
    by_test false other is = subst (λ ts. (n : List ℕ) → IsLeft ts start rest has others n) (sym is) (added_next touched start rest has others k held)

-- no name is to come
pub none_left : (touched start : List (List ℕ)) (has others : List ℕ → Bool) (n : List ℕ) → IsLeft touched start [] has others n
    → is_among n touched ≡ false → (is_among n start ≡ false) × (has n ≡ true → others n ≡ true)
none_left touched start has others n held free =
    let (before, left) = held free in
    (before, λ is. elim (left is) [ inl other ↦ other | inr never ↦ absurd (false_true never) ])
