-- The way down: what is known of the pages that it led to.
use Rattle.std.proofs.Common.{◌≡◌, ◌≢◌, ◌∙◌, ◌+◌, ◌-◌, ◌<◌, ◌≤◌, ◌⊎◌, inl, inr, ℕ, zero, suc, Bool, true, false, cond, List, [], ◌∷◌, ◌++◌, Option, None, Some, Bor, length, get_or, lt-ltb, map, set, reverse, refl, sym, ap, subst, arith, append_assoc, append-nil}
use Rattle.std.specs.Prelude.{◌||◌, ◌&&◌, nat_lt, slice_get, unwrap_or}
use Rattle.std.specs.BTreeMap.{BTreeMap}
use Rattle.std.specs.BTreeSet.{BTreeSet}
use Rattle.std.specs.List.{Contains, count_by, flat_map, list_any}
use Rattle.std.specs.Option.{is_some, option_map}
use Rattle.std.specs.Str.{bytes_eq}
use Rattle.std.proofs.lemmas.Bool.Decides.{eqb_tells}
use Rattle.std.proofs.lemmas.List.{get_or-map, get_or-set_same, get_or-set_other, length-map, length-set, reverse-append}
use Rattle.std.proofs.lemmas.List.Elements.{Contains-append_left, Contains-append_right, Contains-append_cases, Contains-push, Contains-push_cases}
use Rattle.std.proofs.lemmas.List.Sums.{sum_by-append}
use Rattle.std.proofs.lemmas.Option.{get_or_from_slice_get, slice_get-map, slice_get_past, slice_get_read, slice_get_within}
use Rattle.link_groups.specs.Groups.{AreReversed, Reaches, Itself, By, links_at}
use Rattle.tera_site.specs.Pages.{PageVal}
use Rattle.tera_site.specs.Sites.{Above, Top, Below, AreInherited, SiteVal, has_block, if_any, numbers_by, parent_names, parents}
use Rattle.tera_site.specs.Tours.{AreKnown, AreToCome, AreTops, IsTourOf, IsWay, blocks_of, count_of, way}
use Rattle.tera_site.specs.Views.{has_name, page_view, under_name}
use Rattle.tera_site.specs.declared.above.Step.{Step}
use Rattle.tera_site.specs.declared.pages.Page.{Page}
use Rattle.tera_site.specs.declared.above.Step.TheVariants.{Enter, Leave}

abbrev pub Names : Type 0
Names = BTreeSet (Bor (List ℕ))

abbrev pub Counts : Type 0
Counts = BTreeMap (Bor (List ℕ)) ℕ

-- ---- lists, options and steps

pub no_way : false ≡ true → ⊥
no_way e = cc

pub none_in : {X : Type 0} (x : X) → Contains [] x → ⊥
none_in x (k, below, is) = omega (arith, below)

pub first_in : {X : Type 0} (x : X) (xs : List X) → Contains (x ∷ xs) x
first_in x xs = (0, omega arith, refl)

pub later_in : {X : Type 0} (y : X) (xs : List X) (x : X) → Contains xs x → Contains (y ∷ xs) x
later_in y xs x has = Contains-append_right (y ∷ []) xs x has

pub in_cases : {X : Type 0} (y : X) (xs : List X) (x : X) → Contains (y ∷ xs) x → (y ≡ x) ⊎ Contains xs x
in_cases y xs x has = elim (Contains-append_cases (y ∷ []) xs x has) [
  | inl first ↦ elim (Contains-push_cases [] y x first) [ inl none ↦ absurd (none_in x none) | inr same ↦ inl same ]
  | inr later ↦ inr later
]

pub same_Some : {X : Type 0} (x y : X) → Some x ≡ Some y → x ≡ y
same_Some x y e = cc

pub None_Some : {X : Type 0} (x : X) → None ≡ Some x → ⊥
None_Some x e = cc

same_Enter : (n m : ℕ) → Enter n ≡ Enter m → n ≡ m
same_Enter n m e = cc

Leave_Enter : (n m : ℕ) → Leave n ≡ Enter m → ⊥
Leave_Enter n m e = cc

-- ---- what a page extends

by_option : (o : Option ℕ) (n : ℕ) → Contains (if_any o ++ []) n → o ≡ Some n
by_option None n has = absurd (none_in n has)
by_option (Some k) n has = elim (in_cases k [] n has) [ inl same ↦ ap Some same | inr none ↦ absurd (none_in n none) ]

option_by : (o : Option ℕ) (n : ℕ) → o ≡ Some n → Contains (if_any o ++ []) n
option_by None n is = absurd (None_Some n is)
option_by (Some k) n is = subst (λ m. Contains (m ∷ []) n) (sym (same_Some k n is)) (first_in n [])

by_parent : (named : List ℕ → Option ℕ) (o : Option (List ℕ)) (n : ℕ) → Contains (numbers_by named (if_any o)) n → (m : List ℕ) × (o ≡ Some m) × (named m ≡ Some n)
by_parent named None n has = absurd (none_in n has)
by_parent named (Some m) n has = (m, refl, by_option (named m) n has)

parent_by : (named : List ℕ → Option ℕ) (o : Option (List ℕ)) (m : List ℕ) (n : ℕ) → o ≡ Some m → named m ≡ Some n → Contains (numbers_by named (if_any o)) n
parent_by named None m n is name = absurd (None_Some m is)
parent_by named (Some k) m n is name = option_by (named k) n (ap named (same_Some k m is) ∙ name)

module _ (s : SiteVal) where
  links_of : (c : ℕ) (p : PageVal) → slice_get s.pages c ≡ Some p → links_at (parents s) c ≡ numbers_by s.named (if_any p.parent)
  links_of c p at =
      get_or-map (λ q. numbers_by s.named (parent_names q)) s.pages c p [] (slice_get_within s.pages c p at)
      ∙ ap (λ q. numbers_by s.named (parent_names q)) (get_or_from_slice_get s.pages c p p at)

  parent_of : (c : ℕ) (p : PageVal) (n : ℕ) → slice_get s.pages c ≡ Some p → Contains (links_at (parents s) c) n
      → (m : List ℕ) × (p.parent ≡ Some m) × (s.named m ≡ Some n)
  parent_of c p n at link = by_parent s.named p.parent n (subst (λ xs. Contains xs n) (links_of c p at) link)

  linked : (c : ℕ) (p : PageVal) (m : List ℕ) (n : ℕ) → slice_get s.pages c ≡ Some p → p.parent ≡ Some m → s.named m ≡ Some n
      → Contains (links_at (parents s) c) n
  linked c p m n at is name = subst (λ xs. Contains xs n) (sym (links_of c p at)) (parent_by s.named p.parent m n is name)

  -- ---- the pages above one

  above_at : (o : Option (List ℕ)) (above : List PageVal) → Above s o above → (m : List ℕ) (j : ℕ) → o ≡ Some m → s.named m ≡ Some j
      → (p : PageVal) × (more : List PageVal) × (slice_get s.pages j ≡ Some p) × (p.is_whole ≡ true) × Above s p.parent more
  above_at _ _ Top m j is name = absurd (None_Some m is)
  above_at _ _ (Below n i p more named at whole rest) m j is name =
      let here : i ≡ j = same_Some i j (sym named ∙ ap s.named (same_Some n m is) ∙ name) in
      (p, more, ap (slice_get s.pages) (sym here) ∙ at, whole, rest)

  -- each page to which it leads is there, and whole
  above_whole : (n : ℕ) (p : PageVal) (above : List PageVal) → slice_get s.pages n ≡ Some p → p.is_whole ≡ true → Above s p.parent above
      → (j : ℕ) → Reaches (parents s) n j → (q : PageVal) × (slice_get s.pages j ≡ Some q) × (q.is_whole ≡ true)
  above_whole n p above at whole over _ (Itself _) = (p, at, whole)
  above_whole n p above at whole over j (By _ next _ link rest) =
      let (m, is, name) = parent_of n p next at link in
      let (q, more, there, sound, higher) = above_at p.parent above over m next is name in
      above_whole next q more there sound higher j rest

  -- it leads to a page that extends none
  top_of : (o : Option (List ℕ)) (above : List PageVal) → Above s o above → (n : ℕ) (p : PageVal) → slice_get s.pages n ≡ Some p → p.parent ≡ o
      → (top : ℕ) × (q : PageVal) × (slice_get s.pages top ≡ Some q) × (q.parent ≡ None) × Reaches (parents s) n top
  top_of _ _ Top n p at is = (n, p, at, is, Itself n)
  top_of _ _ (Below m i q more named there whole rest) n p at is =
      let (top, highest, where_it_is, none, leads) = top_of q.parent more rest i q there refl in
      (top, highest, where_it_is, none, By n i top (linked n p m i at is named) leads)

-- the last link of a way that is not empty
last_link : (links : List (List ℕ)) (i j : ℕ) → Reaches links i j → (i ≡ j) ⊎ ((c : ℕ) × Reaches links i c × Contains (links_at links c) j)
last_link links _ _ (Itself i) = inl refl
last_link links _ _ (By i next j link rest) = elim (last_link links next j rest) [
  | inl same ↦ inr (i, Itself i, subst (Contains (links_at links i)) same link)
  | inr more ↦ inr (more.0, By i next more.0 link more.1, more.2)
]

-- ---- counted blocks

pub lt_more : (n : ℕ) → 0 < n → nat_lt 0 n ≡ true
lt_more n more = lt-ltb 0 n more

lt_or : (a b : ℕ) → nat_lt 0 (a + b) ≡ (nat_lt 0 a || nat_lt 0 b)
lt_or zero b = ap (nat_lt 0) (omega arith)
lt_or (suc a) b = lt_more (suc a + b) (omega arith) ∙ sym (ap (λ t. t || nat_lt 0 b) (lt_more (suc a) (omega arith)))

lt_one : (b : Bool) → nat_lt 0 (cond b 1 0) ≡ b
lt_one true = refl
lt_one false = refl

abbrev ones : List ℕ → List ℕ → ℕ
ones m n = cond (bytes_eq m n) 1 0

one_alone : (m n : List ℕ) → count_by (bytes_eq m) (n ∷ []) ≡ ones m n
one_alone m n = omega arith

counted_any : (m : List ℕ) (ns : List (List ℕ)) → nat_lt 0 (count_by (bytes_eq m) ns) ≡ list_any (bytes_eq m) ns
counted_any m [] = refl
counted_any m (n ∷ ns) =
    ap (nat_lt 0) (sum_by-append (ones m) (n ∷ []) ns)
    ∙ lt_or (count_by (bytes_eq m) (n ∷ [])) (count_by (bytes_eq m) ns)
    ∙ (λ i. nat_lt 0 (one_alone m n i) || counted_any m ns i)
    ∙ ap (λ b. b || list_any (bytes_eq m) ns) (lt_one (bytes_eq m n))

more_counted : (m : List ℕ) (p : PageVal) (ps : List PageVal) → count_of m (p ∷ ps) ≡ count_by (bytes_eq m) p.blocks + count_of m ps
more_counted m p ps = sum_by-append (λ x. cond (bytes_eq m x) 1 0) p.blocks (blocks_of ps)

pub counted : (m : List ℕ) (ps : List PageVal) → nat_lt 0 (count_of m ps) ≡ list_any (has_block m) ps
counted m [] = refl
counted m (p ∷ ps) =
    ap (nat_lt 0) (more_counted m p ps)
    ∙ lt_or (count_by (bytes_eq m) p.blocks) (count_of m ps)
    ∙ (λ i. counted_any m p.blocks i || counted m ps i)

-- ---- the way

-- steps that enter pages, the last of them next
abbrev entering : List ℕ → List Step
entering cs = reverse (map Enter cs)

enter_more : (cs : List ℕ) (c : ℕ) (rest : List Step) → entering (c ∷ cs) ++ rest ≡ entering cs ++ (Enter c ∷ rest)
enter_more cs c rest = ap (λ xs. xs ++ rest) (reverse-append (Enter c ∷ []) (map Enter cs)) ∙ append_assoc (entering cs) (Enter c ∷ []) rest

same_way : (ps : List PageVal) (cs : List ℕ) (rest : List Step) → way ps (entering cs ++ rest) ≡ way ps rest
same_way ps [] rest = refl
same_way ps (c ∷ cs) rest = ap (way ps) (enter_more cs c rest) ∙ same_way ps cs (Enter c ∷ rest)

is_way : (s : SiteVal) (cs : List ℕ) (rest : List Step)
    → ((c : ℕ) → Contains cs c → (p : PageVal) → slice_get s.pages c ≡ Some p → Above s p.parent (way s.pages rest))
    → IsWay s rest → IsWay s (entering cs ++ rest)
is_way s [] rest each h = h
is_way s (c ∷ cs) rest each h =
    subst (IsWay s) (sym (enter_more cs c rest))
    (is_way s cs (Enter c ∷ rest) (λ d has. each d (later_in c cs d has)) (each c (first_in c cs), h))

entered_in : (cs : List ℕ) (rest : List Step) (c : ℕ) → Contains cs c → Contains (entering cs ++ rest) (Enter c)
entered_in [] rest c has = absurd (none_in c has)
entered_in (d ∷ cs) rest c has = subst (λ xs. Contains xs (Enter c)) (sym (enter_more cs d rest)) (elim (in_cases d cs c has) [
  | inl same ↦ subst (λ e. Contains (entering cs ++ (Enter d ∷ rest)) (Enter e)) same (Contains-append_right (entering cs) (Enter d ∷ rest) (Enter d) (first_in (Enter d) rest))
  | inr later ↦ entered_in cs (Enter d ∷ rest) c later
])

-- the steps after a page is entered, and after one was taken
pub pushed : (old : List Step) (n : ℕ) (cs : List ℕ) → reverse ((old ++ Leave n ∷ []) ++ map Enter cs) ≡ entering cs ++ (Leave n ∷ reverse old)
pushed old n cs = reverse-append (old ++ Leave n ∷ []) (map Enter cs) ∙ ap (λ xs. entering cs ++ xs) (reverse-append old (Leave n ∷ []))

pub last_next : (old : List Step) (x : Step) → reverse (old ++ x ∷ []) ≡ x ∷ reverse old
last_next old x = reverse-append old (x ∷ [])

-- ---- a page is entered

module _ (s : SiteVal) (below : List (List ℕ)) (n : ℕ) (rest : List Step) (p : PageVal) (at : slice_get s.pages n ≡ Some p)
    (whole : p.is_whole ≡ true) (h : AreReversed (parents s) below) (over : Above s p.parent (way s.pages rest)) where
  inside : n < length (parents s)
  inside = let within = slice_get_within s.pages n p at in let l = length-map s.pages (λ q. numbers_by s.named (parent_names q)) in omega (arith, within, l)

  child_above : (c : ℕ) → Contains (links_at below n) c → (q : PageVal) → slice_get s.pages c ≡ Some q → Above s q.parent (p ∷ way s.pages rest)
  child_above c has q there =
      let (m, is, name) = parent_of s c q n there ((h.linked n c inside).0 has) in
      subst (λ o. Above s o (p ∷ way s.pages rest)) (sym is) (Below m n p (way s.pages rest) name at whole over)

  way_is : way s.pages (Leave n ∷ rest) ≡ p ∷ way s.pages rest
  way_is = ap (λ o. if_any o ++ way s.pages rest) at

  abbrev next : List Step
  next = entering (links_at below n) ++ (Leave n ∷ rest)

  next_way : way s.pages next ≡ p ∷ way s.pages rest
  next_way = same_way s.pages (links_at below n) (Leave n ∷ rest) ∙ way_is

  next_is_way : IsWay s rest → IsWay s next
  next_is_way w = is_way s (links_at below n) (Leave n ∷ rest)
      (λ c has q there. subst (Above s q.parent) (sym way_is) (child_above c has q there)) w

  -- what is known of its own blocks
  own_known : (counts : List ℕ → ℕ) (names : Names) → ((m : List ℕ) → counts m ≡ count_of m (way s.pages rest))
      → ((m : List ℕ) → has_name names m ≡ (list_any (bytes_eq m) p.blocks && nat_lt 0 (counts m))) → AreInherited s p (Some (has_name names))
  own_known counts names is has = (
    whole,
    (
      way s.pages rest,
      over,
      λ m block.
          has m ∙ (λ i. block i && nat_lt 0 (is m i)) ∙ counted m (way s.pages rest),
    ),
  )

  known_now : (old : List (Option Names)) (names : Names) → n < length old → AreInherited s p (Some (has_name names)) → AreKnown s old → AreKnown s (set old n (Some names))
  known_now old names within own known k q found there is = elim (eqb_tells k n) [
    | inl same ↦
        let same_names : names ≡ found = same_Some names found (sym (get_or-set_same old n (Some names) None within) ∙ ap (λ j. get_or (set old n (Some names)) j None) (sym same.1) ∙ is) in
        let same_page : p ≡ q = same_Some p q (sym at ∙ ap (slice_get s.pages) (sym same.1) ∙ there) in
        subst (λ r. AreInherited s r (Some (has_name found))) same_page (subst (λ ns. AreInherited s p (Some (has_name ns))) same_names own)
    | inr other ↦ known k q found there (sym (get_or-set_other old n k (Some names) None other.1) ∙ is)
  ]

  to_come_now : (old : List (Option Names)) (names : Names) → n < length old → AreToCome s old (Enter n ∷ rest) → AreToCome s (set old n (Some names)) next
  to_come_now old names within due k q above there sound higher = elim (eqb_tells k n) [
    | inl same ↦ inl (ap is_some (ap (λ j. get_or (set old n (Some names)) j None) same.1 ∙ get_or-set_same old n (Some names) None within))
    | inr other ↦ elim (due k q above there sound higher) [
      | inl known ↦ inl (ap is_some (get_or-set_other old n k (Some names) None other.1) ∙ known)
      | inr under ↦ let (top, has, leads) = under in elim (in_cases (Enter n) rest (Enter top) has) [
        | inl same ↦ elim (last_link (parents s) k top leads) [
          | inl here ↦ absurd (other.1 (here ∙ sym (same_Enter n top same)))
          | inr last ↦ let (c, to, link) = last in inr (
            c,
            entered_in (links_at below n) (Leave n ∷ rest) c ((h.linked n c inside).1 (subst (Contains (links_at (parents s) c)) (sym (same_Enter n top same)) link)),
            to,
          )
        ]
        | inr later ↦ inr (top, Contains-append_right (entering (links_at below n)) (Leave n ∷ rest) (Enter top) (later_in (Leave n) rest (Enter top) later), leads)
      ]
    ]
  ]

pub entered : (s : SiteVal) (below : List (List ℕ)) (n : ℕ) (rest steps : List Step) (p : PageVal) (old now : Counts) (before after : List (Option Names)) (names : Names)
    → slice_get s.pages n ≡ Some p → p.is_whole ≡ true → AreReversed (parents s) below
    → ((m : List ℕ) → has_name names m ≡ (list_any (bytes_eq m) p.blocks && nat_lt 0 (unwrap_or (under_name old m) 0)))
    → after ≡ set before n (Some names)
    → ((m : List ℕ) → unwrap_or (under_name now m) 0 ≡ count_by (bytes_eq m) p.blocks + unwrap_or (under_name old m) 0)
    → steps ≡ entering (links_at below n) ++ (Leave n ∷ rest)
    → IsTourOf s (Enter n ∷ rest) old before → IsTourOf s steps now after
entered s below n rest steps p old now before after names at whole h own put more is t =
    let over = t.above.0 p at in
    let within : n < length before = (let l = t.each in let i = slice_get_within s.pages n p at in omega (arith, l, i)) in
    subst (λ xs. IsTourOf s xs now after) (sym is) (record {
      each = ap length put ∙ length-set before n (Some names) ∙ t.each;
      above = next_is_way s below n rest p at whole h over t.above.1;
      counted = λ m. more m ∙ ap (λ k. count_by (bytes_eq m) p.blocks + k) (t.counted m) ∙ sym (more_counted m p (way s.pages rest))
          ∙ ap (count_of m) (sym (next_way s below n rest p at whole h over));
      known = subst (AreKnown s) (sym put) (known_now s below n rest p at whole h over before names within
          (own_known s below n rest p at whole h over (λ m. unwrap_or (under_name old m) 0) names t.counted own) t.known);
      to_come = subst (λ xs. AreToCome s xs (entering (links_at below n) ++ (Leave n ∷ rest))) (sym put)
          (to_come_now s below n rest p at whole h over before names within t.to_come);
    })

-- ---- a page is not entered, and one is left

pub passed_by : (s : SiteVal) (n : ℕ) (rest : List Step) (counts : Counts) (inherited : List (Option Names)) → ((p : PageVal) → slice_get s.pages n ≡ Some p → p.is_whole ≡ true → ⊥)
    → IsTourOf s (Enter n ∷ rest) counts inherited → IsTourOf s rest counts inherited
passed_by s n rest counts inherited none h = record {
  each = h.each;
  above = h.above.1;
  counted = h.counted;
  known = h.known;
  to_come = λ k q above there sound higher. elim (h.to_come k q above there sound higher) [
    | inl known ↦ inl known
    | inr under ↦ let (top, has, leads) = under in elim (in_cases (Enter n) rest (Enter top) has) [
      | inl same ↦
          let (p, at, whole) = above_whole s k q above there sound higher top leads in
          absurd (none p (ap (slice_get s.pages) (same_Enter n top same) ∙ at) whole)
      | inr later ↦ inr (top, later, leads)
    ]
  ];
}

left_to_come : (s : SiteVal) (n : ℕ) (rest : List Step) (inherited : List (Option Names)) → AreToCome s inherited (Leave n ∷ rest) → AreToCome s inherited rest
left_to_come s n rest inherited due k q above there sound higher = elim (due k q above there sound higher) [
  | inl known ↦ inl known
  | inr under ↦ let (top, has, leads) = under in elim (in_cases (Leave n) rest (Enter top) has) [ inl same ↦ absurd (Leave_Enter n top same) | inr later ↦ inr (top, later, leads) ]
]

pub left : (s : SiteVal) (n : ℕ) (rest : List Step) (p : PageVal) (old now : Counts) (inherited : List (Option Names)) → slice_get s.pages n ≡ Some p
    → ((m : List ℕ) → unwrap_or (under_name now m) 0 ≡ unwrap_or (under_name old m) 0 - count_by (bytes_eq m) p.blocks)
    → IsTourOf s (Leave n ∷ rest) old inherited → IsTourOf s rest now inherited
left s n rest p old now inherited at less h = record {
  each = h.each;
  above = h.above;
  counted = λ m.
      let was : unwrap_or (under_name old m) 0 ≡ count_by (bytes_eq m) p.blocks + count_of m (way s.pages rest) =
      h.counted m ∙ ap (λ o. count_of m (if_any o ++ way s.pages rest)) at ∙ more_counted m p (way s.pages rest) in
      let now_is = less m in
      omega (arith, was, now_is);
  known = h.known;
  to_come = left_to_come s n rest inherited h.to_come;
}

pub left_nothing : (s : SiteVal) (n : ℕ) (rest : List Step) (counts : Counts) (inherited : List (Option Names)) → slice_get s.pages n ≡ None
    → IsTourOf s (Leave n ∷ rest) counts inherited → IsTourOf s rest counts inherited
left_nothing s n rest counts inherited none h = record {
  each = h.each;
  above = h.above;
  counted = λ m. h.counted m ∙ ap (λ o. count_of m (if_any o ++ way s.pages rest)) none;
  known = h.known;
  to_come = left_to_come s n rest inherited h.to_come;
}

-- ---- pages that the code has

pub page_found : (s : SiteVal) (pages : List Page) (n : ℕ) (q : Page) → s.pages ≡ map page_view pages → n < length pages → q ≡ get_or pages n q
    → slice_get s.pages n ≡ Some (page_view q)
page_found s pages n q same inside is =
    ap (λ ps. slice_get ps n) same ∙ slice_get-map page_view pages n ∙ ap (option_map page_view) (slice_get_read pages (length pages) n q refl inside is)

pub no_page : (s : SiteVal) (pages : List Page) (n : ℕ) → s.pages ≡ map page_view pages → length pages ≤ n → slice_get s.pages n ≡ None
no_page s pages n same past =
    ap (λ ps. slice_get ps n) same ∙ slice_get-map page_view pages n ∙ ap (option_map page_view) (slice_get_past pages n past)

-- ---- the beginning and the end

abbrev pub nothing : Option Names
nothing = None

none_at : {X : Type 0} (xs : List X) (k : ℕ) → get_or (map (λ x. nothing) xs) k None ≡ None
none_at [] k = refl
none_at (x ∷ xs) zero = refl
none_at (x ∷ xs) (suc k) = none_at xs k

all_enter_way : (s : SiteVal) (steps : List Step) → ((n : ℕ) → Contains steps (Leave n) → ⊥)
    → ((n : ℕ) (p : PageVal) → Contains steps (Enter n) → slice_get s.pages n ≡ Some p → p.parent ≡ None)
    → IsWay s steps × (way s.pages steps ≡ [])
all_enter_way s [] none only = (tt, refl)
all_enter_way s (Leave n ∷ rest) none only = absurd (none n (first_in (Leave n) rest))
all_enter_way s (Enter n ∷ rest) none only =
    let (w, is) = all_enter_way s rest (λ m has. none m (later_in (Enter n) rest (Leave m) has)) (λ m p has at. only m p (later_in (Enter n) rest (Enter m) has) at) in (
      (λ p at. subst (Above s p.parent) (sym is) (subst (λ o. Above s o []) (sym (only n p (first_in (Enter n) rest) at)) Top), w),
      is,
    )

reversed_in : (steps : List Step) (x : Step) → Contains (reverse steps) x → Contains steps x
reversed_in [] x has = absurd (none_in x has)
reversed_in (y ∷ ys) x has = elim (Contains-push_cases (reverse ys) y x (subst (λ xs. Contains xs x) (reverse-append (y ∷ []) ys) has)) [
  | inl before ↦ later_in y ys x (reversed_in ys x before)
  | inr same ↦ subst (Contains (y ∷ ys)) same (first_in y ys)
]

in_reversed : (steps : List Step) (x : Step) → Contains steps x → Contains (reverse steps) x
in_reversed [] x has = absurd (none_in x has)
in_reversed (y ∷ ys) x has = subst (λ xs. Contains xs x) (sym (reverse-append (y ∷ []) ys)) (elim (in_cases y ys x has) [
  | inl same ↦ subst (Contains (reverse ys ++ y ∷ [])) same (Contains-push (reverse ys) y)
  | inr later ↦ Contains-append_left (reverse ys) (y ∷ []) x (in_reversed ys x later)
])

pub begun : {X : Type 0} (s : SiteVal) (steps : List Step) (xs : List X) (counts : Counts) (inherited : List (Option Names)) → AreTops s.pages steps
    → ((m : List ℕ) → under_name counts m ≡ None) → inherited ≡ map (λ x. nothing) xs → length xs ≡ length s.pages
    → IsTourOf s (reverse steps) counts inherited
begun s steps xs counts inherited tops none is each =
    let (w, empty) = all_enter_way s (reverse steps) (λ n has. tops.none n (reversed_in steps (Leave n) has))
    (λ n p has at. tops.only n p (reversed_in steps (Enter n) has) at) in
    record {
      each = ap length is ∙ length-map xs (λ x. nothing) ∙ each;
      above = w;
      counted = λ m. ap (λ o. unwrap_or o 0) (none m) ∙ sym (ap (count_of m) empty);
      known = λ k q names there found. absurd (None_Some names (sym (none_at xs k) ∙ ap (λ ys. get_or ys k None) (sym is) ∙ found));
      to_come = λ k q above there sound higher.
          let (top, highest, at, none, leads) = top_of s q.parent above higher k q there refl in
          inr (top, in_reversed steps (Enter top) (tops.all top highest (slice_get_within s.pages top highest at) at none), leads);
    }

known_by : (s : SiteVal) (p : PageVal) (o : Option Names)
    → ((names : Names) → o ≡ Some names → AreInherited s p (Some (has_name names)))
    → (p.is_whole ≡ true → (above : List PageVal) → Above s p.parent above → is_some o ≡ true) → AreInherited s p (option_map has_name o)
known_by s p None known due = λ whole above higher. no_way (due whole above higher)
known_by s p (Some names) known due = known names refl

pub all_known : (s : SiteVal) (counts : Counts) (inherited : List (Option Names)) → IsTourOf s [] counts inherited → (n : ℕ) (p : PageVal) → slice_get s.pages n ≡ Some p
    → AreInherited s p (option_map has_name (get_or inherited n None))
all_known s counts inherited h n p at = known_by s p (get_or inherited n None)
    (λ names is. h.known n p names at is)
    (λ whole above higher. elim (h.to_come n p above at whole higher) [
      | inl known ↦ known
      | inr under ↦ let (top, has, leads) = under in absurd (none_in (Enter top) has)
    ])
