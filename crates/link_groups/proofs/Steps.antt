-- Each step of a walk keeps what is known.
use Rattle.std.proofs.Common.{◌≡◌, ◌≢◌, ◌∙◌, ◌+◌, ◌<◌, ◌≤◌, ◌⊎◌, inl, inr, ℕ, zero, suc, Bool, true, false, List, [], ◌∷◌, ◌++◌, length, get_or, set, take, refl, sym, ap, subst, arith}
use Rattle.std.specs.Prelude.{◌↔◌, nat_le}
use Rattle.std.specs.List.{Contains}
use Rattle.std.proofs.lemmas.Bool.Decides.{leb_tells, eqb_tells}
use Rattle.std.proofs.lemmas.List.Elements.{Contains-append_left, Contains-push, Contains-push_cases}
use Rattle.std.proofs.lemmas.List.{get_or-set_same, get_or-set_other, get_or_past, length-set, take_more}
use Rattle.link_groups.specs.Groups.{AreGroups, By, Itself, Reaches, links_at}
use Rattle.link_groups.specs.Walks.{AreBoth, AreClosed, AreKnots, ArePutIn, IsKnot, IsWalkOf, group_at, is_closed_by, is_followed, place_at}
use Rattle.link_groups.specs.declared.walk.Knot.{Knot}
use Rattle.link_groups.specs.declared.walk.Place.{Place}
use Rattle.link_groups.specs.declared.walk.Place.TheVariants.{New, Open, Closed}

-- ---- lists and places

pub contains_none : (x : ℕ) → Contains [] x → ⊥
contains_none x (k, below, is) = omega (arith, below)

contains_one : (y x : ℕ) → Contains (y ∷ []) x → x ≡ y
contains_one y x (zero, below, is) = sym is
contains_one y x (suc k, below, is) = absurd (omega (arith, below))

contains_first : (y : ℕ) (ys : List ℕ) (x : ℕ) → x ≡ y → Contains (y ∷ ys) x
contains_first y ys x same = (zero, omega arith, sym same)

contains_more : (y : ℕ) (ys : List ℕ) (x : ℕ) → Contains ys x → Contains (y ∷ ys) x
contains_more y ys x (k, below, is) = (suc k, omega (arith, below), is)

contains_cases : (y : ℕ) (ys : List ℕ) (x : ℕ) → Contains (y ∷ ys) x → (y ≡ x) ⊎ Contains ys x
contains_cases y ys x (zero, below, is) = inl is
contains_cases y ys x (suc k, below, is) = inr (k, omega (arith, below), is)

pub contains_or : (ys : List ℕ) (x : ℕ) → Contains ys x ⊎ (Contains ys x → ⊥)
contains_or [] x = inr (contains_none x)
contains_or (y ∷ ys) x = elim (eqb_tells x y) [
  | inl same ↦ inl (contains_first y ys x same.1)
  | inr other ↦ elim (contains_or ys x) [
    | inl has ↦ inl (contains_more y ys x has)
    | inr none ↦ inr (λ h. elim (contains_cases y ys x h) [ inl same ↦ other.1 (sym same) | inr has ↦ none has ])
  ]
]

abbrev number_of : Place → ℕ
number_of New = 0
number_of (Open m) = m
number_of (Closed g) = g

abbrev is_open : Place → Bool
is_open (Open m) = true
is_open _ = false

abbrev is_new : Place → Bool
is_new New = true
is_new _ = false

pub no_way : false ≡ true → ⊥
no_way e = cc

pub new_open : (m : ℕ) → New ≡ Open m → ⊥
new_open m e = no_way (ap is_open e)

pub new_closed : (g : ℕ) → New ≡ Closed g → ⊥
new_closed g e = no_way (sym (ap is_new e))

pub closed_open : (g m : ℕ) → Closed g ≡ Open m → ⊥
closed_open g m e = no_way (ap is_open e)

pub open_new : (m : ℕ) → Open m ≡ New → ⊥
open_new m e = no_way (ap is_new e)

pub closed_new : (g : ℕ) → Closed g ≡ New → ⊥
closed_new g e = no_way (ap is_new e)

pub open_in : (ps : List Place) (i m : ℕ) → place_at ps i ≡ Open m → i < length ps
open_in ps i m is = elim (leb_tells (length ps) i) [
  | inl past ↦ absurd (closed_open 0 m (sym (get_or_past ps i (Closed 0) past.1) ∙ is))
  | inr inside ↦ inside.1
]

pub new_in : (ps : List Place) (i : ℕ) → place_at ps i ≡ New → i < length ps
new_in ps i is = elim (leb_tells (length ps) i) [
  | inl past ↦ absurd (new_closed 0 (sym is ∙ get_or_past ps i (Closed 0) past.1))
  | inr inside ↦ inside.1
]

reached_more : (links : List (List ℕ)) (i j k : ℕ) → Reaches links i j → Reaches links j k → Reaches links i k
reached_more links _ _ k (Itself i) more = more
reached_more links _ _ k (By i next j link rest) more = By i next k link (reached_more links next j k rest more)

pub reached_by : (links : List (List ℕ)) (i j k : ℕ) → Reaches links i j → Contains (links_at links j) k → Reaches links i k
reached_by links i j k some link = reached_more links i j k some (By j k k link (Itself k))

-- ---- a new thing begins a knot

module _ (links : List (List ℕ)) (ps : List Place) (t number : ℕ) (new : place_at ps t ≡ New) where
  abbrev now : List Place
  now = set ps t (Open number)

  pub t_now : place_at now t ≡ Open number
  t_now = get_or-set_same ps t (Open number) (Closed 0) (new_in ps t new)

  pub was : (i : ℕ) → (i ≡ t) ⊎ (place_at now i ≡ place_at ps i)
  was i = elim (eqb_tells i t) [ inl same ↦ inl same.1 | inr other ↦ inr (get_or-set_other ps t i (Open number) (Closed 0) other.1) ]

  open_was : (i m : ℕ) → place_at now i ≡ Open m → m < number → place_at ps i ≡ Open m
  open_was i m is below = elim (was i) [
    | inl same ↦ absurd (let e : m ≡ number = ap number_of (sym is ∙ ap (place_at now) same ∙ t_now) in omega (arith, e, below))
    | inr before ↦ sym before ∙ is
  ]

  open_stays : (i m : ℕ) → place_at ps i ≡ Open m → place_at now i ≡ Open m
  open_stays i m is = elim (was i) [
    | inl same ↦ absurd (new_open m (sym new ∙ sym (ap (place_at ps) same) ∙ is))
    | inr before ↦ before ∙ is
  ]

  closed_was : (i g : ℕ) → place_at now i ≡ Closed g → place_at ps i ≡ Closed g
  closed_was i g is = elim (was i) [
    | inl same ↦ absurd (closed_open g number (sym is ∙ ap (place_at now) same ∙ t_now))
    | inr before ↦ sym before ∙ is
  ]

  followed_now : (first j : ℕ) → is_followed first (place_at ps j) ≡ true → is_followed first (place_at now j) ≡ true
  followed_now first j is = elim (was j) [
    | inl same ↦ absurd (no_way (sym (ap (is_followed first) (ap (place_at ps) same ∙ new)) ∙ is))
    | inr before ↦ ap (is_followed first) before ∙ is
  ]

  closed_by_now : (g j : ℕ) → is_closed_by g (place_at ps j) ≡ true → is_closed_by g (place_at now j) ≡ true
  closed_by_now g j is = elim (was j) [
    | inl same ↦ absurd (no_way (sym (ap (is_closed_by g) (ap (place_at ps) same ∙ new)) ∙ is))
    | inr before ↦ ap (is_closed_by g) before ∙ is
  ]

  knot_stays : (next : ℕ) (k : Knot) → next ≤ number → IsKnot links ps next k → IsKnot links now next k
  knot_stays next k within h = record {
    some = h.some;
    all = λ i m is above below. h.all i m (open_was i m is (omega (arith, below, within))) above below;
    each = λ i has. let (m, is, above, below) = h.each i has in (m, open_stays i m is, above, below);
    reached = λ i j m is below has. h.reached i j m (open_was i m is (omega (arith, below, within))) below has;
    pending = h.pending;
    followed = λ i j has link. elim (h.followed i j has link) [ inl left ↦ inl left | inr is ↦ inr (followed_now k.first j is) ];
  }

  knots_stay : (next : ℕ) (ks : List Knot) → next ≤ number → AreKnots links ps next ks → AreKnots links now next ks
  knots_stay next [] within h = λ i m is. elim (leb_tells next m) [
    | inl above ↦ above.1
    | inr below ↦ h i m (open_was i m is (omega (arith, below.1, within)))
  ]
  knots_stay next (k ∷ ks) within h = (knot_stays next k within h.0, knots_stay k.first ks (omega (arith, h.0.some, within)) h.1)

  closed_stay : (closed : ℕ) → AreClosed links ps closed → AreClosed links now closed
  closed_stay closed h = record {
    below = λ i g inside is. h.below i g inside (closed_was i g is);
    tied = λ i j g inside within is too. h.tied i j g inside within (closed_was i g is) (closed_was j g too);
    led = λ i j g inside is link. closed_by_now g j (h.led i j g inside (closed_was i g is) link);
  }

  module _ (k : Knot) (first : k.first ≡ number) (things : k.things.items ≡ t ∷ []) (pending : k.links.items ≡ links_at links t)
      (are_open : (i m : ℕ) → place_at ps i ≡ Open m → m < number) (from : (i m : ℕ) → place_at ps i ≡ Open m → Reaches links i t) where
    thing_is : (i : ℕ) → Contains k.things.items i → i ≡ t
    thing_is i has = contains_one t i (subst (λ xs. Contains xs i) things has)

    has_t : (i : ℕ) → i ≡ t → Contains k.things.items i
    has_t i same = subst (λ xs. Contains xs i) (sym things) (contains_first t [] i same)

    reached_now : (i m : ℕ) → place_at now i ≡ Open m → Reaches links i t
    reached_now i m is = elim (was i) [
      | inl same ↦ subst (λ n. Reaches links n t) (sym same) (Itself t)
      | inr before ↦ from i m (sym before ∙ is)
    ]

    knot_opened : IsKnot links now (number + 1) k
    knot_opened = record {
      some = omega (arith, first);
      all = λ i m is above below. elim (was i) [
        | inl same ↦ has_t i same
        | inr before ↦ absurd (let less = are_open i m (sym before ∙ is) in omega (arith, less, above, first))
      ];
      each = λ i has. (number, ap (place_at now) (thing_is i has) ∙ t_now, omega (arith, first), omega arith);
      reached = λ i j m is below has. subst (Reaches links i) (sym (thing_is j has)) (reached_now i m is);
      pending = λ j has. (t, has_t t refl, subst (λ xs. Contains xs j) pending has);
      followed = λ i j has link. inl (subst (λ xs. Contains xs j) (ap (links_at links) (thing_is i has) ∙ sym pending) link);
    }

    open_below : (i m : ℕ) → place_at now i ≡ Open m → m < number + 1
    open_below i m is = elim (was i) [
      | inl same ↦ let e : m ≡ number = ap number_of (sym is ∙ ap (place_at now) same ∙ t_now) in omega (arith, e)
      | inr before ↦ let less = are_open i m (sym before ∙ is) in omega (arith, less)
    ]

pub opened : (links : List (List ℕ)) (ps : List Place) (ks : List Knot) (t number closed : ℕ) (k : Knot) → place_at ps t ≡ New
    → k.first ≡ number → k.things.items ≡ t ∷ [] → k.links.items ≡ links_at links t
    → ((i m : ℕ) → place_at ps i ≡ Open m → Reaches links i t)
    → IsWalkOf links ps ks number closed → IsWalkOf links (set ps t (Open number)) (k ∷ ks) (number + 1) closed
opened links ps ks t number closed k new first things pending from w = record {
  each = length-set ps t (Open number) ∙ w.each;
  are_open = open_below links ps t number new k first things pending w.are_open from;
  knots = (
    knot_opened links ps t number new k first things pending w.are_open from,
    subst (λ n. AreKnots links (set ps t (Open number)) n ks) (sym first) (knots_stay links ps t number new number ks (omega arith) w.knots),
  );
  groups = closed_stay links ps t number new closed w.groups;
}

-- ---- things are put into a group one by one

pub put_more : (old now : List Place) (things : List ℕ) (at group : ℕ) → at < length things
    → ArePutIn old (take at things) group now → ArePutIn old (take (at + 1) things) group (set now (get_or things at 0) (Closed group))
put_more old now things at group inside h =
    let x = get_or things at 0 in
    let more : take (at + 1) things ≡ take at things ++ x ∷ [] = take_more things at 0 inside in
    subst (λ xs. ArePutIn old xs group (set now x (Closed group))) (sym more) (record {
      each = length-set now x (Closed group) ∙ h.each;
      closed = λ i within has. elim (eqb_tells i x) [
        | inl same ↦ ap (place_at (set now x (Closed group))) same.1 ∙ get_or-set_same now x (Closed group) (Closed 0) (let e = same.1 in let l = h.each in omega (arith, within, e, l))
        | inr other ↦ get_or-set_other now x i (Closed group) (Closed 0) other.1 ∙ elim (Contains-push_cases (take at things) x i has) [
          | inl before ↦ h.closed i within before
          | inr same ↦ absurd (other.1 (sym same))
        ]
      ];
      others = λ i none. get_or-set_other now x i (Closed group) (Closed 0) (λ same. none (subst (λ y. Contains (take at things ++ x ∷ []) y) (sym same) (Contains-push (take at things) x)))
          ∙ h.others i (λ has. none (Contains-append_left (take at things) (x ∷ []) i has));
    })

pub put_none : (old : List Place) (group : ℕ) → ArePutIn old [] group old
put_none old group = record { each = refl; closed = λ i within has. absurd (contains_none i has); others = λ i none. refl }

-- ---- the last knot is a group

module _ (links : List (List ℕ)) (ps now : List Place) (k : Knot) (next closed : ℕ) (each : length ps ≡ length links)
    (h : IsKnot links ps next k) (put : ArePutIn ps k.things.items closed now) where
  is_in : (i : ℕ) → Contains k.things.items i → i < length ps
  is_in i has = let (m, is, above, below) = h.each i has in open_in ps i m is

  closed_now : (i : ℕ) → Contains k.things.items i → place_at now i ≡ Closed closed
  closed_now i has = put.closed i (is_in i has) has

  still : (i : ℕ) → (Contains k.things.items i × (place_at now i ≡ Closed closed)) ⊎ ((Contains k.things.items i → ⊥) × (place_at now i ≡ place_at ps i))
  still i = elim (contains_or k.things.items i) [ inl has ↦ inl (has, closed_now i has) | inr none ↦ inr (none, put.others i none) ]

  open_still : (i m : ℕ) → place_at now i ≡ Open m → (Contains k.things.items i → ⊥) × (place_at ps i ≡ Open m)
  open_still i m is = elim (still i) [
    | inl closes ↦ absurd (closed_open closed m (sym closes.1 ∙ is))
    | inr stays ↦ (stays.0, sym stays.1 ∙ is)
  ]

  -- a thing that is on the path before the knot
  before_stays : (i m : ℕ) → place_at ps i ≡ Open m → m < k.first → place_at now i ≡ Open m
  before_stays i m is before = elim (still i) [
    | inl closes ↦ absurd (let (n, same, above, below) = h.each i closes.0 in let e : m ≡ n = ap number_of (sym is ∙ same) in omega (arith, e, above, before))
    | inr stays ↦ stays.1 ∙ is
  ]

  followed_still : (first j : ℕ) → is_followed first (place_at ps j) ≡ true → is_followed first (place_at now j) ≡ true
  followed_still first j is = elim (still j) [
    | inl closes ↦ ap (is_followed first) closes.1
    | inr stays ↦ ap (is_followed first) stays.1 ∙ is
  ]

  before_knot : (to : ℕ) (b : Knot) → to ≤ k.first → IsKnot links ps to b → IsKnot links now to b
  before_knot to b within o = record {
    some = o.some;
    all = λ i m is above below. o.all i m (open_still i m is).1 above below;
    each = λ i has. let (m, is, above, below) = o.each i has in (m, before_stays i m is (omega (arith, below, within)), above, below);
    reached = λ i j m is below has. o.reached i j m (open_still i m is).1 below has;
    pending = o.pending;
    followed = λ i j has link. elim (o.followed i j has link) [ inl left ↦ inl left | inr is ↦ inr (followed_still b.first j is) ];
  }

  before_knots : (to : ℕ) (ks : List Knot) → to ≤ k.first → AreKnots links ps to ks → AreKnots links now to ks
  before_knots to [] within o = λ i m is. o i m (open_still i m is).1
  before_knots to (b ∷ bs) within o = (before_knot to b within o.0, before_knots b.first bs (omega (arith, o.0.some, within)) o.1)

  module _ (are_open : (i m : ℕ) → place_at ps i ≡ Open m → m < next) (none : k.links.items ≡ []) (groups : AreClosed links ps closed) where
    open_before : (i m : ℕ) → place_at now i ≡ Open m → m < k.first
    open_before i m is = elim (leb_tells k.first m) [
      | inl above ↦ let (out, was) = open_still i m is in absurd (out (h.all i m was above.1 (are_open i m was)))
      | inr below ↦ below.1
    ]

    closes : (i g : ℕ) → place_at now i ≡ Closed g → (Contains k.things.items i × (g ≡ closed)) ⊎ ((Contains k.things.items i → ⊥) × (place_at ps i ≡ Closed g))
    closes i g is = elim (still i) [
      | inl ends ↦ inl (ends.0, ap number_of (sym is ∙ ends.1))
      | inr stays ↦ inr (stays.0, sym stays.1 ∙ is)
    ]

    at_most : (g : ℕ) → g ≤ closed → nat_le g closed ≡ true
    at_most g within = elim (leb_tells g closed) [ inl held ↦ held.0 | inr over ↦ absurd (omega (arith, over.1, within)) ]

    group_below : (j g : ℕ) → place_at ps j ≡ Closed g → g ≤ closed
    group_below j g is = elim (leb_tells (length ps) j) [
      | inl past ↦ let e : g ≡ 0 = ap number_of (sym is ∙ get_or_past ps j (Closed 0) past.1) in omega (arith, e)
      | inr inside ↦ let below = groups.below j g (omega (arith, inside.1, each)) is in omega (arith, below)
    ]

    -- what a link of the knot leads to, that was followed and leads to nothing in it
    led_out : (j : ℕ) (p : Place) → place_at ps j ≡ p → (Contains k.things.items j → ⊥) → is_followed k.first p ≡ true → is_closed_by closed p ≡ true
    led_out j New is out followed = absurd (no_way followed)
    led_out j (Open m) is out followed = elim (leb_tells k.first m) [
      | inl above ↦ absurd (out (h.all j m is above.1 (are_open j m is)))
      | inr below ↦ absurd (no_way (sym below.0 ∙ followed))
    ]
    led_out j (Closed g) is out followed = at_most g (group_below j g is)

    led_to : (j : ℕ) → is_followed k.first (place_at ps j) ≡ true → is_closed_by closed (place_at now j) ≡ true
    led_to j followed = elim (still j) [
      | inl ends ↦ ap (is_closed_by closed) ends.1 ∙ at_most closed (omega arith)
      | inr stays ↦ ap (is_closed_by closed) stays.1 ∙ led_out j (place_at ps j) refl stays.0 followed
    ]

    closed_by_still : (g j : ℕ) → is_closed_by g (place_at ps j) ≡ true → is_closed_by g (place_at now j) ≡ true
    closed_by_still g j is = elim (still j) [
      | inl ends ↦ let (m, was, above, below) = h.each j ends.0 in absurd (no_way (sym (ap (is_closed_by g) was) ∙ is))
      | inr stays ↦ ap (is_closed_by g) stays.1 ∙ is
    ]

    closed_more : AreClosed links now (closed + 1)
    closed_more = record {
      below = λ i g inside is. elim (closes i g is) [
        | inl new ↦ let e = new.1 in omega (arith, e)
        | inr old ↦ let below = groups.below i g inside old.1 in omega (arith, below)
      ];
      tied = λ i j g inside within is too. elim (closes i g is) [
        | inl new ↦ elim (closes j g too) [
          | inl other ↦ let (m, was, above, below) = h.each i new.0 in h.reached i j m was below other.0
          | inr other ↦ absurd (let below = groups.below j g within other.1 in let e = new.1 in omega (arith, below, e))
        ]
        | inr old ↦ elim (closes j g too) [
          | inl other ↦ absurd (let below = groups.below i g inside old.1 in let e = other.1 in omega (arith, below, e))
          | inr other ↦ groups.tied i j g inside within old.1 other.1
        ]
      ];
      led = λ i j g inside is link. elim (closes i g is) [
        | inl new ↦ subst (λ n. is_closed_by n (place_at now j) ≡ true) (sym new.1) (elim (h.followed i j new.0 link) [
          | inl left ↦ absurd (contains_none j (subst (λ xs. Contains xs j) none left))
          | inr followed ↦ led_to j followed
        ])
        | inr old ↦ closed_by_still g j (groups.led i j g inside old.1 link)
      ];
    }

pub closed_knot : (links : List (List ℕ)) (ps now : List Place) (k : Knot) (ks : List Knot) (opened closed : ℕ) → k.links.items ≡ []
    → ArePutIn ps k.things.items closed now → IsWalkOf links ps (k ∷ ks) opened closed → IsWalkOf links now ks k.first (closed + 1)
closed_knot links ps now k ks opened closed none put w = record {
  each = put.each ∙ w.each;
  are_open = open_before links ps now k opened closed w.each w.knots.0 put w.are_open none w.groups;
  knots = before_knots links ps now k opened closed w.each w.knots.0 put k.first ks (omega arith) w.knots.1;
  groups = closed_more links ps now k opened closed w.each w.knots.0 put w.are_open none w.groups;
}

-- ---- a link that leads to a group, or to nothing before the knot, was followed

pub link_followed : (links : List (List ℕ)) (ps : List Place) (k j : Knot) (ks : List Knot) (opened closed next : ℕ)
    → j.first ≡ k.first → j.things ≡ k.things → k.links.items ≡ j.links.items ++ next ∷ [] → is_followed k.first (place_at ps next) ≡ true
    → IsWalkOf links ps (k ∷ ks) opened closed → IsWalkOf links ps (j ∷ ks) opened closed
link_followed links ps k j ks opened closed next first things more followed w =
    let h = w.knots.0 in
    record {
      each = w.each;
      are_open = w.are_open;
      knots = (
        record {
          some = omega (arith, first, h.some);
          all = λ i m is above below. subst (λ v. Contains v.items i) (sym things) (h.all i m is (omega (arith, first, above)) below);
          each = λ i has. let (m, is, above, below) = h.each i (subst (λ v. Contains v.items i) things has) in (m, is, omega (arith, first, above), below);
          reached = λ i n m is below has. h.reached i n m is below (subst (λ v. Contains v.items n) things has);
          pending = λ n has. let (i, in_it, link) = h.pending n (subst (λ xs. Contains xs n) (sym more) (Contains-append_left j.links.items (next ∷ []) n has)) in
              (i, subst (λ v. Contains v.items i) (sym things) in_it, link);
          followed = λ i n has link. elim (h.followed i n (subst (λ v. Contains v.items i) things has) link) [
            | inl left ↦ elim (Contains-push_cases j.links.items next n (subst (λ xs. Contains xs n) more left)) [
              | inl still ↦ inl still
              | inr same ↦ inr (subst (λ f. is_followed f (place_at ps n) ≡ true) (sym first) (subst (λ x. is_followed k.first (place_at ps x) ≡ true) same followed))
            ]
            | inr is ↦ inr (subst (λ f. is_followed f (place_at ps n) ≡ true) (sym first) is)
          ];
        },
        subst (λ f. AreKnots links ps f ks) (sym first) w.knots.1,
      );
      groups = w.groups;
    }

-- ---- a link that leads back ties two knots together

module _ (links : List (List ℕ)) (ps : List Place) (k b t : Knot) (next : ℕ) (h : IsKnot links ps next k) (o : IsKnot links ps k.first b)
    (first : t.first ≡ b.first) (things : AreBoth b.things.items k.things.items t.things.items) (pending : AreBoth b.links.items k.links.items t.links.items)
    (s j n : ℕ) (in_it : Contains k.things.items s) (link : Contains (links_at links s) j) (place : place_at ps j ≡ Open n) (back : n < k.first) where
  -- from each thing on the path up to the second knot each of the first is reached
  reached_back : (i m l : ℕ) → place_at ps i ≡ Open m → m < next → Contains b.things.items l → Reaches links i l
  reached_back i m l is below has = elim (leb_tells k.first m) [
    | inl above ↦ reached_more links i j l (reached_by links i s j (h.reached i s m is below in_it) link) (o.reached j l n place back has)
    | inr before ↦ o.reached i l m is before.1 has
  ]

  is_followed_before : (p : Place) → is_followed k.first p ≡ true → is_followed b.first p ≡ true
  is_followed_before New is = is
  is_followed_before (Open m) is = elim (leb_tells k.first m) [
    | inl above ↦ elim (leb_tells b.first m) [ inl within ↦ within.0 | inr less ↦ absurd (omega (arith, less.1, above.1, o.some)) ]
    | inr below ↦ absurd (no_way (sym below.0 ∙ is))
  ]
  is_followed_before (Closed g) is = refl

  followed_by : (i l : ℕ) → Contains t.things.items i → Contains (links_at links i) l → Contains t.links.items l ⊎ (is_followed b.first (place_at ps l) ≡ true)
  followed_by i l has to = elim ((things i).0 has) [
    | inl first_has ↦ elim (o.followed i l first_has to) [ inl left ↦ inl ((pending l).1 (inl left)) | inr is ↦ inr is ]
    | inr last_has ↦ elim (h.followed i l last_has to) [ inl left ↦ inl ((pending l).1 (inr left)) | inr is ↦ inr (is_followed_before (place_at ps l) is) ]
  ]

  knot_tied : IsKnot links ps next t
  knot_tied = record {
    some = omega (arith, first, o.some, h.some);
    all = λ i m is above below. (things i).1 (elim (leb_tells k.first m) [
      | inl above_it ↦ inr (h.all i m is above_it.1 below)
      | inr below_it ↦ inl (o.all i m is (omega (arith, first, above)) below_it.1)
    ]);
    each = λ i has. elim ((things i).0 has) [
      | inl first_has ↦ let (m, is, above, below) = o.each i first_has in (m, is, omega (arith, first, above), omega (arith, below, h.some))
      | inr last_has ↦ let (m, is, above, below) = h.each i last_has in (m, is, omega (arith, first, above, o.some), below)
    ];
    reached = λ i l m is below has. elim ((things l).0 has) [
      | inl first_has ↦ reached_back i m l is below first_has
      | inr last_has ↦ h.reached i l m is below last_has
    ];
    pending = λ l has. elim ((pending l).0 has) [
      | inl left ↦ let (i, has, to) = o.pending l left in (i, (things i).1 (inl has), to)
      | inr left ↦ let (i, has, to) = h.pending l left in (i, (things i).1 (inr has), to)
    ];
    followed = λ i l has to. subst (λ f. Contains t.links.items l ⊎ (is_followed f (place_at ps l) ≡ true)) (sym first) (followed_by i l has to);
  }

pub tied_together : (links : List (List ℕ)) (ps : List Place) (k b t : Knot) (ks : List Knot) (opened closed : ℕ)
    → t.first ≡ b.first → AreBoth b.things.items k.things.items t.things.items → AreBoth b.links.items k.links.items t.links.items
    → (i j m : ℕ) × Contains k.things.items i × Contains (links_at links i) j × (place_at ps j ≡ Open m) × (m < k.first)
    → IsWalkOf links ps (k ∷ b ∷ ks) opened closed → IsWalkOf links ps (t ∷ ks) opened closed
tied_together links ps k b t ks opened closed first things pending (s, j, n, in_it, link, place, back) w = record {
  each = w.each;
  are_open = w.are_open;
  knots = (
    knot_tied links ps k b t opened w.knots.0 w.knots.1.0 first things pending s j n in_it link place back,
    subst (λ f. AreKnots links ps f ks) (sym first) w.knots.1.1,
  );
  groups = w.groups;
}

-- ---- the last link of the last knot

pub last_in : (rest xs : List ℕ) (next : ℕ) → xs ≡ rest ++ next ∷ [] → Contains xs next
last_in rest xs next is = subst (λ ys. Contains ys next) (sym is) (Contains-push rest next)

-- from each thing on the path that is reached to which a link leads
pub leads_on : (links : List (List ℕ)) (ps : List Place) (k : Knot) (ks : List Knot) (opened closed next : ℕ) → IsWalkOf links ps (k ∷ ks) opened closed
    → Contains k.links.items next → (i m : ℕ) → place_at ps i ≡ Open m → Reaches links i next
leads_on links ps k ks opened closed next w has i m is =
    let (j, in_it, link) = w.knots.0.pending next has in
    reached_by links i j next (w.knots.0.reached i j m is (w.are_open i m is) in_it) link

pub leads_before : (links : List (List ℕ)) (ps : List Place) (k : Knot) (ks : List Knot) (opened closed next m : ℕ) → IsWalkOf links ps (k ∷ ks) opened closed
    → Contains k.links.items next → place_at ps next ≡ Open m → m < k.first
    → (i j n : ℕ) × Contains k.things.items i × Contains (links_at links i) j × (place_at ps j ≡ Open n) × (n < k.first)
leads_before links ps k ks opened closed next m w has is before =
    let (i, in_it, link) = w.knots.0.pending next has in (i, next, m, in_it, link, is, before)

pub is_passed : (first m : ℕ) (p : Place) → p ≡ Open m → first ≤ m → is_followed first p ≡ true
is_passed first m p is above = ap (is_followed first) is ∙ elim (leb_tells first m) [ inl within ↦ within.0 | inr before ↦ absurd (let b = before.1 in omega (arith, b, above)) ]

pub group_passed : (first g : ℕ) (p : Place) → p ≡ Closed g → is_followed first p ≡ true
group_passed first g p is = ap (is_followed first) is

-- ---- where all are in groups

module _ (links : List (List ℕ)) (ps : List Place) (opened closed : ℕ) (w : IsWalkOf links ps [] opened closed)
    (none : (i : ℕ) → i < length links → place_at ps i ≡ New → ⊥) where
  closed_at : (i : ℕ) (p : Place) → i < length links → place_at ps i ≡ p → p ≡ Closed (group_at p)
  closed_at i New inside is = absurd (none i inside is)
  closed_at i (Open m) inside is = absurd (let above = w.knots i m is in let below = w.are_open i m is in omega (arith, above, below))
  closed_at i (Closed g) inside is = refl

  pub is_closed : (i : ℕ) → i < length links → place_at ps i ≡ Closed (group_at (place_at ps i))
  is_closed i inside = closed_at i (place_at ps i) inside refl

  no_later_by : (g : ℕ) (p : Place) → p ≡ Closed (group_at p) → is_closed_by g p ≡ true → group_at p ≤ g
  no_later_by g New is closed = absurd (no_way closed)
  no_later_by g (Open m) is closed = absurd (no_way closed)
  no_later_by g (Closed n) is closed = elim (leb_tells n g) [ inl within ↦ within.1 | inr after ↦ absurd (no_way (sym after.0 ∙ closed)) ]

  pub no_later : (i j : ℕ) → i < length links → j < length links → Contains (links_at links i) j → group_at (place_at ps j) ≤ group_at (place_at ps i)
  no_later i j inside within link =
      no_later_by (group_at (place_at ps i)) (place_at ps j) (is_closed j within)
      (w.groups.led i j (group_at (place_at ps i)) inside (is_closed i inside) link)

  -- a number that no thing has leads nowhere
  leads : (i j : ℕ) → Contains (links_at links i) j → i < length links
  leads i j link = elim (leb_tells (length links) i) [
    | inl past ↦ absurd (contains_none j (subst (λ xs. Contains xs j) (get_or_past links i [] past.1) link))
    | inr inside ↦ inside.1
  ]

  start_in : (i j : ℕ) → Reaches links i j → j < length links → i < length links
  start_in _ _ (Itself i) within = within
  start_in _ _ (By i next j link rest) within = leads i next link

  reached_no_later : (i j : ℕ) → Reaches links i j → j < length links → group_at (place_at ps j) ≤ group_at (place_at ps i)
  reached_no_later _ _ (Itself i) within = omega arith
  reached_no_later _ _ (By i next j link rest) within =
      let far = reached_no_later next j rest within in
      let near = no_later i next (leads i next link) (start_in next j rest within) link in
      omega (arith, far, near)

  pub all_grouped : (groups : List ℕ) → length groups ≡ length links → ((i : ℕ) → i < length links → get_or groups i 0 ≡ group_at (place_at ps i)) → AreGroups links groups
  all_grouped groups each at = record {
    each = each;
    together = λ i j inside within. (
      λ same. let e : group_at (place_at ps i) ≡ group_at (place_at ps j) = sym (at i inside) ∙ same ∙ at j within in
          let other : place_at ps j ≡ Closed (group_at (place_at ps i)) = is_closed j within ∙ ap Closed (sym e) in
          (w.groups.tied i j (group_at (place_at ps i)) inside within (is_closed i inside) other, w.groups.tied j i (group_at (place_at ps i)) within inside other (is_closed i inside)),
      λ both. let to = reached_no_later i j both.0 within in let back = reached_no_later j i both.1 inside in
          let e : group_at (place_at ps i) ≡ group_at (place_at ps j) = omega (arith, to, back) in
          at i inside ∙ e ∙ sym (at j within),
    );
  }
