-- The files under which something else is kept than before, in the order of the files.
use Rattle.std.proofs.Common.{◌≡◌, ◌≢◌, ◌∙◌, ◌+◌, ◌-◌, ◌<◌, ◌≤◌, ℕ, List, [], ◌∷◌, ◌++◌, length, get_or, drop, take, map, Bool, true, false, cond, string_bytes, Option, None, Some, option_map, refl, sym, ap, subst, append_assoc, append-nil, arith}
use Rattle.std.proofs.Common.{if◌then◌else◌}
use Rattle.std.specs.Cmp.Lexicographic.{slice_cmp, nat_list_cmp_total}
use Rattle.std.specs.List.{find}
use Rattle.std.specs.Ordering.{nat_cmp, ordering_reverse}
use Rattle.std.specs.Str.{bytes_eq}
use Rattle.std.specs.Prelude.{slice_get}
use Rattle.std.specs.declared.cmp.Ordering.{Ordering}
use Rattle.std.specs.declared.cmp.Ordering.TheVariants.{Less, Equal, Greater}
use Rattle.std.proofs.lemmas.List.{take_all}
use Rattle.std.proofs.lemmas.Slice.Eq.{bytes_eq-Decides}
use Rattle.tera_site.specs.Kept.{KeptVal, kept_view}
use Rattle.tera_workspace.specs.KeptSites.{Renews, Ended, Gone, Came, Other, Same, around_file, order_of}
use Rattle.tera_workspace.specs.Names.{is_among}
use Rattle.tera_workspace.specs.SiteValues.{AroundFile}
use Rattle.tera_workspace.specs.Sites.{AreRenewed, around_named, is_in}
use Rattle.tera_workspace.specs.Sources.{AreInOrder}
use Rattle.tera_workspace.specs.declared.sites.KeptDocument.{KeptDocument}
use Rattle.tera_workspace.proofs.OrderLemmas.{IsBefore, all_above, apart_back, equal_texts}
use Rattle.tera_workspace.proofs.PlaceLemmas.{false_true}

abbrev pub files : List AroundFile → List (List ℕ)
files ds = map (λ d. d.file) ds

-- ---- files before all others

none_after : (n : List ℕ) (ds : List AroundFile) → IsBefore n (files ds) → around_named n ds ≡ None
none_after n [] before = refl
none_after n (d ∷ ds) before =
    ap (λ b. option_map (λ (x : AroundFile). x.around) (cond b (Some d) (find (is_in n) ds))) (apart_back n d.file before.0) ∙ none_after n ds before.1

none_among : (n : List ℕ) (ns : List (List ℕ)) → IsBefore n ns → is_among n ns ≡ false
none_among n [] before = refl
none_among n (m ∷ ns) before = ap (λ b. if b then true else is_among n ns) (apart_back n m before.0) ∙ none_among n ns before.1

first_gone : (d : AroundFile) (ds es : List AroundFile) → order_of (d ∷ ds) es ≡ Less → AreInOrder (files es) → IsBefore d.file (files es)
first_gone d ds [] order in_order = tt
first_gone d ds (e ∷ es) order in_order = (order, all_above d.file e.file order (files es) in_order.0)

first_came : (e : AroundFile) (ds es : List AroundFile) → order_of ds (e ∷ es) ≡ Greater → AreInOrder (files ds) → IsBefore e.file (files ds)
first_came e [] es order in_order = tt
first_came e (d ∷ ds) es order in_order =
    let before : slice_cmp nat_cmp e.file d.file ≡ Less = nat_list_cmp_total.antisymm e.file d.file ∙ ap ordering_reverse order in
    (before, all_above e.file d.file before (files ds) in_order.0)

before_names : (n : List ℕ) (ds es : List AroundFile) (names : List (List ℕ)) → Renews ds es names → IsBefore n (files ds) → IsBefore n (files es) → IsBefore n names
before_names n _ _ _ Ended h g = tt
before_names n _ _ _ (Gone d ds es names order more) h g = (h.0, before_names n ds es names more h.1 g)
before_names n _ _ _ (Came e ds es names order more) h g = (g.0, before_names n ds es names more h g.1)
before_names n _ _ _ (Other d e ds es names order apart more) h g = (g.0, before_names n ds es names more h.1 g.1)
before_names n _ _ _ (Same d e ds es names order same more) h g = before_names n ds es names more h.1 g.1

names_ordered : (ds es : List AroundFile) (names : List (List ℕ)) → Renews ds es names → AreInOrder (files ds) → AreInOrder (files es) → AreInOrder names
names_ordered _ _ _ Ended h g = tt
names_ordered _ _ _ (Gone d ds es names order more) h g =
    (before_names d.file ds es names more h.0 (first_gone d ds es order g), names_ordered ds es names more h.1 g)
names_ordered _ _ _ (Came e ds es names order more) h g =
    (before_names e.file ds es names more (first_came e ds es order h) g.0, names_ordered ds es names more h g.1)
names_ordered _ _ _ (Other d e ds es names order apart more) h g =
    let before : IsBefore e.file (files ds) = subst (λ n. IsBefore n (files ds)) (equal_texts d.file e.file order) h.0 in
    (before_names e.file ds es names more before g.0, names_ordered ds es names more h.1 g.1)
names_ordered _ _ _ (Same d e ds es names order same more) h g = names_ordered ds es names more h.1 g.1

-- ---- what is kept under a name, before and now

none_some : (k : KeptVal) → None ≡ Some k → ⊥
none_some k e = cc

same_some : (k j : KeptVal) → Some k ≡ Some j → k ≡ j
same_some k j e = cc

abbrev IsRight : Bool → Option KeptVal → Option KeptVal → Type 0
IsRight true before now = now ≢ before
IsRight false before now = now ≡ before

-- of a first file that is this, or another
abbrev put : Bool → AroundFile → Option KeptVal → Option KeptVal
put b d rest = cond b (Some d.around) rest

first_named : (n : List ℕ) (b : Bool) (d : AroundFile) (ds : List AroundFile) → bytes_eq d.file n ≡ b → around_named n (d ∷ ds) ≡ put b d (around_named n ds)
first_named n b d ds is = ap (λ t. option_map (λ (x : AroundFile). x.around) (cond t (Some d) (find (is_in n) ds))) is ∙ chosen b
  where
    chosen : (t : Bool) → option_map (λ (x : AroundFile). x.around) (cond t (Some d) (find (is_in n) ds)) ≡ put t d (around_named n ds)
    chosen true = refl
    chosen false = refl

gone_right : (b m : Bool) (k : KeptVal) (before now : Option KeptVal) → (b ≡ true → now ≡ None) → IsRight m before now → IsRight (if b then true else m) (cond b (Some k) before) now
gone_right true m k before now none right = λ same. none_some k (sym (none refl) ∙ same)
gone_right false m k before now none right = right

came_right : (b m : Bool) (k : KeptVal) (before now : Option KeptVal) → (b ≡ true → before ≡ None) → IsRight m before now → IsRight (if b then true else m) before (cond b (Some k) now)
came_right true m k before now none right = λ same. none_some k (sym (none refl) ∙ sym same)
came_right false m k before now none right = right

other_right : (b m : Bool) (k j : KeptVal) (before now : Option KeptVal) → k ≢ j → IsRight m before now → IsRight (if b then true else m) (cond b (Some k) before) (cond b (Some j) now)
other_right true m k j before now apart right = λ same. apart (sym (same_some j k same))
other_right false m k j before now apart right = right

same_right : (b m : Bool) (k j : KeptVal) (before now : Option KeptVal) → k ≡ j → (b ≡ true → m ≡ false) → IsRight m before now → IsRight m (cond b (Some k) before) (cond b (Some j) now)
same_right true m k j before now same none right = subst (λ t. IsRight t (Some k) (Some j)) (sym (none refl)) (ap Some (sym same))
same_right false m k j before now same none right = right

each_right : (n : List ℕ) (ds es : List AroundFile) (names : List (List ℕ)) → Renews ds es names → AreInOrder (files ds) → AreInOrder (files es)
    → IsRight (is_among n names) (around_named n ds) (around_named n es)
each_right n _ _ _ Ended h g = refl
each_right n _ _ _ (Gone d ds es names order more) h g =
    let b = bytes_eq d.file n in
    subst (λ before. IsRight (is_among n (d.file ∷ names)) before (around_named n es)) (sym (first_named n b d ds refl))
    (gone_right b (is_among n names) d.around (around_named n ds) (around_named n es)
    (λ is. none_after n es (subst (λ m. IsBefore m (files es)) ((bytes_eq-Decides d.file n).0 is) (first_gone d ds es order g)))
    (each_right n ds es names more h.1 g))
each_right n _ _ _ (Came e ds es names order more) h g =
    let b = bytes_eq e.file n in
    subst (λ now. IsRight (is_among n (e.file ∷ names)) (around_named n ds) now) (sym (first_named n b e es refl))
    (came_right b (is_among n names) e.around (around_named n ds) (around_named n es)
    (λ is. none_after n ds (subst (λ m. IsBefore m (files ds)) ((bytes_eq-Decides e.file n).0 is) (first_came e ds es order h)))
    (each_right n ds es names more h g.1))
each_right n _ _ _ (Other d e ds es names order apart more) h g =
    let b = bytes_eq e.file n in
    let one : d.file ≡ e.file = equal_texts d.file e.file order in
    subst (λ before. IsRight (is_among n (e.file ∷ names)) before (around_named n (e ∷ es))) (sym (first_named n b d ds (ap (λ m. bytes_eq m n) one)))
    (subst (λ now. IsRight (is_among n (e.file ∷ names)) (put b d (around_named n ds)) now) (sym (first_named n b e es refl))
    (other_right b (is_among n names) d.around e.around (around_named n ds) (around_named n es) apart (each_right n ds es names more h.1 g.1)))
each_right n _ _ _ (Same d e ds es names order same more) h g =
    let b = bytes_eq e.file n in
    let one : d.file ≡ e.file = equal_texts d.file e.file order in
    let before : IsBefore e.file (files ds) = subst (λ m. IsBefore m (files ds)) one h.0 in
    subst (λ before. IsRight (is_among n names) before (around_named n (e ∷ es))) (sym (first_named n b d ds (ap (λ m. bytes_eq m n) one)))
    (subst (λ now. IsRight (is_among n names) (put b d (around_named n ds)) now) (sym (first_named n b e es refl))
    (same_right b (is_among n names) d.around e.around (around_named n ds) (around_named n es) same
    (λ is. subst (λ m. is_among m names ≡ false) ((bytes_eq-Decides e.file n).0 is) (none_among e.file names (before_names e.file ds es names more before g.0)))
    (each_right n ds es names more h.1 g.1)))

pub all_renewed : (ds es : List AroundFile) (names : List (List ℕ)) → Renews ds es names → AreInOrder (files ds) → AreInOrder (files es) → AreRenewed names ds es
all_renewed ds es names renews h g = record {
  ordered = names_ordered ds es names renews h g;
  others = λ n among. subst (λ t. IsRight t (around_named n ds) (around_named n es)) among (each_right n ds es names renews h g);
  same = λ n free. subst (λ t. IsRight t (around_named n ds) (around_named n es)) free (each_right n ds es names renews h g);
}

pub none_renewed : (names : List (List ℕ)) (ds : List AroundFile) → names ≡ [] → AreRenewed names ds ds
none_renewed names ds none = subst (λ ns. AreRenewed ns ds ds) (sym none) (record {
  ordered = tt;
  others = λ n among. absurd (false_true among);
  same = λ n free. refl;
})

-- of a call that puts the first file, and one that goes on
pub more_renewed : (before now old new : List AroundFile) (done files : List (List ℕ))
    → ((names : List (List ℕ)) → Renews old new names → Renews before now (done ++ names))
    → (old_left new_left : List AroundFile) → ((names : List (List ℕ)) → Renews old_left new_left names → (all : List (List ℕ)) × Renews old new all × (files ++ names ≡ done ++ all))
    → (names : List (List ℕ)) → Renews old_left new_left names → Renews before now (files ++ names)
more_renewed before now old new done files so_far old_left new_left put names renews =
    let (all, here, is) = put names renews in
    subst (Renews before now) (sym is) (so_far all here)

-- ---- as the code goes through both

less_equal : Less ≡ Equal → ⊥
less_equal e = cc

greater_equal : Greater ≡ Equal → ⊥
greater_equal e = cc

equal_less : Equal ≡ Less → ⊥
equal_less e = cc

greater_less : Greater ≡ Less → ⊥
greater_less e = cc

equal_greater : Equal ≡ Greater → ⊥
equal_greater e = cc

less_greater : Less ≡ Greater → ⊥
less_greater e = cc

abbrev pub kept : List KeptDocument → List AroundFile
kept ds = map around_file ds

pub some_gone : (older newer : List KeptDocument) → order_of (kept older) (kept newer) ≡ Less → 0 < length older
some_gone [] [] order = absurd (equal_less order)
some_gone [] (e ∷ newer) order = absurd (greater_less order)
some_gone (d ∷ older) newer order = omega arith

pub some_came : (older newer : List KeptDocument) → order_of (kept older) (kept newer) ≡ Greater → 0 < length newer
some_came [] [] order = absurd (equal_greater order)
some_came (d ∷ older) [] order = absurd (less_greater order)
some_came older (e ∷ newer) order = omega arith

pub both_left : (older newer : List KeptDocument) → order_of (kept older) (kept newer) ≡ Equal → 0 < length older + length newer → (0 < length older) × (0 < length newer)
both_left [] [] order some = absurd (omega (arith, some))
both_left [] (e ∷ newer) order some = absurd (greater_equal order)
both_left (d ∷ older) [] order some = absurd (less_equal order)
both_left (d ∷ older) (e ∷ newer) order some = (omega arith, omega arith)

-- what comes after the first, as a range of them
abbrev pub rest_of : List KeptDocument → List KeptDocument
rest_of ds = take (length ds - 1) (drop 1 ds)

pub parts : (ds : List KeptDocument) (d : KeptDocument) → 0 < length ds → d ≡ get_or ds 0 d → ds ≡ d ∷ rest_of ds
parts [] d some is = absurd (omega (arith, some))
parts (e ∷ ds) d some is = (λ i. sym is i ∷ sym (take_all (length (e ∷ ds) - 1) ds (omega arith)) i)

-- what is named after the files before, if this is named of what is left
abbrev pub Goes : List KeptDocument → List KeptDocument → List KeptDocument → List KeptDocument → List (List ℕ) → List (List ℕ) → Type 0
Goes older newer older_left newer_left before after =
    (names : List (List ℕ)) → Renews (kept older_left) (kept newer_left) names → (all : List (List ℕ)) × Renews (kept older) (kept newer) all × (after ++ names ≡ before ++ all)

one_file : (before after names : List (List ℕ)) (file : List ℕ) → after ≡ before ++ file ∷ [] → after ++ names ≡ before ++ file ∷ names
one_file before after names file put = ap (λ ns. ns ++ names) put ∙ append_assoc before (file ∷ []) names

pub gone_put : (older newer left : List KeptDocument) (d : KeptDocument) (before after : List (List ℕ)) → order_of (kept older) (kept newer) ≡ Less
    → older ≡ d ∷ left → after ≡ before ++ string_bytes d.file ∷ [] → Goes older newer left newer before after
gone_put older newer left d before after order is put names renews = (
  string_bytes d.file ∷ names,
  subst (λ ds. Renews (kept ds) (kept newer) (string_bytes d.file ∷ names)) (sym is)
      (Gone (around_file d) (kept left) (kept newer) names (subst (λ ds. order_of (kept ds) (kept newer) ≡ Less) is order) renews),
  one_file before after names (string_bytes d.file) put,
)

pub came_put : (older newer left : List KeptDocument) (e : KeptDocument) (before after : List (List ℕ)) → order_of (kept older) (kept newer) ≡ Greater
    → newer ≡ e ∷ left → after ≡ before ++ string_bytes e.file ∷ [] → Goes older newer older left before after
came_put older newer left e before after order is put names renews = (
  string_bytes e.file ∷ names,
  subst (λ es. Renews (kept older) (kept es) (string_bytes e.file ∷ names)) (sym is)
      (Came (around_file e) (kept older) (kept left) names (subst (λ es. order_of (kept older) (kept es) ≡ Greater) is order) renews),
  one_file before after names (string_bytes e.file) put,
)

pub other_put : (older newer older_left newer_left : List KeptDocument) (d e : KeptDocument) (before after : List (List ℕ)) → order_of (kept older) (kept newer) ≡ Equal
    → older ≡ d ∷ older_left → newer ≡ e ∷ newer_left → kept_view d.around ≢ kept_view e.around → after ≡ before ++ string_bytes e.file ∷ [] → Goes older newer older_left newer_left before after
other_put older newer older_left newer_left d e before after order old_is new_is apart put names renews = (
  string_bytes e.file ∷ names,
  subst (λ ds. Renews (kept ds) (kept newer) (string_bytes e.file ∷ names)) (sym old_is)
      (subst (λ es. Renews (kept (d ∷ older_left)) (kept es) (string_bytes e.file ∷ names)) (sym new_is)
      (Other (around_file d) (around_file e) (kept older_left) (kept newer_left) names
      (subst (λ es. order_of (kept (d ∷ older_left)) (kept es) ≡ Equal) new_is (subst (λ ds. order_of (kept ds) (kept newer) ≡ Equal) old_is order)) apart renews)),
  one_file before after names (string_bytes e.file) put,
)

-- what is around two, as it is around those at the start
pub same_first : (older newer : List KeptDocument) (d e : KeptDocument) → d ≡ get_or older 0 d → e ≡ get_or newer 0 e
    → kept_view (get_or older 0 d).around ≡ kept_view (get_or newer 0 e).around → kept_view d.around ≡ kept_view e.around
same_first older newer d e is_d is_e same = ap (λ (x : KeptDocument). kept_view x.around) is_d ∙ same ∙ sym (ap (λ (x : KeptDocument). kept_view x.around) is_e)

pub first_same : (older newer : List KeptDocument) (d e : KeptDocument) → d ≡ get_or older 0 d → e ≡ get_or newer 0 e
    → kept_view d.around ≡ kept_view e.around → kept_view (get_or older 0 d).around ≡ kept_view (get_or newer 0 e).around
first_same older newer d e is_d is_e same = sym (ap (λ (x : KeptDocument). kept_view x.around) is_d) ∙ same ∙ ap (λ (x : KeptDocument). kept_view x.around) is_e

-- the first that was put is the one that was compared
pub same_around : (newer : List KeptDocument) (d first e : KeptDocument) (left : List KeptDocument) → newer ≡ first ∷ left → e ≡ get_or newer 0 e
    → kept_view d.around ≡ kept_view first.around → kept_view d.around ≡ kept_view e.around
same_around newer d first e left is is_e same = same ∙ ap (λ (x : KeptDocument). kept_view x.around) (sym (is_e ∙ ap (λ ds. get_or ds 0 e) is))

pub same_put : (older newer older_left newer_left : List KeptDocument) (d e : KeptDocument) (files : List (List ℕ)) → order_of (kept older) (kept newer) ≡ Equal
    → older ≡ d ∷ older_left → newer ≡ e ∷ newer_left → kept_view d.around ≡ kept_view e.around → Goes older newer older_left newer_left files files
same_put older newer older_left newer_left d e files order old_is new_is same names renews = (
  names,
  subst (λ ds. Renews (kept ds) (kept newer) names) (sym old_is)
      (subst (λ es. Renews (kept (d ∷ older_left)) (kept es) names) (sym new_is)
      (Same (around_file d) (around_file e) (kept older_left) (kept newer_left) names
      (subst (λ es. order_of (kept (d ∷ older_left)) (kept es) ≡ Equal) new_is (subst (λ ds. order_of (kept ds) (kept newer) ≡ Equal) old_is order)) same renews)),
  refl,
)

-- and where nothing is left of both
pub none_left : (older newer : List KeptDocument) → (0 < length older + length newer → ⊥) → length older + length newer ≤ 0
none_left [] [] none = omega arith
none_left [] (e ∷ newer) none = absurd (none (omega arith))
none_left (d ∷ older) newer none = absurd (none (omega arith))

pub no_more : (before after older newer : List KeptDocument) (files : List (List ℕ)) → length older + length newer ≤ 0
    → ((names : List (List ℕ)) → Renews (kept older) (kept newer) names → Renews (kept before) (kept after) (files ++ names)) → Renews (kept before) (kept after) files
no_more before after [] [] files none so_far = subst (Renews (kept before) (kept after)) (append-nil files) (so_far [] Ended)
no_more before after (d ∷ older) newer files none so_far = absurd (omega (arith, none))
no_more before after [] (e ∷ newer) files none so_far = absurd (omega (arith, none))

-- ---- which has the first file, by the first of both

abbrev pub order_by : Option KeptDocument → Option KeptDocument → Ordering
order_by None None = Equal
order_by (Some d) None = Less
order_by None (Some e) = Greater
order_by (Some d) (Some e) = slice_cmp nat_cmp (string_bytes d.file) (string_bytes e.file)

pub first_order : (older newer : List KeptDocument) → order_of (kept older) (kept newer) ≡ order_by (slice_get older 0) (slice_get newer 0)
first_order [] [] = refl
first_order [] (e ∷ newer) = refl
first_order (d ∷ older) [] = refl
first_order (d ∷ older) (e ∷ newer) = refl
