-- Sites of folders after a step.
use Rattle.std.proofs.Common.{◌≡◌, ◌≢◌, ◌∙◌, ◌<◌, ◌≤◌, ◌+◌, ◌++◌, ◌∷◌, [], ◌⊎◌, inl, inr, ◌||◌, ◌&&◌, ℕ, zero, suc, List, length, get_or, set, map, take, filter, Bool, true, false, not, cond, if◌then◌else◌, Option, None, Some, is_some, Result, Ok, Err, IfOk, String, string_bytes, Vec, refl, sym, ap, subst, append_assoc, arith}
use Rattle.std.specs.BTreeMap.{IsOrdered, get_by_text, is_at}
use Rattle.std.specs.BTreeSet.{BTreeSet, UpdatesBy}
use Rattle.std.specs.Cmp.Lexicographic.{slice_cmp}
use Rattle.std.specs.List.{AllByRecursion, IsDistinct, find, list_any}
use Rattle.std.specs.Map.{keys_of, lookup}
use Rattle.std.specs.Option.{option_map}
use Rattle.std.specs.Ordering.{eq_by_cmp, nat_cmp}
use Rattle.std.specs.Str.{bytes_eq}
use Rattle.std.specs.String.{string_cmp}
use Rattle.std.specs.declared.alloc.Global.{Global}
use Rattle.std.proofs.lemmas.Bool.{cases_eq, cases_lt, false≢true}
use Rattle.std.proofs.lemmas.List.{append-nil, get_or-set_same, get_or-set_other, get_or_read, length-set, map-append, set-get_or, take_more}
use Rattle.std.proofs.lemmas.Map.Keys.{IsDistinct-from_sorted, IsDistinct-head, IsDistinct-tail}
use Rattle.std.proofs.lemmas.Map.Made.{lookup-map_values}
use Rattle.std.proofs.lemmas.Map.Text.{btree_map_updates_text, btree_set_updates_text, is_eq-slice_cmp}
use Rattle.std.proofs.lemmas.Slice.Eq.{bytes_eq-Decides}
use Rattle.tera_workspace.specs.Definitions.{AreRead}
use Rattle.tera_workspace.specs.Names.{is_among}
use Rattle.tera_site.specs.Kept.{is_one_of, names_in}
use Rattle.tera_site.proofs.KeptLemmas.{one_of}
use Rattle.tera_workspace.specs.SiteValues.{KeptSiteVal, no_site}
use Rattle.tera_workspace.specs.Sites.{FitsWorkspace, around_named}
use Rattle.tera_workspace.specs.Workspaces.{IsKept}
use Rattle.tera_workspace.specs.declared.workspace.Workspace.{Workspace}
use Rattle.tera_workspace.proofs.NameSets.{among_append}
use Rattle.tera_editor.specs.Sites.{AddsRenewed, AreAbsent, AreAround, AreFittingBelow, AreGiven, AreStillKnown, HasOthers, IsGiven, IsNumbered, IsPresenceAt, IsPresenceIf, IsRenewed, IsSaid, KeepsKnown, NoneBefore, Presences, SitedVal, StaysKnown, UsedVal, asked_again, asked_again_in, asked_if, has_folder, is_absent_in, is_below, is_entry_due, is_there_as, is_there_in, new_presence, presence_in, renewed_of, sited, with_nothing_known}
use Rattle.tera_editor.specs.declared.sites.FolderSite.{FolderSite}
use Rattle.tera_editor.specs.declared.sites.Presence.{Presence}
use Rattle.tera_editor.specs.declared.sites.Sites.{Sites}
use Rattle.tera_editor.proofs.TextMaps.{Updates}

-- ---- what stays around documents

-- a name that is among others
pub among_either : (n : List ℕ) (xs ys : List (List ℕ)) → is_among n (xs ++ ys) ≡ true → (is_among n xs ≡ true) ⊎ (is_among n ys ≡ true)
among_either n [] ys h = inr h
among_either n (x ∷ xs) ys h = by (bytes_eq x n) (among_either n xs ys) h
  where
    by : (b : Bool) → (is_among n (xs ++ ys) ≡ true → (is_among n xs ≡ true) ⊎ (is_among n ys ≡ true)) → (if b then true else is_among n (xs ++ ys)) ≡ true → ((if b then true else is_among n xs) ≡ true) ⊎ (is_among n ys ≡ true)
    by true f e = inl refl
    by false f e = f e

pub is_head : (n m : List ℕ) → is_among n (m ∷ []) ≡ true → bytes_eq m n ≡ true
is_head n m h = by (bytes_eq m n) h
  where
    by : (b : Bool) → (if b then true else false) ≡ true → b ≡ true
    by true e = refl
    by false e = e

both_false : (a b : Bool) → (a || b) ≡ false → (a ≡ false) × (b ≡ false)
both_false true b e = absurd (cc)
both_false false b e = (refl, e)

renewed_same : (x : FolderSite) → IsRenewed [] x x
renewed_same x = record { folder = refl; root = refl; same = λ n e. refl }

renewed_on : (ms bs : List (List ℕ)) (x y z : FolderSite) → IsRenewed ms x y → IsRenewed bs y z → IsRenewed (ms ++ bs) x z
renewed_on ms bs x y z one other = record {
  folder = other.folder ∙ one.folder;
  root = other.root ∙ one.root;
  same = λ n e.
      let none = both_false (is_among n ms) (is_among n bs) (sym (among_append n ms bs) ∙ e) in
      other.same n none.1 ∙ one.same n none.0;
}

-- the same is so with more names
renewed_more : (ms bs : List (List ℕ)) (x y : FolderSite) → IsRenewed ms x y → IsRenewed (ms ++ bs) x y
renewed_more ms bs x y one = record {
  folder = one.folder;
  root = one.root;
  same = λ n e. one.same n (both_false (is_among n ms) (is_among n bs) (sym (among_append n ms bs) ∙ e)).0;
}

pub around_same : (s : Sites) → AreAround [] s s
around_same s = record { as_many = refl; each = λ k d within. renewed_same (get_or s.all.items k d) }

pub around_on : (ms bs : List (List ℕ)) (s t u : Sites) → AreAround ms s t → AreAround bs t u → AreAround (ms ++ bs) s u
around_on ms bs s t u one other = record {
  as_many = other.as_many ∙ one.as_many;
  each = λ k d within.
      renewed_on ms bs (get_or s.all.items k d) (get_or t.all.items k d) (get_or u.all.items k d) (one.each k d within)
      (other.each k d (subst (λ m. k < m) (sym one.as_many) within));
}

-- .. of the same sites
pub around_kept : (s t : Sites) → t.all.items ≡ s.all.items → AreAround [] s t
around_kept s t same = record {
  as_many = ap length same;
  each = λ k d within. subst (λ xs. IsRenewed [] (get_or s.all.items k d) (get_or xs k d)) (sym same) (renewed_same (get_or s.all.items k d));
}

-- one of the sites is another
pub around_at : (ms bs : List (List ℕ)) (s t u : Sites) (k : ℕ) (y : FolderSite) → k < length t.all.items → u.all.items ≡ set t.all.items k y →
    AreAround ms s t → ((d : FolderSite) → IsRenewed bs (get_or t.all.items k d) y) → AreAround (ms ++ bs) s u
around_at ms bs s t u k y within is one here = record {
  as_many = ap length is ∙ length-set t.all.items k y ∙ one.as_many;
  each = λ m d below. subst (λ xs. IsRenewed (ms ++ bs) (get_or s.all.items m d) (get_or xs m d)) (sym is) (by m d below (cases_eq m k));
}
  where
    by : (m : ℕ) (d : FolderSite) → m < length s.all.items → (m ≡ k) ⊎ (m ≢ k) → IsRenewed (ms ++ bs) (get_or s.all.items m d) (get_or (set t.all.items k y) m d)
    by m d below (inl e) =
        let old = get_or s.all.items m d in
        subst (λ z. IsRenewed (ms ++ bs) old z) (sym (ap (λ i. get_or (set t.all.items k y) i d) e ∙ get_or-set_same t.all.items k y d within))
        (renewed_on ms bs old (get_or t.all.items m d) y (one.each m d below) (subst (λ i. IsRenewed bs (get_or t.all.items i d) y) (sym e) (here d)))
    by m d below (inr e) =
        let old = get_or s.all.items m d in
        subst (λ z. IsRenewed (ms ++ bs) old z) (sym (get_or-set_other t.all.items k m y d e)) (renewed_more ms bs old (get_or t.all.items m d) (one.each m d below))

-- ---- what is known of names stays

pub known_same : (m : Presences) → AreStillKnown m m
known_same m n = inl refl

known_twice : (a b c : Option Presence) → StaysKnown a b → StaysKnown b c → StaysKnown a c
known_twice a b c (inl e) (inl f) = inl (f ∙ e)
known_twice a b c (inl e) (inr f) = inr (sym e ∙ f.0, f.1)
known_twice a b c (inr e) (inl f) = inr (e.0, f ∙ e.1)
known_twice a b c (inr e) (inr f) = inr (e.0, f.1)

pub known_on : (m n p : Presences) → AreStillKnown m n → AreStillKnown n p → AreStillKnown m p
known_on m n p one other q = known_twice (get_by_text m q) (get_by_text n q) (get_by_text p q) (one q) (other q)

pub keeps_same : (s : Sites) → KeepsKnown s s
keeps_same s k d within = known_same (get_or s.all.items k d).presences

keeps_on : (s t u : Sites) → length t.all.items ≡ length s.all.items → KeepsKnown s t → KeepsKnown t u → KeepsKnown s u
keeps_on s t u as_many one other k d within =
    known_on (get_or s.all.items k d).presences (get_or t.all.items k d).presences (get_or u.all.items k d).presences (one k d within)
    (other k d (subst (λ m. k < m) (sym as_many) within))

-- .. of the same sites
keeps_kept : (s t : Sites) → t.all.items ≡ s.all.items → KeepsKnown s t
keeps_kept s t same k d within =
    subst (λ xs. AreStillKnown (get_or s.all.items k d).presences (get_or xs k d).presences) (sym same) (known_same (get_or s.all.items k d).presences)

-- one of the sites is another
pub keeps_at : (s t u : Sites) (k : ℕ) (y : FolderSite) → k < length t.all.items → u.all.items ≡ set t.all.items k y → KeepsKnown s t
    → ((d : FolderSite) → AreStillKnown (get_or t.all.items k d).presences y.presences) → KeepsKnown s u
keeps_at s t u k y within is one here m d below =
    subst (λ xs. AreStillKnown (get_or s.all.items m d).presences (get_or xs m d).presences) (sym is) (by (cases_eq m k))
  where
    old : Presences
    old = (get_or s.all.items m d).presences

    by : (m ≡ k) ⊎ (m ≢ k) → AreStillKnown old (get_or (set t.all.items k y) m d).presences
    by (inl e) =
        subst (λ (z : FolderSite). AreStillKnown old z.presences) (sym (ap (λ i. get_or (set t.all.items k y) i d) e ∙ get_or-set_same t.all.items k y d within))
        (known_on old (get_or t.all.items m d).presences y.presences (one m d below)
        (subst (λ i. AreStillKnown (get_or t.all.items i d).presences y.presences) (sym e) (here d)))
    by (inr e) = subst (λ (z : FolderSite). AreStillKnown old z.presences) (sym (get_or-set_other t.all.items k m y d e)) (one m d below)

-- ---- names that are to be published

pub adds_none : (names : List (List ℕ)) (s t : Sites) → renewed_of t ≡ renewed_of s → AreAround [] s t → KeepsKnown s t → AddsRenewed names names s t
adds_none names s t same around known =
    record { more = []; added = ap (λ ns. names ++ ns) same ∙ sym (append-nil (names ++ renewed_of s)); around = around; known = known }

pub adds_on : (ms bs cs : List (List ℕ)) (s t u : Sites) → AddsRenewed ms bs s t → AddsRenewed bs cs t u → AddsRenewed ms cs s u
adds_on ms bs cs s t u one other = record {
  more = one.more ++ other.more;
  added = other.added ∙ ap (λ ns. ns ++ other.more) one.added ∙ append_assoc (ms ++ renewed_of s) one.more other.more;
  around = around_on one.more other.more s t u one.around other.around;
  known = keeps_on s t u one.around.as_many one.known other.known;
}

-- one site is another, and the names that were found by that are put after the others, or are still to be put there
pub adds_at : (ms bs cs ns : List (List ℕ)) (s t u : Sites) (k : ℕ) (y : FolderSite) → AddsRenewed ms bs s t → renewed_of t ≡ [] → k < length t.all.items →
    u.all.items ≡ set t.all.items k y → ((d : FolderSite) → IsRenewed ns (get_or t.all.items k d) y) → ((d : FolderSite) → y.presences ≡ (get_or t.all.items k d).presences)
    → cs ++ renewed_of u ≡ bs ++ ns → AddsRenewed ms cs s u
adds_at ms bs cs ns s t u k y one none within is here known put = record {
  more = one.more ++ ns;
  added =
      put
      ∙ ap (λ xs. xs ++ ns) (sym (append-nil bs) ∙ ap (λ xs. bs ++ xs) (sym none) ∙ one.added)
      ∙ append_assoc (ms ++ renewed_of s) one.more ns;
  around = around_at one.more ns s t u k y within is one.around here;
  known = keeps_at s t u k y within is one.known (λ d. subst (λ m. AreStillKnown (get_or t.all.items k d).presences m) (sym (known d)) (known_same (get_or t.all.items k d).presences));
}

-- none of the sites so far is of a folder, and the next one is not
pub none_next : (folder : List ℕ) (xs : List FolderSite) (k : ℕ) (x : FolderSite) → k < length xs → x ≡ get_or xs k x → has_folder folder x ≡ false → NoneBefore folder xs k → NoneBefore folder xs (k + 1)
none_next folder xs k x within is differs before m d below = elim (cases_lt m k) [
  | inl lt ↦ before m d lt
  | inr ge ↦ let e : m ≡ k = omega (arith, ge, below) in
      subst (λ y. has_folder folder y ≡ false) (get_or_read xs k x within is d ∙ ap (λ i. get_or xs i d) (sym e)) differs
]

-- .. or is
pub first_of : (folder : List ℕ) (xs : List FolderSite) (k : ℕ) (x : FolderSite) → k < length xs → x ≡ get_or xs k x → has_folder folder x ≡ true → NoneBefore folder xs k → IsNumbered folder xs k
first_of folder xs k x within is same before =
    record { within = within; is = λ d. subst (λ y. has_folder folder y ≡ true) (get_or_read xs k x within is d) same; first = before }

-- ---- the site of a folder

abbrev pub site_found : List ℕ → List FolderSite → Option KeptSiteVal
site_found folder xs = option_map (λ x. x.site) (find (has_folder folder) xs)

-- .. and what is known of names there
abbrev pub sited_found : List ℕ → List FolderSite → Option SitedVal
sited_found folder xs = option_map sited (find (has_folder folder) xs)

same_folder : (x : FolderSite) (folder f : List ℕ) → has_folder folder x ≡ true → has_folder f x ≡ bytes_eq folder f
same_folder x folder f e = ap (λ n. bytes_eq n f) ((bytes_eq-Decides (string_bytes x.folder) folder).0 e)

-- of two folders that differ
differ : (x : FolderSite) (folder f : List ℕ) → has_folder folder x ≡ false → has_folder f x ≡ true → bytes_eq folder f ≡ false
differ x folder f one other = by (bytes_eq folder f) refl
  where
    is : string_bytes x.folder ≡ f
    is = (bytes_eq-Decides (string_bytes x.folder) f).0 other

    by : (b : Bool) → bytes_eq folder f ≡ b → b ≡ false
    by true e = absurd (false≢true (sym one ∙ (bytes_eq-Decides (string_bytes x.folder) folder).1 (is ∙ sym ((bytes_eq-Decides folder f).0 e))))
    by false e = refl

found_by : (f : List ℕ) (x : FolderSite) (rest : Option FolderSite) (b : Bool) → has_folder f x ≡ b →
    option_map sited (cond (has_folder f x) (Some x) rest) ≡ cond b (Some (sited x)) (option_map sited rest)
found_by f x rest true e = ap (λ b. option_map sited (cond b (Some x) rest)) e
found_by f x rest false e = ap (λ b. option_map sited (cond b (Some x) rest)) e

-- the first of a folder is another
pub set_found : (f folder : List ℕ) (xs : List FolderSite) (k : ℕ) (y : FolderSite) → IsNumbered folder xs k → string_bytes y.folder ≡ folder →
    sited_found f (set xs k y) ≡ cond (bytes_eq folder f) (Some (sited y)) (sited_found f xs)
set_found f folder [] k y h e = absurd (omega (arith, h.within))
set_found f folder (x ∷ xs) zero y h e =
    found_by f y (find (has_folder f) xs) (bytes_eq folder f) (ap (λ n. bytes_eq n f) e)
    ∙ by (bytes_eq folder f) (same_folder x folder f (h.is x))
  where
    by : (b : Bool) → has_folder f x ≡ b → cond b (Some (sited y)) (sited_found f xs) ≡ cond b (Some (sited y)) (sited_found f (x ∷ xs))
    by true is = refl
    by false is = sym (found_by f x (find (has_folder f) xs) false is)
set_found f folder (x ∷ xs) (suc k) y h e = by (has_folder f x) refl (set_found f folder xs k y rest e)
  where
    rest : IsNumbered folder xs k
    rest = record { within = omega (arith, h.within); is = λ d. h.is d; first = λ m d below. h.first (suc m) d (omega (arith, below)) }

    by : (b : Bool) → has_folder f x ≡ b → sited_found f (set xs k y) ≡ cond (bytes_eq folder f) (Some (sited y)) (sited_found f xs)
        → sited_found f (x ∷ set xs k y) ≡ cond (bytes_eq folder f) (Some (sited y)) (sited_found f (x ∷ xs))
    by true is others =
        found_by f x (find (has_folder f) (set xs k y)) true is
        ∙ sym (ap (λ c. cond c (Some (sited y)) (sited_found f (x ∷ xs))) (differ x folder f (h.first zero x (omega arith)) is) ∙ found_by f x (find (has_folder f) xs) true is)
    by false is others =
        found_by f x (find (has_folder f) (set xs k y)) false is
        ∙ others
        ∙ ap (cond (bytes_eq folder f) (Some (sited y))) (sym (found_by f x (find (has_folder f) xs) false is))

-- one more, of a folder that none of them is of
pub push_found : (f folder : List ℕ) (xs : List FolderSite) (y : FolderSite) → NoneBefore folder xs (length xs) → string_bytes y.folder ≡ folder →
    sited_found f (xs ++ y ∷ []) ≡ cond (bytes_eq folder f) (Some (sited y)) (sited_found f xs)
push_found f folder [] y none e = found_by f y None (bytes_eq folder f) (ap (λ n. bytes_eq n f) e)
push_found f folder (x ∷ xs) y none e = by (has_folder f x) refl (push_found f folder xs y (λ m d below. none (suc m) d (omega (arith, below))) e)
  where
    by : (b : Bool) → has_folder f x ≡ b → sited_found f (xs ++ y ∷ []) ≡ cond (bytes_eq folder f) (Some (sited y)) (sited_found f xs)
        → sited_found f (x ∷ (xs ++ y ∷ [])) ≡ cond (bytes_eq folder f) (Some (sited y)) (sited_found f (x ∷ xs))
    by true is others =
        found_by f x (find (has_folder f) (xs ++ y ∷ [])) true is
        ∙ sym (ap (λ c. cond c (Some (sited y)) (sited_found f (x ∷ xs))) (differ x folder f (none zero x (omega arith)) is) ∙ found_by f x (find (has_folder f) xs) true is)
    by false is others =
        found_by f x (find (has_folder f) (xs ++ y ∷ [])) false is
        ∙ others
        ∙ ap (cond (bytes_eq folder f) (Some (sited y))) (sym (found_by f x (find (has_folder f) xs) false is))

-- those of a folder are gone
abbrev pub is_other_than : List ℕ → FolderSite → Bool
is_other_than folder x = not (has_folder folder x)

pub gone_found : (f folder : List ℕ) (xs : List FolderSite) → sited_found f (filter (is_other_than folder) xs) ≡ cond (bytes_eq folder f) None (sited_found f xs)
gone_found f folder [] = by (bytes_eq folder f)
  where
    by : (b : Bool) → ◌≡◌ {A = Option SitedVal} None (cond b None None)
    by true = refl
    by false = refl
gone_found f folder (x ∷ xs) = by (has_folder folder x) refl (has_folder f x) refl (gone_found f folder xs)
  where
    rest : Bool → List FolderSite
    rest b = cond (not b) (x ∷ filter (is_other_than folder) xs) (filter (is_other_than folder) xs)

    by : (b : Bool) → has_folder folder x ≡ b → (c : Bool) → has_folder f x ≡ c → sited_found f (filter (is_other_than folder) xs) ≡ cond (bytes_eq folder f) None (sited_found f xs)
        → sited_found f (rest (has_folder folder x)) ≡ cond (bytes_eq folder f) None (sited_found f (x ∷ xs))
    by true is true then_is others =
        ap (λ b. sited_found f (rest b)) is ∙ others
        ∙ ap (λ b. cond b None (sited_found f xs)) (sym (same_folder x folder f is) ∙ then_is)
        ∙ sym (ap (λ b. cond b None (sited_found f (x ∷ xs))) (sym (same_folder x folder f is) ∙ then_is))
    by true is false then_is others =
        ap (λ b. sited_found f (rest b)) is ∙ others
        ∙ ap (cond (bytes_eq folder f) None) (sym (found_by f x (find (has_folder f) xs) false then_is))
    by false is true then_is others =
        ap (λ b. sited_found f (rest b)) is
        ∙ found_by f x (find (has_folder f) (filter (is_other_than folder) xs)) true then_is
        ∙ sym (ap (λ b. cond b None (sited_found f (x ∷ xs))) (differ x folder f is then_is) ∙ found_by f x (find (has_folder f) xs) true then_is)
    by false is false then_is others =
        ap (λ b. sited_found f (rest b)) is
        ∙ found_by f x (find (has_folder f) (filter (is_other_than folder) xs)) false then_is
        ∙ others
        ∙ ap (cond (bytes_eq folder f) None) (sym (found_by f x (find (has_folder f) xs) false then_is))

-- a new one
pub sited_new : (x : FolderSite) (root : List ℕ) → x.site ≡ no_site root [] → x.presences.entries ≡ [] → sited x ≡ with_nothing_known (no_site root [])
sited_new x root site none = ap (λ s. record { site = s; known = x.presences.entries }) site ∙ ap (λ es. record { site = no_site root []; known = es }) none

-- ---- what is so of each site

abbrev pub EachBelow : (FolderSite → Type 0) → ℕ → List FolderSite → Type 0
EachBelow P end xs = (k : ℕ) (d : FolderSite) → k < end → P (get_or xs k d)

pub none_below : (P : FolderSite → Type 0) (xs : List FolderSite) → EachBelow P 0 xs
none_below P xs k d below = absurd (omega (arith, below))

set_here : (P : FolderSite → Type 0) (xs : List FolderSite) (k m : ℕ) (y d : FolderSite) → k < length xs → m ≡ k → P y → P (get_or (set xs k y) m d)
set_here P xs k m y d within e here = subst P (sym (ap (λ i. get_or (set xs k y) i d) e ∙ get_or-set_same xs k y d within)) here

-- one more, which is another
pub set_below : (P : FolderSite → Type 0) (xs : List FolderSite) (k : ℕ) (y : FolderSite) → k < length xs → EachBelow P k xs → P y → EachBelow P (k + 1) (set xs k y)
set_below P xs k y within before here m d below = elim (cases_lt m k) [
  | inl lt ↦ subst P (sym (get_or-set_other xs k m y d (λ e. absurd (omega (arith, lt, e))))) (before m d lt)
  | inr ge ↦ set_here P xs k m y d within (omega (arith, ge, below)) here
]

-- one of all is another
pub set_all : (P : FolderSite → Type 0) (xs : List FolderSite) (k : ℕ) (y : FolderSite) → k < length xs → EachBelow P (length xs) xs → P y → EachBelow P (length (set xs k y)) (set xs k y)
set_all P xs k y within before here m d below = elim (cases_eq m k) [
  | inl e ↦ set_here P xs k m y d within e here
  | inr ne ↦ subst P (sym (get_or-set_other xs k m y d ne)) (before m d (subst (λ n. m < n) (length-set xs k y) below))
]

pub each_to_all : (P : FolderSite → Type 0) (xs : List FolderSite) → EachBelow P (length xs) xs → AllByRecursion P xs
each_to_all P [] h = tt
each_to_all P (x ∷ xs) h = (h zero x (omega arith), each_to_all P xs (λ k d below. h (suc k) d (omega (arith, below))))

pub all_to_each : (P : FolderSite → Type 0) (xs : List FolderSite) → AllByRecursion P xs → EachBelow P (length xs) xs
all_to_each P [] h k d below = absurd (omega (arith, below))
all_to_each P (x ∷ xs) h zero d below = h.0
all_to_each P (x ∷ xs) h (suc k) d below = all_to_each P xs h.1 k d (omega (arith, below))

-- some of them are gone
filtered : (P : FolderSite → Type 0) (p : FolderSite → Bool) (xs : List FolderSite) → AllByRecursion P xs → AllByRecursion P (filter p xs)
filtered P p [] h = tt
filtered P p (x ∷ xs) h = by (p x) (filtered P p xs h.1)
  where
    by : (b : Bool) → AllByRecursion P (filter p xs) → AllByRecursion P (cond b (x ∷ filter p xs) (filter p xs))
    by true others = (h.0, others)
    by false others = others

pub filter_all : (P : FolderSite → Type 0) (p : FolderSite → Bool) (xs : List FolderSite) → EachBelow P (length xs) xs → EachBelow P (length (filter p xs)) (filter p xs)
filter_all P p xs h = all_to_each P (filter p xs) (filtered P p xs (each_to_all P xs h))

-- .. or there is one more
pushed : (P : FolderSite → Type 0) (xs : List FolderSite) (y : FolderSite) → AllByRecursion P xs → P y → AllByRecursion P (xs ++ y ∷ [])
pushed P [] y h here = (here, tt)
pushed P (x ∷ xs) y h here = (h.0, pushed P xs y h.1 here)

pub push_all : (P : FolderSite → Type 0) (xs : List FolderSite) (y : FolderSite) → EachBelow P (length xs) xs → P y → EachBelow P (length (xs ++ y ∷ [])) (xs ++ y ∷ [])
push_all P xs y h here = all_to_each P (xs ++ y ∷ []) (pushed P xs y (each_to_all P xs h) here)

-- ---- sites that are found again one by one

pub record RenewedSoFar (end : ℕ) (w : Workspace) (ms bs : List (List ℕ)) (s t : Sites) : Type 0 where
  pub adds : AddsRenewed ms bs s t
  pub renewed : renewed_of t ≡ []
  pub given : AreGiven s → AreGiven t
  pub others : AreGiven s → EachBelow HasOthers end t.all.items
  pub fits : IsKept w → AreRead w → AreFittingBelow end w t.all.items

-- the next one was found again
pub record IsNext (k : ℕ) (w : Workspace) (ns : List (List ℕ)) (xs : List FolderSite) (y : FolderSite) : Type 0 where
  pub within : k < length xs
  pub renewed : (d : FolderSite) → IsRenewed ns (get_or xs k d) y
  pub known : (d : FolderSite) → y.presences ≡ (get_or xs k d).presences
  pub given : ((d : FolderSite) → IsGiven (get_or xs k d)) → IsGiven y
  pub others : ((d : FolderSite) → IsGiven (get_or xs k d)) → HasOthers y
  pub fits : IsKept w → AreRead w → FitsWorkspace y.site w

pub so_far_next : (k : ℕ) (w : Workspace) (ms bs cs ns : List (List ℕ)) (s t u : Sites) (y : FolderSite) → RenewedSoFar k w ms bs s t → IsNext k w ns t.all.items y
    → u.all.items ≡ set t.all.items k y → cs ++ renewed_of u ≡ bs ++ ns → renewed_of u ≡ [] → RenewedSoFar (k + 1) w ms cs s u
so_far_next k w ms bs cs ns s t u y h n is put none = record {
  adds = adds_at ms bs cs ns s t u k y h.adds h.renewed n.within is n.renewed n.known put;
  renewed = none;
  given = λ g. subst (λ xs. EachBelow IsGiven (length xs) xs) (sym is) (set_all IsGiven t.all.items k y n.within (h.given g) (n.given (λ d. h.given g k d n.within)));
  others = λ g. subst (EachBelow HasOthers (k + 1)) (sym is) (set_below HasOthers t.all.items k y n.within (h.others g) (n.others (λ d. h.given g k d n.within)));
  fits = λ kept read.
      subst (λ xs. AreFittingBelow (k + 1) w xs) (sym is) (set_below (λ x. FitsWorkspace x.site w) t.all.items k y n.within (h.fits kept read) (n.fits kept read));
}

-- ---- steps of single sites

-- .. of which it is assumed that names are there
pub record AssumedSoFar (end : ℕ) (some : Bool) (s t : Sites) : Type 0 where
  pub around : AreAround [] s t
  pub known : KeepsKnown s t
  pub given : AreGiven s → AreGiven t
  pub renewed : t.renewed ≡ s.renewed
  pub same : some ≡ false → t.all.items ≡ s.all.items
  pub said : some ≡ false → EachBelow IsSaid end t.all.items

-- .. in which it was set for a name whether there may be a file
pub record SaidSoFar (end : ℕ) (u : UsedVal) (there : Bool) (s t : Sites) : Type 0 where
  pub around : AreAround [] s t
  pub given : AreGiven s → AreGiven t
  pub renewed : t.renewed ≡ s.renewed
  pub done : (k : ℕ) (d : FolderSite) → k < end → IsPresenceIf (is_below u (get_or s.all.items k d)) u there (get_or s.all.items k d) (get_or t.all.items k d)
  pub rest : (k : ℕ) (d : FolderSite) → end ≤ k → get_or t.all.items k d ≡ get_or s.all.items k d

-- .. of which each name is asked again
pub record AskedSoFar (end : ℕ) (s t : Sites) : Type 0 where
  pub around : AreAround [] s t
  pub given : AreGiven s → AreGiven t
  pub renewed : t.renewed ≡ s.renewed
  pub done : (k : ℕ) (d : FolderSite) (n : List ℕ) → k < end → presence_in (get_or t.all.items k d) n ≡ asked_again_in (get_or s.all.items k d) n
  pub rest : (k : ℕ) (d : FolderSite) → end ≤ k → get_or t.all.items k d ≡ get_or s.all.items k d

-- .. of the names of one site so far none was assumed, unless some was
pub record IsAssumedSoFar (ns : List (List ℕ)) (some : Bool) (m n : Presences) (was now : Bool) : Type 0 where
  pub none : some ≡ false → (n ≡ m) × (now ≡ was)
  pub known : AreStillKnown m n
  pub said : some ≡ false → AreAbsent ns n
  pub news : some ≡ true → now ≡ true

-- ---- names of documents that move from one list to another

abbrev pub NameList : Type 0
NameList = Vec (String Global) Global

-- all of them, to the end of those that are to be published
pub put_behind : (names more now none : NameList) → now.items ≡ names.items ++ more.items → none.items ≡ []
    → map string_bytes now.items ++ map string_bytes none.items ≡ map string_bytes names.items ++ map string_bytes more.items
put_behind names more now none is gone =
    ap (λ xs. map string_bytes now.items ++ map string_bytes xs) gone
    ∙ append-nil (map string_bytes now.items)
    ∙ ap (map string_bytes) is
    ∙ map-append string_bytes names.items more.items

-- .. or none, as an allocation failed
pub put_not : (names more now none : NameList) → now.items ≡ names.items → none.items ≡ more.items
    → map string_bytes now.items ++ map string_bytes none.items ≡ map string_bytes names.items ++ map string_bytes more.items
put_not names more now none is same = ap (λ xs. map string_bytes xs ++ map string_bytes none.items) is ∙ ap (λ xs. map string_bytes names.items ++ map string_bytes xs) same

-- the same sites, when such names moved
pub adds_moved : (ms cs : List (List ℕ)) (s u : Sites) → u.all.items ≡ s.all.items → cs ++ renewed_of u ≡ ms ++ renewed_of s → AddsRenewed ms cs s u
adds_moved ms cs s u same put = record { more = []; added = put ∙ sym (append-nil (ms ++ renewed_of s)); around = around_kept s u same; known = keeps_kept s u same }

-- before the first site is found again
pub so_far_begun : (w : Workspace) (ms cs : List (List ℕ)) (s u : Sites) → u.all.items ≡ s.all.items → cs ++ renewed_of u ≡ ms ++ renewed_of s → renewed_of u ≡ [] → RenewedSoFar 0 w ms cs s u
so_far_begun w ms cs s u same put none = record {
  adds = adds_moved ms cs s u same put;
  renewed = none;
  given = λ g. subst (λ xs. EachBelow IsGiven (length xs) xs) (sym same) g;
  others = λ g. none_below HasOthers u.all.items;
  fits = λ kept read. none_below (λ x. FitsWorkspace x.site w) u.all.items;
}

-- one was found again
pub next_of : (k : ℕ) (w : Workspace) (ns : List (List ℕ)) (xs : List FolderSite) (x y : FolderSite) → k < length xs → x ≡ get_or xs k x
    → y ≡ record x { site = y.site; has_news = y.has_news } → y.site.root ≡ x.site.root
    → ((n : List ℕ) → is_among n ns ≡ false → around_named n y.site.documents ≡ around_named n x.site.documents)
    → (IsGiven x → IsGiven y) → (IsGiven x → HasOthers y) → (IsKept w → AreRead w → FitsWorkspace y.site w) → IsNext k w ns xs y
next_of k w ns xs x y within is same root around given others fits = record {
  within = within;
  renewed = λ d. subst (λ z. IsRenewed ns z y) (get_or_read xs k x within is d) (record { folder = ap (λ (z : FolderSite). z.folder) same; root = root; same = around });
  known = λ d. ap (λ (z : FolderSite). z.presences) same ∙ ap (λ (z : FolderSite). z.presences) (get_or_read xs k x within is d);
  given = λ g. given (subst IsGiven (sym is) (g x));
  others = λ g. others (subst IsGiven (sym is) (g x));
  fits = fits;
}

-- .. or an allocation failed for it
pub adds_not : (k : ℕ) (w : Workspace) (ms bs cs ns : List (List ℕ)) (s t u : Sites) (x y : FolderSite) → RenewedSoFar k w ms bs s t → k < length t.all.items → x ≡ get_or t.all.items k x
    → y ≡ record x { site = y.site; has_news = y.has_news } → y.site.root ≡ x.site.root
    → ((n : List ℕ) → is_among n ns ≡ false → around_named n y.site.documents ≡ around_named n x.site.documents)
    → u.all.items ≡ set t.all.items k y → cs ++ renewed_of u ≡ bs ++ ns → AddsRenewed ms cs s u
adds_not k w ms bs cs ns s t u x y h within is same root around then_is put =
    adds_at ms bs cs ns s t u k y h.adds h.renewed within then_is
    (λ d. subst (λ z. IsRenewed ns z y) (get_or_read t.all.items k x within is d) (record { folder = ap (λ (z : FolderSite). z.folder) same; root = root; same = around }))
    (λ d. ap (λ (z : FolderSite). z.presences) same ∙ ap (λ (z : FolderSite). z.presences) (get_or_read t.all.items k x within is d)) put

-- one of them is another, which was given its others if that was so of it before
pub given_at : (s t u : Sites) (k : ℕ) (x y : FolderSite) → (AreGiven s → AreGiven t) → k < length t.all.items → x ≡ get_or t.all.items k x → u.all.items ≡ set t.all.items k y
    → (IsGiven x → IsGiven y) → AreGiven s → AreGiven u
given_at s t u k x y before within is then_is given g =
    subst (λ xs. EachBelow IsGiven (length xs) xs) (sym then_is) (set_all IsGiven t.all.items k y within (before g) (given (subst IsGiven (sym is) (before g k x within))))

-- ---- names of which it is assumed that there are files

false_true : {A : Type 0} → false ≡ true → A
false_true e = absurd (false≢true e)

pub assumed_none : (m : Presences) (was : Bool) → IsAssumedSoFar [] false m m was was
assumed_none m was = record { none = λ e. (refl, refl); known = known_same m; said = λ e n h. false_true h; news = λ e. false_true e }

-- one was
pub assumed_some : (ns bs : List (List ℕ)) (some some_now was news now : Bool) (m n p : Presences) → some_now ≡ true → now ≡ true → AreStillKnown n p
    → IsAssumedSoFar ns some m n was news → IsAssumedSoFar bs some_now m p was now
assumed_some ns bs some some_now was news now m n p is then_is stays h = record {
  none = λ e. false_true (sym e ∙ is);
  known = known_on m n p h.known stays;
  said = λ e. false_true (sym e ∙ is);
  news = λ e. then_is;
}

-- .. or one more is known to have no file
pub assumed_said : (ns : List (List ℕ)) (name : List ℕ) (some was now : Bool) (m n : Presences) → is_absent_in n name ≡ true → IsAssumedSoFar ns some m n was now → IsAssumedSoFar (ns ++ name ∷ []) some m n was now
assumed_said ns name some was now m n absent h = record {
  none = h.none;
  known = h.known;
  said = λ e q among. elim (among_either q ns (name ∷ []) among) [
    | inl before ↦ h.said e q before
    | inr here ↦ subst (λ k. is_absent_in n k ≡ true) ((bytes_eq-Decides name q).0 (is_head q name here)) absent
  ];
  news = h.news;
}

-- .. where these are the same as before
pub assumed_same : (ns : List (List ℕ)) (some some_now was now now_then : Bool) (m n n_then : Presences) → some_now ≡ some → now_then ≡ now → n_then ≡ n → IsAssumedSoFar ns some m n was now → IsAssumedSoFar ns some_now m n_then was now_then
assumed_same ns some some_now was now now_then m n n_then e f g h =
    subst (λ b. IsAssumedSoFar ns b m n_then was now_then) (sym e)
    (subst (λ b. IsAssumedSoFar ns some m n_then was b) (sym f) (subst (λ p. IsAssumedSoFar ns some m p was now) (sym g) h))

pub assumed_news : (ns : List (List ℕ)) (some was now : Bool) (m n : Presences) → IsAssumedSoFar ns some m n was now → (now ≡ true) ⊎ ((n ≡ m) × (now ≡ was))
assumed_news ns true was now m n h = inl (h.news refl)
assumed_news ns false was now m n h = inr (h.none refl)

-- a site of which they are what they were
same_site : (x : FolderSite) (p : Presences) (news : Bool) → (p ≡ x.presences) × (news ≡ x.has_news) → record x { presences = p; has_news = news } ≡ x
same_site x p news (e, f) = ap (λ m. record x { presences = m; has_news = news }) e ∙ ap (λ b. record x { presences = x.presences; has_news = b }) f

pub none_assumed : {E : Type 0} (r : Result Bool E) (x : FolderSite) (p : Presences) (news : Bool) → IfOk r (λ some. some ≡ false → (p ≡ x.presences) × (news ≡ x.has_news))
    → IfOk r (λ some. some ≡ false → record x { presences = p; has_news = news } ≡ x)
none_assumed (Ok b) x p news h = λ e. same_site x p news (h e)
none_assumed (Err e) x p news h = tt

pub assumed_given : (x : FolderSite) (p : Presences) (news : Bool) → (news ≡ true) ⊎ ((p ≡ x.presences) × (news ≡ x.has_news)) → IsGiven x → IsGiven (record x { presences = p; has_news = news })
assumed_given x p news (inl is) g = λ no. false_true (sym no ∙ is)
assumed_given x p news (inr same) g = subst IsGiven (sym (same_site x p news same)) g

-- one more site of which names were assumed
pub assumed_next : (k : ℕ) (some more now : Bool) (s t u : Sites) (x y : FolderSite) → AssumedSoFar k some s t → k < length t.all.items → x ≡ get_or t.all.items k x → u.all.items ≡ set t.all.items k y
    → u.renewed ≡ t.renewed → y ≡ record x { presences = y.presences; has_news = y.has_news } → AreStillKnown x.presences y.presences → (IsGiven x → IsGiven y) → (more ≡ false → y ≡ x) → (more ≡ false → IsSaid y)
    → now ≡ (if more then true else some) → AssumedSoFar (k + 1) now s u
assumed_next k some more now s t u x y h within is then_is renewed same known given none said now_is = record {
  around = around_at [] [] s t u k y within then_is h.around
      (λ d. subst (λ z. IsRenewed [] z y) (get_or_read t.all.items k x within is d)
      (record { folder = ap (λ (z : FolderSite). z.folder) same; root = ap (λ (z : FolderSite). z.site.root) same; same = λ n e. ap (λ (z : FolderSite). around_named n z.site.documents) same }));
  known = keeps_at s t u k y within then_is h.known (λ d. subst (λ (z : FolderSite). AreStillKnown z.presences y.presences) (get_or_read t.all.items k x within is d) known);
  given = given_at s t u k x y h.given within is then_is given;
  renewed = renewed ∙ h.renewed;
  same = λ e.
      let no = not_more more some (sym now_is ∙ e) in
      then_is ∙ ap (set t.all.items k) (none no.0 ∙ is) ∙ set-get_or t.all.items k x ∙ h.same no.1;
  said = λ e.
      let no = not_more more some (sym now_is ∙ e) in
      subst (EachBelow IsSaid (k + 1)) (sym then_is) (set_below IsSaid t.all.items k y within (h.said no.1) (said no.0));
}
  where
    not_more : (b c : Bool) → (if b then true else c) ≡ false → (b ≡ false) × (c ≡ false)
    not_more true c e = false_true (sym e)
    not_more false c e = (refl, e)

-- ---- one more site of which each name is asked again

-- the others stay
rest_stays : (xs ys : List FolderSite) (k : ℕ) (y : FolderSite) → ((m : ℕ) (d : FolderSite) → k ≤ m → get_or ys m d ≡ get_or xs m d)
    → (m : ℕ) (d : FolderSite) → k + 1 ≤ m → get_or (set ys k y) m d ≡ get_or xs m d
rest_stays xs ys k y before m d above = get_or-set_other ys k m y d (λ e. absurd (omega (arith, above, e))) ∙ before m d (omega (arith, above))

-- what is kept of its documents is what it was
pub stays_around : (x y : FolderSite) → y.folder ≡ x.folder → y.site ≡ x.site → IsRenewed [] x y
stays_around x y folder site = record { folder = folder; root = ap (λ (s : KeptSiteVal). s.root) site; same = λ n e. ap (λ (s : KeptSiteVal). around_named n s.documents) site }

pub asked_next : (k : ℕ) (s t u : Sites) (x y : FolderSite) → AskedSoFar k s t → k < length t.all.items → x ≡ get_or t.all.items k x → u.all.items ≡ set t.all.items k y
    → u.renewed ≡ t.renewed → y.folder ≡ x.folder → y.site ≡ x.site → (IsGiven x → IsGiven y) → ((n : List ℕ) → presence_in y n ≡ asked_again_in x n) → AskedSoFar (k + 1) s u
asked_next k s t u x y h within is then_is renewed folder site given asked = record {
  around = around_at [] [] s t u k y within then_is h.around (λ d. subst (λ z. IsRenewed [] z y) (get_or_read t.all.items k x within is d) (stays_around x y folder site));
  given = given_at s t u k x y h.given within is then_is given;
  renewed = renewed ∙ h.renewed;
  done = λ m d n below. elim (cases_lt m k) [
    | inl lt ↦
        ap (λ z. presence_in z n) (ap (λ zs. get_or zs m d) then_is ∙ get_or-set_other t.all.items k m y d (λ e. absurd (omega (arith, lt, e)))) ∙ h.done m d n lt
    | inr ge ↦
        let e : m ≡ k = omega (arith, ge, below) in
        let old : x ≡ get_or s.all.items m d = get_or_read t.all.items k x within is d ∙ h.rest k d (omega arith) ∙ ap (λ i. get_or s.all.items i d) (sym e) in
        ap (λ z. presence_in z n) (ap (λ zs. get_or zs m d) then_is ∙ ap (λ i. get_or (set t.all.items k y) i d) e ∙ get_or-set_same t.all.items k y d within)
        ∙ asked n ∙ ap (λ z. asked_again_in z n) old
  ];
  rest = λ m d above. ap (λ zs. get_or zs m d) then_is ∙ rest_stays s.all.items t.all.items k y h.rest m d above;
}

-- a site of whose files nothing is known was given no others
pub new_given : (x : FolderSite) (root : List ℕ) → x.site ≡ no_site root [] → x.presences.entries ≡ [] → IsGiven x
new_given x root site none news n = ap (λ (s : KeptSiteVal). is_one_of s.others n) site ∙ sym (ap (list_any (is_there_as n)) none)

-- ---- names of which there may be files

-- there may be one of a name if that is known of it
never : (b : Bool) → (b && false) ≡ false
never true = refl
never false = refl

abbrev pub is_key : (q : List ℕ) → String Global → Bool
is_key q k = is_at (λ j. slice_cmp nat_cmp q (string_bytes j)) k

none_there : (q : List ℕ) (k : String Global) (es : List (String Global × Presence)) → q ≡ string_bytes k → AllByRecursion (λ j. eq_by_cmp string_cmp k j ≡ false) (keys_of es) → list_any (is_there_as q) es ≡ false
none_there q k [] is apart = refl
none_there q k ((j, p) ∷ es) is apart =
    ap (λ b. (p.is_there && b) || list_any (is_there_as q) es) (by (bytes_eq (string_bytes j) q) refl)
    ∙ ap (λ b. b || list_any (is_there_as q) es) (never p.is_there) ∙ none_there q k es is apart.1
  where
    by : (b : Bool) → bytes_eq (string_bytes j) q ≡ b → b ≡ false
    by true e =
        absurd (false≢true (sym apart.0 ∙ is_eq-slice_cmp (string_bytes k) (string_bytes j)
        ∙ (bytes_eq-Decides (string_bytes k) (string_bytes j)).1 (sym ((bytes_eq-Decides (string_bytes j) q).0 e ∙ is))))
    by false e = refl

pub there_by : (q : List ℕ) (es : List (String Global × Presence)) → IsDistinct (eq_by_cmp string_cmp) (keys_of es) → list_any (is_there_as q) es ≡ is_there_in (lookup (is_key q) es)
there_by q [] distinct = refl
there_by q ((k, p) ∷ es) distinct =
    by (is_key q k) (is_eq-slice_cmp q (string_bytes k)) (there_by q es (IsDistinct-tail (eq_by_cmp string_cmp) k (keys_of es) distinct))
  where
    rest : Bool
    rest = list_any (is_there_as q) es

    none : q ≡ string_bytes k → rest ≡ false
    none is = none_there q k es is (IsDistinct-head (eq_by_cmp string_cmp) k (keys_of es) distinct)

    here : (b : Bool) → ((b && true) || false) ≡ b
    here true = refl
    here false = refl

    apart : (b : Bool) → bytes_eq (string_bytes k) q ≡ b → false ≡ bytes_eq q (string_bytes k) → b ≡ false
    apart true e other = absurd (false≢true (other ∙ (bytes_eq-Decides q (string_bytes k)).1 (sym ((bytes_eq-Decides (string_bytes k) q).0 e))))
    apart false e other = refl

    by : (b : Bool) → b ≡ bytes_eq q (string_bytes k) → rest ≡ is_there_in (lookup (is_key q) es)
        → ((p.is_there && bytes_eq (string_bytes k) q) || rest) ≡ is_there_in (cond b (Some p) (lookup (is_key q) es))
    by true is f =
        let same : q ≡ string_bytes k = (bytes_eq-Decides q (string_bytes k)).0 (sym is) in
        ap (λ b. (p.is_there && b) || rest) ((bytes_eq-Decides (string_bytes k) q).1 (sym same)) ∙ ap (λ b. (p.is_there && true) || b) (none same) ∙ here p.is_there
    by false is f =
        ap (λ b. (p.is_there && b) || rest) (apart (bytes_eq (string_bytes k) q) refl is) ∙ ap (λ b. b || rest) (never p.is_there) ∙ f

there_in : (m : Presences) → IsOrdered string_cmp m → (q : List ℕ) → list_any (is_there_as q) m.entries ≡ is_there_in (get_by_text m q)
there_in m ordered q = there_by q m.entries (IsDistinct-from_sorted string_cmp (keys_of m.entries) ordered)

-- ---- names that are asked again

-- first those of which there may be a file
abbrev pub asked_if_there : Presence → Presence
asked_if_there p = record p { is_due = p.is_there }

pub each_by : (m n : Presences) (f : Presence → Presence) → n.entries ≡ map (λ e. (e.0, f e.1)) m.entries → (q : List ℕ) → get_by_text n q ≡ option_map f (get_by_text m q)
each_by m n f e q = ap (λ es. lookup (is_key q) es) e ∙ lookup-map_values f (is_key q) m.entries

-- then those of some names, one by one
pub asked_of_nil : (o : Option Presence) → o ≡ option_map (asked_if false) o
asked_of_nil None = refl
asked_of_nil (Some p) = refl

pub asked_of_name : (name : List ℕ) (m n : Presences) (p : Presence) → get_by_text m name ≡ Some p → Updates name m n (Some (asked_again p))
    → (q : List ℕ) → get_by_text n q ≡ cond (bytes_eq name q) (option_map asked_again (get_by_text m q)) (get_by_text m q)
asked_of_name name m n p had h q = btree_map_updates_text name m n (Some (asked_again p)) h q ∙ by (bytes_eq name q) (bytes_eq-Decides name q).0
  where
    by : (b : Bool) → (b ≡ true → name ≡ q) → cond b (Some (asked_again p)) (get_by_text m q) ≡ cond b (option_map asked_again (get_by_text m q)) (get_by_text m q)
    by true is = ap (option_map asked_again) (sym had ∙ ap (get_by_text m) (is refl))
    by false is = refl

pub asked_of_next : (ns : List (List ℕ)) (name q : List ℕ) (o : Option Presence)
    → cond (bytes_eq name q) (option_map asked_again (option_map (asked_if (is_among q ns)) o)) (option_map (asked_if (is_among q ns)) o) ≡ option_map (asked_if (is_among q (ns ++ name ∷ []))) o
asked_of_next ns name q o = by (is_among q ns) (bytes_eq name q) o ∙ ap (λ b. option_map (asked_if b) o) (sym (among_append q ns (name ∷ [])))
  where
    by : (b c : Bool) (p : Option Presence) → cond c (option_map asked_again (option_map (asked_if b) p)) (option_map (asked_if b) p) ≡ option_map (asked_if (b || (if c then true else false))) p
    by b true None = refl
    by b false None = refl
    by true true (Some p) = refl
    by true false (Some p) = refl
    by false true (Some p) = refl
    by false false (Some p) = refl

-- the others are not kept
none_other : (q : List ℕ) (k : String Global) (es : List (String Global × Presence)) → q ≡ string_bytes k → AllByRecursion (λ j. eq_by_cmp string_cmp k j ≡ false) (keys_of es) → lookup (is_key q) es ≡ None
none_other q k [] is apart = refl
none_other q k ((j, p) ∷ es) is apart =
    ap (λ b. cond b (Some p) (lookup (is_key q) es)) (subst (λ n. is_at (λ i. slice_cmp nat_cmp n (string_bytes i)) j ≡ false) (sym is) apart.0) ∙ none_other q k es is apart.1

abbrev only_due : Option Presence → Option Presence
only_due None = None
only_due (Some p) = cond p.is_due (Some p) None

kept_due : (q : List ℕ) (es : List (String Global × Presence)) → IsDistinct (eq_by_cmp string_cmp) (keys_of es) → lookup (is_key q) (filter is_entry_due es) ≡ only_due (lookup (is_key q) es)
kept_due q [] distinct = refl
kept_due q ((k, p) ∷ es) distinct =
    by (is_key q k) p.is_due (is_eq-slice_cmp q (string_bytes k)) refl refl (kept_due q es (IsDistinct-tail (eq_by_cmp string_cmp) k (keys_of es) distinct))
  where
    kept : List (String Global × Presence)
    kept = filter is_entry_due es

    none : bytes_eq q (string_bytes k) ≡ true → lookup (is_key q) es ≡ None
    none same = none_other q k es ((bytes_eq-Decides q (string_bytes k)).0 same) (IsDistinct-head (eq_by_cmp string_cmp) k (keys_of es) distinct)

    by : (b due : Bool) → b ≡ bytes_eq q (string_bytes k) → is_key q k ≡ b → p.is_due ≡ due → lookup (is_key q) kept ≡ only_due (lookup (is_key q) es)
        → lookup (is_key q) (cond due ((k, p) ∷ kept) kept) ≡ only_due (cond b (Some p) (lookup (is_key q) es))
    by true true is here due h = ap (λ c. cond c (Some p) (lookup (is_key q) kept)) here ∙ ap (λ c. cond c (Some p) None) (sym due)
    by true false is here due h = h ∙ ap only_due (none (sym is)) ∙ ap (λ c. cond c (Some p) None) (sym due)
    by false true is here due h = ap (λ c. cond c (Some p) (lookup (is_key q) kept)) here ∙ h
    by false false is here due h = h

-- what is known of a name then
pub asked_at : (x : FolderSite) (m n o : Presences) → IsOrdered string_cmp n → ((q : List ℕ) → get_by_text m q ≡ option_map asked_if_there (presence_in x q))
    → ((q : List ℕ) → get_by_text n q ≡ option_map (asked_if (is_among q x.site.lacking)) (get_by_text m q)) → o.entries ≡ filter is_entry_due n.entries
    → (q : List ℕ) → get_by_text o q ≡ asked_again_in x q
asked_at x m n o ordered first then_is last q =
    ap (λ es. lookup (is_key q) es) last ∙ kept_due q n.entries (IsDistinct-from_sorted string_cmp (keys_of n.entries) ordered)
    ∙ ap only_due (then_is q ∙ ap (option_map (asked_if (is_among q x.site.lacking))) (first q))
    ∙ by (is_among q x.site.lacking) (presence_in x q)
  where
    by_there : (lacks there due : Bool) → only_due (Some (asked_if lacks (asked_if_there (record { is_there = there; is_due = due }))))
        ≡ cond (there || lacks) (Some (record { is_there = there; is_due = true })) None
    by_there true true due = refl
    by_there true false due = refl
    by_there false true due = refl
    by_there false false due = refl

    by : (lacks : Bool) (p : Option Presence) → only_due (option_map (asked_if lacks) (option_map asked_if_there p)) ≡ cond (is_there_in p || lacks) (option_map asked_again p) None
    by true None = refl
    by false None = refl
    by lacks (Some p) = by_there lacks p.is_there p.is_due

-- there may be files of the same names
pub asked_given : (x : FolderSite) (o : Presences) → IsOrdered string_cmp x.presences → IsOrdered string_cmp o → ((q : List ℕ) → get_by_text o q ≡ asked_again_in x q) → IsGiven x → IsGiven (record x { presences = o })
asked_given x o before after asked g news q =
    g news q ∙ there_in x.presences before q ∙ by (is_among q x.site.lacking) (presence_in x q) ∙ ap is_there_in (sym (asked q)) ∙ sym (there_in o after q)
  where
    by_there : (lacks there due : Bool) → there ≡ is_there_in (cond (there || lacks) (Some (record { is_there = there; is_due = true })) None)
    by_there true true due = refl
    by_there true false due = refl
    by_there false true due = refl
    by_there false false due = refl

    by : (lacks : Bool) (p : Option Presence) → is_there_in p ≡ is_there_in (cond (is_there_in p || lacks) (option_map asked_again p) None)
    by true None = refl
    by false None = refl
    by lacks (Some p) = by_there lacks p.is_there p.is_due

-- ---- names that are set

-- what is set for a name is not news if there might be a file as before
pub said_given : (name : List ℕ) (x y : FolderSite) (there : Bool) → IsOrdered string_cmp x.presences → IsOrdered string_cmp y.presences → y.site ≡ x.site
    → IsPresenceAt name (Some (record { is_there = there; is_due = false })) x y → (y.has_news ≡ false → (x.has_news ≡ false) × (is_there_in (presence_in x name) ≡ there)) → IsGiven x → IsGiven y
said_given name x y there before after site set no_news g news q =
    ap (λ (s : KeptSiteVal). is_one_of s.others q) site
    ∙ g (no_news news).0 q
    ∙ there_in x.presences before q
    ∙ by (bytes_eq name q) refl
    ∙ ap is_there_in (sym (set q))
    ∙ sym (there_in y.presences after q)
  where
    put : Option Presence
    put = Some (record { is_there = there; is_due = false })

    by : (b : Bool) → bytes_eq name q ≡ b → is_there_in (presence_in x q) ≡ is_there_in (cond (bytes_eq name q) put (presence_in x q))
    by true e =
        ap (λ k. is_there_in (presence_in x k)) (sym ((bytes_eq-Decides name q).0 e)) ∙ (no_news news).1
        ∙ ap (λ b. is_there_in (cond b put (presence_in x q))) (sym e)
    by false e = ap (λ b. is_there_in (cond b put (presence_in x q))) (sym e)

-- .. or if an allocation failed, so that nothing is known of it
pub unsaid_given : (x y : FolderSite) → y.presences.entries ≡ x.presences.entries → y.site ≡ x.site → (y.has_news ≡ false → x.has_news ≡ false) → IsGiven x → IsGiven y
unsaid_given x y same site no_news g news q =
    ap (λ (s : KeptSiteVal). is_one_of s.others q) site ∙ g (no_news news) q ∙ ap (list_any (is_there_as q)) (sym same)

-- what is put under a name
pub put_at : (name key : List ℕ) (m n : Presences) (p : Presence) → key ≡ name → Updates key m n (Some p) → (q : List ℕ) → get_by_text n q ≡ cond (bytes_eq name q) (Some p) (get_by_text m q)
put_at name key m n p same h q = btree_map_updates_text key m n (Some p) h q ∙ ap (λ k. cond (bytes_eq k q) (Some p) (get_by_text m q)) same

-- one more of the names that there may be
pub other_put : (q name key : List ℕ) (s t : BTreeSet (String Global)) → key ≡ name → UpdatesBy string_cmp (λ k. slice_cmp nat_cmp key (string_bytes k)) s t true → is_one_of (names_in t) q ≡ (bytes_eq name q || is_one_of (names_in s) q)
other_put q name key s t same h =
    sym (one_of t q) ∙ btree_set_updates_text key s t true h q ∙ ap (cond (bytes_eq key q) true) (one_of s q)
    ∙ ap (λ k. cond (bytes_eq k q) true (is_one_of (names_in s) q)) same ∙ either (bytes_eq name q) (is_one_of (names_in s) q)
  where
    either : (b c : Bool) → cond b true c ≡ (b || c)
    either true c = refl
    either false c = refl

pub others_next : (q : List ℕ) (name key : String Global) (p : Presence) (s t : BTreeSet (String Global)) (left rest : List (String Global × Presence)) (all : Bool) → string_bytes key ≡ string_bytes name → p.is_there ≡ true
    → left ≡ (name, p) ∷ rest → UpdatesBy string_cmp (λ k. slice_cmp nat_cmp (string_bytes key) (string_bytes k)) s t true
    → (is_one_of (names_in s) q || list_any (is_there_as q) left) ≡ all → (is_one_of (names_in t) q || list_any (is_there_as q) rest) ≡ all
others_next q name key p s t left rest all same there is h held =
    ap (λ b. b || more) (other_put q (string_bytes name) (string_bytes key) s t same h)
    ∙ moved (bytes_eq (string_bytes name) q) (is_one_of (names_in s) q) more
    ∙ ap (λ b. is_one_of (names_in s) q || ((b && bytes_eq (string_bytes name) q) || more)) (sym there)
    ∙ ap (λ es. is_one_of (names_in s) q || list_any (is_there_as q) es) (sym is)
    ∙ held
  where
    more : Bool
    more = list_any (is_there_as q) rest

    moved : (b c d : Bool) → ((b || c) || d) ≡ (c || (b || d))
    moved true true d = refl
    moved true false d = refl
    moved false c d = refl

-- ---- a name that is new

-- what is known of the others stays
pub put_other : (name key : List ℕ) (m n : Presences) (p : Presence) → key ≡ name → Updates key m n (Some p) → (q : List ℕ) → bytes_eq name q ≡ false → get_by_text n q ≡ get_by_text m q
put_other name key m n p same h q apart = put_at name key m n p same h q ∙ ap (λ b. cond b (Some p) (get_by_text m q)) apart

pub nothing_known : (p : Option Presence) → false ≡ is_some p → p ≡ None
nothing_known None e = refl
nothing_known (Some x) e = cc

-- .. and of the new one nothing was known
pub put_known : (name key : List ℕ) (m n : Presences) → key ≡ name → get_by_text m name ≡ None → Updates key m n (Some new_presence) → AreStillKnown m n
put_known name key m n same none h q = by (bytes_eq name q) (bytes_eq-Decides name q).0 (put_at name key m n new_presence same h q)
  where
    by : (b : Bool) → (b ≡ true → name ≡ q) → get_by_text n q ≡ cond b (Some new_presence) (get_by_text m q) → StaysKnown (get_by_text m q) (get_by_text n q)
    by true is e = inr (sym (ap (get_by_text m) (is refl)) ∙ none, e)
    by false is e = inl e

-- ---- names of a list, one by one

pub names_next : (xs : List (String Global)) (i : ℕ) (x : String Global) → i < length xs → x ≡ get_or xs i x → map string_bytes (take (i + 1) xs) ≡ map string_bytes (take i xs) ++ string_bytes x ∷ []
names_next xs i x within is =
    ap (map string_bytes) (take_more xs i x within)
    ∙ map-append string_bytes (take i xs) (get_or xs i x ∷ [])
    ∙ ap (λ y. map string_bytes (take i xs) ++ string_bytes y ∷ []) (sym is)
