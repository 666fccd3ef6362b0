-- Names whose files are to be looked for, as this is done one by one.
use Rattle.std.proofs.Common.{◌≡◌, ◌∙◌, ◌<◌, ◌++◌, ◌∷◌, [], ◌||◌, ◌&&◌, ℕ, zero, suc, List, Bool, true, false, cond, length, get_or, map, filter, flat_map, Some, String, string_bytes, refl, sym, ap, subst, arith}
use Rattle.std.specs.BTreeMap.{is_at}
use Rattle.std.specs.Cmp.Lexicographic.{slice_cmp}
use Rattle.std.specs.List.{list_any}
use Rattle.std.specs.Map.{lookup}
use Rattle.std.specs.Ordering.{nat_cmp}
use Rattle.std.specs.Str.{bytes_eq}
use Rattle.std.specs.declared.alloc.Global.{Global}
use Rattle.std.proofs.lemmas.Bool.{false≢true}
use Rattle.std.proofs.lemmas.Map.Text.{is_eq-slice_cmp}
use Rattle.std.proofs.lemmas.Slice.Eq.{bytes_eq-Decides}
use Rattle.tera_editor.specs.Sites.{AreAround, IsPresenceIf, IsPresenceOf, NoneDue, UsedVal, due_in, due_of_sites, is_below, is_due_in, is_entry_due, presence_in, used_of}
use Rattle.tera_editor.specs.declared.sites.FolderSite.{FolderSite}
use Rattle.tera_editor.specs.declared.sites.Presence.{Presence}
use Rattle.tera_editor.specs.declared.sites.Sites.{Sites}

-- this name below this root is among some
abbrev pub is_used : List ℕ → List ℕ → UsedVal → Bool
is_used root n u = bytes_eq root u.root && bytes_eq u.name n

-- each name for which the caller has to look is among these
abbrev pub AreDueAmong : List UsedVal → Sites → Type 0
AreDueAmong us s =
    (k : ℕ) (d : FolderSite) (n : List ℕ) → k < length s.all.items → is_due_in (presence_in (get_or s.all.items k d) n) ≡ true
    → list_any (is_used (get_or s.all.items k d).site.root n) us ≡ true

either_true : (a b : Bool) → b ≡ true → (a || b) ≡ true
either_true true b e = refl
either_true false b e = e

both_same : (a b : List ℕ) → a ≡ b → bytes_eq a b ≡ true
both_same a b e = (bytes_eq-Decides a b).1 e

-- ---- all of them at first

-- a name of a site
due_entry : (root n : List ℕ) (es : List (String Global × Presence)) → is_due_in (lookup (is_at (λ k. slice_cmp nat_cmp n (string_bytes k))) es) ≡ true
    → list_any (is_used root n) (map (used_of root) (filter is_entry_due es)) ≡ true
due_entry root n [] h = h
due_entry root n ((name, p) ∷ es) h = by (is_at (λ k. slice_cmp nat_cmp n (string_bytes k)) name) (is_eq-slice_cmp n (string_bytes name)) h (due_entry root n es)
  where
    rest : List (String Global × Presence)
    rest = filter is_entry_due es

    kept : Bool → List (String Global × Presence)
    kept b = cond b ((name, p) ∷ rest) rest

    in_rest : (b : Bool) → list_any (is_used root n) (map (used_of root) rest) ≡ true → list_any (is_used root n) (map (used_of root) (kept b)) ≡ true
    in_rest true e = either_true (is_used root n (used_of root (name, p))) (list_any (is_used root n) (map (used_of root) rest)) e
    in_rest false e = e

    here : (b : Bool) → b ≡ true → bytes_eq n (string_bytes name) ≡ true → list_any (is_used root n) (map (used_of root) (kept b)) ≡ true
    here true e same =
        ap (λ c. (c && bytes_eq (string_bytes name) n) || list_any (is_used root n) (map (used_of root) rest)) (both_same root root refl)
        ∙ ap (λ c. c || list_any (is_used root n) (map (used_of root) rest)) (both_same (string_bytes name) n (sym ((bytes_eq-Decides n (string_bytes name)).0 same)))
    here false e same = absurd (false≢true e)

    by : (b : Bool) → b ≡ bytes_eq n (string_bytes name) → is_due_in (cond b (Some p) (lookup (is_at (λ k. slice_cmp nat_cmp n (string_bytes k))) es)) ≡ true
        → (is_due_in (lookup (is_at (λ k. slice_cmp nat_cmp n (string_bytes k))) es) ≡ true → list_any (is_used root n) (map (used_of root) rest) ≡ true)
        → list_any (is_used root n) (map (used_of root) (kept p.is_due)) ≡ true
    by true is due others = here p.is_due due (sym is)
    by false is due others = in_rest p.is_due (others due)

any_left : (p : UsedVal → Bool) (us vs : List UsedVal) → list_any p us ≡ true → list_any p (us ++ vs) ≡ true
any_left p [] vs h = absurd (false≢true h)
any_left p (u ∷ us) vs h = by (p u) h (any_left p us vs)
  where
    by : (b : Bool) → (b || list_any p us) ≡ true → (list_any p us ≡ true → list_any p (us ++ vs) ≡ true) → (b || list_any p (us ++ vs)) ≡ true
    by true e f = refl
    by false e f = f e

any_right : (p : UsedVal → Bool) (us vs : List UsedVal) → list_any p vs ≡ true → list_any p (us ++ vs) ≡ true
any_right p [] vs h = h
any_right p (u ∷ us) vs h = either_true (p u) (list_any p (us ++ vs)) (any_right p us vs h)

-- .. and of all sites
due_site : (xs : List FolderSite) (k : ℕ) (d : FolderSite) (n : List ℕ) → k < length xs → is_due_in (presence_in (get_or xs k d) n) ≡ true
    → list_any (is_used (get_or xs k d).site.root n) (flat_map due_in xs) ≡ true
due_site [] k d n within h = absurd (omega (arith, within))
due_site (x ∷ xs) zero d n within h = any_left (is_used x.site.root n) (due_in x) (flat_map due_in xs) (due_entry x.site.root n x.presences.entries h)
due_site (x ∷ xs) (suc k) d n within h =
    any_right (is_used (get_or xs k d).site.root n) (due_in x) (flat_map due_in xs) (due_site xs k d n (omega (arith, within)) h)

pub due_at_first : (s : Sites) (us : List UsedVal) → us ≡ due_of_sites s → AreDueAmong us s
due_at_first s us is k d n within h =
    subst (λ vs. list_any (is_used (get_or s.all.items k d).site.root n) vs ≡ true) (sym is) (due_site s.all.items k d n within h)

-- ---- one less

pub due_next : (u : UsedVal) (us : List UsedVal) (there : Bool) (s t : Sites) → AreDueAmong (u ∷ us) s → AreAround [] s t → IsPresenceOf u there s t → AreDueAmong us t
due_next u us there s t before around said k d n within h =
    by (is_below u x) refl (said k d below) (before k d n below)
  where
    x : FolderSite
    x = get_or s.all.items k d

    y : FolderSite
    y = get_or t.all.items k d

    below : k < length s.all.items
    below = subst (λ m. k < m) around.as_many within

    root : y.site.root ≡ x.site.root
    root = (around.each k d below).root

    -- what is among both is among the others, if it is not this one
    left : (a : Bool) → is_used x.site.root n u ≡ a → a ≡ false → list_any (is_used x.site.root n) (u ∷ us) ≡ true → list_any (is_used y.site.root n) us ≡ true
    left true is none e = absurd (false≢true (sym none))
    left false is none e = subst (λ r. list_any (is_used r n) us ≡ true) (sym root) (sym (ap (λ b. b || list_any (is_used x.site.root n) us) is) ∙ e)

    other_name : (b : Bool) → bytes_eq u.name n ≡ b → is_due_in (cond b (Some (record { is_there = there; is_due = false })) (presence_in x n)) ≡ true
        → (is_due_in (presence_in x n) ≡ true → list_any (is_used x.site.root n) (u ∷ us) ≡ true) → list_any (is_used y.site.root n) us ≡ true
    other_name true is due f = absurd (false≢true due)
    other_name false is due f = left (is_used x.site.root n u) refl (ap (λ b. bytes_eq x.site.root u.root && b) is ∙ never (bytes_eq x.site.root u.root)) (f due)
      where
        never : (b : Bool) → (b && false) ≡ false
        never true = refl
        never false = refl

    by : (b : Bool) → is_below u x ≡ b → IsPresenceIf b u there x y → (is_due_in (presence_in x n) ≡ true → list_any (is_used x.site.root n) (u ∷ us) ≡ true)
        → list_any (is_used y.site.root n) us ≡ true
    by true is set f = other_name (bytes_eq u.name n) refl (sym (ap is_due_in (set n)) ∙ h) f
    by false is same f = left (is_used x.site.root n u) refl (ap (λ b. b && bytes_eq u.name n) is) (f (sym (ap (λ z. is_due_in (presence_in z n)) same) ∙ h))

-- none at the end
pub none_due : (s : Sites) → AreDueAmong [] s → NoneDue s
none_due s h k d n within = by (is_due_in (presence_in (get_or s.all.items k d) n)) (h k d n within)
  where
    by : (b : Bool) → (b ≡ true → false ≡ true) → b ≡ false
    by true f = sym (f refl)
    by false f = refl
