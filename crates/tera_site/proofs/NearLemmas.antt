-- A template and all that it leads to, as a site of their own: around each of them there is what is around it in the whole site.
use Rattle.std.proofs.Common.{◌≡◌, ◌∙◌, ℕ, Bool, true, List, [], ◌∷◌, false, not, Option, None, Some, refl, sym, subst}
use Rattle.std.specs.Prelude.{◌&&◌, ◌||◌, slice_get}
use Rattle.std.specs.List.{Contains}
use Rattle.std.specs.Option.{is_some}
use Rattle.std.specs.Str.{bytes_eq}
use Rattle.std.proofs.lemmas.List.Elements.{Contains-append_right}
use Rattle.std.proofs.lemmas.Slice.Eq.{bytes_eq-Decides}
use Rattle.link_groups.specs.Groups.{IsOnCircle, Reaches, Itself, By, links_at}
use Rattle.tera_site.specs.Kept.{is_one_of, on_page}
use Rattle.tera_site.specs.Named.{lacks}
use Rattle.tera_site.specs.Pages.{PageVal}
use Rattle.tera_site.specs.Sites.{Above, AroundVal, AreInherited, Below, IsAround, Top, if_any, number_from, parent_names, site_with, used_names}
use Rattle.tera_site.proofs.ApartLemmas.{IsClosed}
use Rattle.tera_site.proofs.LinkLemmas.{IsAmong, by_name, links_by, name_links, parent_used}
use Rattle.tera_site.proofs.TourLemmas.{None_Some, first_in, later_in, no_way, same_Some}

-- Of the site these are the templates of some numbers, by their names.
pub record IsPart (names own : List (Option (List ℕ))) (pages part : List PageVal) (near : List ℕ) : Type 0 where
  pub same : (k r : ℕ) → slice_get near k ≡ Some r → slice_get part k ≡ slice_get pages r
  pub named : (n : List ℕ) (k : ℕ) → number_from 0 own n ≡ Some k → (r : ℕ) × (slice_get near k ≡ Some r) × (number_from 0 names n ≡ Some r)
  pub back : (n : List ℕ) (r : ℕ) → number_from 0 names n ≡ Some r → IsAmong near r → (k : ℕ) × (slice_get near k ≡ Some r) × (number_from 0 own n ≡ Some k)
  pub once : (k m r : ℕ) → slice_get near k ≡ Some r → slice_get near m ≡ Some r → k ≡ m
  pub closed : IsClosed (number_from 0 names) near pages

extended : (p : PageVal) (n : List ℕ) → p.parent ≡ Some n → Contains (used_names p) n
extended p n extends = parent_used p n (subst (λ o. Contains (if_any o) n) (sym extends) (first_in n []))

included_used : (p : PageVal) (n : List ℕ) → Contains p.includes n → Contains (used_names p) n
included_used p n has = Contains-append_right (if_any p.parent) p.includes n has

-- a name that is one of some is there
pub one_of_in : (n : List ℕ) (ns : List (List ℕ)) → is_one_of ns n ≡ true → Contains ns n
one_of_in n [] e = absurd (no_way e)
one_of_in n (m ∷ ns) e = by (bytes_eq n m) refl (one_of_in n ns) e
  where
    by : (b : Bool) → bytes_eq n m ≡ b → (is_one_of ns n ≡ true → Contains ns n) → (b || is_one_of ns n) ≡ true → Contains (m ∷ ns) n
    by true is rest h = subst (Contains (m ∷ ns)) (sym ((bytes_eq-Decides n m).0 is)) (first_in m ns)
    by false is rest h = later_in m ns n (rest h)

only_used : (test : List ℕ → Bool) (n : List ℕ) (a b : Bool) → (test n ≡ true → a ≡ b) → (test n && a) ≡ (test n && b)
only_used test n a b same = by (test n) same
  where
    by : (t : Bool) → (t ≡ true → a ≡ b) → (t && a) ≡ (t && b)
    by true same = same refl
    by false same = refl

module _ (names own : List (Option (List ℕ))) (pages part : List PageVal) (near : List ℕ) (hh : IsPart names own pages part near) where
  abbrev named : List ℕ → Option ℕ
  named = number_from 0 names

  abbrev named_there : List ℕ → Option ℕ
  named_there = number_from 0 own

  abbrev AreUsed : (PageVal → List (List ℕ)) → Type 0
  AreUsed used = (p : PageVal) (n : List ℕ) → Contains (used p) n → Contains (used_names p) n

  -- a link of the part is one of the site, and the other way round
  link_out : (used : PageVal → List (List ℕ)) (i j r : ℕ) → slice_get near i ≡ Some r → Contains (links_at (links_by named_there used part) i) j
      → (q : ℕ) × (slice_get near j ≡ Some q) × Contains (links_at (links_by named used pages) r) q
  link_out used i j r is link =
      let (p, here, (n, has, to)) = by_name named_there used part i j link in
      let (q, there, is_q) = hh.named n j to in
      (q, there, name_links named used pages r q p n (sym (hh.same i r is) ∙ here) has is_q)

  link_in : (used : PageVal → List (List ℕ)) → AreUsed used → (r q i : ℕ) → slice_get near i ≡ Some r → Contains (links_at (links_by named used pages) r) q
      → (j : ℕ) × (slice_get near j ≡ Some q) × Contains (links_at (links_by named_there used part) i) j
  link_in used are_used r q i is link =
      let (p, here, (n, has, to)) = by_name named used pages r q link in
      let (j, there, is_j) = hh.back n q to (hh.closed r p n q (i, is) here (are_used p n has) to) in
      (j, there, name_links named_there used part i j p n (hh.same i r is ∙ here) has is_j)

  way_out : (used : PageVal → List (List ℕ)) (i k r q : ℕ) → slice_get near i ≡ Some r → slice_get near k ≡ Some q → Reaches (links_by named_there used part) i k → Reaches (links_by named used pages) r q
  way_out used _ _ r q is to (Itself i) = subst (Reaches (links_by named used pages) r) (same_Some r q (sym is ∙ to)) (Itself r)
  way_out used _ _ r q is to (By i j k link rest) =
      let (m, there, linked) = link_out used i j r is link in
      By r m q linked (way_out used j k m q there to rest)

  way_in : (used : PageVal → List (List ℕ)) → AreUsed used → (r q i : ℕ) → slice_get near i ≡ Some r → Reaches (links_by named used pages) r q
      → (k : ℕ) × (slice_get near k ≡ Some q) × Reaches (links_by named_there used part) i k
  way_in used are_used _ _ i is (Itself r) = (i, is, Itself i)
  way_in used are_used _ _ i is (By r m q link rest) =
      let (j, there, linked) = link_in used are_used r m i is link in
      let (k, to, way) = way_in used are_used m q j there rest in
      (k, to, By i j k linked way)

  -- a way to a thing of the part
  way_to : (used : PageVal → List (List ℕ)) → AreUsed used → (r q i k : ℕ) → slice_get near i ≡ Some r → slice_get near k ≡ Some q → Reaches (links_by named used pages) r q
      → Reaches (links_by named_there used part) i k
  way_to used are_used r q i k is to way =
      let (m, there, found) = way_in used are_used r q i is way in
      subst (Reaches (links_by named_there used part) i) (hh.once m k q there to) found

  circle_out : (i r : ℕ) → slice_get near i ≡ Some r → IsOnCircle (links_by named_there parent_names part) i → IsOnCircle (links_by named parent_names pages) r
  circle_out i r is (j, link, way) =
      let (q, there, linked) = link_out parent_names i j r is link in
      (q, linked, way_out parent_names j i q r there is way)

  circle_in : (i r : ℕ) → slice_get near i ≡ Some r → IsOnCircle (links_by named parent_names pages) r → IsOnCircle (links_by named_there parent_names part) i
  circle_in i r is (q, link, way) =
      let (j, there, linked) = link_in parent_names parent_used r q i is link in
      (j, linked, way_to parent_names parent_used q r j i there is way)

  -- what is above a page
  above_out : (parent : Option (List ℕ)) (above : List PageVal) → Above (site_with own part) parent above → Above (site_with names pages) parent above
  above_out _ _ Top = Top
  above_out _ _ (Below n i p more is here whole up) =
      let (r, there, is_r) = hh.named n i is in
      Below n r p more is_r (sym (hh.same i r there) ∙ here) whole (above_out p.parent more up)

  above_in : (parent : Option (List ℕ)) (above : List PageVal) → ((n : List ℕ) (r : ℕ) → parent ≡ Some n → named n ≡ Some r → IsAmong near r)
      → Above (site_with names pages) parent above → Above (site_with own part) parent above
  above_in _ _ inside Top = Top
  above_in _ _ inside (Below n r p more is here whole up) =
      let among = inside n r refl is in
      let (i, there, is_i) = hh.back n r is among in
      Below n i p more is_i (hh.same i r there ∙ here) whole
      (above_in p.parent more (λ m q extends is_q. hh.closed r p m q among here (extended p m extends) is_q) up)

  inherited_out : (p : PageVal) (r : ℕ) → IsAmong near r → slice_get pages r ≡ Some p → (inherited : Option (List ℕ → Bool))
      → AreInherited (site_with own part) p inherited → AreInherited (site_with names pages) p inherited
  inherited_out p r among here None is = λ whole above up. is whole above (above_in p.parent above (λ n q extends is_q. hh.closed r p n q among here (extended p n extends) is_q) up)
  inherited_out p r among here (Some inherited) is =
      let (whole, (above, up, same)) = is in
      (whole, (above, above_out p.parent above up, same))

  -- what is around a template there, with all names of the site
  pub around_near : (others : List ℕ → Bool) (i r : ℕ) (p : PageVal) (a : AroundVal) → slice_get near i ≡ Some r → slice_get pages r ≡ Some p
      → IsAround (site_with own part) others i p a → IsAround (site_with names pages) others r p (record a { has = λ n. is_some (named n) || others n })
  around_near others i r p a is here h =
      let all_used = λ (x : PageVal) (n : List ℕ) (has : Contains (used_names x) n). has in
      record {
        has = λ n. refl;
        extends_itself = (λ e. circle_out i r is (h.extends_itself.0 e), λ c. h.extends_itself.1 (circle_in i r is c));
        comes_back = λ n has. (
          λ e.
              let (j, to, way) = (h.comes_back n has).0 e in
              let (q, there, is_q) = hh.named n j to in
              (q, is_q, way_out used_names j i q r there is way),
          λ c.
              let (q, is_q, way) = c in
              let (j, there, to) = hh.back n q is_q (hh.closed r p n q (i, is) here (included_used p n has) is_q) in
              (h.comes_back n has).1 (j, to, way_to used_names all_used q r j i there is way),
        );
        inherited = inherited_out p r (i, is) here a.inherited h.inherited;
      }

  -- which is the same under the names of its page
  same_there : (others : List ℕ → Bool) (i r : ℕ) (p : PageVal) → slice_get near i ≡ Some r → slice_get pages r ≡ Some p
      → (n : List ℕ) → Contains (used_names p) n → (is_some (named_there n) || others n) ≡ (is_some (named n) || others n)
  same_there others i r p is here n has = by (named_there n) refl (named n) refl
    where
      by : (o : Option ℕ) → named_there n ≡ o → (q : Option ℕ) → named n ≡ q → (is_some o || others n) ≡ (is_some q || others n)
      by None own_is None is_q = refl
      by (Some k) own_is (Some q) is_q = refl
      by None own_is (Some q) is_q =
          let (k, there, to) = hh.back n q is_q (hh.closed r p n q (i, is) here has is_q) in
          absurd (None_Some k (sym own_is ∙ to))
      by (Some k) own_is None is_q =
          let (q, there, to) = hh.named n k own_is in
          absurd (None_Some q (sym is_q ∙ to))

  pub page_near : (others : List ℕ → Bool) (i r : ℕ) (p : PageVal) (a : AroundVal) → slice_get near i ≡ Some r → slice_get pages r ≡ Some p
      → ((n : List ℕ) → a.has n ≡ (is_some (named_there n) || others n)) → on_page p a ≡ on_page p (record a { has = λ n. is_some (named n) || others n })
  page_near others i r p a is here has = λ k. record {
    has = λ n. only_used (is_one_of (used_names p)) n (a.has n) (is_some (named n) || others n) (λ among. has n ∙ same_there others i r p is here n (one_of_in n (used_names p) among)) k;
    extends_itself = a.extends_itself;
    comes_back = λ n. is_one_of p.includes n && a.comes_back n;
    inherited = Some (λ n. not (is_one_of p.blocks n && lacks a n));
  }
