-- One page says something else than before. Around templates from which no way leads to it, and which do not extend it,
-- directly or indirectly, there is what was there before.
use Rattle.std.proofs.Common.{◌≡◌, ◌∙◌, ◌⊎◌, ℕ, Bool, List, [], ◌∷◌, ◌||◌, Option, None, Some, inl, inr, refl, sym, ap, subst}
use Rattle.std.specs.Prelude.{slice_get}
use Rattle.std.specs.List.{Contains, list_any}
use Rattle.std.specs.Str.{bytes_eq}
use Rattle.std.proofs.lemmas.Bool.Decides.{eqb_tells}
use Rattle.link_groups.specs.Groups.{IsOnCircle, Reaches, Itself, By, links_at}
use Rattle.tera_site.specs.Kept.{AreAboveAlike}
use Rattle.tera_site.specs.Pages.{PageVal}
use Rattle.tera_site.specs.Sites.{Above, AroundVal, AreInherited, Below, IsAround, Top, has_block, leads, number_from, parent_names, parents, site_with, used_names}
use Rattle.tera_site.proofs.LinkLemmas.{IsAmong, by_name, links_by, name_links, parent_used}

-- ---- ways that end at none of some things, from which the same links lead on

module _ (one other : List (List ℕ)) (near : List ℕ)
    (closed : (i j : ℕ) → IsAmong near i → Contains (links_at one i) j → IsAmong near j)
    (same : (i j : ℕ) → (IsAmong near i → ⊥) → Contains (links_at one i) j → Contains (links_at other i) j) where
  stays : (i j : ℕ) → Reaches one i j → IsAmong near i → IsAmong near j
  stays _ _ (Itself i) among = among
  stays _ _ (By i j k link rest) among = stays j k rest (closed i j among link)

  pub leads_apart : (i j : ℕ) → Reaches one i j → (IsAmong near j → ⊥) → Reaches other i j
  leads_apart _ _ (Itself i) apart = Itself i
  leads_apart _ _ (By i j k link rest) apart =
      By i j k (same i j (λ among. apart (stays j k rest (closed i j among link))) link) (leads_apart j k rest apart)

  pub circle_apart : (i : ℕ) → (IsAmong near i → ⊥) → IsOnCircle one i → IsOnCircle other i
  circle_apart i apart (j, link, to) = (j, same i j apart link, leads_apart j i to apart)

-- ---- pages

-- no way leads out of these
abbrev pub IsClosed : (List ℕ → Option ℕ) → List ℕ → List PageVal → Type 0
IsClosed named near ps = (r : ℕ) (p : PageVal) (n : List ℕ) (j : ℕ) → IsAmong near r → slice_get ps r ≡ Some p → Contains (used_names p) n → named n ≡ Some j → IsAmong near j

closed_by : (named : List ℕ → Option ℕ) (near : List ℕ) (ps : List PageVal) (used : PageVal → List (List ℕ)) → ((p : PageVal) (n : List ℕ) → Contains (used p) n → Contains (used_names p) n) → IsClosed named near ps
    → (i j : ℕ) → IsAmong near i → Contains (links_at (links_by named used ps) i) j → IsAmong near j
closed_by named near ps used are_used closed i j among link =
    let (p, here, (n, has, is)) = by_name named used ps i j link in
    closed i p n j among here (are_used p n has) is

same_by : (named : List ℕ → Option ℕ) (near : List ℕ) (before now : List PageVal) (used : PageVal → List (List ℕ)) → ((i : ℕ) → (IsAmong near i → ⊥) → slice_get before i ≡ slice_get now i)
    → (i j : ℕ) → (IsAmong near i → ⊥) → Contains (links_at (links_by named used before) i) j → Contains (links_at (links_by named used now) i) j
same_by named near before now used rest i j apart link =
    let (p, here, (n, has, is)) = by_name named used before i j link in
    name_links named used now i j p n (sym (rest i apart) ∙ here) has is

-- ---- what is above a page

pub alike_back : (p q : PageVal) → AreAboveAlike p q → AreAboveAlike q p
alike_back p q h = record { parent = sym h.parent; blocks = sym h.blocks; is_whole = sym h.is_whole }

-- A set of numbers of pages: that of a page is one of them, and so are those of all that extend it, directly or indirectly.
pub record AreAllBelow (named : List ℕ → Option ℕ) (at : ℕ) (ps : List PageVal) (under : ℕ → Type 0) : Type 0 where
  pub own : under at
  pub all : (q i : ℕ) (p : PageVal) (n : List ℕ) → slice_get ps q ≡ Some p → p.parent ≡ Some n → named n ≡ Some i → under i → under q

-- the page of a number says the same to those that extend it
abbrev pub IsAlikeAt : ℕ → List PageVal → List PageVal → Type 0
IsAlikeAt at before now = (p : PageVal) → slice_get before at ≡ Some p → (q : PageVal) × (slice_get now at ≡ Some q) × AreAboveAlike p q

module _ (names : List (Option (List ℕ))) (at : ℕ) (before now : List PageVal) (rest : (q : ℕ) → (q ≡ at → ⊥) → slice_get before q ≡ slice_get now q) where
  abbrev named : List ℕ → Option ℕ
  named = number_from 0 names

  abbrev IsSame : Option (List ℕ) → List PageVal → Type 0
  IsSame parent above = (more : List PageVal) × Above (site_with names now) parent more × ((n : List ℕ) → list_any (has_block n) more ≡ list_any (has_block n) above)

  above_alike : IsAlikeAt at before now → (parent : Option (List ℕ)) (above : List PageVal) → Above (site_with names before) parent above → IsSame parent above
  above_alike alike _ _ Top = ([], Top, λ n. refl)
  above_alike alike _ _ (Below n i p more is here whole up) =
      let (ups, higher, blocks) = above_alike alike p.parent more up in
      elim (eqb_tells i at) [
        | inl equal ↦
            let (q, there, h) = alike p (ap (slice_get before) (sym equal.1) ∙ here) in (
              q ∷ ups,
              Below n i q ups is (ap (slice_get now) equal.1 ∙ there) (sym h.is_whole ∙ whole) (subst (λ o. Above (site_with names now) o ups) h.parent higher),
              λ m. λ k. ap (list_any (bytes_eq m)) (sym h.blocks) k || blocks m k,
            )
        | inr other ↦ (p ∷ ups, Below n i p ups is (sym (rest i other.1) ∙ here) whole higher, λ m. ap (λ b. has_block m p || b) (blocks m))
      ]

  above_apart : (under : ℕ → Type 0) → AreAllBelow named at before under → (parent : Option (List ℕ)) (above : List PageVal)
      → ((n : List ℕ) (i : ℕ) → parent ≡ Some n → named n ≡ Some i → under i → ⊥) → Above (site_with names before) parent above → IsSame parent above
  above_apart under below _ _ not_under Top = ([], Top, λ n. refl)
  above_apart under below _ _ not_under (Below n i p more is here whole up) =
      let apart : under i → ⊥ = not_under n i refl is in
      let other : i ≡ at → ⊥ = λ e. apart (subst under (sym e) below.own) in
      let (ups, higher, blocks) = above_apart under below p.parent more (λ m k extends leads_there has. apart (below.all i k p m here extends leads_there has)) up in
      (p ∷ ups, Below n i p ups is (sym (rest i other) ∙ here) whole higher, λ m. ap (λ b. has_block m p || b) (blocks m))

  pub above_same : (under : ℕ → Type 0) → IsAlikeAt at before now ⊎ AreAllBelow named at before under → (q : ℕ) (p : PageVal) → (under q → ⊥) → slice_get before q ≡ Some p
      → (above : List PageVal) → Above (site_with names before) p.parent above → IsSame p.parent above
  above_same under (inl alike) q p apart here above up = above_alike alike p.parent above up
  above_same under (inr below) q p apart here above up =
      above_apart under below p.parent above (λ n i extends leads_there has. apart (below.all q i p n here extends leads_there has)) up

-- which of the blocks of a page are above it
inherited_same : (names : List (Option (List ℕ))) (before now : List PageVal) (p : PageVal) (inherited : Option (List ℕ → Bool))
    → ((above : List PageVal) → Above (site_with names before) p.parent above → (more : List PageVal) × Above (site_with names now) p.parent more × ((n : List ℕ) → list_any (has_block n) more ≡ list_any (has_block n) above))
    → ((above : List PageVal) → Above (site_with names now) p.parent above → (more : List PageVal) × Above (site_with names before) p.parent more × ((n : List ℕ) → list_any (has_block n) more ≡ list_any (has_block n) above))
    → AreInherited (site_with names before) p inherited → AreInherited (site_with names now) p inherited
inherited_same names before now p None there back h = λ whole above up. let (more, higher, same) = back above up in h whole more higher
inherited_same names before now p (Some inherited) there back h =
    let (whole, (above, up, is)) = h in
    let (more, higher, same) = there above up in
    (whole, (more, higher, λ n has. is n has ∙ sym (same n)))

-- ---- what is around a page

module _ (names : List (Option (List ℕ))) (others : List ℕ → Bool) (at : ℕ) (near : List ℕ) (before now : List PageVal) (first : IsAmong near at)
    (rest : (q : ℕ) → (q ≡ at → ⊥) → slice_get before q ≡ slice_get now q)
    (closed : IsClosed (number_from 0 names) near before) (still : IsClosed (number_from 0 names) near now)
    (under : ℕ → Type 0) (inside : (q : ℕ) → under q → IsAmong near q)
    (above : IsAlikeAt at before now ⊎ AreAllBelow (number_from 0 names) at before under)
    (turned_above : IsAlikeAt at now before ⊎ AreAllBelow (number_from 0 names) at now under) where
  abbrev named_by : List ℕ → Option ℕ
  named_by = number_from 0 names

  away : (q : ℕ) → (IsAmong near q → ⊥) → q ≡ at → ⊥
  away q apart is = apart (subst (IsAmong near) (sym is) first)

  apart_same : (q : ℕ) → (IsAmong near q → ⊥) → slice_get before q ≡ slice_get now q
  apart_same q apart = rest q (away q apart)

  pub around_beside : (q : ℕ) (p : PageVal) (a : AroundVal) → (IsAmong near q → ⊥) → slice_get before q ≡ Some p
      → IsAround (site_with names before) others q p a → IsAround (site_with names now) others q p a
  around_beside q p a apart here h =
      let all_used = λ (x : PageVal) (n : List ℕ) (has : Contains (used_names x) n). has in
      let there : slice_get now q ≡ Some p = sym (apart_same q apart) ∙ here in
      let back = λ (i : ℕ) (none : IsAmong near i → ⊥). sym (apart_same i none) in
      let not_under : under q → ⊥ = λ has. apart (inside q has) in
      record {
        has = h.has;
        extends_itself = (
          λ e. circle_apart (parents (site_with names before)) (parents (site_with names now)) near
              (closed_by named_by near before parent_names parent_used closed) (same_by named_by near before now parent_names apart_same) q apart (h.extends_itself.0 e),
          λ c. h.extends_itself.1 (circle_apart (parents (site_with names now)) (parents (site_with names before)) near
              (closed_by named_by near now parent_names parent_used still) (same_by named_by near now before parent_names back) q apart c),
        );
        comes_back = λ n has. (
          λ e. let (j, is, to) = (h.comes_back n has).0 e in (
            j,
            is,
            leads_apart (leads (site_with names before)) (leads (site_with names now)) near
                (closed_by named_by near before used_names all_used closed) (same_by named_by near before now used_names apart_same) j q to apart,
          ),
          λ c. let (j, is, to) = c in (h.comes_back n has).1 (
            j,
            is,
            leads_apart (leads (site_with names now)) (leads (site_with names before)) near
                (closed_by named_by near now used_names all_used still) (same_by named_by near now before used_names back) j q to apart,
          ),
        );
        inherited = inherited_same names before now p a.inherited
            (λ ups up. above_same names at before now rest under above q p not_under here ups up)
            (λ ups up. above_same names at now before (λ i none. sym (rest i none)) under turned_above q p not_under there ups up) h.inherited;
      }
