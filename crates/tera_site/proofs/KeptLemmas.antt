-- What is kept of pages, and of what is around them.
use Rattle.std.proofs.Common.{◌≡◌, ◌∙◌, ℕ, Bool, true, false, cond, not, true≢false, List, [], ◌∷◌, ◌++◌, Option, None, Some, String, Global, map, string_bytes, inl, inr, refl, sym, ap}
use Rattle.std.specs.Prelude.{◌||◌, ◌&&◌}
use Rattle.std.specs.BTreeSet.{BTreeSet, contains_text, keys}
use Rattle.std.specs.Bool.{Decides}
use Rattle.std.specs.Cmp.{booleans_Decides}
use Rattle.std.specs.Cmp.Lexicographic.{pointwise, slice_cmp}
use Rattle.std.specs.List.{list_any}
use Rattle.std.specs.Option.{option_eq}
use Rattle.std.specs.Ordering.{is_eq, nat_cmp}
use Rattle.std.specs.Str.{bytes_eq}
use Rattle.std.specs.String.{string_eq}
use Rattle.std.proofs.Math.Bool.{beq}
use Rattle.std.proofs.lemmas.Map.Text.{is_eq-slice_cmp}
use Rattle.std.proofs.lemmas.Slice.Eq.{bytes_eq-Decides}
use Rattle.tera_ast.specs.View.{name_view}
use Rattle.tera_base.proofs.Equals.{views_decide}
use Rattle.tera_site.specs.Kept.{AreAboveAlike, KeptVal, is_one_of, kept_page, kept_view, names_in}
use Rattle.tera_site.specs.Pages.{PageVal}
use Rattle.tera_site.specs.contracts.kept.KeptPagePartialEq.TheImpl as page_test
use Rattle.tera_site.specs.contracts.kept.SurroundingsPartialEq.TheImpl as surroundings_test
use Rattle.tera_site.specs.declared.kept.KeptPage.{KeptPage}
use Rattle.tera_site.specs.declared.kept.Surroundings.{Surroundings}
use Rattle.tera_site.proofs.CountLemmas.{or_false, or_true, own_more, same_name}
use Rattle.tera_site.proofs.TourLemmas.{None_Some, same_Some}

-- ---- a set of names

in_keys : (ks : List (String Global)) (n : List ℕ) → list_any (λ k. is_eq (slice_cmp nat_cmp n (string_bytes k))) ks ≡ is_one_of (map string_bytes ks) n
in_keys [] n = refl
in_keys (k ∷ ks) n = λ i. is_eq-slice_cmp n (string_bytes k) i || in_keys ks n i

pub one_of : (s : BTreeSet (String Global)) (n : List ℕ) → contains_text s n ≡ is_one_of (names_in s) n
one_of s n = in_keys (keys s) n

-- a name is put, where that is so
pub name_put : (was now is_so : Bool) (name n : List ℕ) → is_so ≡ true → now ≡ cond (bytes_eq name n) true was → now ≡ (was || (bytes_eq n name && is_so))
name_put was now is_so name n so is = is ∙ elim (same_name n name) [
  | inl yes_is ↦ let (same, here, back) = yes_is in (λ i. cond (back i) true was) ∙ sym ((λ i. was || (here i && so i)) ∙ or_true was)
  | inr no_is ↦ let (not_here, not_back) = no_is in (λ i. cond (not_back i) true was) ∙ sym ((λ i. was || (not_here i && is_so)) ∙ or_false was)
]

and_false : (b : Bool) → (b && false) ≡ false
and_false true = refl
and_false false = refl

pub none_put : (was is_so : Bool) (name n : List ℕ) → is_so ≡ false → was ≡ (was || (bytes_eq n name && is_so))
none_put was is_so name n not_so = sym ((λ i. was || (bytes_eq n name && not_so i)) ∙ ap (λ b. was || b) (and_false (bytes_eq n name)) ∙ or_false was)

-- what holds of a name holds of one that is the same
same_test : (test : List ℕ → Bool) (n m : List ℕ) → (bytes_eq n m && test m) ≡ (bytes_eq n m && test n)
same_test test n m = elim (same_name n m) [
  | inl yes_is ↦ ap (λ k. bytes_eq n m && test k) (sym yes_is.0)
  | inr no_is ↦ (λ i. no_is.0 i && test m) ∙ sym (λ i. no_is.0 i && test n)
]

-- of one more name those of which that holds
pub names_next : (test : List ℕ → Bool) (was now is_so : Bool) (ns : List (List ℕ)) (n m : List ℕ) → is_so ≡ test m → was ≡ (is_one_of ns n && test n)
    → now ≡ (was || (bytes_eq n m && is_so)) → now ≡ (is_one_of (ns ++ m ∷ []) n && test n)
names_next test was now is_so ns n m so held is =
    own_more was now ns n m (test n) held (is ∙ ap (λ b. was || (bytes_eq n m && b)) so ∙ ap (λ b. was || b) (same_test test n m))

pub twice : (b : Bool) → b ≡ not (not b)
twice true = refl
twice false = refl

-- ---- equal ones

both : (a b : Bool) → (a && b) ≡ true → (a ≡ true) × (b ≡ true)
both true b e = (refl, e)
both false b e = absurd (true≢false (sym e))

abbrev Text : Type 0
Text = String Global

text_decides : (a b : Text) → Decides (string_eq a b) (string_bytes a ≡ string_bytes b)
text_decides a b = bytes_eq-Decides (string_bytes a) (string_bytes b)

texts_decide : (xs ys : List Text) → Decides (pointwise string_eq xs ys) (map string_bytes xs ≡ map string_bytes ys)
texts_decide xs ys = views_decide string_bytes string_eq text_decides xs ys

name_decides : (a b : Option Text) → Decides (option_eq string_eq a b) (name_view a ≡ name_view b)
name_decides None None = (λ _. refl, λ _. refl)
name_decides None (Some b) = (λ e. absurd (true≢false (sym e)), λ e. absurd (None_Some (string_bytes b) e))
name_decides (Some a) None = (λ e. absurd (true≢false (sym e)), λ e. absurd (None_Some (string_bytes a) (sym e)))
name_decides (Some a) (Some b) =
    let texts = text_decides a b in
    (λ e. ap Some (texts.0 e), λ e. texts.1 (same_Some (string_bytes a) (string_bytes b) e))

abbrev page_eq : KeptPage → KeptPage → Bool
page_eq = (page_test.ghosts).eq

pub page_decides : (a b : KeptPage) → Decides (page_eq a b) (kept_page a ≡ kept_page b)
page_decides a b =
    let parents = name_decides a.parent b.parent in
    let includes = texts_decide a.includes.items b.includes.items in
    let blocks = texts_decide a.blocks.items b.blocks.items in
    let whole = booleans_Decides a.is_whole b.is_whole in (
      λ e.
          let p = both (option_eq string_eq a.parent b.parent) _ e in
          let q = both (pointwise string_eq a.includes.items b.includes.items) _ p.1 in
          let r = both (pointwise string_eq a.blocks.items b.blocks.items) _ q.1 in
          λ i. record { parent = parents.0 p.0 i; includes = includes.0 q.0 i; blocks = blocks.0 r.0 i; is_whole = whole.0 r.1 i },
      λ e. rw (
        parents.1 (ap (λ (v : PageVal). v.parent) e),
        includes.1 (ap (λ (v : PageVal). v.includes) e),
        blocks.1 (ap (λ (v : PageVal). v.blocks) e),
        whole.1 (ap (λ (v : PageVal). v.is_whole) e),
      ) refl,
    )

abbrev pub same_parent : KeptPage → KeptPage → Bool
same_parent a b = option_eq string_eq a.parent b.parent

abbrev pub same_blocks : KeptPage → KeptPage → Bool
same_blocks a b = pointwise string_eq a.blocks.items b.blocks.items

above_decides : (a b : KeptPage) (t : Bool) → (same_parent a b && (same_blocks a b && beq a.is_whole b.is_whole)) ≡ t → Decides t (AreAboveAlike (kept_page a) (kept_page b))
above_decides a b t is =
    let parents = name_decides a.parent b.parent in
    let blocks = texts_decide a.blocks.items b.blocks.items in
    let whole = booleans_Decides a.is_whole b.is_whole in (
      λ e.
          let p = both (same_parent a b) _ (is ∙ e) in
          let q = both (same_blocks a b) _ p.1 in
          record { parent = parents.0 p.0; blocks = blocks.0 q.0; is_whole = whole.0 q.1 },
      λ h. sym is ∙ rw (parents.1 h.parent, blocks.1 h.blocks, whole.1 h.is_whole) refl,
    )

and_then : (p q w : Bool) → (p && q) ≡ true → (p && (q && w)) ≡ w
and_then true true w e = refl
and_then true false w e = cc
and_then false q w e = cc

and_not : (p q w : Bool) → (p && q) ≡ false → (p && (q && w)) ≡ false
and_not true true w e = cc
and_not true false w e = refl
and_not false q w e = refl

-- by two tests, and then a third
pub above_then : (a b : KeptPage) (v : Bool) → v ≡ (same_parent a b && same_blocks a b) → v ≡ true → Decides (beq a.is_whole b.is_whole) (AreAboveAlike (kept_page a) (kept_page b))
above_then a b v is true_is = above_decides a b (beq a.is_whole b.is_whole) (and_then (same_parent a b) (same_blocks a b) (beq a.is_whole b.is_whole) (sym is ∙ true_is))

pub above_else : (a b : KeptPage) (v : Bool) → v ≡ (same_parent a b && same_blocks a b) → v ≡ false → Decides v (AreAboveAlike (kept_page a) (kept_page b))
above_else a b v is false_is = above_decides a b v (and_not (same_parent a b) (same_blocks a b) (beq a.is_whole b.is_whole) (sym is ∙ false_is) ∙ sym false_is)

pub and_first : (p q : Bool) → p ≡ true → q ≡ (p && q)
and_first true q e = refl
and_first false q e = cc

pub and_none : (p q : Bool) → p ≡ false → false ≡ (p && q)
and_none true q e = cc
and_none false q e = refl

abbrev surroundings_eq : Surroundings → Surroundings → Bool
surroundings_eq = (surroundings_test.ghosts).eq

pub surroundings_decide : (a b : Surroundings) → Decides (surroundings_eq a b) (kept_view a ≡ kept_view b)
surroundings_decide a b =
    let there = texts_decide (keys a.there) (keys b.there) in
    let back = texts_decide (keys a.back) (keys b.back) in
    let itself = booleans_Decides a.extends_itself b.extends_itself in
    let lacking = texts_decide (keys a.lacking) (keys b.lacking) in (
      λ e.
          let p = both (pointwise string_eq (keys a.there) (keys b.there)) _ e in
          let q = both (pointwise string_eq (keys a.back) (keys b.back)) _ p.1 in
          let r = both (beq a.extends_itself b.extends_itself) _ q.1 in
          λ i. record { there = there.0 p.0 i; back = back.0 q.0 i; extends_itself = itself.0 r.0 i; lacking = lacking.0 r.1 i },
      λ e. rw (
        there.1 (ap (λ (v : KeptVal). v.there) e),
        back.1 (ap (λ (v : KeptVal). v.back) e),
        itself.1 (ap (λ (v : KeptVal). v.extends_itself) e),
        lacking.1 (ap (λ (v : KeptVal). v.lacking) e),
      ) refl,
    )
