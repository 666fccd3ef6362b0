-- The nearest of some files.
use Rattle.std.proofs.Common.{◌≡◌, ◌≢◌, ◌∙◌, ◌⊎◌, ◌<◌, ◌≤◌, ℕ, zero, suc, List, [], ◌∷◌, length, filter, nat_lt, if◌then◌else◌, cond, Bool, true, false, true≢false, Option, None, Some, inl, inr, refl, sym, ap, subst, arith}
use Rattle.std.specs.List.{All, Contains, slice_index_or}
use Rattle.std.specs.Option.{option_map_or, option_or}
use Rattle.std.specs.Str.{bytes_eq}
use Rattle.std.proofs.lemmas.Slice.Eq.{bytes_eq-Decides}
use Rattle.tera_workspace.proofs.ContainLemmas.{first_in, later_in, all_first}
use Rattle.tera_editor.specs.Templates.{RootsVal, template_name, is_named, is_below, nearer, nearest, template_in, IsTemplateOf}

-- ---- of the files that pass a test

there_is_one : (x : List ℕ) (o : Option (List ℕ)) → nearer (Some x) o ≢ None
there_is_one x None e = cc
there_is_one x (Some g) e = by (nat_lt (length g) (length x)) e
  where
    by : (b : Bool) → (if b then Some g else Some x) ≡ None → ⊥
    by true e = cc
    by false e = cc

pub none_passes : (test : List ℕ → Bool) (fs : List (List ℕ)) → nearest (filter test fs) ≡ None → All (λ f. test f ≡ false) fs
none_passes test [] e = λ k d within. absurd (omega (arith, within))
none_passes test (x ∷ xs) e = by (none_passes test xs) (test x) refl e
  where
    by : (nearest (filter test xs) ≡ None → All (λ f. test f ≡ false) xs) → (b : Bool) → test x ≡ b → nearest (cond b (x ∷ filter test xs) (filter test xs)) ≡ None
        → All (λ f. test f ≡ false) (x ∷ xs)
    by rest true is e = absurd (there_is_one x (nearest (filter test xs)) e)
    by rest false is e = all_first (λ f. test f ≡ false) x xs is (rest e)

-- one of the files that pass a test, and no other of these has a shorter path
pub record IsNearest (test : List ℕ → Bool) (fs : List (List ℕ)) (f : List ℕ) : Type 0 where
  pub there : Contains fs f
  pub passes : test f ≡ true
  pub shortest : All (λ g. test g ≡ true → length f ≤ length g) fs

module _ (test : List ℕ → Bool) (x : List ℕ) (xs : List (List ℕ)) where
  nearest_first : test x ≡ true → All (λ g. test g ≡ true → length x ≤ length g) xs → IsNearest test (x ∷ xs) x
  nearest_first is rest = record {
    there = first_in x xs;
    passes = is;
    shortest = all_first (λ g. test g ≡ true → length x ≤ length g) x xs (λ p. omega arith) rest;
  }

  nearest_later : (f : List ℕ) → (test x ≡ true → length f ≤ length x) → IsNearest test xs f → IsNearest test (x ∷ xs) f
  nearest_later f below h = record {
    there = later_in x xs f h.there;
    passes = h.passes;
    shortest = all_first (λ g. test g ≡ true → length f ≤ length g) x xs below h.shortest;
  }

  of_two : (f g : List ℕ) (t : Bool) → test x ≡ true → IsNearest test xs g → nat_lt (length g) (length x) ≡ t → (if t then Some g else Some x) ≡ Some f → IsNearest test (x ∷ xs) f
  of_two f g true is h less e =
      let same : g ≡ f = cc in
      let below : length g ≤ length x = grind (arith, less) in
      subst (λ y. IsNearest test (x ∷ xs) y) same (nearest_later g (λ p. below) h)
  of_two f g false is h less e =
      let same : x ≡ f = cc in
      let above : length x ≤ length g = grind (arith, less) in
      subst (λ y. IsNearest test (x ∷ xs) y) same
      (nearest_first is (λ k d within passes. let far = h.shortest k d within passes in omega (arith, far, above)))

pub is_nearest : (test : List ℕ → Bool) (fs : List (List ℕ)) (f : List ℕ) → nearest (filter test fs) ≡ Some f → IsNearest test fs f
is_nearest test [] f e = absurd (cc)
is_nearest test (x ∷ xs) f e = by (is_nearest test xs) (test x) refl (nearest (filter test xs)) refl e
  where
    by : ((g : List ℕ) → nearest (filter test xs) ≡ Some g → IsNearest test xs g) → (b : Bool) → test x ≡ b → (rest : Option (List ℕ)) → nearest (filter test xs) ≡ rest
        → nearest (cond b (x ∷ filter test xs) (filter test xs)) ≡ Some f → IsNearest test (x ∷ xs) f
    by more_of false is rest r e = nearest_later test x xs f (λ p. absurd (true≢false (sym p ∙ is))) (more_of f e)
    by more_of true is None r e =
        let none = none_passes test xs r in
        let same : x ≡ f = cc (ap (nearer (Some x)) r, e) in
        subst (λ y. IsNearest test (x ∷ xs) y) same (nearest_first test x xs is (λ k d within passes. absurd (true≢false (sym passes ∙ none k d within))))
    by more_of true is (Some g) r e = of_two test x xs f g (nat_lt (length g) (length x)) is (more_of g r) refl (sym (ap (nearer (Some x)) r) ∙ e)

-- ---- the template of a name

name_of_named : (name : List ℕ) (o : Option (List ℕ)) → option_map_or (λ n. bytes_eq n name) o false ≡ true → o ≡ Some name
name_of_named name None e = absurd (true≢false (sym e))
name_of_named name (Some n) e = ap Some ((bytes_eq-Decides n name).0 e)

named_by_name : (roots : RootsVal) (name f : List ℕ) → template_name roots f ≡ Some name → is_named roots name f ≡ true
named_by_name roots name f e = ap (λ o. option_map_or (λ n. bytes_eq n name) o false) e ∙ (bytes_eq-Decides name name).1 refl

module _ (roots : RootsVal) (files : List (List ℕ)) (name : List ℕ) where
  pub has_its_name : (file : List ℕ) → template_in roots files name ≡ Some file → IsTemplateOf roots files name file
  has_its_name file e = by (nearest (filter (is_named roots name) files)) refl e
    where
      by : (o : Option (List ℕ)) → nearest (filter (is_named roots name) files) ≡ o → option_or o (nearest (filter (is_below name) files)) ≡ Some file → IsTemplateOf roots files name file
      by None none e =
          let h = is_nearest (is_below name) files file e in
          let unnamed = none_passes (is_named roots name) files none in
          record {
            there = h.there;
            named = inr (h.passes, unnamed);
            shortest = λ k d within has. absurd (true≢false (sym (named_by_name roots name _ has) ∙ unnamed k d within));
          }
      by (Some f) one e =
          let h = is_nearest (is_named roots name) files file (one ∙ e) in
          record {
            there = h.there;
            named = inl (name_of_named name (template_name roots file) h.passes);
            shortest = λ k d within has. h.shortest k d within (named_by_name roots name _ has);
          }

  pub leads : (file : List ℕ) → Contains files file → template_name roots file ≡ Some name → (f : List ℕ) × (template_in roots files name ≡ Some f) × (template_name roots f ≡ Some name)
  leads file (k, within, is) has = by (nearest (filter (is_named roots name) files)) refl
    where
      by : (o : Option (List ℕ)) → nearest (filter (is_named roots name) files) ≡ o → (f : List ℕ) × (option_or o (nearest (filter (is_below name) files)) ≡ Some f) × (template_name roots f ≡ Some name)
      by None none = absurd (true≢false (sym (named_by_name roots name file has) ∙ (sym (ap (is_named roots name) is) ∙ none_passes (is_named roots name) files none k file within)))
      by (Some f) one = (f, refl, name_of_named name (template_name roots f) (is_nearest (is_named roots name) files f one).passes)
