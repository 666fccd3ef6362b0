-- What is known under a name where one template is another, whose component of that name has the same head.
use Rattle.std.proofs.Common.{◌≡◌, ◌∙◌, ◌<◌, ℕ, zero, suc, List, [], ◌∷◌, ◌++◌, length, get_or, set, Bool, true, false, cond, Option, None, Some, string_bytes, IfSome, refl, sym, ap, subst, inl, inr, arith}
use Rattle.std.specs.Str.{bytes_eq}
use Rattle.std.proofs.lemmas.Slice.Eq.{bytes_eq-Decides}
use Rattle.tera_tree.specs.Tree.{Definition}
use Rattle.tera_templates.specs.Templates.{definitions_of, shows_in}
use Rattle.tera_rules.specs.Judged.{KnownVal}
use Rattle.tera_check.specs.Named.{known_at, defined_from, defined_in, defined_by, first_named, or_else}
use Rattle.tera_templates.specs.declared.templates.Template.{Template}
use Rattle.tera_check.proofs.CatalogueLemmas.{more_known}
use Rattle.tera_workspace.specs.Beside.{AreAlikeBut, AreAlikeButIfAny}
use Rattle.tera_workspace.specs.Heads.{definition_named, HaveOneHeadIfAny, HaveOneHeadIn}

pub named_append : (n : List ℕ) (ks js : List KnownVal) → first_named n (ks ++ js) ≡ or_else (first_named n ks) (first_named n js)
named_append n ks js = more_known n None (first_named n ks) (first_named n (ks ++ js)) ks js refl refl

-- the first component of a name in a template is the first definition of that name
abbrev pub IsFirst : ℕ → Template → Option Definition → Option KnownVal → Type 0
IsFirst number t None None = Unit {0}
IsFirst number t (Some d) (Some k) = (at : ℕ) × (k ≡ known_at number t at d)
IsFirst number t _ _ = ⊥

first_by : (number : ℕ) (t : Template) (b : Bool) (at : ℕ) (d : Definition) (o : Option Definition) (r : Option KnownVal) → IsFirst number t o r
    → IsFirst number t (cond b (Some d) o) (cond b (Some (known_at number t at d)) r)
first_by number t true at d o r h = (at, refl)
first_by number t false at d o r h = h

pub first_is : (number : ℕ) (t : Template) (n : List ℕ) (at : ℕ) (ds : List Definition) → IsFirst number t (definition_named n ds) (first_named n (defined_from number t at ds))
first_is number t n at [] = tt
first_is number t n at (d ∷ ds) =
    first_by number t (bytes_eq d.name n) at d (definition_named n ds) (first_named n (defined_from number t (suc at) ds)) (first_is number t n (suc at) ds)

-- the first of a name has it
named_by : (n : List ℕ) (d : Definition) (o : Option Definition) (b : Bool) → bytes_eq d.name n ≡ b → IfSome o (λ e. e.name ≡ n) → IfSome (cond b (Some d) o) (λ e. e.name ≡ n)
named_by n d o true is h = (bytes_eq-Decides d.name n).0 is
named_by n d o false is h = h

named_first : (n : List ℕ) (ds : List Definition) → IfSome (definition_named n ds) (λ d. d.name ≡ n)
named_first n [] = tt
named_first n (d ∷ ds) = named_by n d (definition_named n ds) (bytes_eq d.name n) refl (named_first n ds)

module _ (file : List ℕ) (number : ℕ) where
  alike_itself : (o : Option KnownVal) → AreAlikeButIfAny file number o o
  alike_itself None = tt
  alike_itself (Some k) = record { name = refl; arguments = refl; rest = refl; same_file = refl; span = inr refl; own = refl; shows_body = refl }

  or_alike : (a b c d : Option KnownVal) → AreAlikeButIfAny file number a b → AreAlikeButIfAny file number c d → AreAlikeButIfAny file number (or_else a c) (or_else b d)
  or_alike None None c d h g = g
  or_alike (Some k) (Some j) c d h g = h
  or_alike None (Some j) c d h g = absurd h
  or_alike (Some k) None c d h g = absurd h

  module _ (t u : Template) (old : string_bytes t.file ≡ file) (now : string_bytes u.file ≡ file) where
    -- of definitions of this name
    heads_alike : (n : List ℕ) (m : ℕ) (o p : Option Definition) (r s : Option KnownVal) → IfSome o (λ d. d.name ≡ n) → IsFirst m t o r → IsFirst m u p s → HaveOneHeadIfAny o p → shows_in t n ≡ shows_in u n
        → AreAlikeButIfAny file number r s
    heads_alike n m None None None None name a b h shows = tt
    heads_alike n m None None None (Some j) name a b h shows = absurd b
    heads_alike n m None None (Some k) s name a b h shows = absurd a
    heads_alike n m None (Some e) r s name a b h shows = absurd h
    heads_alike n m (Some d) None r s name a b h shows = absurd h
    heads_alike n m (Some d) (Some e) None s name a b h shows = absurd a
    heads_alike n m (Some d) (Some e) (Some k) None name a b h shows = absurd b
    heads_alike n m (Some d) (Some e) (Some k) (Some j) name (at, is) (bt, js) h shows =
        let both : shows_in t d.name ≡ shows_in u e.name = ap (shows_in t) name ∙ shows ∙ ap (shows_in u) (sym name ∙ h.name) in
        let made : AreAlikeBut file number (known_at m t at d) (known_at m u bt e) =
        record { name = h.name; arguments = h.arguments; rest = h.rest; same_file = old ∙ sym now; span = inl old; own = refl; shows_body = both } in
        subst (λ x. AreAlikeBut file number x j) (sym is) (subst (λ y. AreAlikeBut file number (known_at m t at d) y) (sym js) made)

    pub template_alike : (n : List ℕ) → HaveOneHeadIn n t u
        → (m : ℕ) → AreAlikeButIfAny file number (first_named n (defined_in m t)) (first_named n (defined_in m u))
    template_alike n h m =
        heads_alike n m _ _ _ _ (named_first n (definitions_of t)) (first_is m t n 0 (definitions_of t)) (first_is m u n 0 (definitions_of u)) h.0 h.1

  -- under a name, by all templates
  pub all_alike : (n : List ℕ) (u d : Template) (from : ℕ) (ts : List Template) (i : ℕ) → i < length ts
      → ((m : ℕ) → AreAlikeButIfAny file number (first_named n (defined_in m (get_or ts i d))) (first_named n (defined_in m u)))
      → AreAlikeButIfAny file number (first_named n (defined_by from ts)) (first_named n (defined_by from (set ts i u)))
  all_alike n u d from [] i within h = absurd (omega arith)
  all_alike n u d from (t ∷ ts) zero within h =
      rw (named_append n (defined_in from t) (defined_by (suc from) ts), named_append n (defined_in from u) (defined_by (suc from) ts))
      (or_alike (first_named n (defined_in from t)) (first_named n (defined_in from u)) _ _ (h from) (alike_itself (first_named n (defined_by (suc from) ts))))
  all_alike n u d from (t ∷ ts) (suc i) within h =
      rw (named_append n (defined_in from t) (defined_by (suc from) ts), named_append n (defined_in from t) (defined_by (suc from) (set ts i u)))
      (or_alike (first_named n (defined_in from t)) (first_named n (defined_in from t)) _ _ (alike_itself (first_named n (defined_in from t))) (all_alike n u d (suc from) ts i (omega arith) h))
