-- Files of which some are left out.
use Rattle.std.proofs.Common.{inl, inr, ◌≡◌, ◌++◌, ◌∷◌, [], ℕ, List, All, Bool, Contains, Err, IfOk, Ok, Option, Result, Some, map, rules, sym, subst}
use Rattle.std.specs.BTreeSet.{BTreeSet}
use Rattle.std.specs.Path.{PathStartsWith}
use Rattle.std.specs.Prelude.{◌↔◌, Any, IsTrue}
use Rattle.std.proofs.lemmas.List.{map-append}
use Rattle.std.proofs.lemmas.List.Elements.{All-push, All-weaker, Contains-append_left, Contains-push}
use Rattle.tera_program_parts.specs.Excluded.{AddsUnless, AreOfPaths, AreOutside, IsExcluded, Names, inside, no_more, outside}

-- a file is excluded, or is not, by the path by which it is known
pub by_known : {E : Type 0} (is : Result Bool E) (knows : List ℕ → Option (List ℕ) → Type 0) (paths : BTreeSet Names) (file path : List ℕ) → knows file (Some path)
    → IfOk is (λ below. (folders : List (List ℕ)) → AreOfPaths folders paths → IsTrue below ↔ Any (PathStartsWith path) folders) → IfOk is (IsExcluded knows paths file)
by_known (Ok is) knows paths file path known says = (Some path, known, says)
by_known (Err e) knows paths file path known says = tt

-- none was seen
pub seen_none : {X : Type 0} (IsOut : X → Bool → Type 0) (kept : List X) → kept ≡ [] → AreOutside IsOut [] kept
seen_none IsOut kept none = subst (AreOutside IsOut []) (sym none) no_more

-- one more was seen, and is left unless it is out
pub seen_next : {X : Type 0} (IsOut : X → Bool → Type 0) (seen kept now : List X) (x : X) → AreOutside IsOut seen kept → AddsUnless (IsOut x) x kept now →
    AreOutside IsOut (seen ++ x ∷ []) now
seen_next IsOut seen kept now x had is = elim is [
  | inl out ↦ subst (AreOutside IsOut (seen ++ x ∷ [])) (sym out.1) (inside x had out.0)
  | inr left ↦ subst (AreOutside IsOut (seen ++ x ∷ [])) (sym left.1) (outside x had left.0)
]

module _ {X : Type 0} (name : X → List ℕ) (IsOut : X → Bool → Type 0) where
  wider : (seen kept : List X) (x : X) → All (Contains (map name seen)) (map name kept) → All (Contains (map name (seen ++ x ∷ []))) (map name kept)
  wider seen kept x had =
      subst (λ ns. All (Contains ns) (map name kept)) (sym (map-append name seen (x ∷ [])))
      (All-weaker (Contains (map name seen)) (Contains (map name seen ++ name x ∷ [])) (λ n h. Contains-append_left (map name seen) (name x ∷ []) n h) (map name kept) had)

  seen_last : (seen : List X) (x : X) → Contains (map name (seen ++ x ∷ [])) (name x)
  seen_last seen x = subst (λ ns. Contains ns (name x)) (sym (map-append name seen (x ∷ []))) (Contains-push (map name seen) (name x))

  -- what is left was there before
  pub among : (seen kept : List X) → AreOutside IsOut seen kept → All (Contains (map name seen)) (map name kept)
  among _ _ no_more = search rules
  among _ _ (inside {xs} {left} x had out) = wider xs left x (among xs left had)
  among _ _ (outside {xs} {left} x had out) =
      subst (All (Contains (map name (xs ++ x ∷ [])))) (sym (map-append name left (x ∷ [])))
      (All-push (Contains (map name (xs ++ x ∷ []))) (map name left) (name x) (wider xs left x (among xs left had)) (seen_last xs x))
