-- The first syntax errors of documents that have other markers, one document after another.
use Rattle.std.proofs.Common.{◌≡◌, ◌∙◌, ◌++◌, ◌∷◌, [], ◌⊎◌, inl, inr, ℕ, List, Bool, true, false, cond, map, String, Vec, Option, None, Some, option_map, refl, sym, ap, subst}
use Rattle.std.proofs.lemmas.Bool.{false≢true}
use Rattle.std.proofs.lemmas.Slice.Eq.{bytes_eq-Decides}
use Rattle.std.specs.Prelude.{MatchOption, unwrap_or}
use Rattle.std.specs.BTreeMap.{BTreeMap, get_by_text}
use Rattle.std.specs.Str.{bytes_eq}
use Rattle.std.specs.declared.alloc.Global.{Global}
use Rattle.tera_lexer.specs.grammar.Marks.{Marks}
use Rattle.tera_workspace.specs.Between.{IsFaultOfName}
use Rattle.tera_workspace.specs.Diagnostics.{DiagnosticVal, diagnostic_view}
use Rattle.tera_workspace.specs.Names.{is_among}
use Rattle.tera_workspace.specs.declared.diagnostics.Diagnostic.{Diagnostic}
use Rattle.tera_workspace.specs.declared.workspace.Workspace.{Workspace}
use Rattle.tera_server.specs.Between.{AreFaultsFor, Faults, faults_in}
use Rattle.tera_editor.specs.Settings.{markers_for}
use Rattle.tera_editor.specs.declared.settings.Settings.{Settings}
use Rattle.tera_editor.proofs.SiteLemmas.{among_either, is_head}
use Rattle.tera_editor.proofs.TextMaps.{Updates, seen_after}

-- what a map has where it has nothing, or what was put there
pub found_after : (b : Bool) (ds : List DiagnosticVal) (o : Option (List DiagnosticVal)) → unwrap_or (cond b (Some ds) o) [] ≡ cond b ds (unwrap_or o [])
found_after true ds o = refl
found_after false ds o = refl

abbrev found_in : Vec Diagnostic Global → List DiagnosticVal
found_in v = map diagnostic_view v.items

abbrev pub Found : Type 0
Found = BTreeMap (String Global) (Vec Diagnostic Global)

pub found_put : (name : List ℕ) (m n : Found) (v : Vec Diagnostic Global) → Updates name m n (Some v)
    → (q : List ℕ) → faults_in (record { found = n }) q ≡ cond (bytes_eq name q) (map diagnostic_view v.items) (faults_in (record { found = m }) q)
found_put name m n v h q =
    ap (λ (o : Option (List DiagnosticVal)). unwrap_or o []) (seen_after found_in name m n (Some v) h q)
    ∙ found_after (bytes_eq name q) (found_in v) (option_map found_in (get_by_text m q))

some_none : (m : Marks) → Some m ≡ None → ⊥
some_none m e = cc

module _ (s : Settings) (folders : List (List ℕ)) (w : Workspace) where
  -- of one document
  abbrev IsFor : Faults → List (List ℕ) → List ℕ → Option Marks → Type 0
  IsFor faults names n o = MatchOption o (faults n ≡ []) (λ m. is_among n names ≡ true → IsFaultOfName w m n (faults n))

  pub none_found : (faults : Faults) → ((n : List ℕ) → faults n ≡ []) → AreFaultsFor s folders w [] faults
  none_found faults none n = by (markers_for s folders n)
    where
      by : (o : Option Marks) → IsFor faults [] n o
      by None = none n
      by (Some m) = λ among. absurd (cc)

  -- those of fewer documents
  pub of_fewer : (names some : List (List ℕ)) (faults : Faults) → ((n : List ℕ) → is_among n some ≡ true → is_among n names ≡ true) → AreFaultsFor s folders w names faults → AreFaultsFor s folders w some faults
  of_fewer names some faults within are n = by (markers_for s folders n) (are n)
    where
      by : (o : Option Marks) → IsFor faults names n o → IsFor faults some n o
      by None h = h
      by (Some m) h = λ among. h (within n among)

  -- a document more, with the usual markers
  pub next_usual : (before : List (List ℕ)) (name : List ℕ) (faults : Faults) → markers_for s folders name ≡ None → AreFaultsFor s folders w before faults → AreFaultsFor s folders w (before ++ name ∷ []) faults
  next_usual before name faults usual are n = by (markers_for s folders n) refl (are n)
    where
      by : (o : Option Marks) → markers_for s folders n ≡ o → IsFor faults before n o → IsFor faults (before ++ name ∷ []) n o
      by None is h = h
      by (Some m) is h = λ among. elim (among_either n before (name ∷ []) among) [
        | inl e ↦ h e
        | inr e ↦ absurd (some_none m (sym is ∙ sym (ap (markers_for s folders) ((bytes_eq-Decides name n).0 (is_head n name e))) ∙ usual))
      ]

  -- .. or with others
  pub next_found : (before : List (List ℕ)) (name : List ℕ) (m : Marks) (old now : Faults) (ds : List DiagnosticVal) → markers_for s folders name ≡ Some m → IsFaultOfName w m name ds
      → ((n : List ℕ) → now n ≡ cond (bytes_eq name n) ds (old n)) → AreFaultsFor s folders w before old → AreFaultsFor s folders w (before ++ name ∷ []) now
  next_found before name m old now ds others is then_is are n = by (bytes_eq name n) refl (then_is n)
    where
      by : (b : Bool) → bytes_eq name n ≡ b → now n ≡ cond b ds (old n) → IsFor now (before ++ name ∷ []) n (markers_for s folders n)
      by true same e =
          let at : name ≡ n = (bytes_eq-Decides name n).0 same in
          subst (IsFor now (before ++ name ∷ []) n) (sym others ∙ ap (markers_for s folders) at)
          (λ among. subst (IsFaultOfName w m n) (sym e) (subst (λ k. IsFaultOfName w m k ds) at is))
      by false differs e = rest (markers_for s folders n) (are n)
        where
          rest : (o : Option Marks) → IsFor old before n o → IsFor now (before ++ name ∷ []) n o
          rest None h = e ∙ h
          rest (Some x) h = λ among. subst (IsFaultOfName w x n) (sym e) (elim (among_either n before (name ∷ []) among) [
            | inl here ↦ h here
            | inr here ↦ absurd (false≢true (sym differs ∙ is_head n name here))
          ])
