-- What is due of the findings in a tree, by components that are known alike.
use Rattle.std.proofs.Common.{◌≡◌, ◌∙◌, ℕ, List, [], ◌++◌, map, Bool, true, Option, None, Some, MatchOption, refl, ap, subst}
use Rattle.std.specs.List.Sorted.{IsPermutation}
use Rattle.std.specs.Option.{option_map_or}
use Rattle.tera_tree.specs.Outputs.{output_view}
use Rattle.tera_tree.specs.declared.outputs.ParserOutput.{ParserOutput}
use Rattle.tera_check.specs.Alike.{names_in, AreAlikeIfAny, AgreeOn}
use Rattle.tera_check.specs.Due.{due_among, due_findings}
use Rattle.tera_templates.specs.FaultFindings.{AreFaultsOf}
use Rattle.tera_findings.specs.Findings.{FindingVal, finding_view}
use Rattle.tera_rules.specs.Judged.{KnownVal}
use Rattle.tera_templates.specs.Lost.{are_open}
use Rattle.tera_check.specs.Named.{tree_findings, first_named, defined_by}
use Rattle.tera_templates.specs.Templates.{tree_of}
use Rattle.tera_check.specs.OrderAndStatus.{IsInOrder}
use Rattle.tera_findings.specs.declared.finding.Finding.{Finding}
use Rattle.tera_templates.specs.declared.templates.Template.{Template}
use Rattle.tera_check.proofs.AlikeLemmas.{tree_alike}
use Rattle.tera_workspace.specs.Fresh.{IsFound}
use Rattle.tera_workspace.specs.Kept.{HasNames}
use Rattle.tera_workspace.specs.Names.{is_among}
use Rattle.tera_workspace.proofs.NameSets.{all_among}

-- of the tree that there is, if any
abbrev pub due_in : (List ℕ → Option KnownVal) → Bool → ℕ → Template → Option ParserOutput → List FindingVal
due_in known open_text number t r = option_map_or (λ o. due_among open_text t (tree_findings known number t (output_view o))) r []

pub due_alike : (number other : ℕ) (known others : List ℕ → Option KnownVal) (open_text : Bool) (t : Template) (r : Option ParserOutput)
    → MatchOption r (Unit {0}) (λ o. AgreeOn (names_in (output_view o)) number other known others)
    → due_in known open_text number t r ≡ due_in others open_text other t r
due_alike number other known others open_text t None agree = refl
due_alike number other known others open_text t (Some o) agree =
    ap (due_among open_text t) (tree_alike number other known others t (output_view o) agree)

-- what is due by other components, or by other texts that may define more
pub found_if : (ts us : List Template) (number other : ℕ) (t : Template) (fs : List Finding) (h : IsFound ts number t fs)
    → due_findings (λ n. first_named n (defined_by 0 ts)) (are_open ts) number t ≡ due_findings (λ n. first_named n (defined_by 0 us)) (are_open us) other t
    → IsFound us other t fs
found_if ts us number other t fs h same = record {
  ordered = h.ordered;
  faults = h.faults;
  are = h.are;
  found = subst (λ x. IsPermutation (h.faults ++ x) (map finding_view fs)) same h.found;
}

-- ---- by a part of the components

alike_itself : (number : ℕ) (o : Option KnownVal) → AreAlikeIfAny number number o o
alike_itself number None = tt
alike_itself number (Some k) = record { name = refl; arguments = refl; rest = refl; file = refl; span = refl; own = refl; shows_body = refl }

module _ (known : List ℕ → Option KnownVal) (ts : List Template) (number : ℕ) (names : List (List ℕ))
    (same : (n : List ℕ) → is_among n names ≡ true → known n ≡ first_named n (defined_by 0 ts)) where
  agree_part : (r : Option ParserOutput) → MatchOption r (Unit {0}) (λ o. names ≡ names_in (output_view o))
      → MatchOption r (Unit {0}) (λ o. AgreeOn (names_in (output_view o)) number number known (λ n. first_named n (defined_by 0 ts)))
  agree_part None has = tt
  agree_part (Some o) has =
      all_among (λ n. AreAlikeIfAny number number (known n) (first_named n (defined_by 0 ts))) (names_in (output_view o))
      (λ n among. subst (λ x. AreAlikeIfAny number number (known n) x) (same n (ap (is_among n) has ∙ among)) (alike_itself number (known n)))

pub found_here : (known : List ℕ → Option KnownVal) (open_text : Bool) (ts : List Template) (number : ℕ) (t : Template) (names : List (List ℕ)) (fs : List Finding)
    → ((n : List ℕ) → is_among n names ≡ true → known n ≡ first_named n (defined_by 0 ts))
    → open_text ≡ are_open ts → HasNames names t → IsInOrder fs
    → (faults : List FindingVal) → AreFaultsOf t faults → IsPermutation (faults ++ due_findings known open_text number t) (map finding_view fs)
    → IsFound ts number t fs
found_here known open_text ts number t names fs same is has ordered faults are found = record {
  ordered = ordered;
  faults = faults;
  are = are;
  found =
      subst (λ x. IsPermutation (faults ++ x) (map finding_view fs))
      (due_alike number number known (λ n. first_named n (defined_by 0 ts)) open_text t (tree_of t) (agree_part known ts number names same (tree_of t) has)
      ∙ ap (λ b. due_findings (λ n. first_named n (defined_by 0 ts)) b number t) is) found;
}
