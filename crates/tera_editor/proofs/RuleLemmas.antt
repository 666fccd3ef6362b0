-- Rules of two lists.
use Rattle.std.proofs.Common.{◌≡◌, ◌∷◌, [], List, Bool, true, false, map, string_bytes, Option, None, Some, refl, ap, rules}
use Rattle.std.proofs.lemmas.Slice.Eq.{bytes_eq-Decides}
use Rattle.std.specs.Prelude.{◌&&◌}
use Rattle.std.specs.Option.{option_eq}
use Rattle.std.specs.Cmp.Lexicographic.{pointwise}
use Rattle.std.specs.Str.{bytes_eq}
use denote.Enum.Bare.{same_true}
use Rattle.tera_findings.specs.contracts.finding.Severity.{the_type as the_severities}
use Rattle.tera_findings.specs.contracts.finding.SeverityPartialEq.TheImpl as severity_test
use Rattle.tera_findings.specs.declared.finding.Severity.{Severity}
use Rattle.tera_editor.specs.Settings.{rule_view}
use Rattle.tera_editor.specs.contracts.settings.RuleSettingPartialEq.TheImpl as rule_test
use Rattle.tera_editor.specs.declared.settings.RuleSetting.{RuleSetting}

both_true : (a b : Bool) → (a && b) ≡ true → (a ≡ true) × (b ≡ true)
both_true true b is = (refl, is)
both_true false b is = absurd (cc)

abbrev severity_eq : Severity → Severity → Bool
severity_eq = (severity_test.ghosts).eq

abbrev rule_eq : RuleSetting → RuleSetting → Bool
rule_eq = (rule_test.ghosts).eq

same_level : (a b : Option Severity) → option_eq severity_eq a b ≡ true → a ≡ b
same_level None None is = refl
same_level None (Some y) is = absurd (cc)
same_level (Some x) None is = absurd (cc)
same_level (Some x) (Some y) is = ap Some (same_true the_severities (search rules) x y is)

-- the same, where they are equal one by one
pub same_rules : (xs ys : List RuleSetting) → pointwise rule_eq xs ys ≡ true → map rule_view xs ≡ map rule_view ys
same_rules [] [] is = refl
same_rules [] (y ∷ ys) is = absurd (cc)
same_rules (x ∷ xs) [] is = absurd (cc)
same_rules (x ∷ xs) (y ∷ ys) is =
    let (one, rest) = both_true (rule_eq x y) (pointwise rule_eq xs ys) is in
    let (name, level) = both_true (bytes_eq (string_bytes x.rule) (string_bytes y.rule)) (option_eq severity_eq x.level y.level) one in
    λ i. ((bytes_eq-Decides (string_bytes x.rule) (string_bytes y.rule)).0 name i, same_level x.level y.level level i) ∷ same_rules xs ys rest i
