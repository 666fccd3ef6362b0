-- The tree of a template, or of what it is read as, with its faults, as JSON.
use Rattle.std.specs.Prelude.{◌≡◌, ℕ, Bool, true, false, List, [], ◌∷◌, ◌++◌, Option, None, Some, Result, Ok, Err, codes, map, option_map, string_bytes}
use Rattle.std.specs.List.{flat_map}
use Rattle.json.specs.Print.{print}
use Rattle.json.specs.Token.{Token, begin_object, end_object, key, boolean, null}
use Rattle.json.specs.Tree.{json_tokens}
use Rattle.tera_base.specs.declared.errors.Error.{Error}
use Rattle.tera_templates.specs.FaultFindings.{AreFaultsOf}
use Rattle.tera_findings.specs.Findings.{FindingVal, finding_view}
use Rattle.tera_templates.specs.Templates.{tree_of}
use Rattle.tera_findings.specs.Objects.{object_of}
use Rattle.tera_check.specs.OrderAndStatus.{IsInOrder}
use Rattle.tera_findings.specs.declared.finding.Finding.{Finding}
use Rattle.tera_templates.specs.declared.mended.Mended.{Mended}
use Rattle.tera_templates.specs.declared.templates.Template.{Template}
use Rattle.tera_tree.specs.Outputs.{output_view}
use Rattle.tera_tree.specs.Tree.{Output}
use Rattle.tera_tree.specs.declared.outputs.ParserOutput.{ParserOutput}
use Rattle.tera_tree_json.specs.TreeJson.{output_json}
use Rattle.tera_report.specs.Logs.{array_member}

-- whether a template has more faults than are known: only its first fault was looked for, or the work was cut short
abbrev pub has_more_by : Result ParserOutput Error → Option Mended → Bool
has_more_by (Ok output) mended = false
has_more_by (Err error) None = true
has_more_by (Err error) (Some mended) = mended.cut

abbrev pub has_more : Template → Bool
has_more template = has_more_by template.parsed template.mended

-- the tokens of a tree, or of its absence
abbrev pub tree_tokens : Option Output → List Token
tree_tokens None = null ∷ []
tree_tokens (Some output) = json_tokens (output_json output)

-- the findings of faults in a file
abbrev pub faults_member : List ℕ → List FindingVal → List Token
faults_member file faults = array_member (codes "faults") (flat_map (object_of file) faults)

-- an object with a tree, the faults in a file, and whether there are more
unfoldable pub tree_object : List ℕ → Option Output → List FindingVal → Bool → List Token
tree_object file tree faults more =
    begin_object ∷ key (codes "tree") ∷ (tree_tokens tree
    ++ (faults_member file faults ++ (key (codes "more") ∷ boolean more ∷ end_object ∷ [])))

-- a line of JSON: the tree of a template, if there is one, its faults in the order of their places, and whether there
-- are more
pub record IsTreeLine (template : Template) (text : List ℕ) : Type 0 where
  pub faults : List Finding
  pub in_order : IsInOrder faults
  pub are : AreFaultsOf template (map finding_view faults)
  pub is : text
      ≡ print (tree_object (string_bytes template.file) (option_map output_view (tree_of template)) (map finding_view faults) (has_more template))
      ++ 10 ∷ []
