-- The rule `repeated-key`: in a map that is not constant, a value whose key is written again after it.
use Rattle.std.specs.Prelude.{ℕ, List, []}
use Rattle.tera_ast.specs.Tree.{Map}
use Rattle.tera_tree.specs.Parts.{PartVal, ExpressionPart}
use Rattle.tera_findings.specs.Findings.{FindingVal}
use Rattle.tera_rules.specs.Repeated.{repeated_findings}
use Rattle.tera_rules.specs.declared.repeated.Holder.TheVariants as holders

abbrev pub repeated_keys : List ℕ → PartVal → List FindingVal
repeated_keys file (ExpressionPart (Map es span)) = repeated_findings holders.Map file es
repeated_keys file _ = []
