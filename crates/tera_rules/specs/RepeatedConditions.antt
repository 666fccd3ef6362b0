-- The rule `repeated-condition`: in the chain of an `if` and its `elif`s, a condition that is the same as one before
-- it, apart from places.
use Rattle.std.specs.Prelude.{◌≡◌, ◌⊎◌, ℕ, List, [], ◌∷◌, Bool, true, false, if◌then◌else◌, Option, None, Some, String, codes, map, reverse}
use Rattle.std.specs.declared.alloc.Global.{Global}
use Rattle.std.specs.BTreeMap.{BTreeMap, get_by_text}
use Rattle.std.specs.Borrow.{Bor}
use Rattle.std.specs.List.{find}
use Rattle.std.specs.Option.{option_map, option_map_or}
use Rattle.std.specs.Str.{bytes_eq}
use Rattle.tera_ast.specs.Spans.{expr_span}
use Rattle.tera_ast.specs.Tree.{Expr, Stmt, If, Nodes, NoNodes, OneNode}
use Rattle.tera_ast.specs.View.{expression_view}
use Rattle.tera_ast.specs.declared.ast.Expression.{Expression}
use Rattle.tera_source.specs.Bodies.{has_body}
use Rattle.tera_source.specs.Contexts.{free}
use Rattle.tera_source.specs.Writing.{written}
use Rattle.tera_tree.specs.Parts.{PartVal, NodePart}
use Rattle.tera_findings.specs.Findings.{NoteOf, FindingVal, FindingOf}
use Rattle.tera_findings.specs.declared.finding.Kind.TheVariants as kinds
use Rattle.tera_rules.specs.declared.repeated_conditions.Chain.{Chain}

-- The source text of a condition. Expressions of a source have the same text exactly if they are the same apart from
-- places (`one_text` and `texts_tell_apart`, laws of `tera_source`). A call of a component with a body has none, and is
-- in no condition of a source.
abbrev pub condition_text : Expr → Option (List ℕ)
condition_text e = if has_body e then None else Some (written e free)

abbrev pub has_text : List ℕ → Expr → Bool
has_text text e = option_map_or (λ t. bytes_eq t text) (condition_text e) false

-- the first of some conditions that has this text, and the first that has the text of a condition
abbrev pub first_of_text : Option (List ℕ) → List Expr → Option Expr
first_of_text None es = None
first_of_text (Some text) es = find (has_text text) es

abbrev pub next_alike : Expr → List Expr → Option Expr
next_alike e es = first_of_text (condition_text e) es

-- the conditions of a chain: an `elif` is an `if` that is alone in the body for which the condition does not hold
abbrev pub conditions_in : Nodes → List Expr
conditions_in (OneNode (If e body other) NoNodes) = e ∷ conditions_in other
conditions_in _ = []

abbrev pub conditions_of : Stmt → List Expr
conditions_of (If e body other) = e ∷ conditions_in other
conditions_of _ = []

-- the finding, at the condition that comes later
abbrev pub again_condition_text : List ℕ
again_condition_text = codes "This condition is the same as one before it"

abbrev pub earlier_text : List ℕ
earlier_text = codes "the same condition"

abbrev pub repeated_condition : List ℕ → Expr → Expr → FindingVal
repeated_condition file e again =
    FindingOf kinds.RepeatedCondition (expr_span again) again_condition_text (NoteOf file (expr_span e) earlier_text ∷ [])

abbrev pub repeated_if : List ℕ → Expr → Option Expr → List FindingVal
repeated_if file e None = []
repeated_if file e (Some again) = repeated_condition file e again ∷ []

-- the finding for an `if` or an `elif`, where its condition comes again for the first time
abbrev pub repeated_conditions : List ℕ → PartVal → List FindingVal
repeated_conditions file (NodePart (If e body other)) = repeated_if file e (next_alike e (conditions_in other))
repeated_conditions file _ = []

-- the part is an `if`
abbrev pub is_choice : PartVal → Bool
is_choice (NodePart (If e body other)) = true
is_choice _ = false

-- ---- a walk over a tree, which takes the `if`s of a chain one after the other

-- for each condition the next one that is the same
abbrev pub nexts : List Expr → List (Option Expr)
nexts [] = []
nexts (e ∷ es) = next_alike e es ∷ nexts es

-- this for the conditions of a part that is an `if`; and for those after the first
abbrev pub nexts_of : PartVal → List (Option Expr)
nexts_of (NodePart n) = nexts (conditions_of n)
nexts_of _ = []

abbrev pub nexts_after : PartVal → List (Option Expr)
nexts_after (NodePart (If e body other)) = nexts (conditions_in other)
nexts_after _ = []

abbrev pub seen_if : Option (Bor Expression) → Option Expr
seen_if e = option_map (λ e. expression_view e.now) e

abbrev pub kept : Chain → List (Option Expr)
kept chain = reverse (map seen_if chain.nexts.items)

-- nothing is kept, or these
abbrev pub IsKept : List (Option Expr) → List (Option Expr) → Type 0
IsKept those these = (those ≡ []) ⊎ (those ≡ these)

-- this for the last of the parts that are still to be taken
abbrev pub nexts_first : List PartVal → List (Option Expr)
nexts_first [] = []
nexts_first (p ∷ ps) = nexts_of p

abbrev pub IsKeptFor : Chain → List PartVal → Type 0
IsKeptFor chain ps = IsKept (kept chain) (nexts_first (reverse ps))

-- what a map of conditions has under a text, if there is a text
abbrev pub under_text : BTreeMap (String Global) (Bor Expression) → List ℕ → Option Expr
under_text following text = seen_if (get_by_text following text)

abbrev pub under_text_if : BTreeMap (String Global) (Bor Expression) → Option (List ℕ) → Option Expr
under_text_if following None = None
under_text_if following (Some text) = under_text following text
