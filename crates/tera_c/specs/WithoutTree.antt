-- Why a source has no tree, as the code hands it on.
use Rattle.std.specs.Prelude.{◌≡◌, ℕ, List}
use Rattle.tera_base.specs.ErrorView.{report_view}
use Rattle.tera_lexer.specs.grammar.Marks.{Marks}
use Rattle.tera_tree.specs.Tree.{Output}
use Rattle.tera_grammar.specs.Limits.{Limits}
use Rattle.tera_grammar.specs.statements.Top.{Derives}
use Rattle.tera_c.specs.Results.{Reports, HasFault, HasNoResult}
use Rattle.tera_c.specs.declared.parsed.Refusal.{Refusal}
use Rattle.tera_c.specs.declared.parsed.Refusal.TheVariants.{Fault, NoResult}
use Rattle.tera_c.specs.declared.status.Status.TheVariants.{Memory}

-- a text is refused, between markers that can be read: it has no tree, as a report says, or an allocation failed
abbrev pub RefusesText : Limits → Marks → List ℕ → Refusal → Type 0
RefusesText l m source (Fault report) =
    ((output : Output) → Derives l m source output → ⊥) × Reports l m source (report_view report.value)
RefusesText l m source (NoResult status) = status ≡ Memory

-- what is asked is refused
abbrev pub RefusesAsked : Limits → List ℕ → List ℕ → Refusal → Type 0
RefusesAsked l markers source (Fault report) = HasFault l markers source (report_view report.value)
RefusesAsked l markers source (NoResult status) = HasNoResult l markers source status
