-- What to do with a file that is formatted.
use Rattle.std.specs.Prelude.{◌≡◌, ◌≢◌, ℕ, List, Some, string_bytes}
use Rattle.tera_lexer.specs.grammar.Marks.{Marks}
use Rattle.tera_tree.specs.Tree.{Output}
use Rattle.tera_grammar.specs.Limits.{usual}
use Rattle.tera_grammar.specs.statements.Top.{Derives}
use Rattle.tera_layout.specs.Layout.{laid_out}
use Rattle.tera_alike.specs.Outputs.{placeless_output}
use Rattle.tera_jobs.specs.declared.plan.Plan.{Plan}
use Rattle.tera_jobs.specs.declared.plan.Plan.TheVariants.{Same, Layout}

-- the source is a template within the usual limits
abbrev pub IsTemplate : Marks → List ℕ → Type 0
IsTemplate m source = (tree : Output) × Derives usual m source tree

-- two sources are templates, whose trees are the same apart from places
abbrev pub AreOneTemplate : Marks → List ℕ → List ℕ → Type 0
AreOneTemplate m one other = (x : Output) × (y : Output)
    × Derives usual m one x × Derives usual m other y × (placeless_output x ≡ placeless_output y)

-- Nothing is to be done if the source is its own layout; or else its layout is to be written, another text that is the
-- same template.
abbrev pub IsPlan : Marks → List ℕ → Plan → Type 0
IsPlan m source Same = IsTemplate m source × (laid_out m source ≡ Some source)
IsPlan m source (Layout text) = (laid_out m source ≡ Some (string_bytes text))
    × (string_bytes text ≢ source) × AreOneTemplate m source (string_bytes text)
