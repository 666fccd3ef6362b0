-- What the items of a body add, as they are read.
use Rattle.std.specs.Prelude.{◌≡◌, Bool, List, map, Option, Some, Result, Ok, Err, string_bytes}
use Rattle.tera_base.specs.declared.errors.Error.{Error}
use Rattle.tera_lexer.specs.code.Cursors.{Position}
use Rattle.tera_ast.specs.View.{node_view}
use Rattle.tera_tree.specs.View.{definition_view}
use Rattle.tera_ast.specs.declared.ast.Node.{Node}
use Rattle.tera_grammar.specs.statements.Grammar.{Item, Path, Body, Branches, Else, in_loop}
use Rattle.tera_grammar.specs.statements.Output.{Adds, AddsNode, AddsParent, AddsDefinition, added_by, branch_output, else_output, output}
use Rattle.tera_grammar.specs.statements.TagParts.{Edge}
use Rattle.tera_grammar.specs.statements.Reading.{Place, at, Reads}
use Rattle.tera_grammar.specs.statements.Reading.Meeting.{Seen}
use Rattle.tera_statements.specs.Around.{Represents}
pub use Rattle.tera_tags.specs.Known.{seen_of}
use Rattle.tera_grammar.specs.Reads.{found, Fails}
use Rattle.tera_expect.specs.Taking.{GivesIn}
use Rattle.tera_statements.specs.declared.added.Added.{Added}
use Rattle.tera_statements.specs.declared.added.Added.TheVariants as added
use Rattle.tera_tags.specs.declared.names.Names.{Names}
use Rattle.tera_statements.specs.declared.around.Around.{Around}

abbrev pub added_view : Added → Adds
added_view (added.Node n) = AddsNode (node_view n)
added_view (added.Parent s) = AddsParent (string_bytes s)
added_view (added.Definition d) = AddsDefinition (definition_view d)

abbrev pub IsAdded : Bool → Added → Item → Type 0
IsAdded in_loop a i = added_view a ≡ added_by in_loop i

-- nodes that are a body, the branches of an `if`, or an `else`
abbrev pub IsBody : Bool → List Node → Body → Type 0
IsBody in_loop ns b = map node_view ns ≡ output in_loop b

abbrev pub AreBranches : Bool → List Node → Branches → Type 0
AreBranches in_loop ns bs = map node_view ns ≡ branch_output in_loop bs

abbrev pub IsElse : Bool → List Node → Else → Type 0
IsElse in_loop ns o = map node_view ns ≡ else_output in_loop o

-- the names so far, and the place where a reading is
abbrev pub here : Names → Position → Place
here n p = at (seen_of n) p.left

-- what is read comes with the place after it
abbrev pub GivesHere : {E T : Type 0} → (E → T → Type 0) → Result E Error → Place → Reads T → Type 0
GivesHere Is r q read = GivesIn Is r q q.tokens read

-- an item is read by a reading that knows what is around and where its tag starts
abbrev pub AddsBy : Around → Result Added Error → Place → (Path → Edge → Reads Item) → Type 0
AddsBy around r q read = (path : Path) → Represents path around → (start : Edge) → GivesHere (IsAdded (in_loop path)) r q (read path start)

-- likewise one that reads tokens alone
abbrev pub AddsAlone : Around → Result Added Error → Position → (Path → Edge → Seen → Reads Item) → Type 0
AddsAlone around r new read = (path : Path) → Represents path around → (start : Edge) (seen : Seen) → GivesHere (IsAdded (in_loop path)) r (at seen new.left) (read path start seen)

-- the item that comes next in a body
abbrev pub GivesItem : Bool → Result Added Error → Place → Reads (Option Item) → Type 0
GivesItem in_loop (Ok a) q read = (i : Item) × (read ≡ found (Some i, q)) × IsAdded in_loop a i
GivesItem in_loop (Err e) q read = Fails read q.tokens e
