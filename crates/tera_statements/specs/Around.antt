-- What is around a statement.
use Rattle.std.specs.Prelude.{◌≡◌, Bool, true, false, cond, is_none}
use Rattle.tera_grammar.specs.statements.Grammar as grammar
use Rattle.tera_grammar.specs.statements.Grammar.{Path, may_block, may_break, in_loop, is_outermost}
use Rattle.tera_grammar.specs.statements.Reading.Meeting.{Located, nothing_located}
use Rattle.tera_tags.specs.Known.{located_of}
use Rattle.tera_statements.specs.declared.around.Around.{Around}
use Rattle.tera_statements.specs.declared.around.Breaks.{Breaks}
use Rattle.tera_statements.specs.declared.around.Breaks.TheVariants as breaks
use Rattle.tera_statements.specs.declared.around.Context.{Context}
use Rattle.tera_statements.specs.declared.around.Context.TheVariants.{Loop, LoopElse, Block, Condition, Definition, Set, Filter, Call}
use Rattle.tera_tags.specs.declared.names.Names.{Names}

abbrev pub context_of : Context → grammar.Context
context_of Loop = grammar.InFor
context_of LoopElse = grammar.InForElse
context_of Block = grammar.InBlock
context_of Condition = grammar.InIf
context_of Definition = grammar.InComponent
context_of Set = grammar.InCapture
context_of Filter = grammar.InCapture
context_of Call = grammar.InCapture

abbrev pub is_loop : Context → Bool
is_loop Loop = true
is_loop c = false

-- whether `break` and `continue` may be there
abbrev pub holds_breaks : Breaks → Bool
holds_breaks breaks.Nothing = false
holds_breaks breaks.Loop = true
holds_breaks (breaks.Capture opening) = false

-- these contexts are around, the innermost first
pub record Represents (path : Path) (a : Around) : Type 0 where
  pub outermost : is_none a.innermost ≡ is_outermost path
  pub block : is_none a.barrier ≡ may_block path
  pub breaks : holds_breaks a.breaks ≡ may_break path
  pub loop : a.in_loop ≡ in_loop path

-- the components that a statement may define again: at the top level those of the template so far, and elsewhere none
abbrev pub known_at : Around → Names → Located
known_at around names = cond (is_none around.innermost) (located_of names.components) nothing_located
