-- The tags of a component's definition, as they are read.
use Rattle.std.specs.Prelude.{◌≡◌, ℕ, not, List, Option}
use Rattle.tera_lexer.specs.grammar.Tokens.{Items}
use Rattle.tera_grammar.specs.Reads.{found, ◌>>=◌, holds, Takes}
use Rattle.tera_grammar.specs.statements.Components.{component_texts}
use Rattle.tera_grammar.specs.statements.Expressions.{ComponentName, component_text}
use Rattle.tera_grammar.specs.statements.Reading.Expressions.{component_of}
use Rattle.tera_grammar.specs.statements.Names.{agrees}
use Rattle.tera_grammar.specs.statements.Reading.Meeting.{Met, ◌having◌}
use Rattle.tera_grammar.specs.statements.Places.{component_placed}
use Rattle.tera_grammar.specs.statements.Reading.Components as reading
use Rattle.tera_grammar.specs.statements.Reading.Components.{end_name_in, is_name}
use Rattle.tera_tags.specs.Known.{seen_of}
use Rattle.tera_tags.specs.Parameters.{AreParameters, IsMetadata}
use Rattle.tera_tags.specs.Reading.{IsComponent}
use Rattle.tera_tags.specs.declared.components.Opened.{Opened}
use Rattle.tera_tags.specs.declared.names.Names.{Names}

-- the name of a component that was not met
abbrev pub new_component_of : Met → Items → Takes ComponentName
new_component_of seen items = component_of items >>= λ n. holds n.1 (not (seen (component_text n.0))) >>= λ u. found n

-- the component is kept: its name, and the names of its parameters
abbrev pub Defines : Names → Names → reading.Opened → Type 0
Defines old new x = seen_of new ≡ seen_of old having component_placed x.name x.parameters

-- what the opening tag says
abbrev pub IsOpened : Opened → reading.Opened → Type 0
IsOpened o x = IsComponent o.name x.name × AreParameters o.parameters x.parameters × IsMetadata o.metadata.entries x.metadata

-- the name at the end, if any, which has to be this one
abbrev pub agreeing_name : List ℕ → Items → Takes (Option ComponentName)
agreeing_name name items = end_name_in items (is_name items) >>= λ n. holds n.1 (agrees name (component_texts n.0)) >>= λ u. found n
