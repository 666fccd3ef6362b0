-- Names that were met, each with where it is.
use Rattle.std.specs.Prelude.{◌≡◌, ℕ, List, Some}
use Rattle.std.specs.Option.{option_map}
use Rattle.std.specs.BTreeMap.{BTreeMap, get_by_text}
use Rattle.std.specs.declared.alloc.Global.{Global}
use Rattle.std.specs.declared.string.String.{String}
use Rattle.tera_base.specs.declared.utils.Span.{Span}
use Rattle.tera_lexer.specs.grammar.Tokens.{Items}
use Rattle.tera_grammar.specs.expressions.Concrete.{Name}
use Rattle.tera_grammar.specs.statements.Places.{Places}
use Rattle.tera_grammar.specs.statements.Reading.Meeting.{Grouped, Located, Met, Seen, locate, met, nothing_seen, ◌having◌}
use Rattle.tera_expect.specs.Notes.{Came}
use Rattle.tera_expect.specs.Taking.{name_in}
use Rattle.tera_tags.specs.declared.names.Names.{Names}

-- where a name that is kept is, if it is one of these
abbrev pub located_of : BTreeMap (String Global) Span → Located
located_of names = λ name. get_by_text names name

-- whether a name is one of them
abbrev pub met_of : BTreeMap (String Global) Span → Met
met_of names = met (located_of names)

-- each of the names came among the tokens, before these are left
abbrev pub CameBefore : Located → Items → Items → Type 0
CameBefore located left items = (name : List ℕ) (span : Span) → located name ≡ Some span → Came (name_in name span) left items

-- a name is kept, where it is
abbrev pub Keeps : BTreeMap (String Global) Span → BTreeMap (String Global) Span → Name → Type 0
Keeps old new n = located_of new ≡ locate n (located_of old)

-- of a component that is kept, where the names of its parameters are
abbrev pub grouped_of : BTreeMap (String Global) (BTreeMap (String Global) Span) → Grouped
grouped_of groups = λ name. option_map located_of (get_by_text groups name)

-- of blocks, of components, and of the parameters of these
abbrev pub seen_of : Names → Seen
seen_of n = record { blocks = located_of n.blocks; components = located_of n.components; parameters = grouped_of n.parameters }

-- these names are at these places, and there are no others
abbrev pub AreNames : Names → Places → Type 0
AreNames n places = seen_of n ≡ nothing_seen having places
