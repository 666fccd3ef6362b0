-- The names that a reading has met. Of a parameter it asks only whether its name was met; of blocks and of components
-- it keeps where each is, and of a component where the names of its parameters are.
use Rattle.std.specs.Prelude.{ℕ, Bool, false, ◌||◌, cond, List, [], ◌∷◌, Option, Some, None, is_some}
use Rattle.std.specs.Str.{bytes_eq}
use Rattle.tera_base.specs.declared.utils.Span.{Span}
use Rattle.tera_grammar.specs.statements.TagParts.{Name}
use Rattle.tera_grammar.specs.statements.Places.{Places}

-- whether a name was met
abbrev pub Met : Type 0
Met = List ℕ → Bool

abbrev pub nothing_met : Met
nothing_met = λ name. false

-- one name more is met
abbrev pub meet : List ℕ → Met → Met
meet new met = λ name. bytes_eq new name || met name

-- where a name was met, if it was
abbrev pub Located : Type 0
Located = List ℕ → Option Span

abbrev pub nothing_located : Located
nothing_located = λ name. None

-- one name more is met, at its place
abbrev pub locate : Name → Located → Located
locate new located = λ name. cond (bytes_eq new.text name) (Some new.span) (located name)

-- more are met, one after another
abbrev pub locate_all : List Name → Located → Located
locate_all [] located = located
locate_all (name ∷ names) located = locate_all names (locate name located)

abbrev pub met : Located → Met
met located = λ name. is_some (located name)

-- of a component, if its name was met, where the names of its parameters were
abbrev pub Grouped : Type 0
Grouped = List ℕ → Option Located

abbrev pub nothing_grouped : Grouped
nothing_grouped = λ name. None

-- one component more is met, with its parameters
abbrev pub group : List ℕ → Located → Grouped → Grouped
group new parameters grouped = λ name. cond (bytes_eq new name) (Some parameters) (grouped name)

abbrev pub group_all : List (List ℕ × List Name) → Grouped → Grouped
group_all [] grouped = grouped
group_all (g ∷ gs) grouped = group_all gs (group g.0 (locate_all g.1 nothing_located) grouped)

-- of blocks, of components, and of the parameters of these
pub record Seen : Type 0 where
  pub blocks : Located
  pub components : Located
  pub parameters : Grouped

abbrev pub nothing_seen : Seen
nothing_seen = record { blocks = nothing_located; components = nothing_located; parameters = nothing_grouped }

infixl 50 ◌having◌
abbrev pub ◌having◌ : Seen → Places → Seen
seen having places = record {
  blocks = locate_all places.blocks seen.blocks;
  components = locate_all places.components seen.components;
  parameters = group_all places.parameters seen.parameters;
}
