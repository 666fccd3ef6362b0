-- Where the names are that a template defines: of a block its name, of a component the last part of its name, of a
-- parameter its name.
use Rattle.std.specs.Prelude.{ℕ, List, [], ◌∷◌, ◌++◌, map}
use Rattle.tera_grammar.specs.statements.Names.{Names}
use Rattle.tera_grammar.specs.statements.TagParts.{Name}
use Rattle.tera_grammar.specs.statements.Expressions.{ComponentName, component_text, component_span}
use Rattle.tera_grammar.specs.statements.Components.{Parameters, Closed, Rest, Final, More}
use Rattle.tera_grammar.specs.statements.Grammar.{Body, Done, Then, Item, Single, Block, Define, Capturing, For, If, Branches, Elif, Last, Else, NoElse, Otherwise}

-- The names of its blocks and those of its components, each with its place, in their order; and with the name of each
-- component those of its parameters.
pub record Places : Type 0 where
  pub blocks : List Name
  pub components : List Name
  pub parameters : List (List ℕ × List Name)

abbrev pub no_places : Places
no_places = record { blocks = []; components = []; parameters = [] }

abbrev pub block_placed : Name → Places
block_placed name = record { blocks = name ∷ []; components = []; parameters = [] }

-- the name of a component, with the place of its last part
abbrev pub placed_name : ComponentName → Name
placed_name name = record { text = component_text name; span = component_span name }

-- the names of parameters, that of the rest parameter among them
abbrev pub parameters_placed : Parameters → List Name
parameters_placed (Closed end) = []
parameters_placed (Rest dots n end) = n ∷ []
parameters_placed (Final p end) = p.name ∷ []
parameters_placed (More p comma ps) = p.name ∷ parameters_placed ps

abbrev pub component_placed : ComponentName → Parameters → Places
component_placed name ps = record {
  blocks = [];
  components = placed_name name ∷ [];
  parameters = (component_text name, parameters_placed ps) ∷ [];
}

infixr 50 ◌followed_by◌
abbrev pub ◌followed_by◌ : Places → Places → Places
a followed_by b = record {
  blocks = a.blocks ++ b.blocks;
  components = a.components ++ b.components;
  parameters = a.parameters ++ b.parameters;
}

-- the names alone, of blocks and of components
abbrev pub texts : List Name → List (List ℕ)
texts names = map (λ n. n.text) names

abbrev pub texts_of : Places → Names
texts_of p = record { blocks = texts p.blocks; components = texts p.components }

-- Those of a template: of what comes first, and of what comes then.
abbrev mutual
  pub places : Body → Places
  places Done = no_places
  places (Then i b) = item_places i followed_by places b

  pub item_places : Item → Places
  item_places (Single p) = no_places
  item_places (Block t n b e m) = block_placed n followed_by places b
  item_places (Define h b) = component_placed h.name h.parameters followed_by places b
  item_places (Capturing c b) = places b
  item_places (For t lp b o e) = places b followed_by else_places o
  item_places (If t c b bs e) = places b followed_by branch_places bs

  pub branch_places : Branches → Places
  branch_places (Elif t c b bs) = places b followed_by branch_places bs
  branch_places (Last o) = else_places o

  pub else_places : Else → Places
  else_places NoElse = no_places
  else_places (Otherwise t b) = places b
