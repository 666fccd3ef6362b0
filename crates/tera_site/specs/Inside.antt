-- Parts of a tree that are still to be taken, each with the name of the block around it.
use Rattle.std.specs.Prelude.{ℕ, List, [], ◌∷◌, ◌++◌}
use Rattle.std.specs.Option.{option_map}
use Rattle.tera_tree.specs.Parts.{parts_view}
use Rattle.tera_site.specs.Placed.{PlacedVal, all_placed}
use Rattle.tera_site.specs.declared.named.Inside.{Inside}

abbrev pub inside_parts : Inside → List PlacedVal
inside_parts s = all_placed (option_map (λ b. b.now) s.block) (parts_view s.parts.items)

-- the last first
abbrev pub to_come : List Inside → List PlacedVal
to_come [] = []
to_come (s ∷ ss) = to_come ss ++ inside_parts s
