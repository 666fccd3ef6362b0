-- Reading what is outermost, from tokens alone.
use Rattle.std.specs.Prelude.{Bool, false, Option, Some, None}
use Rattle.tera_lexer.specs.grammar.Tokens.{Items}
use Rattle.tera_base.specs.Values as values
use Rattle.tera_grammar.specs.expressions.Marks.{LeftParen, LeftBracket, LeftBrace}
use Rattle.tera_grammar.specs.expressions.Concrete.{Tree, Atomic, Array, Row, Attributes, of_entries}
use Rattle.tera_grammar.specs.Limits.{Limits}
use Rattle.tera_grammar.specs.expressions.Companions.{Opened, Filtering, Path, array_value, map_value}
use Rattle.tera_grammar.specs.expressions.Reading.Front.{at, Reads, skip, name_of, takes}
use Rattle.tera_grammar.specs.expressions.Reading.Bracketed.{Reader, row_of, arguments_of, args_of, attributes_of, dotted_of}
use Rattle.tera_grammar.specs.expressions.Reading.Rooms.{Room, room}
use Rattle.tera_grammar.specs.expressions.Reading.Atoms.{array_of}
use Rattle.tera_grammar.specs.expressions.Reading.Loop.{expr, fresh}
use Rattle.tera_base.specs.declared.utils.Span.{Span}
use Rattle.tera_grammar.specs.Reads.{found, stopped, ◌>>=◌, given, Takes}

-- the room of an outermost expression
abbrev pub widest : Limits → Bool → Room
widest limits l = room l limits.subscripts limits.arrays

-- each value is read with all limits
abbrev pub outermost : Limits → Reader
outermost limits = fresh limits.links (expr limits.depth)

-- what is read, and the tokens after it
abbrev pub left_over : {A : Type 0} → Reads A → Takes A
left_over (stopped z) = stopped z
left_over (found x) = found (x.0, x.1.tokens)

unfoldable pub expression_of : Limits → Bool → Items → Takes Tree
expression_of limits l items = left_over (expr limits.depth (widest limits l) 0 (at limits.links items))

unfoldable pub kwargs_of : Limits → Bool → Items → Takes Opened
kwargs_of limits l items =
    left_over (skip LeftParen (at 0 items) >>= λ s. arguments_of (outermost limits) (widest limits l) s.1 >>= λ r. found
    (record { mark = s.0; row = r.0 }, r.1))

unfoldable pub filter_of : Limits → Bool → Items → Takes Filtering
filter_of limits l items =
    left_over (name_of (at 0 items) >>= λ n. args_of (outermost limits) (widest limits l) n.1 >>= λ g. found
    (record { name = n.0; args = g.0 }, g.1))

unfoldable pub all_attributes : Limits → Bool → Items → Takes Attributes
all_attributes limits l items = left_over (attributes_of (outermost limits) (widest limits l) (at 0 items))

unfoldable pub path_of : Items → Takes Path
path_of items = left_over (name_of (at 0 items) >>= λ n. dotted_of n.1 >>= λ ds. found (record { name = n.0; further = ds.0 }, ds.1))

-- a value with what it was read from
abbrev pub valued : {A : Type 0} → Opened → Option A → Option (Opened × A)
valued x None = None
valued x (Some v) = Some (x, v)

-- The row of an array, where the expression is one. A comprehension, which is read as well, is none.
abbrev pub row_if_array : Tree → Option Row
row_if_array (Atomic (Array s row)) = Some row
row_if_array e = None

abbrev pub array_if_constant : Span → Option Row → Option (Opened × values.Vals)
array_if_constant s None = None
array_if_constant s (Some row) = valued (record { mark = s; row = row }) (array_value (record { mark = s; row = row }))

abbrev pub map_if_constant : Span → Row → Option (Opened × values.Pairs)
map_if_constant s row = valued (record { mark = s; row = row }) (map_value (record { mark = s; row = row }))

-- After a bracket, and after a brace: what is not a constant is refused after it.
unfoldable pub array_after : Limits → Span → Items → Takes (Opened × values.Vals)
array_after limits s items =
    left_over (array_of (outermost limits) (widest limits false) s (at 0 items) >>= λ e.
    given e.1.tokens (array_if_constant s (row_if_array e.0)) >>= λ a. found (a, e.1))

unfoldable pub map_after : Limits → Span → Items → Takes (Opened × values.Pairs)
map_after limits s items =
    left_over (row_of (outermost limits) (widest limits false) of_entries (at 0 items) >>= λ r.
    given r.1.tokens (map_if_constant s r.0) >>= λ m. found (m, r.1))

unfoldable pub literal_array_of : Limits → Items → Takes (Opened × values.Vals)
literal_array_of limits items = takes LeftBracket items >>= λ s. array_after limits s.0 s.1

unfoldable pub literal_map_of : Limits → Items → Takes (Opened × values.Pairs)
literal_map_of limits items = takes LeftBrace items >>= λ s. map_after limits s.0 s.1
