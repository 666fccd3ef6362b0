-- Reading what is outermost, from tokens alone.
use Rattle.std.specs.Prelude.{Bool, false, Option, Some, None}
use Rattle.tera_lexer.specs.grammar.Tokens.{Items}
use Rattle.tera_base.specs.Values as values
use Rattle.tera_grammar.specs.expressions.Marks.{LeftParen, LeftBracket, LeftBrace}
use Rattle.tera_grammar.specs.expressions.Concrete.{Tree, Atomic, Array, Row, Attributes, of_entries}
use Rattle.tera_grammar.specs.Limits.{Limits}
use Rattle.tera_grammar.specs.expressions.Companions.{Opened, Filtering, Path, array_value, map_value}
use Rattle.tera_grammar.specs.Options.{◌>>=◌}
use Rattle.tera_grammar.specs.expressions.Reading.Front.{Place, at}
use Rattle.tera_grammar.proofs.plain.expressions.Reading.Front.{Reads, skip, name_of}
use Rattle.tera_grammar.proofs.plain.expressions.Reading.Bracketed.{Reader, row_of, arguments_of, args_of, attributes_of, dotted_of}
use Rattle.tera_grammar.proofs.plain.expressions.Reading.Atoms.{array_of}
use Rattle.tera_grammar.proofs.plain.expressions.Reading.Loop.{expr, fresh}
use Rattle.tera_grammar.specs.expressions.Reading.Whole.{widest}

-- each value is read with all limits
abbrev pub outermost : Limits → Reader
outermost limits = fresh limits.links (expr limits.depth)

-- what is read, and the tokens after it
abbrev pub left_over : {A : Type 0} → Reads A → Option (A × Items)
left_over None = None
left_over (Some x) = Some (x.0, x.1.tokens)

unfoldable pub expression_of : Limits → Bool → Items → Option (Tree × Items)
expression_of limits l items = left_over (expr limits.depth (widest limits l) 0 (at limits.links items))

unfoldable pub kwargs_of : Limits → Bool → Items → Option (Opened × Items)
kwargs_of limits l items =
    left_over (skip LeftParen (at 0 items) >>= λ s. arguments_of (outermost limits) (widest limits l) s.1 >>= λ r. Some
    (record { mark = s.0; row = r.0 }, r.1))

unfoldable pub filter_of : Limits → Bool → Items → Option (Filtering × Items)
filter_of limits l items =
    left_over (name_of (at 0 items) >>= λ n. args_of (outermost limits) (widest limits l) n.1 >>= λ g. Some
    (record { name = n.0; args = g.0 }, g.1))

unfoldable pub all_attributes : Limits → Bool → Items → Option (Attributes × Items)
all_attributes limits l items = left_over (attributes_of (outermost limits) (widest limits l) (at 0 items))

unfoldable pub path_of : Items → Option (Path × Items)
path_of items = left_over (name_of (at 0 items) >>= λ n. dotted_of n.1 >>= λ ds. Some (record { name = n.0; further = ds.0 }, ds.1))

-- a value with what it was read from
abbrev pub with_array : Opened → Place → Option values.Vals → Reads (Opened × values.Vals)
with_array x q None = None
with_array x q (Some vs) = Some ((x, vs), q)

abbrev pub with_map : Opened → Place → Option values.Pairs → Reads (Opened × values.Pairs)
with_map x q None = None
with_map x q (Some ps) = Some ((x, ps), q)

-- the row of an array; a comprehension has none
abbrev pub row_if_array : Tree → Option Row
row_if_array (Atomic (Array s row)) = Some row
row_if_array e = None

-- A comprehension is read too, and refused after it.
unfoldable pub literal_array_of : Limits → Items → Option ((Opened × values.Vals) × Items)
literal_array_of limits items =
    left_over (skip LeftBracket (at 0 items) >>= λ s. array_of (outermost limits) (widest limits false) s.0 s.1 >>= λ e.
    row_if_array e.0 >>= λ r.
    with_array (record { mark = s.0; row = r }) e.1 (array_value (record { mark = s.0; row = r })))

unfoldable pub literal_map_of : Limits → Items → Option ((Opened × values.Pairs) × Items)
literal_map_of limits items =
    left_over (skip LeftBrace (at 0 items) >>= λ s. row_of (outermost limits) (widest limits false) of_entries s.1 >>= λ r.
    with_map (record { mark = s.0; row = r.0 }) r.1 (map_value (record { mark = s.0; row = r.0 })))
