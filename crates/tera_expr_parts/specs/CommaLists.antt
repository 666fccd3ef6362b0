-- What is between brackets, parted by commas.
use Rattle.std.specs.Prelude.{◌≡◌, ◌⊎◌, ℕ, Bool, true, false, ◌||◌, cond, List, Option, Some, None, Result, Ok, Err}
use Rattle.std.specs.Str.{bytes_eq}
use Rattle.tera_base.specs.Errors.{IsMemory}
use Rattle.tera_base.specs.declared.errors.Error.{Error}
use Rattle.tera_base.specs.declared.utils.Span.{Span}
use Rattle.tera_lexer.specs.code.Cursors.{Position}
use Rattle.tera_lexer.specs.grammar.Tokens.{Items}
use Rattle.tera_ast.specs.Tree as tree
use Rattle.tera_grammar.specs.expressions.Concrete.{Name}
use Rattle.tera_grammar.specs.expressions.Marks.{Mark, Comma}
use Rattle.tera_grammar.specs.Reads.{found, stopped, ◌>>=◌, Takes, StopsAt}
use Rattle.tera_grammar.specs.expressions.Reading.Front.{takes, taken_name}
use Rattle.tera_grammar.specs.expressions.Reading.Bracketed.{Reader}
use Rattle.tera_grammar.specs.expressions.Reading.Loop.{expr, fresh}
use Rattle.tera_expr_parts.specs.declared.rows.Values.{Values}

-- how the values of a row are read: with the links of the whole, or each with links of its own
abbrev pub reader_by : ℕ → Option ℕ → Reader
reader_by d None = expr d
reader_by d (Some n) = fresh n (expr d)

abbrev pub reader_of : Values → Reader
reader_of v = reader_by v.depth v.own

-- After an element the row ends, at once or after a comma; or another element comes after a comma.
abbrev pub EndsAt : Mark → Items → Position → Type 0
EndsAt end old new = takes end old ≡ found (new.span, new.left)

abbrev pub Continues : Mark → Items → Position → Result Bool Error → Type 0
Continues end old new (Ok true) = (s : Span) × (takes Comma old ≡ found (s, new.left)) × (takes end new.left ≡ stopped new.left)
Continues end old new (Ok false) =
    EndsAt end old new ⊎ ((s : Span) × (us : Items) × (takes Comma old ≡ found (s, us)) × EndsAt end us new)
Continues end old new (Err e) = IsMemory e ⊎ ((takes Comma old ≡ stopped old) × StopsAt (takes end old) new.left)

-- whether an argument has this name, and a name that none of them has
abbrev pub has_argument : List ℕ → tree.Args → Bool
has_argument n tree.NoArgs = false
has_argument n (tree.Arg m e rest) = bytes_eq n m || has_argument n rest

abbrev pub new_name_at : tree.Args → Items → Takes Name
new_name_at args items = taken_name items >>= λ n. cond (has_argument n.0.text args) (stopped n.1) (found n)
