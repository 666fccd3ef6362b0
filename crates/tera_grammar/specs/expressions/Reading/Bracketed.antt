-- Reading what is between brackets, as functions on places. Each takes the reading of whole expressions as an argument.
use Rattle.std.specs.Prelude.{ℕ, zero, suc, Bool, cond, List, [], ◌∷◌, ◌++◌}
use Rattle.tera_base.specs.declared.utils.Span.{Span}
use Rattle.tera_lexer.specs.code.Cursors.{size}
use Rattle.tera_grammar.specs.expressions.Marks.{Mark, LeftParen, RightParen, RightBracket, LeftBrace, RightBrace, Comma, Colon, Dot, Spread, Assign}
use Rattle.tera_grammar.specs.expressions.Concrete.{Name, Quote, Kind, of_arguments, of_items, of_entries, closing, Tree, Links, no_links, field, item, Sub, index, slice, Part, absent, present, Extra, no_extra, extra, Row, ended, only, then, Element, plain, spread, pair, argument, Args, no_args, args, Dotted, no_dots, dots, Attributes, no_attributes, bare, quoted, valued, spreading}
use Rattle.tera_lexer.specs.grammar.Words.{is_one_of}
use Rattle.tera_grammar.specs.expressions.Conditions.{is_field_of}
use Rattle.tera_grammar.specs.expressions.Reading.Front.{Place, at, lowered, Link, no_link, jointed, bracketed, called, link_of, Reads, skip, name_of, literal_at, quote_at}
use Rattle.tera_lexer.specs.grammar.Tokens.{Items}
use Rattle.tera_grammar.specs.Reads.{Read, found, stopped, ◌>>=◌, given}
use Rattle.tera_grammar.specs.expressions.Reading.Rooms.{Room, inside_subscript}

-- A reader of whole expressions inside of some room, from a least power on.
abbrev pub Reader : Type 0
Reader = Room → ℕ → Place → Reads Tree

-- an expression after a mark of its own
abbrev pub extra_at : Reader → Room → ℕ → Place → Reads Span → Reads Extra
extra_at self w m p (stopped z) = found (no_extra, p)
extra_at self w m p (found x) = self w m x.1 >>= λ e. found (extra x.0 e.0, e.1)

unfoldable pub extra_of : Reader → Room → Mark → ℕ → Place → Reads Extra
extra_of self w c m p = extra_at self w m p (skip c p)

-- the end of a slice: none before `:` and `]`
abbrev pub part_at : Reader → Room → Place → Reads Span → Reads Span → Reads Part
part_at self w p (found x) y = found (absent, p)
part_at self w p (stopped z) (found y) = found (absent, p)
part_at self w p (stopped z) (stopped y) = self w 0 p >>= λ e. found (present e.0, e.1)

unfoldable pub part_of : Reader → Room → Place → Reads Part
part_of self w p = part_at self w p (skip Colon p) (skip RightBracket p)

unfoldable pub slice_of : Reader → Room → Part → Span → Place → Reads Sub
slice_of self w a s p =
    part_of self w p >>= λ b. extra_of self w Colon 0 b.1 >>= λ x. skip RightBracket x.1 >>= λ c. found (slice a s b.0 x.0 c.0, c.1)

abbrev pub index_at : Reader → Room → Tree → Place → Reads Span → Reads Sub
index_at self w e p (found x) = slice_of self w (present e) x.0 x.1
index_at self w e p (stopped z) = skip RightBracket p >>= λ c. found (index e c.0, c.1)

abbrev pub sub_at : Reader → Room → Place → Reads Span → Reads Sub
sub_at self w p (found x) = slice_of self w absent x.0 x.1
sub_at self w p (stopped z) = self w 0 p >>= λ e. index_at self w e.0 e.1 (skip Colon e.1)

unfoldable pub sub_of : Reader → Room → Place → Reads Sub
sub_of self w p = given p.tokens (inside_subscript w) >>= λ v. sub_at self v p (skip Colon p)

-- the elements of a row
abbrev pub spread_at : Reader → Room → Span → Place → Reads Element
spread_at self w s p = self w 0 p >>= λ e. found (spread s e.0, e.1)

abbrev pub item_at : Reader → Room → Place → Reads Span → Reads Element
item_at self w p (found x) = spread_at self w x.0 x.1
item_at self w p (stopped z) = self w 0 p >>= λ e. found (plain e.0, e.1)

abbrev pub entry_at : Reader → Room → Place → Reads Span → Reads Element
entry_at self w p (found x) = spread_at self w x.0 x.1
entry_at self w p (stopped z) = literal_at p >>= λ l. skip Colon l.1 >>= λ s. self w 0 s.1 >>= λ e. found
    (pair l.0.0 l.0.1 s.0 e.0, e.1)

-- an argument, after its name
abbrev pub argument_at : Reader → Room → Name → Place → Reads Element
argument_at self w n p = skip Assign p >>= λ s. self w 0 s.1 >>= λ e. found (argument n s.0 e.0, e.1)

unfoldable pub element_of : Reader → Room → Kind → Place → Reads Element
element_of self w of_arguments p = name_of p >>= λ n. argument_at self w n.0 n.1
element_of self w of_items p = item_at self w p (skip Spread p)
element_of self w of_entries p = entry_at self w p (skip Spread p)

-- what comes after an element: a comma and more, or the end
abbrev pub comma_at : (Place → Reads Row) → Kind → Element → Place → Reads Span → Reads Row
comma_at more k x p (found y) = more y.1 >>= λ r. found (then x y.0 r.0, r.1)
comma_at more k x p (stopped z) = skip (closing k) p >>= λ c. found (only x c.0, c.1)

unfoldable pub after_element : (Place → Reads Row) → Kind → Element → Place → Reads Row
after_element more k x p = comma_at more k x p (skip Comma p)

abbrev pub row_at : (Place → Reads Row) → Reader → Room → Kind → Place → Reads Span → Reads Row
row_at more self w k p (found x) = found (ended x.0, x.1)
row_at more self w k p (stopped z) = element_of self w k p >>= λ x. after_element more k x.0 x.1

-- The number bounds the elements. One more than the tokens is enough.
unfoldable pub row_by : ℕ → Reader → Room → Kind → Place → Reads Row
row_by zero self w k p = stopped p.tokens
row_by (suc n) self w k p = row_at (row_by n self w k) self w k p (skip (closing k) p)

unfoldable pub row_of : Reader → Room → Kind → Place → Reads Row
row_of self w k p = row_by (suc (size p.tokens)) self w k p

-- Arguments, each with a name that none before it has; `names` are those before. A name that comes again is refused
-- where it is, whatever follows.
abbrev pub new_argument : (List (List ℕ) → Place → Reads Row) → Reader → Room → List (List ℕ) → Name → Place → Bool → Reads Row
new_argument more self w names n p is_known =
    cond is_known (stopped p.tokens) (argument_at self w n p >>= λ x. after_element (more (names ++ n.text ∷ [])) of_arguments x.0 x.1)

abbrev pub arguments_at : (List (List ℕ) → Place → Reads Row) → Reader → Room → List (List ℕ) → Place → Reads Span → Reads Row
arguments_at more self w names p (found x) = found (ended x.0, x.1)
arguments_at more self w names p (stopped z) = name_of p >>= λ n. new_argument more self w names n.0 n.1 (is_one_of names n.0.text)

unfoldable pub arguments_by : ℕ → Reader → Room → List (List ℕ) → Place → Reads Row
arguments_by zero self w names p = stopped p.tokens
arguments_by (suc n) self w names p = arguments_at (arguments_by n self w) self w names p (skip RightParen p)

unfoldable pub arguments_of : Reader → Room → Place → Reads Row
arguments_of self w p = arguments_by (suc (size p.tokens)) self w [] p

abbrev pub args_at : Reader → Room → Place → Reads Span → Reads Args
args_at self w p (stopped z) = found (no_args, p)
args_at self w p (found x) = arguments_of self w x.1 >>= λ r. found (args x.0 r.0, r.1)

unfoldable pub args_of : Reader → Room → Place → Reads Args
args_of self w p = args_at self w p (skip LeftParen p)

-- one link more, where one may still come: reading stops before its first token
abbrev pub linked : Items → ℕ → Items → Read Place
linked before k us = given before (lowered k) >>= λ j. found (at j us)

-- the links of a chain, whose fields are those of a loop or not
abbrev pub links_at : (Place → Reads Links) → Reader → Room → Bool → Place → Link → Reads Links
links_at more self w c p no_link = found (no_links, p)
links_at more self w c p called = stopped p.tokens
links_at more self w c p (jointed d us) =
    linked p.tokens p.links us >>= λ q. name_of q >>= λ n. cond (is_field_of c n.0.text)
    (more n.1 >>= λ ls. found (field d n.0 ls.0, ls.1)) (stopped n.1.tokens)
links_at more self w c p (bracketed b us) =
    linked p.tokens p.links us >>= λ q. sub_of self w q >>= λ s. more s.1 >>= λ ls. found (item b s.0 ls.0, ls.1)

unfoldable pub links_by : ℕ → Reader → Room → Bool → Place → Reads Links
links_by zero self w c p = stopped p.tokens
links_by (suc n) self w c p = links_at (links_by n self w c) self w c p (link_of p.tokens)

unfoldable pub links_of : Reader → Room → Bool → Place → Reads Links
links_of self w c p = links_by (suc (size p.tokens)) self w c p

-- the further names of a component
abbrev pub dotted_at : (Place → Reads Dotted) → Place → Reads Span → Reads Dotted
dotted_at more p (stopped z) = found (no_dots, p)
dotted_at more p (found x) = name_of x.1 >>= λ n. more n.1 >>= λ ds. found (dots x.0 n.0 ds.0, ds.1)

unfoldable pub dotted_by : ℕ → Place → Reads Dotted
dotted_by zero p = stopped p.tokens
dotted_by (suc n) p = dotted_at (dotted_by n) p (skip Dot p)

unfoldable pub dotted_of : Place → Reads Dotted
dotted_of p = dotted_by (suc (size p.tokens)) p

-- the attributes of a component
abbrev pub value_at : (Place → Reads Attributes) → Reader → Room → Name → Span → Place → Reads (Quote × Span) → Reads Attributes
value_at more self w n s p (found x) = more x.1 >>= λ r. found (quoted n s x.0.0 x.0.1 r.0, r.1)
value_at more self w n s p (stopped z) =
    skip LeftBrace p >>= λ b. self w 0 b.1 >>= λ e. skip RightBrace e.1 >>= λ c. more c.1 >>= λ r. found
    (valued n s b.0 e.0 c.0 r.0, r.1)

abbrev pub named_at : (Place → Reads Attributes) → Reader → Room → Name → Place → Reads Span → Reads Attributes
named_at more self w n p (stopped z) = more p >>= λ r. found (bare n r.0, r.1)
named_at more self w n p (found x) = value_at more self w n x.0 x.1 (quote_at x.1)

abbrev pub attribute_at : (Place → Reads Attributes) → Reader → Room → Place → Reads Name → Reads Span → Reads Attributes
attribute_at more self w p (found n) b = named_at more self w n.0 n.1 (skip Assign n.1)
attribute_at more self w p (stopped z) (found b) =
    skip Spread b.1 >>= λ s. self w 0 s.1 >>= λ e. skip RightBrace e.1 >>= λ c. more c.1 >>= λ r. found
    (spreading b.0 s.0 e.0 c.0 r.0, r.1)
attribute_at more self w p (stopped z) (stopped y) = found (no_attributes, p)

unfoldable pub attributes_by : ℕ → Reader → Room → Place → Reads Attributes
attributes_by zero self w p = stopped p.tokens
attributes_by (suc n) self w p = attribute_at (attributes_by n self w) self w p (name_of p) (skip LeftBrace p)

unfoldable pub attributes_of : Reader → Room → Place → Reads Attributes
attributes_of self w p = attributes_by (suc (size p.tokens)) self w p
