-- Reading what is between brackets, as functions on places. Each takes the reading of whole expressions as an argument.
use Rattle.std.specs.Prelude.{ℕ, zero, suc, Bool, cond, List, [], ◌∷◌, ◌++◌, Some, None}
use Rattle.tera_base.specs.declared.utils.Span.{Span}
use Rattle.tera_lexer.specs.code.Cursors.{size}
use Rattle.tera_grammar.specs.expressions.Marks.{Mark, LeftParen, RightParen, RightBracket, LeftBrace, RightBrace, Comma, Colon, Dot, Spread, Assign}
use Rattle.tera_grammar.specs.expressions.Concrete.{Name, Quote, Kind, of_arguments, of_items, of_entries, closing, Tree, Links, no_links, field, item, Sub, index, slice, Part, absent, present, Extra, no_extra, extra, Row, ended, only, then, Element, plain, spread, pair, argument, Args, no_args, args, Dotted, no_dots, dots, Attributes, no_attributes, bare, quoted, valued, spreading}
use Rattle.tera_lexer.specs.grammar.Words.{is_one_of}
use Rattle.tera_grammar.specs.expressions.Conditions.{is_field_of}
use Rattle.tera_grammar.specs.Options.{◌>>=◌}
use Rattle.tera_grammar.specs.expressions.Reading.Front.{Place, at, Link, no_link, jointed, bracketed, called, link_of}
use Rattle.tera_grammar.proofs.plain.expressions.Reading.Front.{Reads, skip, bump, name_of, literal_at, quote_at}
use Rattle.tera_grammar.specs.expressions.Reading.Rooms.{Room, inside_subscript}

-- A reader of whole expressions inside of some room, from a least power on.
abbrev pub Reader : Type 0
Reader = Room → ℕ → Place → Reads Tree

-- an expression after a mark of its own
abbrev pub extra_at : Reader → Room → ℕ → Place → Reads Span → Reads Extra
extra_at self w m p None = Some (no_extra, p)
extra_at self w m p (Some x) = self w m x.1 >>= λ e. Some (extra x.0 e.0, e.1)

unfoldable pub extra_of : Reader → Room → Mark → ℕ → Place → Reads Extra
extra_of self w c m p = extra_at self w m p (skip c p)

-- the end of a slice: none before `:` and `]`
abbrev pub part_at : Reader → Room → Place → Reads Span → Reads Span → Reads Part
part_at self w p (Some x) y = Some (absent, p)
part_at self w p None (Some y) = Some (absent, p)
part_at self w p None None = self w 0 p >>= λ e. Some (present e.0, e.1)

unfoldable pub part_of : Reader → Room → Place → Reads Part
part_of self w p = part_at self w p (skip Colon p) (skip RightBracket p)

unfoldable pub slice_of : Reader → Room → Part → Span → Place → Reads Sub
slice_of self w a s p =
    part_of self w p >>= λ b. extra_of self w Colon 0 b.1 >>= λ x. skip RightBracket x.1 >>= λ c. Some (slice a s b.0 x.0 c.0, c.1)

abbrev pub index_at : Reader → Room → Tree → Place → Reads Span → Reads Sub
index_at self w e p (Some x) = slice_of self w (present e) x.0 x.1
index_at self w e p None = skip RightBracket p >>= λ c. Some (index e c.0, c.1)

abbrev pub sub_at : Reader → Room → Place → Reads Span → Reads Sub
sub_at self w p (Some x) = slice_of self w absent x.0 x.1
sub_at self w p None = self w 0 p >>= λ e. index_at self w e.0 e.1 (skip Colon e.1)

unfoldable pub sub_of : Reader → Room → Place → Reads Sub
sub_of self w p = inside_subscript w >>= λ v. sub_at self v p (skip Colon p)

-- the elements of a row
abbrev pub spread_at : Reader → Room → Span → Place → Reads Element
spread_at self w s p = self w 0 p >>= λ e. Some (spread s e.0, e.1)

abbrev pub item_at : Reader → Room → Place → Reads Span → Reads Element
item_at self w p (Some x) = spread_at self w x.0 x.1
item_at self w p None = self w 0 p >>= λ e. Some (plain e.0, e.1)

abbrev pub entry_at : Reader → Room → Place → Reads Span → Reads Element
entry_at self w p (Some x) = spread_at self w x.0 x.1
entry_at self w p None = literal_at p >>= λ l. skip Colon l.1 >>= λ s. self w 0 s.1 >>= λ e. Some
    (pair l.0.0 l.0.1 s.0 e.0, e.1)

-- an argument, after its name
abbrev pub argument_at : Reader → Room → Name → Place → Reads Element
argument_at self w n p = skip Assign p >>= λ s. self w 0 s.1 >>= λ e. Some (argument n s.0 e.0, e.1)

unfoldable pub element_of : Reader → Room → Kind → Place → Reads Element
element_of self w of_arguments p = name_of p >>= λ n. argument_at self w n.0 n.1
element_of self w of_items p = item_at self w p (skip Spread p)
element_of self w of_entries p = entry_at self w p (skip Spread p)

-- what comes after an element: a comma and more, or the end
abbrev pub comma_at : (Place → Reads Row) → Kind → Element → Place → Reads Span → Reads Row
comma_at more k x p (Some y) = more y.1 >>= λ r. Some (then x y.0 r.0, r.1)
comma_at more k x p None = skip (closing k) p >>= λ c. Some (only x c.0, c.1)

unfoldable pub after_element : (Place → Reads Row) → Kind → Element → Place → Reads Row
after_element more k x p = comma_at more k x p (skip Comma p)

abbrev pub row_at : (Place → Reads Row) → Reader → Room → Kind → Place → Reads Span → Reads Row
row_at more self w k p (Some x) = Some (ended x.0, x.1)
row_at more self w k p None = element_of self w k p >>= λ x. after_element more k x.0 x.1

-- The number bounds the elements. One more than the tokens is enough.
unfoldable pub row_by : ℕ → Reader → Room → Kind → Place → Reads Row
row_by zero self w k p = None
row_by (suc n) self w k p = row_at (row_by n self w k) self w k p (skip (closing k) p)

unfoldable pub row_of : Reader → Room → Kind → Place → Reads Row
row_of self w k p = row_by (suc (size p.tokens)) self w k p

-- Arguments, each with a name that none before it has; `names` are those before. A name that comes again is refused
-- where it is, whatever follows.
abbrev pub arguments_at : (List (List ℕ) → Place → Reads Row) → Reader → Room → List (List ℕ) → Place → Reads Span → Reads Row
arguments_at more self w names p (Some x) = Some (ended x.0, x.1)
arguments_at more self w names p None =
    name_of p >>= λ n. cond (is_one_of names n.0.text) None
    (argument_at self w n.0 n.1 >>= λ x. after_element (more (names ++ n.0.text ∷ [])) of_arguments x.0 x.1)

unfoldable pub arguments_by : ℕ → Reader → Room → List (List ℕ) → Place → Reads Row
arguments_by zero self w names p = None
arguments_by (suc n) self w names p = arguments_at (arguments_by n self w) self w names p (skip RightParen p)

unfoldable pub arguments_of : Reader → Room → Place → Reads Row
arguments_of self w p = arguments_by (suc (size p.tokens)) self w [] p

abbrev pub args_at : Reader → Room → Place → Reads Span → Reads Args
args_at self w p None = Some (no_args, p)
args_at self w p (Some x) = arguments_of self w x.1 >>= λ r. Some (args x.0 r.0, r.1)

unfoldable pub args_of : Reader → Room → Place → Reads Args
args_of self w p = args_at self w p (skip LeftParen p)

-- the links of a chain, whose fields are those of a loop or not
abbrev pub links_at : (Place → Reads Links) → Reader → Room → Bool → Place → Link → Reads Links
links_at more self w c p no_link = Some (no_links, p)
links_at more self w c p called = None
links_at more self w c p (jointed d us) =
    bump (at p.links us) >>= λ q. name_of q >>= λ n. cond (is_field_of c n.0.text)
    (more n.1 >>= λ ls. Some (field d n.0 ls.0, ls.1)) None
links_at more self w c p (bracketed b us) =
    bump (at p.links us) >>= λ q. sub_of self w q >>= λ s. more s.1 >>= λ ls. Some (item b s.0 ls.0, ls.1)

unfoldable pub links_by : ℕ → Reader → Room → Bool → Place → Reads Links
links_by zero self w c p = None
links_by (suc n) self w c p = links_at (links_by n self w c) self w c p (link_of p.tokens)

unfoldable pub links_of : Reader → Room → Bool → Place → Reads Links
links_of self w c p = links_by (suc (size p.tokens)) self w c p

-- the further names of a component
abbrev pub dotted_at : (Place → Reads Dotted) → Place → Reads Span → Reads Dotted
dotted_at more p None = Some (no_dots, p)
dotted_at more p (Some x) = name_of x.1 >>= λ n. more n.1 >>= λ ds. Some (dots x.0 n.0 ds.0, ds.1)

unfoldable pub dotted_by : ℕ → Place → Reads Dotted
dotted_by zero p = None
dotted_by (suc n) p = dotted_at (dotted_by n) p (skip Dot p)

unfoldable pub dotted_of : Place → Reads Dotted
dotted_of p = dotted_by (suc (size p.tokens)) p

-- the attributes of a component
abbrev pub value_at : (Place → Reads Attributes) → Reader → Room → Name → Span → Place → Reads (Quote × Span) → Reads Attributes
value_at more self w n s p (Some x) = more x.1 >>= λ r. Some (quoted n s x.0.0 x.0.1 r.0, r.1)
value_at more self w n s p None =
    skip LeftBrace p >>= λ b. self w 0 b.1 >>= λ e. skip RightBrace e.1 >>= λ c. more c.1 >>= λ r. Some
    (valued n s b.0 e.0 c.0 r.0, r.1)

abbrev pub named_at : (Place → Reads Attributes) → Reader → Room → Name → Place → Reads Span → Reads Attributes
named_at more self w n p None = more p >>= λ r. Some (bare n r.0, r.1)
named_at more self w n p (Some x) = value_at more self w n x.0 x.1 (quote_at x.1)

abbrev pub attribute_at : (Place → Reads Attributes) → Reader → Room → Place → Reads Name → Reads Span → Reads Attributes
attribute_at more self w p (Some n) b = named_at more self w n.0 n.1 (skip Assign n.1)
attribute_at more self w p None (Some b) =
    skip Spread b.1 >>= λ s. self w 0 s.1 >>= λ e. skip RightBrace e.1 >>= λ c. more c.1 >>= λ r. Some
    (spreading b.0 s.0 e.0 c.0 r.0, r.1)
attribute_at more self w p None None = Some (no_attributes, p)

unfoldable pub attributes_by : ℕ → Reader → Room → Place → Reads Attributes
attributes_by zero self w p = None
attributes_by (suc n) self w p = attribute_at (attributes_by n self w) self w p (name_of p) (skip LeftBrace p)

unfoldable pub attributes_of : Reader → Room → Place → Reads Attributes
attributes_of self w p = attributes_by (suc (size p.tokens)) self w p
