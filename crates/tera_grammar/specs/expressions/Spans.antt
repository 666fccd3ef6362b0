-- Where an expression begins and ends: the spans of its first and of its last token.
use Rattle.tera_base.specs.declared.utils.Span.{Span}
use Rattle.tera_grammar.specs.expressions.Concrete.{Name, Sign, Negative, Negates, Tree, Atomic, Prefix, Suffixed, Infix, Atom, Literal, Null, Chain, Call, Paren, Array, Comprehension, Map, Component, Dotted, no_dots, dots, Links, no_links, field, item, Sub, index, slice, Row, ended, only, then, Suffix, Test, Filter, Subscript, Args, no_args, args}

-- from the start of one to the end of another
abbrev pub spanning : Span → Span → Span
spanning s t = record {
  start_line = s.start_line;
  start_col = s.start_col;
  end_line = t.end_line;
  end_col = t.end_col;
  range = record { start = s.range.start; end = t.range.end };
}

abbrev pub sign_span : Sign → Span
sign_span (Negative s) = s
sign_span (Negates s) = s

-- the closing mark of a row, and of what is between brackets
abbrev pub row_end : Row → Span
row_end (ended s) = s
row_end (only x s) = s
row_end (then x s xs) = row_end xs

abbrev pub sub_end : Sub → Span
sub_end (index e c) = c
sub_end (slice a s b x c) = c

-- the last token of a name with its arguments, and with its links
abbrev pub args_end : Name → Args → Span
args_end n no_args = n.span
args_end n (args s row) = row_end row

abbrev pub links_end : Name → Links → Span
links_end n no_links = n.span
links_end n (field d m ls) = links_end m ls
links_end n (item b s ls) = links_end (record { text = n.text; span = sub_end s }) ls

-- the last of the further names of a component, and this one where there are none
abbrev pub dotted_end : Span → Dotted → Span
dotted_end s no_dots = s
dotted_end s (dots d n ds) = dotted_end n.span ds

abbrev pub suffix_end : Suffix → Span
suffix_end (Test s n w g) = args_end w g
suffix_end (Filter s w g) = args_end w g
suffix_end (Subscript s b) = sub_end b

-- the first token
abbrev pub atom_first : Atom → Span
atom_first (Literal l s) = s
atom_first (Null n) = n.span
atom_first (Chain n ls) = n.span
atom_first (Call n s row) = n.span
atom_first (Paren s e t) = s
atom_first (Array s row) = s
atom_first (Comprehension s e f n m i t g c) = s
atom_first (Map s row) = s
atom_first (Component s n ds ats t u) = s

abbrev pub first : Tree → Span
first (Atomic a) = atom_first a
first (Prefix s e) = sign_span s
first (Suffixed a s) = first a
first (Infix a o b) = first a

-- the last token
abbrev pub atom_last : Atom → Span
atom_last (Literal l s) = s
atom_last (Null n) = n.span
atom_last (Chain n ls) = links_end n ls
atom_last (Call n s row) = row_end row
atom_last (Paren s e t) = t
atom_last (Array s row) = row_end row
atom_last (Comprehension s e f n m i t g c) = c
atom_last (Map s row) = row_end row
atom_last (Component s n ds ats t u) = u

abbrev pub last : Tree → Span
last (Atomic a) = atom_last a
last (Prefix s e) = last e
last (Suffixed a s) = suffix_end s
last (Infix a o b) = last b
