-- Reading what an operand begins with, up to its suffixes.
use Rattle.std.specs.Prelude.{ℕ, cond, Option, Some, None}
use Rattle.tera_base.specs.declared.utils.Span.{Span}
use Rattle.tera_lexer.specs.grammar.Tokens.{Tok, Items, Token, Ident, Symbol}
use Rattle.tera_grammar.specs.expressions.Operators.{Minus, LessThan, Div, GreaterThan, In}
use Rattle.tera_grammar.specs.expressions.Marks.{Mark, LeftParen, RightParen, LeftBracket, RightBracket, LeftBrace, Comma, For, If, Operation}
use Rattle.tera_grammar.specs.expressions.Concrete.{Name, Lit, Sign, Negative, Negates, Second, no_second, second, of_items, of_entries, Tree, Atomic, Prefix, Literal, Null, Chain, Call, Paren, Array, Comprehension, Map, Component, ended, Element, plain}
use Rattle.tera_grammar.specs.expressions.Powers.{sign_power}
use Rattle.tera_grammar.specs.Words.{is_none, is_not, is_reserved}
use Rattle.tera_grammar.specs.expressions.Output.{of_loop}
use Rattle.tera_grammar.specs.Options.{◌>>=◌}
use Rattle.tera_grammar.specs.expressions.Reading.Front.{Place, at, literal_of, head_mark, begins_sign}
use Rattle.tera_grammar.proofs.plain.expressions.Reading.Front.{Reads, skip, name_of}
use Rattle.tera_grammar.specs.expressions.Reading.Rooms.{Room, inside_array}
use Rattle.tera_grammar.proofs.plain.expressions.Reading.Bracketed.{Reader, extra_of, element_of, after_element, row_of, arguments_of, links_of, dotted_of, attributes_of}

unfoldable pub prefix_of : Reader → Room → Sign → Place → Reads Tree
prefix_of self w s p = cond (begins_sign p.tokens) None (self w (sign_power s) p >>= λ e. Some (Prefix s e.0, e.1))

unfoldable pub paren_of : Reader → Room → Span → Place → Reads Tree
paren_of self w s p = self w 0 p >>= λ e. skip RightParen e.1 >>= λ c. Some (Atomic (Paren s e.0 c.0), c.1)

-- the variables of a comprehension
abbrev pub second_at : Name → Place → Reads Span → Reads (Name × Second)
second_at n p None = Some ((n, no_second), p)
second_at n p (Some x) = name_of x.1 >>= λ m. cond (is_reserved m.0.text) None (Some ((n, second x.0 m.0), m.1))

unfoldable pub variables_of : Place → Reads (Name × Second)
variables_of p = name_of p >>= λ n. cond (is_reserved n.0.text) None (second_at n.0 n.1 (skip Comma n.1))

-- the rest of a comprehension, after `for`
unfoldable pub comprehension_of : Reader → Room → Span → Tree → Span → Place → Reads Tree
comprehension_of self w s e f p =
    variables_of p >>= λ v. skip (Operation In) v.1 >>= λ i. self w 1 i.1 >>= λ t. extra_of self w If 1 t.1 >>= λ g. skip
    RightBracket g.1 >>= λ c.
    Some (Atomic (Comprehension s e f v.0.0 v.0.1 i.0 t.0 g.0 c.0), c.1)

-- an array whose first element is read
unfoldable pub items_from : Reader → Room → Span → Element → Place → Reads Tree
items_from self v s x p = after_element (row_of self v of_items) of_items x p >>= λ r. Some (Atomic (Array s r.0), r.1)

-- a comprehension has a `for` after its first expression; in its further parts it counts as no array
abbrev pub for_at : Reader → Room → Room → Span → Tree → Place → Reads Span → Reads Tree
for_at self w v s e p (Some x) = comprehension_of self w s e x.0 x.1
for_at self w v s e p None = items_from self v s (plain e) p

abbrev pub array_from : Reader → Room → Room → Span → Element → Place → Reads Tree
array_from self w v s (plain e) p = for_at self w v s e p (skip For p)
array_from self w v s x p = items_from self v s x p

abbrev pub array_at : Reader → Room → Room → Span → Place → Reads Span → Reads Tree
array_at self w v s p (Some x) = Some (Atomic (Array s (ended x.0)), x.1)
array_at self w v s p None = element_of self v of_items p >>= λ x. array_from self w v s x.0 x.1

unfoldable pub array_of : Reader → Room → Span → Place → Reads Tree
array_of self w s p = inside_array w >>= λ v. array_at self w v s p (skip RightBracket p)

unfoldable pub map_of : Reader → Room → Span → Place → Reads Tree
map_of self w s p = row_of self w of_entries p >>= λ r. Some (Atomic (Map s r.0), r.1)

unfoldable pub component_of : Reader → Room → Span → Place → Reads Tree
component_of self w s p =
    name_of p >>= λ n. dotted_of n.1 >>= λ ds. attributes_of self w ds.1 >>= λ r. skip (Operation Div) r.1 >>= λ t. skip
    (Operation GreaterThan) t.1 >>= λ u.
    Some (Atomic (Component s n.0 ds.0 r.0 t.0 u.0), u.1)

abbrev pub called_at : Reader → Room → Name → Place → Reads Span → Reads Tree
called_at self w n p None = links_of self w (of_loop w.in_loop n) p >>= λ ls. Some (Atomic (Chain n ls.0), ls.1)
called_at self w n p (Some x) = arguments_of self w x.1 >>= λ r. Some (Atomic (Call n x.0 r.0), r.1)

unfoldable pub chain_of : Reader → Room → Name → Place → Reads Tree
chain_of self w n p = called_at self w n p (skip LeftParen p)

unfoldable pub word_head : Reader → Room → Name → Place → Reads Tree
word_head self w n p =
    cond (is_none n.text) (Some (Atomic (Null n), p))
    (cond (is_not n.text) (prefix_of self w (Negates n.span) p) (chain_of self w n p))

abbrev pub mark_head : Reader → Room → Mark → Span → Place → Reads Tree
mark_head self w (Operation Minus) s p = prefix_of self w (Negative s) p
mark_head self w (Operation LessThan) s p = component_of self w s p
mark_head self w LeftParen s p = paren_of self w s p
mark_head self w LeftBracket s p = array_of self w s p
mark_head self w LeftBrace s p = map_of self w s p
mark_head self w _ s p = None

abbrev pub literal_head : Option Lit → Span → Place → Reads Tree
literal_head None s p = None
literal_head (Some l) s p = Some (Atomic (Literal l s), p)

abbrev pub head_token : Reader → Room → Tok → Span → Place → Reads Tree
head_token self w (Ident n) s p = word_head self w (record { text = n; span = s }) p
head_token self w (Symbol op) s p = mark_head self w (head_mark (Symbol op)) s p
head_token self w t s p = literal_head (literal_of t) s p

abbrev pub head_in : Reader → Room → ℕ → Items → Reads Tree
head_in self w k (Token t s us) = head_token self w t s (at k us)
head_in self w k _ = None

abbrev pub head_of : Reader → Room → Place → Reads Tree
head_of self w p = head_in self w p.links p.tokens
