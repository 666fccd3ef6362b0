-- The laws of what the statements use of expressions: what is read meets its condition and its tokens were there
-- (`.._sound`); what meets its condition is read from its tokens, whatever else is there (`.._found`); no tokens are
-- lost (`.._size`); none is a marker (`.._closed`); and what some of them begin with.
use Rattle.std.proofs.Common.{◌≡◌, ◌≤◌, ℕ, Bool, true, false, ◌||◌, List, codes, Some, None, inl, inr, refl, sym, ap, subst, arith, le_refl}
use Rattle.std.specs.Str.{bytes_eq}
use Rattle.tera_base.specs.declared.utils.Span.{Span}
use Rattle.tera_lexer.specs.code.Cursors.{size}
use Rattle.tera_lexer.specs.grammar.Tokens.{Tok, Items, Token, Ident, Finish, Symbol}
use Rattle.tera_grammar.specs.expressions.Operators.{GreaterThan, Div}
use Rattle.tera_grammar.specs.expressions.Marks.{LeftParen, Dot, mark, LeftBracket, LeftBrace, Bar, Operation}
use Rattle.tera_grammar.specs.expressions.Concrete.{no_attributes, bare, quoted, valued, spreading, dotted_yield, row_yield, of_items, of_entries}
use Rattle.tera_grammar.specs.expressions.Reading.Front.{begins}
use Rattle.tera_grammar.proofs.plain.expressions.Reading.Front.{takes}
use Rattle.tera_grammar.proofs.expressions.Fronts.{ends_stop}
use Rattle.tera_grammar.proofs.expressions.ReadRows.{NoAttribute}
use Rattle.tera_grammar.proofs.expressions.Only.{attributes_end}
use Rattle.tera_grammar.proofs.expressions.Later.{IsInside, yield_later, args_later, attributes_later, dotted_later, row_later}
use Rattle.tera_grammar.proofs.expressions.Bodiless.{has_body, output_bodiless}
use Rattle.tera_grammar.proofs.expressions.Wholes as wholes
use Rattle.tera_grammar.specs.statements.Expressions.{Limits, Expression, IsExpression, expression_yield, expression_output, Filtering, IsFilter, filter_yield, Attributes, AreAttributes, attributes_yield, ComponentName, component_yield, LiteralArray, IsLiteralArray, array_yield, LiteralMap, IsLiteralMap, map_yield}
use Rattle.tera_grammar.proofs.plain.statements.Reading.Expressions.{expression_of, filter_of, attributes_of, component_of, array_of, map_of}
use Rattle.tera_grammar.specs.expressions.Ends.{IsStop}
use Rattle.tera_grammar.proofs.statements.Inside.{IsClosed}
use Rattle.tera_grammar.proofs.Options.{bytes_same}

-- what comes after an expression of a tag, a filter, attributes
abbrev pub is_finish : Items → Bool
is_finish (Token (Finish kind dash) span items) = true
is_finish items = false

abbrev pub ends_expression : Items → Bool
ends_expression items = is_finish items

abbrev pub ends_filter : Items → Bool
ends_filter items = is_finish items || begins Bar items

abbrev pub ends_attributes : Items → Bool
ends_attributes items = begins (Operation Div) items || begins (Operation GreaterThan) items

-- what passes on to a token in front that is not a marker: no fewer tokens than these, and to be closed
abbrev IsLonger : Items → Items → Type 0
IsLonger start r = size start ≤ size r

longer : (start : Items) (t : Tok) (s : Span) (r : Items) → IsInside t → IsLonger start r → IsLonger start (Token t s r)
longer start t s r inside h = omega (arith, h)

closed_later : (t : Tok) (s : Span) (r : Items) → IsInside t → IsClosed true r → IsClosed true (Token t s r)
closed_later t s r inside h = subst (λ b. IsClosed b r) (sym inside) h

-- what ends an expression, a filter, attributes and a name, as their readers see it
finish_stop : (r : Items) → ends_expression r ≡ true → IsStop r
finish_stop (Token (Finish kind dash) s r) h = tt
finish_stop _ h = cc

no_arguments : (r : Items) → ends_filter r ≡ true → takes LeftParen r ≡ None
no_arguments (Token (Finish kind dash) s r) h = refl
no_arguments (Token (Symbol op) s r) h = subst (λ o. takes LeftParen (Token (Symbol o) s r) ≡ None) (sym (bytes_same op (codes "|") h)) refl
no_arguments _ h = cc

no_attribute_by : (op : List ℕ) (s : Span) (r : Items) (a b : Bool) → bytes_eq op (codes "/") ≡ a → bytes_eq op (codes ">") ≡ b → (a || b) ≡ true → NoAttribute (Token (Symbol op) s r)
no_attribute_by op s r true b slash angle h = attributes_end _ (inl (s, r, ap (λ o. Token (Symbol o) s r) (bytes_same op (codes "/") slash)))
no_attribute_by op s r false true slash angle h = attributes_end _ (inr (s, r, ap (λ o. Token (Symbol o) s r) (bytes_same op (codes ">") angle)))
no_attribute_by op s r false false slash angle h = cc

no_attribute : (r : Items) → ends_attributes r ≡ true → NoAttribute r
no_attribute (Token (Symbol op) s r) h = no_attribute_by op s r (bytes_eq op (codes "/")) (bytes_eq op (codes ">")) refl refl h
no_attribute _ h = cc

no_dot : (r : Items) → begins Dot r ≡ false → takes Dot r ≡ None
no_dot (Token t s r) h = rw h
no_dot _ h = refl

-- expressions, before the end of a tag
pub expression_sound : (l : Limits) (in_loop : Bool) (items : Items) (x : Expression × Items) → expression_of l in_loop items ≡ Some x → IsExpression l in_loop x.0 × (items ≡ expression_yield x.0 x.1)
unfolding IsExpression
expression_sound l in_loop items x h = let (is, condition, within) = wholes.expression_found l in_loop items x.1 x.0 h in ((condition, within), is)

pub expression_found : (l : Limits) (in_loop : Bool) (e : Expression) (rest : Items) → IsExpression l in_loop e → ends_expression rest ≡ true → expression_of l in_loop (expression_yield e rest) ≡ Some (e, rest)
unfolding IsExpression
expression_found l in_loop e rest is ends = wholes.expression_read l in_loop e rest is.0 is.1 (ends_stop rest (finish_stop rest ends))

pub expression_size : (e : Expression) (rest : Items) → size rest ≤ size (expression_yield e rest)
expression_size e rest = yield_later (IsLonger rest) (longer rest) e rest (le_refl _)

pub expression_closed : (e : Expression) (rest : Items) → IsClosed true rest → IsClosed true (expression_yield e rest)
expression_closed e rest is = yield_later (IsClosed true) closed_later e rest is

-- it is read as no call of a component with a body
pub expression_plain : (in_loop : Bool) (e : Expression) → has_body (expression_output in_loop e) ≡ false
expression_plain in_loop e = output_bodiless in_loop e

-- filters of a tag, before a bar or the end of the tag
pub filter_sound : (l : Limits) (in_loop : Bool) (items : Items) (x : Filtering × Items) → filter_of l in_loop items ≡ Some x → IsFilter l in_loop x.0 × (items ≡ filter_yield x.0 x.1)
unfolding IsFilter
filter_sound l in_loop items x h = let (is, condition, within) = wholes.filter_found l in_loop items x.1 x.0 h in ((condition, within), is)

pub filter_found : (l : Limits) (in_loop : Bool) (f : Filtering) (rest : Items) → IsFilter l in_loop f → ends_filter rest ≡ true → filter_of l in_loop (filter_yield f rest) ≡ Some (f, rest)
unfolding IsFilter
filter_found l in_loop f rest is ends = wholes.filter_read_whole l in_loop f rest is.0 is.1 (no_arguments rest ends)

pub filter_size : (f : Filtering) (rest : Items) → size rest ≤ size (filter_yield f rest)
filter_size f rest = omega (arith, args_later (IsLonger rest) (longer rest) f.args rest (le_refl _))

pub filter_closed : (f : Filtering) (rest : Items) → IsClosed true rest → IsClosed true (filter_yield f rest)
filter_closed f rest is = args_later (IsClosed true) closed_later f.args rest is

-- attributes, before a slash or `>`
pub attributes_sound : (l : Limits) (in_loop : Bool) (items : Items) (x : Attributes × Items) → attributes_of l in_loop items ≡ Some x → AreAttributes l in_loop x.0 × (items ≡ attributes_yield x.0 x.1)
unfolding AreAttributes
attributes_sound l in_loop items x h = let (is, condition, within) = wholes.attributes_found_whole l in_loop items x.1 x.0 h in ((condition, within), is)

pub attributes_found : (l : Limits) (in_loop : Bool) (a : Attributes) (rest : Items) → AreAttributes l in_loop a → ends_attributes rest ≡ true → attributes_of l in_loop (attributes_yield a rest) ≡ Some (a, rest)
unfolding AreAttributes
attributes_found l in_loop a rest is ends = wholes.attributes_read_whole l in_loop a rest is.0 is.1 (no_attribute rest ends)

pub attributes_size : (a : Attributes) (rest : Items) → size rest ≤ size (attributes_yield a rest)
attributes_size a rest = attributes_later (IsLonger rest) (longer rest) a rest (le_refl _)

pub attributes_closed : (a : Attributes) (rest : Items) → IsClosed true rest → IsClosed true (attributes_yield a rest)
attributes_closed a rest is = attributes_later (IsClosed true) closed_later a rest is

pub attributes_begin : (a : Attributes) (rest : Items) → begins Dot rest ≡ false → begins Dot (attributes_yield a rest) ≡ false
attributes_begin no_attributes rest h = h
attributes_begin (bare n a) rest h = refl
attributes_begin (quoted n s x t a) rest h = refl
attributes_begin (valued n s b e c a) rest h = refl
attributes_begin (spreading b s e c a) rest h = refl

-- the name of a component, before any token but a dot
pub component_sound : (items : Items) (x : ComponentName × Items) → component_of items ≡ Some x → items ≡ component_yield x.0 x.1
component_sound items x h = wholes.path_found items x.1 x.0 h

pub component_found : (n : ComponentName) (rest : Items) → begins Dot rest ≡ false → component_of (component_yield n rest) ≡ Some (n, rest)
component_found n rest ends = wholes.path_read n rest (no_dot rest ends)

pub component_size : (n : ComponentName) (rest : Items) → size rest ≤ size (component_yield n rest)
component_size n rest = omega (arith, dotted_later (IsLonger rest) (longer rest) n.further rest (le_refl _))

pub component_closed : (n : ComponentName) (rest : Items) → IsClosed true rest → IsClosed true (component_yield n rest)
component_closed n rest is = dotted_later (IsClosed true) closed_later n.further rest is

pub component_begins : (n : ComponentName) (rest : Items) → (text : List ℕ) × (span : Span) × (items : Items) × (component_yield n rest ≡ Token (Ident text) span items)
component_begins n rest = (n.name.text, n.name.span, dotted_yield n.further rest, refl)

-- constant arrays and maps, whatever follows
pub array_sound : (l : Limits) (items : Items) (x : LiteralArray × Items) → array_of l items ≡ Some x → IsLiteralArray l x.0 × (items ≡ array_yield x.0 x.1)
unfolding IsLiteralArray array_yield
array_sound l items x h = let (is, condition, within) = wholes.literal_array_found l items x.1 x.0.0 x.0.1 h in ((condition, within), is)

pub array_found : (l : Limits) (a : LiteralArray) (rest : Items) → IsLiteralArray l a → array_of l (array_yield a rest) ≡ Some (a, rest)
unfolding IsLiteralArray array_yield
array_found l a rest is = wholes.literal_array_read l a.0 a.1 rest is.0 is.1

pub array_size : (a : LiteralArray) (rest : Items) → size rest ≤ size (array_yield a rest)
unfolding array_yield
array_size a rest = omega (arith, row_later (IsLonger rest) (longer rest) of_items a.0.row rest (le_refl _))

pub array_closed : (a : LiteralArray) (rest : Items) → IsClosed true rest → IsClosed true (array_yield a rest)
unfolding array_yield
array_closed a rest is = row_later (IsClosed true) closed_later of_items a.0.row rest is

pub array_begins : (a : LiteralArray) (rest : Items) → (span : Span) × (items : Items) × (array_yield a rest ≡ mark LeftBracket span items)
unfolding array_yield
array_begins a rest = (a.0.mark, row_yield of_items a.0.row rest, refl)

pub map_sound : (l : Limits) (items : Items) (x : LiteralMap × Items) → map_of l items ≡ Some x → IsLiteralMap l x.0 × (items ≡ map_yield x.0 x.1)
unfolding IsLiteralMap map_yield
map_sound l items x h = let (is, condition, within) = wholes.literal_map_found l items x.1 x.0.0 x.0.1 h in ((condition, within), is)

pub map_found : (l : Limits) (m : LiteralMap) (rest : Items) → IsLiteralMap l m → map_of l (map_yield m rest) ≡ Some (m, rest)
unfolding IsLiteralMap map_yield
map_found l m rest is = wholes.literal_map_read l m.0 m.1 rest is.0 is.1

pub map_size : (m : LiteralMap) (rest : Items) → size rest ≤ size (map_yield m rest)
unfolding map_yield
map_size m rest = omega (arith, row_later (IsLonger rest) (longer rest) of_entries m.0.row rest (le_refl _))

pub map_closed : (m : LiteralMap) (rest : Items) → IsClosed true rest → IsClosed true (map_yield m rest)
unfolding map_yield
map_closed m rest is = row_later (IsClosed true) closed_later of_entries m.0.row rest is

pub map_begins : (m : LiteralMap) (rest : Items) → (span : Span) × (items : Items) × (map_yield m rest ≡ mark LeftBrace span items)
unfolding map_yield
map_begins m rest = (m.0.mark, row_yield of_entries m.0.row rest, refl)
