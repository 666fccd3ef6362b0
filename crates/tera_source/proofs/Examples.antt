-- Expressions, read from their tokens and written back.
use Rattle.std.proofs.Common.{◌≡◌, ℕ, false, List, [], ◌∷◌, Option, Some, None, refl, codes}
use Rattle.std.specs.Fmt.{digits}
use Rattle.std.specs.Prelude.{pos}
use Rattle.tera_lexer.specs.grammar.Tokens as toks
use Rattle.tera_lexer.specs.grammar.Tokens.{Tok, Items, Ended, Token, Ident, Symbol, Str, Escaped}
use Rattle.tera_lexer.specs.code.Cursors.{nowhere}
use Rattle.tera_grammar.specs.expressions.Concrete.{Tree}
use Rattle.tera_grammar.specs.Limits.{usual}
use Rattle.tera_grammar.specs.Words.{is_none, is_reserved, is_loop_field}
use Rattle.tera_grammar.specs.expressions.Output.{output}
use Rattle.tera_grammar.specs.expressions.Reading.Front.{link_of, head_mark, begins_sign}
use Rattle.tera_grammar.proofs.plain.expressions.Reading.Front.{skip, bump, name_of, literal_at, quote_at, front_of_token}
use Rattle.tera_grammar.specs.expressions.Reading.Rooms.{inside_subscript, inside_array}
use Rattle.tera_grammar.proofs.plain.expressions.Reading.Bracketed.{extra_of, part_of, slice_of, sub_of, element_of, after_element, row_by, row_of, arguments_by, arguments_of, args_of, links_by, links_of, dotted_by, dotted_of, attributes_by, attributes_of}
use Rattle.tera_grammar.proofs.plain.expressions.Reading.Atoms.{prefix_of, paren_of, variables_of, comprehension_of, items_from, array_of, map_of, component_of, chain_of, word_head}
use Rattle.tera_grammar.proofs.plain.expressions.Reading.Loop.{operator_of, suffix_in, join_of, close_of, step, loop_by, expr}
use Rattle.tera_grammar.proofs.plain.expressions.Reading.Whole.{expression_of}
use Rattle.tera_source.specs.Source.{source_of}

abbrev written : Option (Tree × Items) → Option (List ℕ)
written None = None
written (Some x) = source_of (output false x.0)

back : Items → Option (List ℕ)
unfolding skip bump name_of literal_at quote_at link_of front_of_token head_mark begins_sign inside_subscript inside_array extra_of part_of slice_of sub_of element_of after_element row_by row_of arguments_by arguments_of args_of links_by links_of dotted_by dotted_of attributes_by attributes_of prefix_of paren_of variables_of comprehension_of items_from array_of map_of component_of chain_of word_head operator_of suffix_in join_of close_of step loop_by expr is_none is_reserved is_loop_field expression_of
back items = written (expression_of usual false items)

-- tokens with no place of their own
abbrev line : List Tok → Items
line [] = Ended
line (t ∷ ts) = Token t nowhere (line ts)

abbrev op : List ℕ → Tok
op text = Symbol text

abbrev id : List ℕ → Tok
id name = Ident name

abbrev num : ℕ → Tok
num n = toks.Integer (pos n)

-- (a + b) * c
left_sum : back (line (op (codes "(") ∷ id (codes "a") ∷ op (codes "+") ∷ id (codes "b") ∷ op (codes ")") ∷ op (codes "*") ∷ id (codes "c") ∷ [])) ≡ Some (codes "( a + b ) * c")
unfolding back digits
left_sum = refl

-- a + (b * c)
right_product : back (line (id (codes "a") ∷ op (codes "+") ∷ op (codes "(") ∷ id (codes "b") ∷ op (codes "*") ∷ id (codes "c") ∷ op (codes ")") ∷ [])) ≡ Some (codes "a + b * c")
unfolding back digits
right_product = refl

-- a ** (b ** c)
right_power : back (line (id (codes "a") ∷ op (codes "**") ∷ op (codes "(") ∷ id (codes "b") ∷ op (codes "**") ∷ id (codes "c") ∷ op (codes ")") ∷ [])) ≡ Some (codes "a ** b ** c")
unfolding back digits
right_power = refl

-- (a ** b) ** c
left_power : back (line (op (codes "(") ∷ id (codes "a") ∷ op (codes "**") ∷ id (codes "b") ∷ op (codes ")") ∷ op (codes "**") ∷ id (codes "c") ∷ [])) ≡ Some (codes "( a ** b ) ** c")
unfolding back digits
left_power = refl

-- x + a is defined * 2
tested : back (line (id (codes "x") ∷ op (codes "+") ∷ id (codes "a") ∷ id (codes "is") ∷ id (codes "defined") ∷ op (codes "*") ∷ num 2 ∷ [])) ≡ Some (codes "x + a is defined * 2")
unfolding back digits
tested = refl

-- not a in b
not_in : back (line (id (codes "not") ∷ id (codes "a") ∷ id (codes "in") ∷ id (codes "b") ∷ [])) ≡ Some (codes "a not in b")
unfolding back digits
not_in = refl

-- not (a not in b)
not_not_in : back (line (id (codes "not") ∷ op (codes "(") ∷ id (codes "a") ∷ id (codes "not") ∷ id (codes "in") ∷ id (codes "b") ∷ op (codes ")") ∷ [])) ≡ Some (codes "not a not in b")
unfolding back digits
not_not_in = refl

-- not ((-1) + a)
prefix_at_the_left : back (line (id (codes "not") ∷ op (codes "(") ∷ op (codes "(") ∷ op (codes "-") ∷ num 1 ∷ op (codes ")") ∷ op (codes "+") ∷ id (codes "a") ∷ op (codes ")") ∷ [])) ≡ Some (codes "not ( - 1 ) + a")
unfolding back digits
prefix_at_the_left = refl

-- -(-x)
two_signs : back (line (op (codes "-") ∷ op (codes "(") ∷ op (codes "-") ∷ id (codes "x") ∷ op (codes ")") ∷ [])) ≡ Some (codes "- ( - x )")
unfolding back digits
two_signs = refl

-- -(-1)
folded : back (line (op (codes "-") ∷ op (codes "(") ∷ op (codes "-") ∷ num 1 ∷ op (codes ")") ∷ [])) ≡ Some (codes "1")
unfolding back digits
folded = refl

-- (a if b else c) if d else e
ternary : back (line (op (codes "(") ∷ id (codes "a") ∷ id (codes "if") ∷ id (codes "b") ∷ id (codes "else") ∷ id (codes "c") ∷ op (codes ")") ∷ id (codes "if") ∷ id (codes "d") ∷ id (codes "else") ∷ id (codes "e") ∷ [])) ≡ Some (codes "( a if b else c ) if d else e")
unfolding back digits
ternary = refl

-- [x for x in (a if b else c)]
target : back (line (op (codes "[") ∷ id (codes "x") ∷ id (codes "for") ∷ id (codes "x") ∷ id (codes "in") ∷ op (codes "(") ∷ id (codes "a") ∷ id (codes "if") ∷ id (codes "b") ∷ id (codes "else") ∷ id (codes "c") ∷ op (codes ")") ∷ op (codes "]") ∷ [])) ≡ Some (codes "[ x for x in ( a if b else c ) ]")
unfolding back digits
target = refl

-- a.b[0]
chain : back (line (id (codes "a") ∷ op (codes ".") ∷ id (codes "b") ∷ op (codes "[") ∷ num 0 ∷ op (codes "]") ∷ [])) ≡ Some (codes "a . b [ 0 ]")
unfolding back digits
chain = refl

-- (a)[0]
chain_in_parens : back (line (op (codes "(") ∷ id (codes "a") ∷ op (codes ")") ∷ op (codes "[") ∷ num 0 ∷ op (codes "]") ∷ [])) ≡ Some (codes "a [ 0 ]")
unfolding back digits
chain_in_parens = refl

-- {"a": {"b": 1} }
constant_map : back (line (op (codes "{") ∷ Str (codes "a") ∷ op (codes ":") ∷ op (codes "{") ∷ Str (codes "b") ∷ op (codes ":") ∷ num 1 ∷ op (codes "}") ∷ op (codes "}") ∷ [])) ≡ Some (codes "{ \"a\" : { \"b\" : 1 } }")
unfolding back digits
constant_map = refl

-- 'it"s'
quote : back (line (Str (codes "it\"s") ∷ [])) ≡ Some (codes "\"it\\\"s\"")
unfolding back digits
quote = refl

-- <greet name="Bob" n={n}/>
greeting : back (line (op (codes "<") ∷ id (codes "greet") ∷ id (codes "name") ∷ op (codes "=") ∷ Str (codes "Bob") ∷ id (codes "n") ∷ op (codes "=") ∷ op (codes "{") ∷ id (codes "n") ∷ op (codes "}") ∷ op (codes "/") ∷ op (codes ">") ∷ [])) ≡ Some (codes "< greet name = \"Bob\" n / >")
unfolding back digits
greeting = refl

-- not (a is defined)
not_test : back (line (id (codes "not") ∷ op (codes "(") ∷ id (codes "a") ∷ id (codes "is") ∷ id (codes "defined") ∷ op (codes ")") ∷ [])) ≡ Some (codes "a is not defined")
unfolding back digits
not_test = refl

-- not (a is not defined)
negated_test : back (line (id (codes "not") ∷ op (codes "(") ∷ id (codes "a") ∷ id (codes "is") ∷ id (codes "not") ∷ id (codes "defined") ∷ op (codes ")") ∷ [])) ≡ Some (codes "not a is not defined")
unfolding back digits
negated_test = refl

-- (-1)[0]
negative_subscript : back (line (op (codes "(") ∷ op (codes "-") ∷ num 1 ∷ op (codes ")") ∷ op (codes "[") ∷ num 0 ∷ op (codes "]") ∷ [])) ≡ Some (codes "( - 1 ) [ 0 ]")
unfolding back digits
negative_subscript = refl

-- (-1) ** 2
negative_power : back (line (op (codes "(") ∷ op (codes "-") ∷ num 1 ∷ op (codes ")") ∷ op (codes "**") ∷ num 2 ∷ [])) ≡ Some (codes "- 1 ** 2")
unfolding back digits
negative_power = refl

-- a == (not b in c)
equals_not_in : back (line (id (codes "a") ∷ op (codes "==") ∷ op (codes "(") ∷ id (codes "not") ∷ id (codes "b") ∷ id (codes "in") ∷ id (codes "c") ∷ op (codes ")") ∷ [])) ≡ Some (codes "a == ( b not in c )")
unfolding back digits
equals_not_in = refl

-- f(b=1, a=x|g())
arguments : back (line (id (codes "f") ∷ op (codes "(") ∷ id (codes "b") ∷ op (codes "=") ∷ num 1 ∷ op (codes ",") ∷ id (codes "a") ∷ op (codes "=") ∷ id (codes "x") ∷ op (codes "|") ∷ id (codes "g") ∷ op (codes "(") ∷ op (codes ")") ∷ op (codes ")") ∷ [])) ≡ Some (codes "f ( a = x | g , b = 1 )")
unfolding back digits
arguments = refl

-- a[:-1]?.b?[1:2:3]
cut : back (line (id (codes "a") ∷ op (codes "[") ∷ op (codes ":") ∷ op (codes "-") ∷ num 1 ∷ op (codes "]") ∷ op (codes "?.") ∷ id (codes "b") ∷ op (codes "?[") ∷ num 1 ∷ op (codes ":") ∷ num 2 ∷ op (codes ":") ∷ num 3 ∷ op (codes "]") ∷ [])) ≡ Some (codes "a [ : - 1 ] ?. b ?[ 1 : 2 : 3 ]")
unfolding back digits
cut = refl

-- [...a, 1, none, None,]
spread : back (line (op (codes "[") ∷ op (codes "...") ∷ id (codes "a") ∷ op (codes ",") ∷ num 1 ∷ op (codes ",") ∷ id (codes "none") ∷ op (codes ",") ∷ id (codes "None") ∷ op (codes ",") ∷ op (codes "]") ∷ [])) ≡ Some (codes "[ ... a , 1 , none , none ]")
unfolding back digits
spread = refl

-- <a.b c {...d} x={y} />
dotted : back (line (op (codes "<") ∷ id (codes "a") ∷ op (codes ".") ∷ id (codes "b") ∷ id (codes "c") ∷ op (codes "{") ∷ op (codes "...") ∷ id (codes "d") ∷ op (codes "}") ∷ id (codes "x") ∷ op (codes "=") ∷ op (codes "{") ∷ id (codes "y") ∷ op (codes "}") ∷ op (codes "/") ∷ op (codes ">") ∷ [])) ≡ Some (codes "< a . b c { ... d } x = { y } / >")
unfolding back digits
dotted = refl

-- <c none />
no_value : back (line (op (codes "<") ∷ id (codes "c") ∷ id (codes "none") ∷ op (codes "/") ∷ op (codes ">") ∷ [])) ≡ Some (codes "< c none / >")
unfolding back digits
no_value = refl

-- a ~ (b ~ c)
concatenated : back (line (id (codes "a") ∷ op (codes "~") ∷ op (codes "(") ∷ id (codes "b") ∷ op (codes "~") ∷ id (codes "c") ∷ op (codes ")") ∷ [])) ≡ Some (codes "a ~ ( b ~ c )")
unfolding back digits
concatenated = refl

-- -(x ** 2)
minus_under_power : back (line (op (codes "-") ∷ op (codes "(") ∷ id (codes "x") ∷ op (codes "**") ∷ num 2 ∷ op (codes ")") ∷ [])) ≡ Some (codes "- ( x ** 2 )")
unfolding back digits
minus_under_power = refl

-- 2 ** (-x)
power_of_minus : back (line (num 2 ∷ op (codes "**") ∷ op (codes "(") ∷ op (codes "-") ∷ id (codes "x") ∷ op (codes ")") ∷ [])) ≡ Some (codes "2 ** - x")
unfolding back digits
power_of_minus = refl

-- "a\\b"
backslash : back (line (Escaped (codes "a\\b") ∷ [])) ≡ Some (codes "\"a\\\\b\"")
unfolding back digits
backslash = refl
