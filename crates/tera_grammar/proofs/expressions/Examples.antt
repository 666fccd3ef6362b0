-- A few expressions, read by the definitions: from their tokens to their trees.
use Rattle.std.proofs.Common.{◌≡◌, ℕ, zero, suc, true, false, List, [], ◌∷◌, ◌++◌, map, Option, Some, None, refl, codes, is_some, Bool}
use Rattle.std.specs.Prelude.{pos, negsuc}
use Rattle.tera_base.specs.Values as values
use Rattle.tera_base.specs.declared.utils.Span.{Span}
use Rattle.tera_lexer.specs.grammar.Tokens as toks
use Rattle.tera_lexer.specs.grammar.Tokens.{Items, Ended, Token, Ident, Symbol}
use Rattle.tera_lexer.specs.code.Cursors.{nowhere}
use Rattle.tera_ast.specs.declared.ast.UnaryOperator.TheVariants as unary
use Rattle.tera_ast.specs.Tree as tree
use Rattle.tera_base.specs.Values.{TextKey, NoPairs}
use Rattle.tera_ast.specs.Tree.{Expr}
use Rattle.tera_ast.specs.declared.ast.BinaryOperator.TheVariants.{Mul, Plus, Power, StrConcat, In, And}
use Rattle.tera_grammar.specs.expressions.Operators as written
use Rattle.tera_grammar.specs.expressions.Operators.{BinaryOperator}
use Rattle.tera_grammar.specs.expressions.Marks.{mark, Operation}
use Rattle.tera_grammar.specs.expressions.Concrete.{Tree}
use Rattle.tera_grammar.specs.Limits.{Limits, usual}
use Rattle.tera_grammar.specs.Words.{is_none, is_reserved, is_loop_field}
use Rattle.tera_grammar.specs.expressions.Output.{output}
use Rattle.tera_grammar.specs.expressions.Reading.Front.{link_of, head_mark, begins_sign}
use Rattle.tera_grammar.proofs.plain.expressions.Reading.Front.{skip, bump, name_of, literal_at, quote_at, front_of_token}
use Rattle.tera_grammar.specs.expressions.Reading.Rooms.{inside_subscript, inside_array}
use Rattle.tera_grammar.proofs.plain.expressions.Reading.Bracketed.{extra_of, part_of, slice_of, sub_of, element_of, after_element, row_by, row_of, arguments_by, arguments_of, args_of, links_by, links_of, dotted_by, dotted_of, attributes_by, attributes_of}
use Rattle.tera_grammar.proofs.plain.expressions.Reading.Atoms.{prefix_of, paren_of, variables_of, comprehension_of, items_from, array_of, map_of, component_of, chain_of, word_head}
use Rattle.tera_grammar.proofs.plain.expressions.Reading.Loop.{operator_of, suffix_in, join_of, close_of, step, loop_by, expr}
use Rattle.tera_grammar.proofs.plain.expressions.Reading.Whole.{expression_of}

-- a token with no place of its own
abbrev op : List ℕ → Items → Items
op text r = Token (Symbol text) nowhere r

abbrev id : List ℕ → Items → Items
id name r = Token (Ident name) nowhere r

abbrev num : ℕ → Items → Items
num n r = Token (toks.Integer (pos n)) nowhere r

abbrev str : List ℕ → Items → Items
str text r = Token (toks.Str text) nowhere r

-- what the tokens are read as, where nothing is left over
abbrev alone : Expr → Items → Option Expr
alone e Ended = Some e
alone e _ = None

abbrev shown : Bool → Option (Tree × Items) → Option Expr
shown in_loop None = None
shown in_loop (Some x) = alone (output in_loop x.0) x.1

reading_in : Limits → Bool → Items → Option Expr
unfolding skip bump name_of literal_at quote_at link_of front_of_token head_mark begins_sign inside_subscript inside_array extra_of part_of slice_of sub_of element_of after_element row_by row_of arguments_by arguments_of args_of links_by links_of dotted_by dotted_of attributes_by attributes_of prefix_of paren_of variables_of comprehension_of items_from array_of map_of component_of chain_of word_head operator_of suffix_in join_of close_of step loop_by expr is_none is_reserved is_loop_field expression_of
reading_in limits in_loop items = shown in_loop (expression_of limits in_loop items)

abbrev reading : Items → Option Expr
reading items = reading_in usual false items

abbrev var : List ℕ → Expr
var name = tree.Var name nowhere

abbrev whole : ℕ → Expr
whole n = tree.Const (values.I64 (pos n)) nowhere

power : reading (id (codes "a") (op (codes "**") (id (codes "b") (op (codes "**") (id (codes "c") Ended)))))
    ≡ Some (tree.BinaryOperation Power (var (codes "a")) (tree.BinaryOperation Power (var (codes "b")) (var (codes "c")) nowhere) nowhere)
unfolding reading_in
power = refl

filtered : reading (num 1 (op (codes "+") (num 2 (op (codes "|") (id (codes "f") Ended)))))
    ≡ Some (tree.BinaryOperation Plus (whole 1) (tree.Filter (whole 2) (codes "f") tree.NoArgs nowhere) nowhere)
unfolding reading_in
filtered = refl

tested : reading (id (codes "x") (op (codes "+") (id (codes "a")
    (id (codes "is") (id (codes "defined") (op (codes "*") (num 2 Ended)))))))
    ≡ Some (tree.BinaryOperation Mul (tree.Test (tree.BinaryOperation Plus (var (codes "x")) (var (codes "a")) nowhere) (codes "defined")
    tree.NoArgs nowhere) (whole 2) nowhere)
unfolding reading_in
tested = refl

not_in : reading (id (codes "a") (id (codes "not") (id (codes "in") (id (codes "b") Ended)))) ≡ Some
    (tree.UnaryOperation unary.Not (tree.BinaryOperation In (var (codes "a")) (var (codes "b")) nowhere) nowhere)
unfolding reading_in
not_in = refl

joined : reading (id (codes "a") (op (codes "~") (op (codes "-") (num 1 Ended)))) ≡ Some
    (tree.BinaryOperation StrConcat (var (codes "a")) (tree.Const (values.I64 (negsuc 0)) nowhere) nowhere)
unfolding reading_in
joined = refl

refused : reading (id (codes "a") (op (codes "~") (op (codes "-") (id (codes "x") Ended)))) ≡ None
unfolding reading_in
refused = refl

gathered : reading (op (codes "[") (id (codes "x") (id (codes "for")
    (id (codes "x") (id (codes "in") (op (codes "[") (op (codes "[")
    (num 1 (op (codes "]") (op (codes "]") (op (codes "]") Ended)))))))))))
    ≡ Some (tree.ListComprehension (var (codes "x")) None (codes "x")
    (tree.Const (values.Array (values.OneVal (values.Array (values.OneVal (values.I64 (pos 1)) values.NoVals)) values.NoVals))
    nowhere) tree.NoExpr nowhere)
unfolding reading_in
gathered = refl

too_deep : reading (op (codes "[") (op (codes "[") (op (codes "[")
    (num 1 (op (codes "]") (op (codes "]") (op (codes "]") Ended))))))) ≡ None
unfolding reading_in
too_deep = refl

mapped : reading (op (codes "{") (str (codes "a") (op (codes ":")
    (num 1 (op (codes ",") (str (codes "b") (op (codes ":") (num 2
    (op (codes ",") (str (codes "a") (op (codes ":") (num 3 (op (codes "}") Ended)))))))))))))
    ≡ Some (tree.Const (values.Map (values.OnePair (TextKey (codes "a")) (values.I64 (pos 3))
    (values.OnePair (TextKey (codes "b")) (values.I64 (pos 2)) NoPairs))) nowhere)
unfolding reading_in
mapped = refl

sliced : reading (id (codes "a") (op (codes "[") (num 1 (op (codes ":") (op (codes "]") Ended))))) ≡ Some
    (tree.Slice (var (codes "a")) (tree.OneExpr (whole 1)) tree.NoExpr tree.NoExpr false nowhere)
unfolding reading_in
sliced = refl

component : reading (op (codes "<") (id (codes "ui") (op (codes ".")
    (id (codes "b") (id (codes "on") (id (codes "t") (op (codes "=")
    (str (codes "x") (op (codes "/") (op (codes ">") Ended))))))))))
    ≡ Some (tree.ComponentCall (codes "ui.b") (tree.Entry (TextKey (codes "on")) (var (codes "on"))
    (tree.Entry (TextKey (codes "t")) (tree.Const (values.Text (codes "x")) nowhere) tree.NoEntries)) tree.NoNodes true
    nowhere)
unfolding reading_in
component = refl

-- Which of several operators holds the stronger.

test_of_join : reading (id (codes "a") (op (codes "~") (id (codes "b") (id (codes "is") (id (codes "not") (id (codes "defined") Ended))))))
    ≡ Some (tree.UnaryOperation unary.Not (tree.Test (tree.BinaryOperation StrConcat (var (codes "a")) (var (codes "b")) nowhere) (codes "defined") tree.NoArgs nowhere) nowhere)
unfolding reading_in
test_of_join = refl

negation_in_parens : reading (id (codes "a") (op (codes "~") (op (codes "(") (id (codes "b") (id (codes "is") (id (codes "not") (id (codes "defined") (op (codes ")") Ended)))))))) ≡ None
unfolding reading_in
negation_in_parens = refl

minus_of_power : reading (op (codes "-") (num 1 (op (codes "**") (num 2 Ended))))
    ≡ Some (tree.BinaryOperation Power (tree.Const (values.I64 (negsuc 0)) nowhere) (whole 2) nowhere)
unfolding reading_in
minus_of_power = refl

minus_and_plus : reading (op (codes "-") (id (codes "a") (op (codes "+") (id (codes "b") Ended))))
    ≡ Some (tree.BinaryOperation Plus (tree.UnaryOperation unary.Minus (var (codes "a")) nowhere) (var (codes "b")) nowhere)
unfolding reading_in
minus_and_plus = refl

sums_go_left : reading (id (codes "a") (op (codes "+") (id (codes "b") (op (codes "+") (id (codes "c") Ended)))))
    ≡ Some (tree.BinaryOperation Plus (tree.BinaryOperation Plus (var (codes "a")) (var (codes "b")) nowhere) (var (codes "c")) nowhere)
unfolding reading_in
sums_go_left = refl

test_named_not : reading (id (codes "a") (id (codes "is") (id (codes "not") (id (codes "not") Ended))))
    ≡ Some (tree.UnaryOperation unary.Not (tree.Test (var (codes "a")) (codes "not") tree.NoArgs nowhere) nowhere)
unfolding reading_in
test_named_not = refl

test_named_in : reading (id (codes "a") (id (codes "is") (id (codes "not") (id (codes "in") (id (codes "b") Ended))))) ≡ None
unfolding reading_in
test_named_in = refl

misplaced_not : reading (id (codes "a") (id (codes "not") (id (codes "b") Ended))) ≡ None
unfolding reading_in
misplaced_not = refl

minus_after_not : reading (id (codes "not") (op (codes "-") (id (codes "a") Ended))) ≡ None
unfolding reading_in
minus_after_not = refl

-- The table of powers: of two operators the first takes both operands before it in (`Some true`), or the second takes
-- both after it (`Some false`).

abbrev side : Option Expr → Option Bool
side (Some (tree.BinaryOperation o (tree.BinaryOperation p a b s) c t)) = Some true
side (Some (tree.BinaryOperation o a (tree.BinaryOperation p b c s) t)) = Some false
side _ = None

abbrev between : BinaryOperator → BinaryOperator → Option Bool
between o p = side (reading (id (codes "a") (mark (Operation o) nowhere (id (codes "b") (mark (Operation p) nowhere (id (codes "c") Ended))))))

-- one operator of each row, from the weakest to the strongest
abbrev rows : List BinaryOperator
rows = written.Or ∷ written.And ∷ written.In ∷ written.Equal ∷ written.Plus ∷ written.Mul ∷ written.Power ∷ []

two_operators : map (λ o. map (between o) rows) rows
    ≡ (Some true ∷ Some false ∷ Some false ∷ Some false ∷ Some false ∷ Some false ∷ Some false ∷ []) ∷ (Some true ∷ Some true ∷ Some false ∷ Some false ∷ Some false ∷ Some false ∷ Some false ∷ []) ∷ (Some true ∷ Some true ∷ Some true ∷ Some false ∷ Some false ∷ Some false ∷ Some false ∷ []) ∷ (Some true ∷ Some true ∷ Some true ∷ Some true ∷ Some false ∷ Some false ∷ Some false ∷ []) ∷ (Some true ∷ Some true ∷ Some true ∷ Some true ∷ Some true ∷ Some false ∷ Some false ∷ []) ∷ (Some true ∷ Some true ∷ Some true ∷ Some true ∷ Some true ∷ Some true ∷ Some false ∷ []) ∷ (Some true ∷ Some true ∷ Some true ∷ Some true ∷ Some true ∷ Some true ∷ Some false ∷ []) ∷ []
unfolding reading_in
two_operators = refl

-- the others of a row are as it: the first of two takes both operands
abbrev alike : BinaryOperator → BinaryOperator → List (Option Bool)
alike o p = between o p ∷ between p o ∷ between p p ∷ []

abbrev others_alike : BinaryOperator → List BinaryOperator → List (List (Option Bool))
others_alike o ps = map (alike o) ps

comparisons : others_alike written.Equal (written.NotEqual ∷ written.LessThan ∷ written.LessThanOrEqual ∷ written.GreaterThan ∷ written.GreaterThanOrEqual ∷ [])
    ≡ map (λ p. Some true ∷ Some true ∷ Some true ∷ []) (written.NotEqual ∷ written.LessThan ∷ written.LessThanOrEqual ∷ written.GreaterThan ∷ written.GreaterThanOrEqual ∷ [])
unfolding reading_in
comparisons = refl

sums_and_products : others_alike written.Plus (written.Minus ∷ []) ++ others_alike written.Mul (written.Div ∷ written.Mod ∷ written.StrConcat ∷ written.FloorDiv ∷ [])
    ≡ map (λ p. Some true ∷ Some true ∷ Some true ∷ []) (written.Minus ∷ written.Div ∷ written.Mod ∷ written.StrConcat ∷ written.FloorDiv ∷ [])
unfolding reading_in
sums_and_products = refl

-- whether a test, a filter and a prefix are outermost
abbrev outside : Option Expr → Option Bool
outside (Some (tree.Test e n g s)) = Some true
outside (Some (tree.Filter e n g s)) = Some true
outside (Some (tree.UnaryOperation o e s)) = Some true
outside (Some (tree.BinaryOperation o a b s)) = Some false
outside _ = None

abbrev sum_of : BinaryOperator → Items → Items
sum_of o r = id (codes "a") (mark (Operation o) nowhere (id (codes "b") r))

tests : map (λ o. outside (reading (sum_of o (id (codes "is") (id (codes "t") Ended))))) rows
    ≡ Some false ∷ Some false ∷ Some true ∷ Some true ∷ Some true ∷ Some true ∷ Some true ∷ []
unfolding reading_in
tests = refl

filters : map (λ o. outside (reading (sum_of o (op (codes "|") (id (codes "f") Ended))))) rows
    ≡ Some false ∷ Some false ∷ Some false ∷ Some false ∷ Some false ∷ Some false ∷ Some false ∷ []
unfolding reading_in
filters = refl

negated : map (λ o. outside (reading (id (codes "not") (sum_of o Ended)))) rows
    ≡ Some false ∷ Some false ∷ Some true ∷ Some true ∷ Some true ∷ Some true ∷ Some true ∷ []
unfolding reading_in
negated = refl

subtracted : map (λ o. outside (reading (op (codes "-") (sum_of o Ended)))) rows
    ≡ Some false ∷ Some false ∷ Some false ∷ Some false ∷ Some false ∷ Some false ∷ Some false ∷ []
unfolding reading_in
subtracted = refl

-- What follows what.

no_field_of_parens : reading (op (codes "(") (id (codes "a") (op (codes ")") (op (codes ".") (id (codes "b") Ended))))) ≡ None
unfolding reading_in
no_field_of_parens = refl

no_field_of_a_call : reading (id (codes "f") (op (codes "(") (op (codes ")") (op (codes ".") (id (codes "x") Ended))))) ≡ None
unfolding reading_in
no_field_of_a_call = refl

no_call_of_a_field : reading (id (codes "a") (op (codes ".") (id (codes "b") (op (codes "(") (id (codes "c") (op (codes "=") (num 1 (op (codes ")") Ended)))))))) ≡ None
unfolding reading_in
no_call_of_a_field = refl

item_of_parens : reading (op (codes "(") (id (codes "a") (op (codes ")") (op (codes "[") (num 0 (op (codes "]") Ended))))))
    ≡ Some (tree.GetItem (var (codes "a")) (whole 0) false nowhere)
unfolding reading_in
item_of_parens = refl

item_before_minus : reading (op (codes "-") (op (codes "(") (id (codes "a") (op (codes ")") (op (codes "[") (num 0 (op (codes "]") Ended)))))))
    ≡ Some (tree.UnaryOperation unary.Minus (tree.GetItem (var (codes "a")) (whole 0) false nowhere) nowhere)
unfolding reading_in
item_before_minus = refl

words_as_names : reading (id (codes "and") (id (codes "and") (id (codes "if") Ended)))
    ≡ Some (tree.BinaryOperation And (var (codes "and")) (var (codes "if")) nowhere)
unfolding reading_in
words_as_names = refl

no_value : reading (id (codes "null") Ended) ≡ Some (tree.Const values.Nothing nowhere)
unfolding reading_in
no_value = refl

-- Arrays, maps and comprehensions.

empty_array : reading (op (codes "[") (op (codes "]") Ended)) ≡ Some (tree.Const (values.Array values.NoVals) nowhere)
unfolding reading_in
empty_array = refl

inner_map : reading (op (codes "{") (str (codes "a") (op (codes ":") (op (codes "{") (str (codes "b") (op (codes ":") (num 1 (op (codes "}") (op (codes "}") Ended)))))))))
    ≡ Some (tree.Const (values.Map (values.OnePair (TextKey (codes "a")) (values.Map (values.OnePair (TextKey (codes "b")) (values.I64 (pos 1)) NoPairs)) NoPairs)) nowhere)
unfolding reading_in
inner_map = refl

map_of_a_variable : reading (op (codes "{") (str (codes "a") (op (codes ":") (id (codes "x") (op (codes "}") Ended)))))
    ≡ Some (tree.Map (tree.Entry (TextKey (codes "a")) (var (codes "x")) tree.NoEntries) nowhere)
unfolding reading_in
map_of_a_variable = refl

ternary_is_gathered : reading (op (codes "[") (id (codes "x") (id (codes "if") (id (codes "y") (id (codes "else") (id (codes "z") (id (codes "for") (id (codes "x") (id (codes "in") (id (codes "xs") (op (codes "]") Ended)))))))))))
    ≡ Some (tree.ListComprehension (tree.Ternary (var (codes "y")) (var (codes "x")) (var (codes "z")) nowhere) None (codes "x") (var (codes "xs")) tree.NoExpr nowhere)
unfolding reading_in
ternary_is_gathered = refl

guarded : reading (op (codes "[") (id (codes "v") (id (codes "for") (id (codes "k") (op (codes ",") (id (codes "v") (id (codes "in") (id (codes "a") (id (codes "if") (id (codes "b") (op (codes "]") Ended)))))))))))
    ≡ Some (tree.ListComprehension (var (codes "v")) (Some (codes "k")) (codes "v") (var (codes "a")) (tree.OneExpr (var (codes "b"))) nowhere)
unfolding reading_in
guarded = refl

no_ternary_target : reading (op (codes "[") (id (codes "x") (id (codes "for") (id (codes "x") (id (codes "in") (id (codes "a") (id (codes "if") (id (codes "b") (id (codes "else") (id (codes "c") (op (codes "]") Ended))))))))))) ≡ None
unfolding reading_in
no_ternary_target = refl

no_spread_gathered : reading (op (codes "[") (op (codes "...") (id (codes "a") (id (codes "for") (id (codes "a") (id (codes "in") (id (codes "b") (op (codes "]") Ended)))))))) ≡ None
unfolding reading_in
no_spread_gathered = refl

no_reserved_variable : reading (op (codes "[") (id (codes "x") (id (codes "for") (id (codes "loop") (id (codes "in") (id (codes "b") (op (codes "]") Ended))))))) ≡ None
unfolding reading_in
no_reserved_variable = refl

-- Limits of one: what counts, and what does not.

abbrev limited : ℕ → ℕ → ℕ → ℕ → Items → Option Expr
limited depth links subscripts arrays items =
    reading_in (record { depth = depth; links = links; subscripts = subscripts; arrays = arrays; bodies = 1 }) false items

test_opens_none : is_some (limited 1 9 9 9 (id (codes "a") (id (codes "is") (id (codes "b") Ended)))) ≡ true
unfolding reading_in
test_opens_none = refl

operator_opens_one : is_some (limited 1 9 9 9 (id (codes "a") (op (codes "+") (id (codes "b") Ended)))) ≡ false
unfolding reading_in
operator_opens_one = refl

one_link : is_some (limited 9 1 9 9 (id (codes "a") (op (codes "+") (id (codes "b") Ended)))) ≡ true
unfolding reading_in
one_link = refl

two_links : is_some (limited 9 1 9 9 (id (codes "a") (op (codes "+") (id (codes "b") (op (codes ".") (id (codes "c") Ended)))))) ≡ false
unfolding reading_in
two_links = refl

two_subscripts_beside : is_some (limited 9 9 1 9 (id (codes "a") (op (codes "[") (num 0 (op (codes "]") (op (codes "[") (num 0 (op (codes "]") Ended)))))))) ≡ true
unfolding reading_in
two_subscripts_beside = refl

two_subscripts_inside : is_some (limited 9 9 1 9 (id (codes "a") (op (codes "[") (id (codes "b") (op (codes "[") (num 0 (op (codes "]") (op (codes "]") Ended)))))))) ≡ false
unfolding reading_in
two_subscripts_inside = refl

two_arrays : is_some (limited 9 9 9 1 (op (codes "[") (op (codes "[") (num 1 (op (codes "]") (op (codes "]") Ended)))))) ≡ false
unfolding reading_in
two_arrays = refl

array_gathered : is_some (limited 9 9 9 1 (op (codes "[") (op (codes "[") (num 1 (op (codes "]") (id (codes "for") (id (codes "x") (id (codes "in") (id (codes "b") (op (codes "]") Ended)))))))))) ≡ false
unfolding reading_in
array_gathered = refl

array_as_target : is_some (limited 9 9 9 1 (op (codes "[") (id (codes "x") (id (codes "for") (id (codes "x") (id (codes "in") (op (codes "[") (num 1 (op (codes "]") (op (codes "]") Ended)))))))))) ≡ true
unfolding reading_in
array_as_target = refl

-- Spans: a range in bytes, on one line.

abbrev sp : ℕ → ℕ → Span
sp a b = record { start_line = 1; start_col = a; end_line = 1; end_col = b; range = record { start = a; end = b } }

abbrev id_at : List ℕ → ℕ → ℕ → Items → Items
id_at name a b r = Token (Ident name) (sp a b) r

abbrev op_at : List ℕ → ℕ → ℕ → Items → Items
op_at text a b r = Token (Symbol text) (sp a b) r

abbrev num_at : ℕ → ℕ → ℕ → Items → Items
num_at n a b r = Token (toks.Integer (pos n)) (sp a b) r

abbrev in_a_loop : Items → Option Expr
in_a_loop items = reading_in usual true items

not_in_spans : reading (id_at (codes "a") 3 4 (id_at (codes "not") 5 8 (id_at (codes "in") 9 11 (id_at (codes "b") 12 13 Ended))))
    ≡ Some (tree.UnaryOperation unary.Not (tree.BinaryOperation In (tree.Var (codes "a") (sp 3 4)) (tree.Var (codes "b") (sp 12 13)) (sp 3 13)) (sp 3 13))
unfolding reading_in
not_in_spans = refl

is_not_spans : reading (id_at (codes "a") 3 4 (id_at (codes "is") 5 7 (id_at (codes "not") 8 11 (id_at (codes "b") 12 13 Ended))))
    ≡ Some (tree.UnaryOperation unary.Not (tree.Test (tree.Var (codes "a") (sp 3 4)) (codes "b") tree.NoArgs (sp 12 13)) (sp 3 13))
unfolding reading_in
is_not_spans = refl

paren_spans : reading (op_at (codes "(") 3 4 (id_at (codes "a") 4 5 (op_at (codes ")") 5 6 (op_at (codes "+") 7 8 (op_at (codes "(") 9 10 (id_at (codes "b") 10 11 (op_at (codes ")") 11 12 Ended)))))))
    ≡ Some (tree.BinaryOperation Plus (tree.Var (codes "a") (sp 4 5)) (tree.Var (codes "b") (sp 10 11)) (sp 3 12))
unfolding reading_in
paren_spans = refl

item_spans : reading (id_at (codes "a") 3 4 (op_at (codes ".") 4 5 (id_at (codes "b") 5 6 (op_at (codes "[") 6 7 (num_at 0 7 8 (op_at (codes "]") 8 9 Ended))))))
    ≡ Some (tree.GetItem (tree.GetAttr (tree.Var (codes "a") (sp 3 4)) (codes "b") false (sp 5 6)) (tree.Const (values.I64 (pos 0)) (sp 7 8)) false (sp 5 9))
unfolding reading_in
item_spans = refl

folded_spans : reading (op_at (codes "-") 3 4 (op_at (codes "(") 4 5 (num_at 1 5 6 (op_at (codes ")") 6 7 Ended)))) ≡ Some (tree.Const (values.I64 (negsuc 0)) (sp 3 7))
unfolding reading_in
folded_spans = refl

optional_spans : reading (id_at (codes "a") 3 4 (op_at (codes ".") 4 5 (id_at (codes "b") 5 6 (op_at (codes "?.") 6 8 (id_at (codes "c") 8 9 Ended)))))
    ≡ Some (tree.GetAttr (tree.GetAttr (tree.Var (codes "a") (sp 3 4)) (codes "b") false (sp 5 6)) (codes "c") true (sp 8 9))
unfolding reading_in
optional_spans = refl

loop_field : in_a_loop (id_at (codes "loop") 20 24 (op_at (codes "[") 24 25 (num_at 0 25 26 (op_at (codes "]") 26 27 (op_at (codes ".") 27 28 (id_at (codes "index") 28 33 Ended))))))
    ≡ Some (tree.Var (codes "__tera_loop_index") (sp 28 33))
unfolding reading_in
loop_field = refl

no_loop_field : in_a_loop (id (codes "loop") (op (codes ".") (id (codes "next") Ended))) ≡ None
unfolding reading_in
no_loop_field = refl

called_spans : reading (id_at (codes "f") 3 4 (op_at (codes "(") 4 5 (id_at (codes "b") 5 6 (op_at (codes "=") 6 7 (num_at 1 7 8 (op_at (codes ",") 8 9 (id_at (codes "a") 9 10 (op_at (codes "=") 10 11 (num_at 2 11 12 (op_at (codes ")") 12 13 Ended))))))))))
    ≡ Some (tree.FunctionCall (codes "f") (tree.Arg (codes "a") (tree.Const (values.I64 (pos 2)) (sp 11 12)) (tree.Arg (codes "b") (tree.Const (values.I64 (pos 1)) (sp 7 8)) tree.NoArgs)) (sp 3 13))
unfolding reading_in
called_spans = refl

same_argument : reading (id (codes "f") (op (codes "(") (id (codes "a") (op (codes "=") (num 1 (op (codes ",") (id (codes "a") (op (codes "=") (num 2 (op (codes ")") Ended)))))))))) ≡ None
unfolding reading_in
same_argument = refl

ternaries : reading (id (codes "x") (id (codes "if") (id (codes "a") (id (codes "else") (id (codes "y") (id (codes "if") (id (codes "b") (id (codes "else") (id (codes "z") Ended)))))))))
    ≡ Some (tree.Ternary (var (codes "a")) (var (codes "x")) (tree.Ternary (var (codes "b")) (var (codes "y")) (var (codes "z")) nowhere) nowhere)
unfolding reading_in
ternaries = refl

negations : reading (id (codes "not") (id (codes "a") (id (codes "in") (id (codes "b") Ended)))) ≡ Some (tree.UnaryOperation unary.Not (tree.BinaryOperation In (var (codes "a")) (var (codes "b")) nowhere) nowhere)
unfolding reading_in
negations = refl

two_signs : reading (op (codes "-") (op (codes "-") (num 1 Ended))) ≡ None
unfolding reading_in
two_signs = refl

subscript_of_call : reading (id (codes "f") (op (codes "(") (op (codes ")") (op (codes "[") (num 0 (op (codes "]") Ended))))))
    ≡ Some (tree.GetItem (tree.FunctionCall (codes "f") tree.NoArgs nowhere) (whole 0) false nowhere)
unfolding reading_in
subscript_of_call = refl

spreads : reading (op (codes "[") (op (codes "...") (id (codes "a") (op (codes ",") (num 1 (op (codes ",") (op (codes "]") Ended)))))))
    ≡ Some (tree.Array (tree.SpreadItem (var (codes "a")) (tree.Item (whole 1) tree.NoItems)) nowhere)
unfolding reading_in
spreads = refl

no_step : reading (id (codes "a") (op (codes "[") (op (codes ":") (op (codes ":") (op (codes "]") Ended))))) ≡ None
unfolding reading_in
no_step = refl

-- n subscripts one inside the other

abbrev nested_in : ℕ → Items → Items
nested_in zero r = num 0 r
nested_in (suc n) r = id (codes "a") (op (codes "[") (nested_in n (op (codes "]") r)))

four_nested : is_some (reading (nested_in 4 Ended)) ≡ true
unfolding reading_in
four_nested = refl

five_nested : is_some (reading (nested_in 5 Ended)) ≡ false
unfolding reading_in
five_nested = refl

-- n parentheses

abbrev in_parens : ℕ → Items → Items
in_parens zero r = id (codes "a") r
in_parens (suc n) r = op (codes "(") (in_parens n (op (codes ")") r))

deep_enough : is_some (reading (in_parens 39 Ended)) ≡ true
unfolding reading_in
deep_enough = refl

too_many : is_some (reading (in_parens 40 Ended)) ≡ false
unfolding reading_in
too_many = refl
