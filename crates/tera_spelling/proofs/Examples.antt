-- The texts of a few lists of tokens, by computing, and which tokens can be spelled.
use Rattle.std.proofs.Common.{rules, ◌≡◌, ℕ, Bool, true, false, List, [], ◌∷◌, refl, codes}
use Rattle.std.specs.Prelude.{pos, negsuc}
use Rattle.std.specs.Fmt.{digits}
use Rattle.tera_lexer.specs.code.Cursors.{nowhere}
use Rattle.tera_lexer.specs.grammar.Tokens.{Ident, Str, Escaped, Integer, Truth, Symbol, Items, Ended, Token}
use Rattle.tera_spelling.specs.Spelling.{IsSpelled, AreSpelled, tokens_text}
use Rattle.tera_spelling.specs.Sources.{in_tag}

-- a token before others; where it is does not matter
abbrev name : List ℕ → Items → Items
name text r = Token (Ident text) nowhere r

abbrev symbol : List ℕ → Items → Items
symbol op r = Token (Symbol op) nowhere r

abbrev number : ℕ → Items → Items
number n r = Token (Integer (pos n)) nowhere r

abbrev string : List ℕ → Items → Items
string text r = Token (Str text) nowhere r

abbrev escaped : List ℕ → Items → Items
escaped text r = Token (Escaped text) nowhere r

abbrev truth : Bool → Items → Items
truth b r = Token (Truth b) nowhere r

grouped : tokens_text (symbol (codes "(") (name (codes "a") (symbol (codes "+") (name (codes "b") (symbol (codes ")") (symbol (codes "*") (name (codes "c") Ended))))))) ≡ codes "( a + b ) * c"
grouped = refl

tighter : tokens_text (name (codes "a") (symbol (codes "+") (name (codes "b") (symbol (codes "*") (name (codes "c") Ended))))) ≡ codes "a + b * c"
tighter = refl

powers : tokens_text (name (codes "a") (symbol (codes "**") (name (codes "b") (symbol (codes "**") (name (codes "c") Ended))))) ≡ codes "a ** b ** c"
powers = refl

left_power : tokens_text (symbol (codes "(") (name (codes "a") (symbol (codes "**") (name (codes "b") (symbol (codes ")") (symbol (codes "**") (name (codes "c") Ended))))))) ≡ codes "( a ** b ) ** c"
left_power = refl

tested : tokens_text (name (codes "x") (symbol (codes "+") (name (codes "a") (name (codes "is") (name (codes "defined") (symbol (codes "*") (number 2 Ended))))))) ≡ codes "x + a is defined * 2"
unfolding digits
tested = refl

not_in : tokens_text (name (codes "a") (name (codes "not") (name (codes "in") (name (codes "b") Ended)))) ≡ codes "a not in b"
not_in = refl

negated_not_in : tokens_text (name (codes "not") (name (codes "a") (name (codes "not") (name (codes "in") (name (codes "b") Ended))))) ≡ codes "not a not in b"
negated_not_in = refl

negated_sum : tokens_text (name (codes "not") (symbol (codes "(") (symbol (codes "-") (number 1 (symbol (codes ")") (symbol (codes "+") (name (codes "a") Ended))))))) ≡ codes "not ( - 1 ) + a"
unfolding digits
negated_sum = refl

minus_twice : tokens_text (symbol (codes "-") (symbol (codes "(") (symbol (codes "-") (name (codes "x") (symbol (codes ")") Ended))))) ≡ codes "- ( - x )"
minus_twice = refl

folded : tokens_text (number 1 Ended) ≡ codes "1"
unfolding digits
folded = refl

ternaries : tokens_text (symbol (codes "(") (name (codes "a") (name (codes "if") (name (codes "b") (name (codes "else") (name (codes "c") (symbol (codes ")") (name (codes "if") (name (codes "d") (name (codes "else") (name (codes "e") Ended))))))))))) ≡ codes "( a if b else c ) if d else e"
ternaries = refl

comprehension : tokens_text (symbol (codes "[") (name (codes "x") (name (codes "for") (name (codes "x") (name (codes "in") (symbol (codes "(") (name (codes "a") (name (codes "if") (name (codes "b") (name (codes "else") (name (codes "c") (symbol (codes ")") (symbol (codes "]") Ended))))))))))))) ≡ codes "[ x for x in ( a if b else c ) ]"
comprehension = refl

chain : tokens_text (name (codes "a") (symbol (codes ".") (name (codes "b") (symbol (codes "[") (number 0 (symbol (codes "]") Ended)))))) ≡ codes "a . b [ 0 ]"
unfolding digits
chain = refl

item : tokens_text (name (codes "a") (symbol (codes "[") (number 0 (symbol (codes "]") Ended)))) ≡ codes "a [ 0 ]"
unfolding digits
item = refl

map : tokens_text (symbol (codes "{") (string (codes "a") (symbol (codes ":") (symbol (codes "{") (string (codes "b") (symbol (codes ":") (number 1 (symbol (codes "}") (symbol (codes "}") Ended))))))))) ≡ codes "{ \"a\" : { \"b\" : 1 } }"
unfolding digits
map = refl

quoted : tokens_text (escaped (codes "it\"s") Ended) ≡ codes "\"it\\\"s\""
quoted = refl

component : tokens_text (symbol (codes "<") (name (codes "greet") (name (codes "name") (symbol (codes "=") (string (codes "Bob") (name (codes "n") (symbol (codes "/") (symbol (codes ">") Ended)))))))) ≡ codes "< greet name = \"Bob\" n / >"
component = refl

nothing : tokens_text Ended ≡ []
nothing = refl

truths : tokens_text (truth true (name (codes "or") (truth false Ended))) ≡ codes "true or false"
truths = refl

greatest : tokens_text (number 9223372036854775807 Ended) ≡ codes "9223372036854775807"
unfolding digits
greatest = refl

backslash : tokens_text (escaped (codes "a\\b") Ended) ≡ codes "\"a\\\\b\""
backslash = refl

in_a_tag : in_tag (tokens_text (name (codes "a") (symbol (codes "|") (name (codes "f") Ended)))) ≡ codes "{{ a | f }}"
in_a_tag = refl

-- these can be spelled
closed_braces : AreSpelled (symbol (codes "{") (symbol (codes "}") (symbol (codes "}") (symbol (codes "-") Ended))))
closed_braces = search rules

words : AreSpelled (name (codes "not") (name (codes "_a1") (name (codes "none") (name (codes "TRUE") Ended))))
words = search rules

strings : AreSpelled (string (codes "it's") (escaped (codes "it\"s") (string [] (string (10 ∷ 125 ∷ 125 ∷ []) Ended))))
strings = search rules

-- and these cannot: a word for a truth as a name, a name of two, a name that begins with a digit, a string of the wrong
-- kind, a number below 0, and what is not an operator or is two
truth_word : IsSpelled (Ident (codes "True")) → ⊥
truth_word is = let clash = is.1 in cc

two_names : IsSpelled (Ident (codes "a b")) → ⊥
two_names is = let clash : false ≡ true = is.0.1.0 in cc

first_digit : IsSpelled (Ident (codes "1a")) → ⊥
first_digit is = let clash : false ≡ true = is.0.0 in cc

wrong_kind : IsSpelled (Escaped (codes "a")) → ⊥
wrong_kind is = let clash : false ≡ true = is in cc

below_zero : IsSpelled (Integer (negsuc 0)) → ⊥
below_zero (k, e, fits) = cc

no_operator : IsSpelled (Symbol (codes "&")) → ⊥
no_operator is = cc

two_operators : IsSpelled (Symbol (codes "}}")) → ⊥
two_operators is = let clash = is in cc
