-- The text of tokens, each after a space, and the parentheses that a tree gets where it is.
use Rattle.std.proofs.Common.{◌≡◌, ℕ, suc, Bool, true, false, ◌||◌, cond, ltb, nat_eq, List, [], ◌∷◌, ◌++◌, Option, None, Some, codes, refl, sym, ap, ◌∙◌, append_assoc}
use Rattle.tera_spelling.specs.Spelling.{spaced, tokens_text}
use Rattle.tera_lexer.specs.grammar.Tokens.{Items, Ended, Failed, Token}
use Rattle.tera_lexer.specs.code.Cursors.{nowhere}
use Rattle.tera_grammar.specs.expressions.Marks.{mark, RightParen, Comma}
use Rattle.tera_grammar.specs.expressions.Concrete.{Kind, closing, Tree, Atomic, Prefix, Suffixed, Infix, dots, Row, ended, only, then, Element, yield, row_yield, element_yield, name_yield, second_yield, dotted_yield}
use Rattle.tera_grammar.specs.expressions.Powers.{sign_power, left_power, right_power}
use Rattle.tera_grammar.specs.expressions.Companions.{Path}
use Rattle.tera_source.specs.declared.context.Context.{Context}
use Rattle.tera_source.specs.Contexts.{free}
use Rattle.tera_source.specs.Source.{in_front, first_variable, second_variable, word, longer, path_from, asked, kept_out, in_parens, paren, paren_atom, paren_row, paren_element, paren_suffix, paren_operator}
use Rattle.tera_source.specs.Writing.{comma_text, names_text, dotted}

abbrev pub after_first : List ℕ → List ℕ
after_first [] = []
after_first (x ∷ xs) = xs

pub from_spaced : (items : Items) (text : List ℕ) → spaced items ≡ 32 ∷ text → tokens_text items ≡ text
from_spaced Ended text h = cc
from_spaced (Failed fault span) text h = cc
from_spaced (Token t span items) text h = ap after_first h

-- one more piece in front
pub after : (x y z : List ℕ) {t : List ℕ} → t ≡ y ++ z → x ++ t ≡ (x ++ y) ++ z
after x y z h = ap (λ l. x ++ l) h ∙ sym (append_assoc x y z)

-- a tree where it is, and without parentheses around it
abbrev pub at : Context → Tree → Tree
at c t = paren c.left c.right c.plain t

abbrev pub opened : Context → Tree → Tree
opened c (Atomic a) = Atomic (paren_atom a)
opened c (Prefix s e) = Prefix s (paren (sign_power s) c.right true e)
opened c (Suffixed a s) = Suffixed (paren c.left (asked s) c.plain a) (paren_suffix s)
opened c (Infix a o b) = Infix (paren c.left (suc (left_power o)) c.plain a) (paren_operator o) (paren (right_power o) c.right false b)

abbrev pub is_barred : Context → Tree → Bool
is_barred c (Atomic a) = false
is_barred c (Prefix s e) = c.plain || ltb (sign_power s) c.right
is_barred c (Suffixed a s) = kept_out c.left s
is_barred c (Infix a o b) = ltb (left_power o) c.left || ltb (right_power o) c.right

pub at_is : (c : Context) (t : Tree) → at c t ≡ cond (is_barred c t) (in_parens (opened free t)) (opened c t)
at_is c (Atomic a) = refl
at_is c (Prefix s e) = refl
at_is c (Suffixed a s) = refl
at_is c (Infix a o b) = refl

-- in parentheses, and without
pub by_bar : (t : Tree) (b : Bool) (c : Context) (r : Items) (inner outer : List ℕ)
    → spaced (yield (opened free t) (mark RightParen nowhere r)) ≡ 32 ∷ (inner ++ spaced (mark RightParen nowhere r))
    → spaced (yield (opened c t) r) ≡ 32 ∷ (outer ++ spaced r)
    → spaced (yield (cond b (in_parens (opened free t)) (opened c t)) r) ≡ 32 ∷ (cond b (codes "( " ++ (inner ++ codes " )")) outer ++ spaced r)
by_bar t true c r inner outer h k = ap (λ l. 32 ∷ 40 ∷ l) (h ∙ ap (λ l. 32 ∷ l) (sym (append_assoc inner (codes " )") (spaced r))))
by_bar t false c r inner outer h k = k

-- what is left of a row, after an element or from its opening mark
abbrev pub begun : Bool → Kind → Row → Items → Items
begun true k (ended s) r = mark (closing k) s r
begun true k row r = mark Comma nowhere (row_yield k (paren_row row) r)
begun false k row r = row_yield k (paren_row row) r

front_is : (k : Kind) (x : Element) (row : Row) (r : Items) → row_yield k (paren_row (in_front x row)) r ≡ element_yield (paren_element x) (begun true k row r)
front_is k x (ended s) r = refl
front_is k x (only y s) r = refl
front_is k x (then y s ys) r = refl

after_is : (k : Kind) (x : Element) (row : Row) (r : Items) → begun true k (in_front x row) r ≡ mark Comma nowhere (row_yield k (paren_row (in_front x row)) r)
after_is k x (ended s) r = refl
after_is k x (only y s) r = refl
after_is k x (then y s ys) r = refl

front_text : (k : Kind) (x : Element) (row : Row) (r : Items) (first rest last : List ℕ)
    → spaced (element_yield (paren_element x) (begun true k row r)) ≡ 32 ∷ (first ++ spaced (begun true k row r))
    → spaced (begun true k row r) ≡ rest ++ last
    → spaced (row_yield k (paren_row (in_front x row)) r) ≡ 32 ∷ ((first ++ rest) ++ last)
front_text k x row r first rest last h more =
    ap spaced (front_is k x row r) ∙ h ∙ ap (λ l. 32 ∷ l) (after first rest last more)

-- one more element in front of a row
pub row_more : (later : Bool) (k : Kind) (x : Element) (row : Row) (r : Items) (first rest last : List ℕ)
    → spaced (element_yield (paren_element x) (begun true k row r)) ≡ 32 ∷ (first ++ spaced (begun true k row r))
    → spaced (begun true k row r) ≡ rest ++ last
    → spaced (begun later k (in_front x row) r) ≡ (comma_text later ++ (first ++ rest)) ++ last
row_more false k x row r first rest last h more = front_text k x row r first rest last h more
row_more true k x row r first rest last h more =
    ap spaced (after_is k x row r) ∙ ap (λ l. 32 ∷ 44 ∷ l) (front_text k x row r first rest last h more)

-- the variables of a comprehension
pub names_written : (key : Option (List ℕ)) (value : List ℕ) (r : Items)
    → spaced (name_yield (first_variable key value) (second_yield (second_variable key value) r)) ≡ 32 ∷ (names_text key value ++ spaced r)
names_written None value r = refl
names_written (Some key) value r = ap (λ l. 32 ∷ l) (sym (append_assoc key (codes " , " ++ value) (spaced r)))

-- the name of a component, cut at a dot or one byte longer
abbrev cut : Bool → ℕ → Path → Path
cut t b x = cond t (record { name = word []; further = dots nowhere x.name x.further }) (longer b x)

path_more : (t : Bool) (b : ℕ) (x : Path) (text : List ℕ) (r : Items) → spaced (name_yield x.name (dotted_yield x.further r)) ≡ 32 ∷ (text ++ spaced r)
    → spaced (name_yield (cut t b x).name (dotted_yield (cut t b x).further r)) ≡ 32 ∷ (cond t (codes " . " ++ text) (b ∷ text) ++ spaced r)
path_more true b x text r h = ap (λ l. 32 ∷ 32 ∷ 46 ∷ l) h
path_more false b x text r h = ap (λ l. 32 ∷ b ∷ l) (ap after_first h)

pub path_written : (name : List ℕ) (r : Items)
    → spaced (name_yield (path_from name).name (dotted_yield (path_from name).further r)) ≡ 32 ∷ (dotted name ++ spaced r)
path_written [] r = refl
path_written (b ∷ bs) r = path_more (nat_eq b 46) b (path_from bs) (dotted bs) r (path_written bs r)
