-- Lexemes that are together stay two by themselves, and between the default markers no end of a tag comes of them.
use Rattle.std.proofs.Common.{◌≡◌, ◌<◌, ℕ, Bool, true, false, not, ◌&&◌, ◌||◌, List, [], ◌∷◌, ◌++◌, length, inl, inr, ⊎_elim, ap, sym, ◌∙◌, refl, subst, codes, arith}
use Rattle.std.specs.Prelude.{◌⊎◌, ◌==◌, nat_eq, if◌then◌else◌}
use Rattle.std.specs.List.{AllByRecursion, list_any}
use Rattle.std.specs.Char.{is_ascii_digit}
use Rattle.std.specs.Str.{bytes_eq}
use Rattle.std.proofs.lemmas.Bool.{cases_Bool, eqb-true, false≢true}
use Rattle.std.proofs.lemmas.Bool.Decides.{nat_tests}
use Rattle.std.proofs.lemmas.Slice.Eq.{bytes_eq-Decides}
use Rattle.tera_lexer.specs.grammar.Marks.{default_marks}
use Rattle.tera_lexer.specs.grammar.Lexeme as lexeme
use Rattle.tera_lexer.specs.grammar.Lexeme.{Lexeme, begins_name, goes_on_name, is_quote, has_escape, spelled, IsLexeme}
use Rattle.tera_lexer.specs.grammar.Tokens as toks
use Rattle.tera_lexer.specs.grammar.Tokens.{Tok, name_token, token_of}
use Rattle.tera_lexer.proofs.Insides.{spelled_some}
use Rattle.tera_layout.specs.declared.sides.Side.{Side}
use Rattle.tera_layout.specs.declared.sides.Side.TheVariants.{Start, Outside, Word, Name, Number, Quoted, Paren, Bracket, Brace, Closing, ClosingBrace, Comma, Colon, Dot, Prefix, Equals, Minus, Less, Operator, Other}
use Rattle.tera_layout.specs.declared.sides.Owner.{Owner}
use Rattle.tera_layout.specs.declared.sides.Owner.TheVariants.{Argument, Target, Parameter}
use Rattle.tera_layout.specs.declared.sides.Left.{Left}
use Rattle.tera_layout.specs.Apart.{in_operator, in_end, last_from, first_from, may_touch, may_touch_first, meet_in_end}
use Rattle.tera_layout.proofs.Likeness.{not_true, loose_last}
use Rattle.tera_lexer.specs.grammar.Words.{is_one_of}
use Rattle.tera_layout.specs.Sides.{operators, side_among, words, word_side, side_of, ends_a_value, has_no_slice, equals_of, are_together, placed}

-- what follows for one of two sides follows for the one that is taken
either_side : (P : Side → Type 0) (b : Bool) (x y : Side) → P x → P y → P (if b then x else y)
either_side P true x y one other = one
either_side P false x y one other = other

-- .. and for the side of an operator
operator_side : (P : List ℕ → Side → Type 0) (table : List (List ℕ × Side)) (op : List ℕ) →
    AllByRecursion (λ row. P row.0 row.1) table → P op Other → P op (side_among table op)
operator_side P [] op rows other = other
operator_side P ((known, side) ∷ more) op rows other =
    ⊎_elim
    (λ (yes : bytes_eq op known ≡ true). rw yes (subst (λ x. P x side) (sym ((bytes_eq-Decides op known).0 yes)) rows.0))
    (λ (no : bytes_eq op known ≡ false). rw no (operator_side P more op rows.1 other))
    (cases_Bool (bytes_eq op known))

either_word : (a b : List ℕ) → List ℕ → Bool
either_word a b name = bytes_eq name a || bytes_eq name b

pub name_any : (P : Tok → Type 0) (name : List ℕ) → P (toks.Truth true) → P (toks.Truth false) → P (toks.Ident name) → P (name_token name)
unfolding either_word
name_any P name right wrong other =
    ⊎_elim
    (λ here. rw here right)
    (λ first. rw first (⊎_elim (λ here. rw here wrong) (λ second. rw second other) (cases_Bool (either_word (codes "false") (codes "False") name))))
    (cases_Bool (either_word (codes "true") (codes "True") name))

-- the side of a lexeme
side_any : (P : Lexeme → Side → Type 0) → ((b : ℕ) (bs : List ℕ) → P (lexeme.Name b bs) Name) → ((b : ℕ) (bs : List ℕ) → P (lexeme.Name b bs) Word) →
    ((b : ℕ) (bs : List ℕ) → P (lexeme.Number b bs) Number) → ((quote : ℕ) (is : List lexeme.Inner) → P (lexeme.Quoted quote is) Quoted) →
    AllByRecursion (λ row. P (lexeme.Operator row.0) row.1) operators → ((op : List ℕ) → P (lexeme.Operator op) Other) →
    (l : Lexeme) → P l (side_of (token_of l))
side_any P name word number string rows other (lexeme.Name b bs) =
    name_any (λ t. P (lexeme.Name b bs) (side_of t)) (b ∷ bs) (name b bs) (name b bs)
    (either_side (P (lexeme.Name b bs)) (is_one_of words (b ∷ bs)) Word Name (word b bs) (name b bs))
side_any P name word number string rows other (lexeme.Number b bs) = number b bs
side_any P name word number string rows other (lexeme.Quoted quote is) =
    ⊎_elim (λ escape. rw escape (string quote is)) (λ plain. rw plain (string quote is)) (cases_Bool (has_escape is))
side_any P name word number string rows other (lexeme.Operator op) = operator_side (λ x s. P (lexeme.Operator x) s) operators op rows (other op)

-- the two bytes are side by side in an operator, or in the end of a tag between the default markers with its dash
abbrev joins : ℕ → ℕ → Bool
joins a c = in_operator a c || in_end default_marks a c

-- the lexeme stays as it is where this byte comes after it; and an operator ends no tag with it
abbrev touches : Lexeme → ℕ → Bool
touches (lexeme.Name b bs) c = may_touch (lexeme.Name b bs) c
touches (lexeme.Number b bs) c = may_touch (lexeme.Number b bs) c
touches (lexeme.Quoted quote is) c = true
touches (lexeme.Operator op) c = not (joins (last_from 0 op) c)

-- On the left: the bytes that may touch what is so
abbrev plain : List ℕ
plain = codes ")],:"

abbrev follows_minus : ℕ → Bool
follows_minus c = goes_on_name c || 40 == c

abbrev allows : Side → ℕ → Bool
allows Word c = not (goes_on_name c)
allows Name c = not (goes_on_name c)
allows Number c = not (is_ascii_digit c) && not (46 == c)
allows Quoted c = true
allows Paren c = true
allows Bracket c = true
allows Brace c = true
allows Closing c = true
allows ClosingBrace c = not (joins 125 c)
allows Comma c = true
allows Colon c = true
allows Dot c = begins_name c || list_any (λ x. x == c) plain
allows Prefix c = begins_name c || list_any (λ x. x == c) plain
allows Equals c = not (joins 61 c)
allows Minus c = follows_minus c || list_any (λ x. x == c) plain
allows s c = list_any (λ x. x == c) plain

one_of : (P : ℕ → Type 0) (xs : List ℕ) (c : ℕ) → AllByRecursion P xs → list_any (λ x. x == c) xs ≡ true → P c
one_of P [] c all is = cc
one_of P (x ∷ xs) c all is =
    ⊎_elim
    (λ (yes : nat_eq x c ≡ true). subst P (eqb-true x c yes) all.0)
    (λ (no : nat_eq x c ≡ false). let more : list_any (λ y. y == c) xs ≡ true = rw no at is in one_of P xs c all.1 more)
    (cases_Bool (nat_eq x c))

one_or : (P : ℕ → Type 0) (test : ℕ → Bool) (xs : List ℕ) (c : ℕ) → (test c ≡ true → P c) → AllByRecursion P xs →
    (test c || list_any (λ x. x == c) xs) ≡ true → P c
one_or P test xs c first all is =
    ⊎_elim
    (λ (yes : test c ≡ true). first yes)
    (λ (no : test c ≡ false). let more : list_any (λ x. x == c) xs ≡ true = rw no at is in one_of P xs c all more)
    (cases_Bool (test c))

-- no byte is joined by these
plain_joins : (a : ℕ) → AllByRecursion (λ c. not (joins a c) ≡ true) plain
plain_joins a = grind (arith, nat_tests)

name_joins : (a : ℕ) → begins_name a ≡ true →
    (not (joins 46 a) ≡ true) × (not (joins 47 a) ≡ true) × (not (joins 60 a) ≡ true) × (not (joins 61 a) ≡ true)
name_joins a h = (grind (arith, nat_tests), grind (arith, nat_tests), grind (arith, nat_tests), grind (arith, nat_tests))

minus_joins : (a : ℕ) → follows_minus a ≡ true → not (joins 45 a) ≡ true
minus_joins a h = grind (arith, nat_tests)

abbrev pub Allowed : Lexeme → Side → Type 0
Allowed l s = (c : ℕ) → allows s c ≡ true → touches l c ≡ true

other_allowed : (l : Lexeme) → Allowed l Other
other_allowed (lexeme.Name b bs) c h = one_of (λ x. touches (lexeme.Name b bs) x ≡ true) plain c (refl, (refl, (refl, (refl, tt)))) h
other_allowed (lexeme.Number b bs) c h = one_of (λ x. touches (lexeme.Number b bs) x ≡ true) plain c (refl, (refl, (refl, (refl, tt)))) h
other_allowed (lexeme.Quoted quote is) c h = refl
other_allowed (lexeme.Operator op) c h = one_of (λ x. touches (lexeme.Operator op) x ≡ true) plain c (plain_joins (last_from 0 op)) h

-- a dot, or what is before a name
before_name : (a : ℕ) → ((c : ℕ) → begins_name c ≡ true → not (joins a c) ≡ true) → (c : ℕ) → (begins_name c || list_any (λ x. x == c) plain) ≡ true →
    not (joins a c) ≡ true
before_name a name c h = one_or (λ x. not (joins a x) ≡ true) begins_name plain c (name c) (plain_joins a) h

minus_allowed : Allowed (lexeme.Operator (45 ∷ [])) Minus
minus_allowed c h = one_or (λ x. not (joins 45 x) ≡ true) follows_minus plain c (minus_joins c) (plain_joins 45) h

dot_allowed : (c : ℕ) → (begins_name c || list_any (λ x. x == c) plain) ≡ true → not (joins 46 c) ≡ true
dot_allowed c h = before_name 46 (λ x is. (name_joins x is).0) c h

slash_allowed : (c : ℕ) → (begins_name c || list_any (λ x. x == c) plain) ≡ true → not (joins 47 c) ≡ true
slash_allowed c h = before_name 47 (λ x is. (name_joins x is).1) c h

less_allowed : Allowed (lexeme.Operator (60 ∷ [])) Prefix
less_allowed c h = before_name 60 (λ x is. (name_joins x is).2) c h

abbrev LeftAllowed : Lexeme → Side → Type 0
LeftAllowed l s = (left : Left) → Allowed l (placed left s)

equals_allowed : (o : Owner) → Allowed (lexeme.Operator (61 ∷ [])) (equals_of o)
equals_allowed Argument = λ c h. h
equals_allowed Target = other_allowed (lexeme.Operator (61 ∷ []))
equals_allowed Parameter = other_allowed (lexeme.Operator (61 ∷ []))

rows_allowed : AllByRecursion (λ row. LeftAllowed (lexeme.Operator row.0) row.1) operators
rows_allowed = (λ left. λ c h. refl, (λ left. λ c h. refl, (λ left. λ c h. refl, (λ left. λ c h. refl, (λ left. λ c h. refl, (λ left. λ c h. refl, (λ left. λ c h. h, (λ left. λ c h. refl, (λ left. either_side (Allowed (lexeme.Operator (58 ∷ []))) (has_no_slice left) Comma Colon (λ c h. refl) (λ c h. refl), (λ left. dot_allowed, (λ left. dot_allowed, (λ left. dot_allowed, (λ left. λ c h. refl, (λ left. slash_allowed, (λ left. equals_allowed left.owner, (λ left. either_side (Allowed (lexeme.Operator (45 ∷ []))) (ends_a_value left.side) Operator Minus (other_allowed (lexeme.Operator (45 ∷ []))) minus_allowed, (λ left. either_side (Allowed (lexeme.Operator (60 ∷ []))) (ends_a_value left.side) Operator Prefix (other_allowed (lexeme.Operator (60 ∷ []))) less_allowed, (λ left. other_allowed (lexeme.Operator (124 ∷ [])), (λ left. other_allowed (lexeme.Operator (43 ∷ [])), (λ left. other_allowed (lexeme.Operator (42 ∷ [])), (λ left. other_allowed (lexeme.Operator (37 ∷ [])), (λ left. other_allowed (lexeme.Operator (126 ∷ [])), (λ left. other_allowed (lexeme.Operator (47 ∷ 47 ∷ [])), (λ left. other_allowed (lexeme.Operator (42 ∷ 42 ∷ [])), (λ left. other_allowed (lexeme.Operator (61 ∷ 61 ∷ [])), (λ left. other_allowed (lexeme.Operator (33 ∷ 61 ∷ [])), (λ left. other_allowed (lexeme.Operator (60 ∷ 61 ∷ [])), (λ left. other_allowed (lexeme.Operator (62 ∷ 61 ∷ [])), tt))))))))))))))))))))))))))))

pub left_allowed : (l : Lexeme) → LeftAllowed l (side_of (token_of l))
left_allowed l =
    side_any LeftAllowed (λ b bs. λ left. λ c h. h) (λ b bs. λ left. λ c h. h) (λ b bs. λ left. λ c h. h) (λ quote is. λ left. λ c h. refl) rows_allowed
    (λ op. λ left. other_allowed (lexeme.Operator op)) l

-- On the right: what is so comes after what allows its first byte
abbrev pub Fits : Side → ℕ → Type 0
Fits r c = (l : Side) → are_together l r ≡ true → allows l c ≡ true

-- by the sides on the left, one after another
abbrev at_side : Side → ℕ → Side → Bool
at_side r c l = not (are_together l r) || allows l c

abbrev all_sides : List Side
all_sides =
    Start ∷ Outside ∷ Word ∷ Name ∷ Number ∷ Quoted ∷ Paren ∷ Bracket ∷ Brace ∷ Closing ∷ ClosingBrace ∷ Comma ∷ Colon ∷ Dot ∷ Prefix ∷ Equals ∷ Minus ∷ Less ∷ Operator ∷ Other ∷ []

abbrev AtAll : Side → ℕ → Type 0
AtAll r c = AllByRecursion (λ l. at_side r c l ≡ true) all_sides

pass : (a b : Bool) → (not a || b) ≡ true → a ≡ true → b ≡ true
pass true b h is = h
pass false b h is = cc

at_one : (r : Side) (c : ℕ) (l : Side) → AtAll r c → at_side r c l ≡ true
at_one r c Start h = h.0
at_one r c Outside h = h.1.0
at_one r c Word h = h.1.1.0
at_one r c Name h = h.1.1.1.0
at_one r c Number h = h.1.1.1.1.0
at_one r c Quoted h = h.1.1.1.1.1.0
at_one r c Paren h = h.1.1.1.1.1.1.0
at_one r c Bracket h = h.1.1.1.1.1.1.1.0
at_one r c Brace h = h.1.1.1.1.1.1.1.1.0
at_one r c Closing h = h.1.1.1.1.1.1.1.1.1.0
at_one r c ClosingBrace h = h.1.1.1.1.1.1.1.1.1.1.0
at_one r c Comma h = h.1.1.1.1.1.1.1.1.1.1.1.0
at_one r c Colon h = h.1.1.1.1.1.1.1.1.1.1.1.1.0
at_one r c Dot h = h.1.1.1.1.1.1.1.1.1.1.1.1.1.0
at_one r c Prefix h = h.1.1.1.1.1.1.1.1.1.1.1.1.1.1.0
at_one r c Equals h = h.1.1.1.1.1.1.1.1.1.1.1.1.1.1.1.0
at_one r c Minus h = h.1.1.1.1.1.1.1.1.1.1.1.1.1.1.1.1.0
at_one r c Less h = h.1.1.1.1.1.1.1.1.1.1.1.1.1.1.1.1.1.0
at_one r c Operator h = h.1.1.1.1.1.1.1.1.1.1.1.1.1.1.1.1.1.1.0
at_one r c Other h = h.1.1.1.1.1.1.1.1.1.1.1.1.1.1.1.1.1.1.1.0

fits : (r : Side) (c : ℕ) → AtAll r c → Fits r c
fits r c h l is = pass (are_together l r) (allows l c) (at_one r c l h) is

other_fits : (c : ℕ) → Fits Other c
other_fits c = fits Other c (refl, (refl, (refl, (refl, (refl, (refl, (refl, (refl, (refl, (refl, (refl, (refl, (refl, (refl, (refl, (refl, (refl, (refl, (refl, (refl, tt))))))))))))))))))))

operator_fits : (c : ℕ) → Fits Operator c
operator_fits c = fits Operator c (refl, (refl, (refl, (refl, (refl, (refl, (refl, (refl, (refl, (refl, (refl, (refl, (refl, (refl, (refl, (refl, (refl, (refl, (refl, (refl, tt))))))))))))))))))))

-- the first byte of a lexeme
abbrev Begins : Lexeme → Type 0
Begins (lexeme.Name b bs) = begins_name b ≡ true
Begins (lexeme.Number b bs) = is_ascii_digit b ≡ true
Begins (lexeme.Quoted quote is) = is_quote quote ≡ true
Begins (lexeme.Operator op) = Unit {0}

begins : (l : Lexeme) (rest : List ℕ) → IsLexeme l rest → Begins l
begins (lexeme.Name b bs) rest is = is.0
begins (lexeme.Number b bs) rest is = is.0.0
begins (lexeme.Quoted quote inner) rest is = is.0.0
begins (lexeme.Operator op) rest is = tt

abbrev RightFits : Lexeme → Side → Type 0
RightFits r s = Begins r → (left : Left) → Fits (placed left s) (first_from (spelled r))

name_allows : (b : ℕ) → begins_name b ≡ true → ((begins_name b || list_any (λ x. x == b) plain) ≡ true) × ((follows_minus b || list_any (λ x. x == b) plain) ≡ true)
name_allows b h = (grind (arith, nat_tests), grind (arith, nat_tests))

digit_allows : (b : ℕ) → is_ascii_digit b ≡ true → (not (joins 61 b) ≡ true) × ((follows_minus b || list_any (λ x. x == b) plain) ≡ true)
digit_allows b h = (grind (arith, nat_tests), grind (arith, nat_tests))

quote_allows : (b : ℕ) → is_quote b ≡ true → not (joins 61 b) ≡ true
quote_allows b h = grind (arith, nat_tests)

name_fits : (b : ℕ) (bs : List ℕ) → RightFits (lexeme.Name b bs) Name
name_fits b bs h left = let (d, m) = name_allows b h in let e = (name_joins b h).3 in fits Name b (refl, (refl, (refl, (refl, (refl, (refl, (refl, (refl, (refl, (refl, (refl, (refl, (refl, (d, (d, (e, (m, (refl, (refl, (refl, tt))))))))))))))))))))

word_fits : (b : ℕ) (bs : List ℕ) → RightFits (lexeme.Name b bs) Word
word_fits b bs h left = let (d, m) = name_allows b h in let e = (name_joins b h).3 in fits Word b (refl, (refl, (refl, (refl, (refl, (refl, (refl, (refl, (refl, (refl, (refl, (refl, (refl, (d, (d, (e, (refl, (refl, (refl, (refl, tt))))))))))))))))))))

number_fits : (b : ℕ) (bs : List ℕ) → RightFits (lexeme.Number b bs) Number
number_fits b bs h left = let (e, m) = digit_allows b h in fits Number b (refl, (refl, (refl, (refl, (refl, (refl, (refl, (refl, (refl, (refl, (refl, (refl, (refl, (refl, (refl, (e, (m, (refl, (refl, (refl, tt))))))))))))))))))))

quoted_fits : (quote : ℕ) (is : List lexeme.Inner) → RightFits (lexeme.Quoted quote is) Quoted
quoted_fits quote is h left = let e = quote_allows quote h in fits Quoted quote (refl, (refl, (refl, (refl, (refl, (refl, (refl, (refl, (refl, (refl, (refl, (refl, (refl, (refl, (refl, (e, (refl, (refl, (refl, (refl, tt))))))))))))))))))))

-- the operators, by their first bytes
at_paren_40 : Fits Paren 40
at_paren_40 = fits Paren 40 (refl, (refl, (refl, (refl, (refl, (refl, (refl, (refl, (refl, (refl, (refl, (refl, (refl, (refl, (refl, (refl, (refl, (refl, (refl, (refl, tt))))))))))))))))))))

at_bracket_91 : Fits Bracket 91
at_bracket_91 = fits Bracket 91 (refl, (refl, (refl, (refl, (refl, (refl, (refl, (refl, (refl, (refl, (refl, (refl, (refl, (refl, (refl, (refl, (refl, (refl, (refl, (refl, tt))))))))))))))))))))

at_bracket_63 : Fits Bracket 63
at_bracket_63 = fits Bracket 63 (refl, (refl, (refl, (refl, (refl, (refl, (refl, (refl, (refl, (refl, (refl, (refl, (refl, (refl, (refl, (refl, (refl, (refl, (refl, (refl, tt))))))))))))))))))))

at_brace_123 : Fits Brace 123
at_brace_123 = fits Brace 123 (refl, (refl, (refl, (refl, (refl, (refl, (refl, (refl, (refl, (refl, (refl, (refl, (refl, (refl, (refl, (refl, (refl, (refl, (refl, (refl, tt))))))))))))))))))))

at_closing_41 : Fits Closing 41
at_closing_41 = fits Closing 41 (refl, (refl, (refl, (refl, (refl, (refl, (refl, (refl, (refl, (refl, (refl, (refl, (refl, (refl, (refl, (refl, (refl, (refl, (refl, (refl, tt))))))))))))))))))))

at_closing_93 : Fits Closing 93
at_closing_93 = fits Closing 93 (refl, (refl, (refl, (refl, (refl, (refl, (refl, (refl, (refl, (refl, (refl, (refl, (refl, (refl, (refl, (refl, (refl, (refl, (refl, (refl, tt))))))))))))))))))))

at_closing_brace_125 : Fits ClosingBrace 125
at_closing_brace_125 = fits ClosingBrace 125 (refl, (refl, (refl, (refl, (refl, (refl, (refl, (refl, (refl, (refl, (refl, (refl, (refl, (refl, (refl, (refl, (refl, (refl, (refl, (refl, tt))))))))))))))))))))

at_comma_44 : Fits Comma 44
at_comma_44 = fits Comma 44 (refl, (refl, (refl, (refl, (refl, (refl, (refl, (refl, (refl, (refl, (refl, (refl, (refl, (refl, (refl, (refl, (refl, (refl, (refl, (refl, tt))))))))))))))))))))

at_comma_58 : Fits Comma 58
at_comma_58 = fits Comma 58 (refl, (refl, (refl, (refl, (refl, (refl, (refl, (refl, (refl, (refl, (refl, (refl, (refl, (refl, (refl, (refl, (refl, (refl, (refl, (refl, tt))))))))))))))))))))

at_colon_58 : Fits Colon 58
at_colon_58 = fits Colon 58 (refl, (refl, (refl, (refl, (refl, (refl, (refl, (refl, (refl, (refl, (refl, (refl, (refl, (refl, (refl, (refl, (refl, (refl, (refl, (refl, tt))))))))))))))))))))

at_dot_46 : Fits Dot 46
at_dot_46 = fits Dot 46 (refl, (refl, (refl, (refl, (refl, (refl, (refl, (refl, (refl, (refl, (refl, (refl, (refl, (refl, (refl, (refl, (refl, (refl, (refl, (refl, tt))))))))))))))))))))

at_dot_63 : Fits Dot 63
at_dot_63 = fits Dot 63 (refl, (refl, (refl, (refl, (refl, (refl, (refl, (refl, (refl, (refl, (refl, (refl, (refl, (refl, (refl, (refl, (refl, (refl, (refl, (refl, tt))))))))))))))))))))

at_prefix_46 : Fits Prefix 46
at_prefix_46 = fits Prefix 46 (refl, (refl, (refl, (refl, (refl, (refl, (refl, (refl, (refl, (refl, (refl, (refl, (refl, (refl, (refl, (refl, (refl, (refl, (refl, (refl, tt))))))))))))))))))))

at_prefix_64 : Fits Prefix 64
at_prefix_64 = fits Prefix 64 (refl, (refl, (refl, (refl, (refl, (refl, (refl, (refl, (refl, (refl, (refl, (refl, (refl, (refl, (refl, (refl, (refl, (refl, (refl, (refl, tt))))))))))))))))))))

at_prefix_60 : Fits Prefix 60
at_prefix_60 = fits Prefix 60 (refl, (refl, (refl, (refl, (refl, (refl, (refl, (refl, (refl, (refl, (refl, (refl, (refl, (refl, (refl, (refl, (refl, (refl, (refl, (refl, tt))))))))))))))))))))

at_equals_61 : Fits Equals 61
at_equals_61 = fits Equals 61 (refl, (refl, (refl, (refl, (refl, (refl, (refl, (refl, (refl, (refl, (refl, (refl, (refl, (refl, (refl, (refl, (refl, (refl, (refl, (refl, tt))))))))))))))))))))

at_minus_45 : Fits Minus 45
at_minus_45 = fits Minus 45 (refl, (refl, (refl, (refl, (refl, (refl, (refl, (refl, (refl, (refl, (refl, (refl, (refl, (refl, (refl, (refl, (refl, (refl, (refl, (refl, tt))))))))))))))))))))

equals_fits : (o : Owner) → Fits (equals_of o) 61
equals_fits Argument = at_equals_61
equals_fits Target = operator_fits 61
equals_fits Parameter = other_fits 61

rows_fit : AllByRecursion (λ row. RightFits (lexeme.Operator row.0) row.1) operators
rows_fit = (λ u. λ left. at_paren_40, (λ u. λ left. at_bracket_91, (λ u. λ left. at_bracket_63, (λ u. λ left. at_brace_123, (λ u. λ left. at_closing_41, (λ u. λ left. at_closing_93, (λ u. λ left. at_closing_brace_125, (λ u. λ left. at_comma_44, (λ u. λ left. either_side (λ s. Fits s 58) (has_no_slice left) Comma Colon at_comma_58 at_colon_58, (λ u. λ left. at_dot_46, (λ u. λ left. at_dot_63, (λ u. λ left. at_prefix_46, (λ u. λ left. at_prefix_64, (λ u. λ left. at_prefix_60, (λ u. λ left. equals_fits left.owner, (λ u. λ left. either_side (λ s. Fits s 45) (ends_a_value left.side) Operator Minus (operator_fits 45) at_minus_45, (λ u. λ left. either_side (λ s. Fits s 60) (ends_a_value left.side) Operator Prefix (operator_fits 60) at_prefix_60, (λ u. λ left. operator_fits 124, (λ u. λ left. operator_fits 43, (λ u. λ left. operator_fits 42, (λ u. λ left. operator_fits 37, (λ u. λ left. operator_fits 126, (λ u. λ left. operator_fits 47, (λ u. λ left. operator_fits 42, (λ u. λ left. operator_fits 61, (λ u. λ left. operator_fits 33, (λ u. λ left. operator_fits 60, (λ u. λ left. operator_fits 62, tt))))))))))))))))))))))))))))

right_fits : (r : Lexeme) → RightFits r (side_of (token_of r))
right_fits r = side_any RightFits name_fits word_fits number_fits quoted_fits rows_fit (λ op u. λ left. other_fits (first_from op)) r

or_none : (a b : Bool) → not (a || b) ≡ true → (a ≡ false) × (b ≡ false)
or_none true b h = cc
or_none false b h = (refl, not_true b h)

-- what stays as it is, and ends no tag between the default markers
abbrev Stays : Lexeme → ℕ → Type 0
Stays l c = (may_touch l c ≡ true) × (in_end default_marks (last_from 0 (spelled l)) c ≡ false)

stays : (l : Lexeme) (more : List ℕ) (c : ℕ) → IsLexeme l more → touches l c ≡ true → Stays l c
stays (lexeme.Name b bs) more c is h = (h, loose_last (lexeme.Name b bs) more c tt is)
stays (lexeme.Number b bs) more c is h = (h, loose_last (lexeme.Number b bs) more c tt is)
stays (lexeme.Quoted quote inner) more c is h = (refl, loose_last (lexeme.Quoted quote inner) more c tt is)
stays (lexeme.Operator op) more c is h =
    let (operator, end) = or_none (in_operator (last_from 0 op) c) (in_end default_marks (last_from 0 op) c) h in (ap not operator, end)

first_is : (l : Lexeme) (bytes : List ℕ) → 0 < length bytes → may_touch l (first_from bytes) ≡ true → may_touch_first l bytes ≡ true
first_is l [] some h = absurd (omega (arith, some))
first_is l (c ∷ bytes) some h = h

-- after what is on the left of each
pub record Apart (l r : Lexeme) : Type 0 where
  pub touch : may_touch_first l (spelled r) ≡ true
  pub no_end : meet_in_end default_marks (spelled l) (spelled r) ≡ false

pub together_apart : (l r : Lexeme) (more rest : List ℕ) → IsLexeme l more → IsLexeme r rest → (before left : Left) →
    left.side ≡ placed before (side_of (token_of l)) → are_together left.side (placed left (side_of (token_of r))) ≡ true → Apart l r
together_apart l r more rest is_left is before left side h =
    let allowed : Allowed l left.side = subst (Allowed l) (sym side) (left_allowed l before) in
    let here : Fits (placed left (side_of (token_of r))) (first_from (spelled r)) = right_fits r (begins r rest is) left in
    let both = stays l more (first_from (spelled r)) is_left (allowed (first_from (spelled r)) (here left.side h)) in record {
      touch = first_is l (spelled r) (spelled_some r rest is) both.0;
      no_end = both.1;
    }
