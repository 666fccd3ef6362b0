-- The last parts of two names with dots are equal where the names are: no part has a dot.
use Rattle.std.proofs.Common.{◌≡◌, ◌≢◌, ℕ, false, true, List, [], ◌∷◌, ◌++◌, inl, inr, refl, sym, ap, subst, ◌∙◌}
use Rattle.std.specs.List.{AllByRecursion}
use Rattle.tera_base.specs.ErrorView.{NoteOf, NoteVal}
use Rattle.tera_base.specs.declared.utils.Span.{Span}
use Rattle.tera_lexer.specs.grammar.Lexeme.{begins_name, goes_on_name}
use Rattle.tera_lexer.specs.grammar.Tokens.{Ended, Failed, Ident, Items, Token}
use Rattle.tera_grammar.specs.expressions.Concrete.{Dotted, Name, dots, dotted_yield, no_dots}
use Rattle.tera_grammar.specs.expressions.Output.{dotted_text}
use Rattle.tera_grammar.specs.expressions.Spans.{dotted_end}
use Rattle.tera_grammar.specs.statements.Expressions.{ComponentName, component_span, component_yield}
use Rattle.tera_expect.specs.Notes.{AreLeft, IsFirst, Repeats}
use Rattle.tera_spelling.specs.Given.{EachToken, IsGiven}
use Rattle.tera_spelling.specs.Spelling.{IsName}
use Rattle.tera_parser.specs.Notes.{Has, IsAtFirst}

-- names without dots
abbrev HasNoDot : List ℕ → Type 0
HasNoDot text = AllByRecursion (λ b. b ≢ 46) text

false_true : false ≡ true → ⊥
false_true e = cc

begins_without : (b : ℕ) → begins_name b ≡ true → b ≢ 46
begins_without b is dot = absurd (false_true (sym (ap begins_name dot) ∙ is))

goes_without : (b : ℕ) → goes_on_name b ≡ true → b ≢ 46
goes_without b is dot = absurd (false_true (sym (ap goes_on_name dot) ∙ is))

more_without : (bs : List ℕ) → AllByRecursion (λ b. goes_on_name b ≡ true) bs → HasNoDot bs
more_without [] all = tt
more_without (b ∷ bs) all = (goes_without b all.0, more_without bs all.1)

name_without : (text : List ℕ) → IsName text → HasNoDot text
name_without [] is = absurd is
name_without (b ∷ bs) is = (begins_without b is.0, more_without bs is.1)

-- what comes after the first part: nothing, or a dot
abbrev IsRest : List ℕ → Type 0
IsRest [] = Unit {0}
IsRest (b ∷ bs) = b ≡ 46

rest_of : (d : Dotted) → IsRest (dotted_text d)
rest_of no_dots = tt
rest_of (dots s n ds) = refl

none_some : (b : ℕ) (bs : List ℕ) → [] ≡ b ∷ bs → ⊥
none_some b bs e = cc

abbrev head_of : List ℕ → ℕ
head_of [] = 0
head_of (b ∷ bs) = b

abbrev tail_of : List ℕ → List ℕ
tail_of [] = []
tail_of (b ∷ bs) = bs

not_before : (r : List ℕ) (b : ℕ) (bs : List ℕ) → IsRest r → b ≢ 46 → r ≡ b ∷ bs → ⊥
not_before [] b bs rest other e = none_some b bs e
not_before (c ∷ r) b bs rest other e = other (sym (ap head_of e) ∙ rest)

-- where two texts are equal, so are their first parts, and what comes after these
both_parts : (x y r s : List ℕ) → HasNoDot x → HasNoDot y → IsRest r → IsRest s → x ++ r ≡ y ++ s → (x ≡ y) × (r ≡ s)
both_parts [] [] r s a b p q e = (refl, e)
both_parts [] (c ∷ y) r s a b p q e = absurd (not_before r c (y ++ s) p b.0 e)
both_parts (c ∷ x) [] r s a b p q e = absurd (not_before s c (x ++ r) q a.0 (sym e))
both_parts (c ∷ x) (d ∷ y) r s a b p q e =
    let (parts, rests) = both_parts x y r s a.1 b.1 p q (ap tail_of e) in
    ((λ i. ap head_of e i ∷ parts i), rests)

abbrev last_text : List ℕ → Dotted → List ℕ
last_text text no_dots = text
last_text text (dots s n ds) = last_text n.text ds

abbrev HaveNoDot : Dotted → Type 0
HaveNoDot no_dots = Unit {0}
HaveNoDot (dots s n ds) = HasNoDot n.text × HaveNoDot ds

same_last : (x y : List ℕ) (d e : Dotted) → HasNoDot x → HasNoDot y → HaveNoDot d → HaveNoDot e → x ++ dotted_text d ≡ y ++ dotted_text e → last_text x d ≡ last_text y e
same_last x y no_dots no_dots a b p q same = (both_parts x y [] [] a b tt tt same).0
same_last x y no_dots (dots s n ds) a b p q same = absurd (none_some _ _ (both_parts x y [] (dotted_text (dots s n ds)) a b tt (rest_of (dots s n ds)) same).1)
same_last x y (dots s n ds) no_dots a b p q same = absurd (none_some _ _ (sym (both_parts x y (dotted_text (dots s n ds)) [] a b (rest_of (dots s n ds)) tt same).1))
same_last x y (dots s n ds) (dots t m es) a b p q same =
    let rests = (both_parts x y (dotted_text (dots s n ds)) (dotted_text (dots t m es)) a b (rest_of (dots s n ds)) (rest_of (dots t m es)) same).1 in
    same_last n.text m.text ds es p.0 q.0 p.1 q.1 (ap tail_of rests)

-- tokens that are left are given by the source
left_given : (left items : Items) → AreLeft left items → EachToken IsGiven items → EachToken IsGiven left
left_given left Ended is given = subst (EachToken IsGiven) (sym is) tt
left_given left (Failed text span) is given = subst (EachToken IsGiven) (sym is) tt
left_given left (Token t span items) (inl is) given = subst (EachToken IsGiven) (sym is) given
left_given left (Token t span items) (inr more) given = left_given left items more given.1

dotted_given : (d : Dotted) (left : Items) → EachToken IsGiven (dotted_yield d left) → HaveNoDot d × EachToken IsGiven left
dotted_given no_dots left given = (tt, given)
dotted_given (dots s n ds) left given =
    let (parts, more) = dotted_given ds left given.1.1 in
    ((name_without n.text given.1.0.0, parts), more)

-- the last part of a name among the tokens
dotted_has : (text : List ℕ) (span : Span) (d : Dotted) (After : Items → Type 0) (left : Items) → After left → Has (last_text text d) (dotted_end span d) After (Token (Ident text) span (dotted_yield d left))
dotted_has text span no_dots After left after = inl (refl, refl, after)
dotted_has text span (dots s n ds) After left after = inr (inr (dotted_has n.text n.span ds After left after))

has_further : (name : List ℕ) (span : Span) (After : Items → Type 0) (mid items : Items) → AreLeft mid items → Has name span After mid → Has name span After items
has_further name span After mid Ended is h = subst (Has name span After) is h
has_further name span After mid (Failed text here) is h = subst (Has name span After) is h
has_further name span After mid (Token t here items) (inl is) h = subst (Has name span After) is h
has_further name span After mid (Token t here items) (inr ahead) h = inr (has_further name span After mid items ahead h)

component_has : (n : ComponentName) (span : Span) (After : Items → Type 0) (left items : Items) → component_span n ≡ span → AreLeft (component_yield n left) items → After left
    → Has (last_text n.name.text n.further) span After items
unfolding component_span
component_has n span After left items is ahead after =
    has_further (last_text n.name.text n.further) span After (component_yield n left) items ahead
    (subst (λ s. Has (last_text n.name.text n.further) s After (component_yield n left)) is (dotted_has n.name.text n.name.span n.further After left after))

repeats_has : (items : Items) (first span : Span) → EachToken IsGiven items → Repeats items first span → (name : List ℕ) × Has name first (Has name span (λ left. Unit {0})) items
repeats_has items first span given (text, mid, left, (n, one, ahead), (m, two, there)) =
    let first_given = left_given (component_yield n mid) items ahead given in
    let first_parts = dotted_given n.further mid first_given.1 in
    let then_given = left_given (component_yield m left) mid there first_parts.1 in
    let then_parts = dotted_given m.further left then_given.1 in
    let same = same_last n.name.text m.name.text n.further m.further (name_without n.name.text first_given.0.0) (name_without m.name.text then_given.0.0) first_parts.0 then_parts.0
    (ap (λ (x : Name). x.text) one ∙ sym (ap (λ (x : Name). x.text) two)) in
    let name = last_text n.name.text n.further in
    let again = subst (λ t. Has t span (λ rest. Unit {0}) mid) (sym same) (component_has m span (λ rest. Unit {0}) left mid (ap (λ (x : Name). x.span) two) there tt) in
    (name, component_has n first (Has name span (λ rest. Unit {0})) mid items (ap (λ (x : Name). x.span) one) ahead again)

pub first_of_two : (items : Items) → EachToken IsGiven items → (span : Span) (n : NoteVal) → IsFirst items span n → IsAtFirst items span n
first_of_two items given span (NoteOf label file first) is = λ named. repeats_has items first span given (is named)
