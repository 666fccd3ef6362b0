-- Something holds of an expression and of each expression in it, at any depth.
use Rattle.tera_grammar.specs.expressions.Concrete.{Tree, Atomic, Prefix, Suffixed, Infix, Atom, Literal, Null, Chain, Call, Paren, Array, Comprehension, Map, Component, Links, no_links, field, item, Sub, index, slice, Part, absent, present, Extra, no_extra, extra, Row, ended, only, then, Element, plain, spread, pair, argument, Attributes, no_attributes, bare, quoted, valued, spreading, Suffix, Test, Filter, Subscript, Args, no_args, args, Operator, Binary, Condition}

module _ (P : Tree → Type 0) where
  abbrev mutual
    pub EachPart : Tree → Type 0
    EachPart (Atomic a) = P (Atomic a) × EachOfAtom a
    EachPart (Prefix s e) = P (Prefix s e) × EachPart e
    EachPart (Suffixed a s) = P (Suffixed a s) × EachPart a × EachOfSuffix s
    EachPart (Infix a o b) = P (Infix a o b) × EachPart a × EachOfOperator o × EachPart b

    pub EachOfAtom : Atom → Type 0
    EachOfAtom (Literal x s) = Unit {0}
    EachOfAtom (Null n) = Unit {0}
    EachOfAtom (Chain n ls) = EachOfLinks ls
    EachOfAtom (Call n s row) = EachOfRow row
    EachOfAtom (Paren s e t) = EachPart e
    EachOfAtom (Array s row) = EachOfRow row
    EachOfAtom (Comprehension s e f n m i t g c) = EachPart e × EachPart t × EachOfExtra g
    EachOfAtom (Map s row) = EachOfRow row
    EachOfAtom (Component s n ds ats t u) = EachOfAttributes ats

    pub EachOfLinks : Links → Type 0
    EachOfLinks no_links = Unit {0}
    EachOfLinks (field d n ls) = EachOfLinks ls
    EachOfLinks (item b s ls) = EachOfSub s × EachOfLinks ls

    pub EachOfSub : Sub → Type 0
    EachOfSub (index e c) = EachPart e
    EachOfSub (slice a s b x c) = EachOfPart a × EachOfPart b × EachOfExtra x

    pub EachOfPart : Part → Type 0
    EachOfPart absent = Unit {0}
    EachOfPart (present e) = EachPart e

    pub EachOfExtra : Extra → Type 0
    EachOfExtra no_extra = Unit {0}
    EachOfExtra (extra s e) = EachPart e

    pub EachOfRow : Row → Type 0
    EachOfRow (ended s) = Unit {0}
    EachOfRow (only x s) = EachOfElement x
    EachOfRow (then x s xs) = EachOfElement x × EachOfRow xs

    pub EachOfElement : Element → Type 0
    EachOfElement (plain e) = EachPart e
    EachOfElement (spread s e) = EachPart e
    EachOfElement (pair x s t e) = EachPart e
    EachOfElement (argument n s e) = EachPart e

    pub EachOfAttributes : Attributes → Type 0
    EachOfAttributes no_attributes = Unit {0}
    EachOfAttributes (bare n ats) = EachOfAttributes ats
    EachOfAttributes (quoted n s q t ats) = EachOfAttributes ats
    EachOfAttributes (valued n s b e c ats) = EachPart e × EachOfAttributes ats
    EachOfAttributes (spreading b s e c ats) = EachPart e × EachOfAttributes ats

    pub EachOfSuffix : Suffix → Type 0
    EachOfSuffix (Test s n w g) = EachOfArgs g
    EachOfSuffix (Filter s w g) = EachOfArgs g
    EachOfSuffix (Subscript s b) = EachOfSub b

    pub EachOfArgs : Args → Type 0
    EachOfArgs no_args = Unit {0}
    EachOfArgs (args s row) = EachOfRow row

    pub EachOfOperator : Operator → Type 0
    EachOfOperator (Binary o) = Unit {0}
    EachOfOperator (Condition s c t) = EachPart c
