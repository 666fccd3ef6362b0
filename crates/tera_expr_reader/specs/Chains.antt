-- Subscripts, and the links of chains.
use Rattle.std.specs.Prelude.{◌≡◌, ◌⊎◌, Bool, true, false, cond, Option, Result, Ok, Err}
use Rattle.tera_base.specs.Errors.{IsMemory}
use Rattle.tera_base.specs.declared.errors.Error.{Error}
use Rattle.tera_base.specs.declared.utils.Span.{Span}
use Rattle.tera_lexer.specs.grammar.Tokens.{Items}
use Rattle.tera_lexer.specs.code.Cursors.{Position}
use Rattle.tera_ast.specs.Tree as tree
use Rattle.tera_ast.specs.Tree.{Expr}
use Rattle.tera_ast.specs.View.{expression_view, maybe_view}
use Rattle.tera_ast.specs.declared.ast.Expression.{Expression}
use Rattle.tera_grammar.specs.Reads.{found, stopped, ◌>>=◌, Takes, StopsAt, Fails}
use Rattle.tera_grammar.specs.expressions.Concrete.{Name, Joint, plain_dot, optional_dot, plain_bracket, optional_bracket, Sub, Part, Links, no_links, Row}
use Rattle.tera_grammar.specs.expressions.Conditions.{is_field_of}
use Rattle.tera_grammar.specs.expressions.Spans.{spanning, sub_end, links_end, row_end}
use Rattle.tera_grammar.specs.expressions.Output.{place_of, of_loop, is_optional_joint, field_output, sub_output, part_output, links_output, arguments_output}
use Rattle.tera_grammar.specs.expressions.Reading.Front as reading
use Rattle.tera_grammar.specs.expressions.Reading.Front.{Place, Reads, taken_name}
use Rattle.tera_expr_reader.specs.declared.subscripts.Subscript.{Subscript}
use Rattle.tera_expr_reader.specs.declared.subscripts.Subscript.TheVariants.{Index, Slice}
use Rattle.tera_expr_reader.specs.declared.chains.Link.{Link}
use Rattle.tera_expr_reader.specs.declared.chains.Link.TheVariants.{Nothing, Called, Field, Item}
use Rattle.tera_expr_reader.specs.declared.chains.Linked.{Linked}
use Rattle.tera_expr_reader.specs.declared.chains.Linked.TheVariants.{Whole, Longer}

-- an operand with a subscript, up to a bracket
abbrev pub subscripted : Subscript → Bool → Expr → Span → Expr
subscripted (Index i) o e c = tree.GetItem e (expression_view i) o (spanning (place_of e) c)
subscripted (Slice a b x) o e c = tree.Slice e (maybe_view a) (maybe_view b) (maybe_view x) o (spanning (place_of e) c)

abbrev pub IsSubscript : Bool → Span → Subscript → Sub → Type 0
IsSubscript l here x s = ((o : Bool) (e : Expr) → subscripted x o e here ≡ sub_output l o e s) × (here ≡ sub_end s)

abbrev pub IsPart : Bool → Option Expression → Part → Type 0
IsPart l x a = maybe_view x ≡ part_output l a

-- how a link begins, without where it is
abbrev pub link_kind : reading.Link → Link
link_kind reading.no_link = Nothing
link_kind reading.called = Called
link_kind (reading.jointed (plain_dot s) us) = Field false
link_kind (reading.jointed (optional_dot s) us) = Field true
link_kind (reading.bracketed (plain_bracket s) us) = Item false
link_kind (reading.bracketed (optional_bracket s) us) = Item true

-- where it begins, and what comes after its first token
abbrev pub LinkAt : reading.Link → Span → Items → Type 0
LinkAt reading.no_link here left = Unit {0}
LinkAt reading.called here left = Unit {0}
LinkAt (reading.jointed (plain_dot s) us) here left = (s ≡ here) × (us ≡ left)
LinkAt (reading.jointed (optional_dot s) us) here left = (s ≡ here) × (us ≡ left)
LinkAt (reading.bracketed (plain_bracket s) us) here left = (s ≡ here) × (us ≡ left)
LinkAt (reading.bracketed (optional_bracket s) us) here left = (s ≡ here) × (us ≡ left)

-- the name of a field; of a loop it is one of five
abbrev pub taken_field : Bool → Items → Takes Name
taken_field c ts = taken_name ts >>= λ n. cond (is_field_of c n.0.text) (found n) (stopped n.1)

abbrev pub FieldGives : Bool → Bool → Expr → Result Expression Error → Position → Takes Name → Type 0
FieldGives c o x (Ok e) new read =
    (n : Name) × (read ≡ found (n, new.left)) × (new.span ≡ n.span) × ((d : Joint) → is_optional_joint d ≡ o → expression_view e ≡ field_output c x d n)
FieldGives c o x (Err e) new read = Fails read new.left e

-- One element of a list is read, whatever is read of the others after it; or reading stops where these tokens are left,
-- whatever they are.
abbrev pub Adds : {R : Type 0} → ((Place → Reads R) → Reads R) → (R → R) → Place → Type 0
Adds {R = R} whole put q = (more : Place → Reads R) → whole more ≡ (more q >>= λ r. found (put r.0, r.1))

abbrev pub Lacks : {R : Type 0} → ((Place → Reads R) → Reads R) → Items → Error → Type 0
Lacks {R = R} whole left e = IsMemory e ⊎ ((more : Place → Reads R) → StopsAt (whole more) left)

-- a chain is all, or has one link more
abbrev pub LinkedGives : Bool → Bool → Expression → Result Linked Error → Position → Place → Place → ((Place → Reads Links) → Reads Links) → Type 0
LinkedGives l c x (Ok (Whole e)) new p q whole = (e ≡ x) × ((more : Place → Reads Links) → whole more ≡ found (no_links, q)) × (q ≡ p)
LinkedGives l c x (Ok (Longer e)) new p q whole =
    (put : Links → Links) × Adds whole put q × ((ls : Links) → links_output l c (expression_view x) (put ls) ≡ links_output l c (expression_view e) ls)
    × ((n m : Name) (ls : Links) → m.span ≡ new.span → links_end n (put ls) ≡ links_end m ls)
LinkedGives l c x (Err e) new p q whole = Lacks whole new.left e

-- nothing was taken, or a link
abbrev pub LinkedGoes : (Position → Position → Type 0) → Position → Position → Linked → Type 0
LinkedGoes Took old new (Whole e) = new ≡ old
LinkedGoes Took old new (Longer e) = Took old new

-- a chain of a name with its links, and a call
abbrev pub IsChain : Bool → Name → Span → Expression → Links → Type 0
IsChain l n here e ls = (expression_view e ≡ links_output l (of_loop l n) (tree.Var n.text n.span) ls) × (here ≡ links_end n ls)

abbrev pub IsCallOf : Bool → Name → Span → Expression → Row → Type 0
IsCallOf l n here e r = (expression_view e ≡ tree.FunctionCall n.text (arguments_output l r tree.NoArgs) (spanning n.span (row_end r))) × (here ≡ row_end r)
