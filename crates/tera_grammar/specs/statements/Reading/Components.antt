-- Reading the definition of a component, except its body.
use Rattle.std.specs.Prelude.{ℕ, zero, suc, Bool, true, false, not, List, [], ◌∷◌, Option, Some, None}
use Rattle.tera_base.specs.declared.utils.Span.{Span}
use Rattle.tera_lexer.specs.code.Cursors.{size}
use Rattle.tera_lexer.specs.grammar.Tokens.{Tok, Items, Token, Ident, Integer, Symbol}
use Rattle.tera_grammar.specs.expressions.Operators.{Minus}
use Rattle.tera_grammar.specs.expressions.Marks.{Mark, LeftParen, RightParen, LeftBracket, LeftBrace, Comma, Colon, Spread, Assign, At, Operation}
use Rattle.tera_grammar.specs.Words.{is_none}
use Rattle.tera_grammar.specs.statements.Names.{agrees}
use Rattle.tera_grammar.specs.statements.TagParts.{Edge, Name, AtEndComponent}
use Rattle.tera_grammar.specs.statements.Expressions.{Limits, ComponentName, component_text, LiteralMap}
use Rattle.tera_grammar.specs.statements.Reading.Expressions.{component_of, map_of}
use Rattle.tera_grammar.specs.statements.Components.{Default, LiteralDefault, MinusDefault, NothingDefault, ArrayDefault, MapDefault, Annotation, Assigned, Parameter, is_known, is_body, argument_of, default_has_type, Parameters, Closed, Rest, Final, More, component_texts, Head}
use Rattle.tera_grammar.specs.statements.Reading.Meeting.{Met, meet, nothing_met}
use Rattle.tera_grammar.specs.expressions.Reading.Front.{begins, among, literal_of, takes, taken_name}
use Rattle.tera_grammar.specs.statements.Reading.TagParts.{tag, finish_of, closed}
use Rattle.tera_grammar.specs.Reads.{found, stopped, ◌>>=◌, holds, given, Takes, first_as}
use Rattle.tera_grammar.specs.expressions.Reading.Whole.{path_of as component_of, array_after, map_after, literal_map_of as map_of}

-- a default that begins with a mark: with a minus, an opening bracket, an opening brace
abbrev pub default_marks : List Mark
default_marks = Operation Minus ∷ LeftBracket ∷ LeftBrace ∷ []

abbrev pub parameter : Option Span → Name → Option Annotation → Option Assigned → Parameter
parameter at name type default = record { at = at; name = name; type = type; default = default }

-- the parts of the opening tag, after its first word
pub record Opened : Type 0 where
  pub name : ComponentName
  pub paren : Span
  pub parameters : Parameters
  pub metadata : Option LiteralMap
  pub finish : Edge

-- whether a name is there
abbrev pub is_name_token : Tok → Bool
is_name_token (Ident text) = true
is_name_token t = false

abbrev pub is_name : Items → Bool
is_name (Token t span items) = is_name_token t
is_name items = false

abbrev pub head : Edge → Span → Opened → Edge → Span → Option ComponentName → Edge → Head
head start first o end_start end_first end_name end_finish = record {
  tag = tag start first o.finish;
  name = o.name;
  paren = o.paren;
  parameters = o.parameters;
  metadata = o.metadata;
  ending = tag end_start end_first end_finish;
  end_name = end_name;
}

-- the number after a minus
abbrev pub minus_kind : Span → Tok → Span → Option Default
minus_kind minus (Integer n) span = Some (MinusDefault minus n span)
minus_kind minus t span = None

-- a default that begins with a mark: with a minus, an opening bracket, an opening brace
unfoldable pub default_by : Limits → Mark → Span → Items → Takes Default
default_by l (Operation Minus) span items = first_as (minus_kind span) items
default_by l LeftBracket span items = array_after l span items >>= λ a. found (ArrayDefault a.0, a.1)
default_by l LeftBrace span items = map_after l span items >>= λ m. found (MapDefault m.0, m.1)
default_by l _ span items = stopped items

-- a token that is not a default is taken before reading stops
unfoldable pub default_at : Limits → Tok → Span → Items → Takes Default
default_at l (Ident text) span items = holds items (is_none text) >>= λ u. found (NothingDefault (record { text = text; span = span }), items)
default_at l (Symbol op) span items = default_by l (among default_marks (Symbol op)) span items
default_at l t span items = given items (literal_of t) >>= λ x. found (LiteralDefault x span, items)

unfoldable pub default_of : Limits → Items → Takes Default
default_of l (Token t span items) = default_at l t span items
default_of l z = stopped z

-- the parts of a parameter, where they are there
abbrev pub at_in : Items → Takes Span → Option Span × Items
at_in items (stopped z) = (None, items)
at_in items (found at) = (Some at.0, at.1)

unfoldable pub annotation_in : Items → Takes Span → Takes (Option Annotation)
annotation_in items (stopped z) = found (None, items)
annotation_in items (found colon) =
    taken_name colon.1 >>= λ n. holds n.1 (is_known (Some (record { colon = colon.0; name = n.0 }))) >>= λ u.
    found (Some (record { colon = colon.0; name = n.0 }), n.1)

unfoldable pub assigned_in : Limits → Items → Takes Span → Takes (Option Assigned)
assigned_in l items (stopped z) = found (None, items)
assigned_in l items (found sign) = default_of l sign.1 >>= λ d. found (Some (record { sign = sign.0; value = d.0 }), d.1)

-- a name that is neither `body` nor that of an earlier parameter
abbrev pub fresh_name : Met → Items → Takes Name
fresh_name seen items =
    taken_name items >>= λ n. holds n.1 (not (is_body n.0.text)) >>= λ u. holds n.1 (not (seen n.0.text)) >>= λ v. found n

-- a parameter, after `@`, if any
abbrev pub typed_well : Option Span → Name → Option Annotation → Option Assigned → Bool
typed_well at name type default = default_has_type (argument_of (parameter at name type default)).typ (argument_of (parameter at name type default)).default

unfoldable pub parameter_after : Limits → Met → Option Span → Items → Takes Parameter
parameter_after l seen at items =
    fresh_name seen items >>= λ n.
    annotation_in n.1 (takes Colon n.1) >>= λ t.
    assigned_in l t.1 (takes Assign t.1) >>= λ d.
    holds d.1 (typed_well at n.0 t.0 d.0) >>= λ u.
    found (parameter at n.0 t.0 d.0, d.1)

abbrev pub parameter_by : Limits → Met → Items → Takes Span → Takes Parameter
parameter_by l seen items o = parameter_after l seen (at_in items o).0 (at_in items o).1

abbrev pub parameter_of : Limits → Met → Items → Takes Parameter
parameter_of l seen items = parameter_by l seen items (takes At items)

-- after a parameter: the closing parenthesis, or a comma and others
unfoldable pub parameters_after : (Met → Items → Takes Parameters) → Met → Parameter → Items → Takes Span → Takes Parameters
parameters_after again seen p items (found end) = found (Final p end.0, end.1)
parameters_after again seen p items (stopped z) =
    takes Comma items >>= λ comma. again (meet p.name.text seen) comma.1 >>= λ ps. found (More p comma.0 ps.0, ps.1)

-- the rest parameter, or another
unfoldable pub parameters_at : (Met → Items → Takes Parameters) → Limits → Met → Items → Takes Span → Takes Parameters
parameters_at again l seen items (found dots) =
    fresh_name seen dots.1 >>= λ n. takes RightParen n.1 >>= λ end. found (Rest dots.0 n.0 end.0, end.1)
parameters_at again l seen items (stopped z) =
    parameter_of l seen items >>= λ p. parameters_after again seen p.0 p.1 (takes RightParen p.1)

-- none, where the closing parenthesis is there
unfoldable pub parameters_in : (Met → Items → Takes Parameters) → Limits → Met → Items → Takes Span → Takes Parameters
parameters_in again l seen items (found end) = found (Closed end.0, end.1)
parameters_in again l seen items (stopped z) = parameters_at again l seen items (takes Spread items)

-- The number bounds the parameters. One more than the tokens is enough.
unfoldable pub parameters_by : ℕ → Limits → Met → Items → Takes Parameters
parameters_by zero l seen items = stopped items
parameters_by (suc n) l seen items = parameters_in (parameters_by n l) l seen items (takes RightParen items)

unfoldable pub parameters_of : Limits → Met → Items → Takes Parameters
parameters_of l seen items = parameters_by (suc (size items)) l seen items

-- metadata, where it is there
unfoldable pub metadata_in : Limits → Items → Bool → Takes (Option LiteralMap)
metadata_in l items false = found (None, items)
metadata_in l items true = map_of l items >>= λ m. found (Some m.0, m.1)

unfoldable pub opened_of : Limits → Met → Items → Takes Opened
opened_of l seen items =
    component_of items >>= λ n. holds n.1 (not (seen (component_text n.0))) >>= λ u.
    takes LeftParen n.1 >>= λ paren. parameters_of l nothing_met paren.1 >>= λ ps.
    metadata_in l ps.1 (begins LeftBrace ps.1) >>= λ m. finish_of m.1 >>= λ f.
    found (record { name = n.0; paren = paren.0; parameters = ps.0; metadata = m.0; finish = f.0 }, f.1)

unfoldable pub end_name_in : Items → Bool → Takes (Option ComponentName)
end_name_in items false = found (None, items)
end_name_in items true = component_of items >>= λ n. found (Some n.0, n.1)

-- the closing tag
unfoldable pub ending_of : Edge → Span → Opened → Items → Takes Head
ending_of start first o items =
    closed AtEndComponent items >>= λ x. end_name_in x.1 (is_name x.1) >>= λ n.
    holds n.1 (agrees (component_text o.name) (component_texts n.0)) >>= λ u. finish_of n.1 >>= λ f.
    found (head start first o x.0.0 x.0.1 n.0 f.0, f.1)
