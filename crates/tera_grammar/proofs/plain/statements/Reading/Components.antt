-- Reading the definition of a component, except its body.
use Rattle.std.specs.Prelude.{ℕ, zero, suc, Bool, true, false, not, Option, Some, None}
use Rattle.tera_base.specs.declared.utils.Span.{Span}
use Rattle.tera_lexer.specs.code.Cursors.{size}
use Rattle.tera_lexer.specs.grammar.Tokens.{Tok, Items, Token, Ident, Integer, Symbol}
use Rattle.tera_grammar.specs.expressions.Reading.Front.{begins, among, literal_of}
use Rattle.tera_grammar.proofs.plain.expressions.Reading.Front.{takes, taken_name, Takes}
use Rattle.tera_grammar.specs.expressions.Operators.{Minus}
use Rattle.tera_grammar.specs.expressions.Marks.{mark, Mark, LeftParen, RightParen, LeftBracket, LeftBrace, Comma, Colon, Spread, Assign, At, Operation}
use Rattle.tera_grammar.specs.Words.{is_none}
use Rattle.tera_grammar.specs.Options.{◌>>=◌, guard}
use Rattle.tera_grammar.specs.statements.Names.{agrees}
use Rattle.tera_grammar.specs.statements.TagParts.{Edge, Name, AtEndComponent}
use Rattle.tera_grammar.specs.statements.Expressions.{Limits, ComponentName, component_text, LiteralMap}
use Rattle.tera_grammar.proofs.plain.statements.Reading.Expressions.{component_of, array_of, map_of}
use Rattle.tera_grammar.specs.statements.Components.{Default, LiteralDefault, MinusDefault, NothingDefault, ArrayDefault, MapDefault, Annotation, Assigned, Parameter, is_known, is_body, argument_of, default_has_type, Parameters, Closed, Rest, Final, More, component_texts, Head}
use Rattle.tera_grammar.proofs.plain.statements.Reading.TagParts.{finish_of, closed}
use Rattle.tera_grammar.specs.statements.Reading.Meeting.{Met, meet, nothing_met}
use Rattle.tera_grammar.specs.statements.Reading.Components.{default_marks, parameter, Opened, is_name, head}

-- the number after a minus
abbrev pub minus_at : Span → Tok → Span → Items → Takes Default
minus_at minus (Integer n) span items = Some (MinusDefault minus n span, items)
minus_at minus t span items = None

abbrev pub minus_of : Span → Items → Takes Default
minus_of minus (Token t span items) = minus_at minus t span items
minus_of minus items = None

unfoldable pub default_by : Limits → Mark → Span → Items → Takes Default
default_by l (Operation Minus) span items = minus_of span items
default_by l LeftBracket span items = array_of l (mark LeftBracket span items) >>= λ a. Some (ArrayDefault a.0, a.1)
default_by l LeftBrace span items = map_of l (mark LeftBrace span items) >>= λ m. Some (MapDefault m.0, m.1)
default_by l _ span items = None

unfoldable pub default_at : Limits → Tok → Span → Items → Takes Default
default_at l (Ident text) span items = guard (is_none text) >>= λ u. Some (NothingDefault (record { text = text; span = span }), items)
default_at l (Symbol op) span items = default_by l (among default_marks (Symbol op)) span items
default_at l t span items = literal_of t >>= λ x. Some (LiteralDefault x span, items)

unfoldable pub default_of : Limits → Items → Takes Default
default_of l (Token t span items) = default_at l t span items
default_of l items = None

-- the parts of a parameter, where they are there
abbrev pub at_in : Items → Option (Span × Items) → Option Span × Items
at_in items None = (None, items)
at_in items (Some at) = (Some at.0, at.1)

unfoldable pub annotation_in : Items → Option (Span × Items) → Takes (Option Annotation)
annotation_in items None = Some (None, items)
annotation_in items (Some colon) =
    taken_name colon.1 >>= λ n. guard (is_known (Some (record { colon = colon.0; name = n.0 }))) >>= λ u.
    Some (Some (record { colon = colon.0; name = n.0 }), n.1)

unfoldable pub assigned_in : Limits → Items → Option (Span × Items) → Takes (Option Assigned)
assigned_in l items None = Some (None, items)
assigned_in l items (Some sign) = default_of l sign.1 >>= λ d. Some (Some (record { sign = sign.0; value = d.0 }), d.1)

-- a name that is neither `body` nor that of an earlier parameter
abbrev pub fresh_name : Met → Items → Takes Name
fresh_name seen items =
    taken_name items >>= λ n. guard (not (is_body n.0.text)) >>= λ u. guard (not (seen n.0.text)) >>= λ v. Some n

-- a parameter, after `@`, if any
unfoldable pub parameter_after : Limits → Met → Option Span → Items → Takes Parameter
parameter_after l seen at items =
    fresh_name seen items >>= λ n.
    annotation_in n.1 (takes Colon n.1) >>= λ t.
    assigned_in l t.1 (takes Assign t.1) >>= λ d.
    guard (default_has_type (argument_of (parameter at n.0 t.0 d.0)).typ (argument_of (parameter at n.0 t.0 d.0)).default) >>= λ u.
    Some (parameter at n.0 t.0 d.0, d.1)

abbrev pub parameter_of : Limits → Met → Items → Takes Parameter
parameter_of l seen items =
    parameter_after l seen (at_in items (takes At items)).0 (at_in items (takes At items)).1

-- after a parameter: the closing parenthesis, or a comma and others
unfoldable pub parameters_after : (Met → Items → Takes Parameters) → Met → Parameter → Items → Option (Span × Items) → Takes Parameters
parameters_after again seen p items (Some end) = Some (Final p end.0, end.1)
parameters_after again seen p items None =
    takes Comma items >>= λ comma. again (meet p.name.text seen) comma.1 >>= λ ps. Some (More p comma.0 ps.0, ps.1)

-- the rest parameter, or another
unfoldable pub parameters_at : (Met → Items → Takes Parameters) → Limits → Met → Items → Option (Span × Items) → Takes Parameters
parameters_at again l seen items (Some dots) =
    fresh_name seen dots.1 >>= λ n. takes RightParen n.1 >>= λ end. Some (Rest dots.0 n.0 end.0, end.1)
parameters_at again l seen items None =
    parameter_of l seen items >>= λ p. parameters_after again seen p.0 p.1 (takes RightParen p.1)

-- none, where the closing parenthesis is there
unfoldable pub parameters_in : (Met → Items → Takes Parameters) → Limits → Met → Items → Option (Span × Items) → Takes Parameters
parameters_in again l seen items (Some end) = Some (Closed end.0, end.1)
parameters_in again l seen items None = parameters_at again l seen items (takes Spread items)

-- The number bounds the parameters. One more than the tokens is enough.
unfoldable pub parameters_by : ℕ → Limits → Met → Items → Takes Parameters
parameters_by zero l seen items = None
parameters_by (suc n) l seen items = parameters_in (parameters_by n l) l seen items (takes RightParen items)

unfoldable pub parameters_of : Limits → Met → Items → Takes Parameters
parameters_of l seen items = parameters_by (suc (size items)) l seen items

-- metadata, where it is there
unfoldable pub metadata_in : Limits → Items → Bool → Takes (Option LiteralMap)
metadata_in l items false = Some (None, items)
metadata_in l items true = map_of l items >>= λ m. Some (Some m.0, m.1)

unfoldable pub opened_of : Limits → Met → Items → Takes Opened
opened_of l seen items =
    component_of items >>= λ n. guard (not (seen (component_text n.0))) >>= λ u.
    takes LeftParen n.1 >>= λ paren. parameters_of l nothing_met paren.1 >>= λ ps.
    metadata_in l ps.1 (begins LeftBrace ps.1) >>= λ m. finish_of m.1 >>= λ f.
    Some (record { name = n.0; paren = paren.0; parameters = ps.0; metadata = m.0; finish = f.0 }, f.1)

unfoldable pub end_name_in : Items → Bool → Takes (Option ComponentName)
end_name_in items false = Some (None, items)
end_name_in items true = component_of items >>= λ n. Some (Some n.0, n.1)

-- the closing tag
unfoldable pub ending_of : Edge → Span → Opened → Items → Takes Head
ending_of start first o items =
    closed AtEndComponent items >>= λ x. end_name_in x.1 (is_name x.1) >>= λ n.
    guard (agrees (component_text o.name) (component_texts n.0)) >>= λ u. finish_of n.1 >>= λ f.
    Some (head start first o x.0.0 x.0.1 n.0 f.0, f.1)
