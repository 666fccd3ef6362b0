-- The tokens of a template leave no tag unclosed, so they are those of pieces alone.
use Rattle.std.proofs.Common.{◌≡◌, Bool, true, false, List, [], Option, Some, None, subst, sym, refl}
use Rattle.tera_base.specs.declared.utils.Span.{Span}
use Rattle.tera_lexer.specs.grammar.Marks.{Marks}
use Rattle.tera_lexer.specs.grammar.Division.{Piece, Ending, Complete}
use Rattle.tera_lexer.specs.grammar.Tokens as toks
use Rattle.tera_lexer.specs.grammar.Tokens.{Items, Ended, Token, token_of, lexemes, piece_tokens, ending_tokens, tokens_of}
use Rattle.tera_lexer.proofs.Closed.{pieces_closed}
use Rattle.tera_lexer.specs.declared.lexer.delimiters.Kind.TheVariants as kind
use Rattle.tera_grammar.specs.expressions.Operators.{GreaterThan}
use Rattle.tera_grammar.specs.expressions.Concrete.{Quote, Simple, Escaped, Lit, quote_token, literal_token}
use Rattle.tera_grammar.specs.expressions.Marks.{mark, LeftParen, RightParen, Comma, Assign, Operation, At}
use Rattle.tera_grammar.specs.statements.TagParts as parts
use Rattle.tera_grammar.specs.expressions.Concrete as concrete
use Rattle.tera_grammar.specs.statements.TagParts.{name_yield, OpensSet, AtEndBlock, AtEndFor, AtEndIf, opening, closing, finish, if_any}
use Rattle.tera_grammar.specs.statements.Expressions.{expression_yield, attributes_yield, ComponentName, LiteralMap, component_yield, map_yield}
use Rattle.tera_grammar.specs.statements.Components.{Default, LiteralDefault, MinusDefault, NothingDefault, ArrayDefault, MapDefault, default_yield, Annotation, Assigned, Parameter, annotation_yield, assigned_yield, parameter_yield, Parameters, Closed, Rest, Final, More, parameters_yield, Head, head_yield, ending_yield}
use Rattle.tera_grammar.specs.statements.Heads.{Loop, loop_yield, Filters, NoFilters, Piped, filters_yield, Capture, SetBody, Section, CallBody, capture_yield, capture_end}
use Rattle.tera_grammar.specs.statements.Grammar as grammar
use Rattle.tera_grammar.specs.statements.Grammar.{Plain, Shown, Set, Include, Extends, Break, Continue, plain_yield, Body, Done, Then, Single, Block, Define, Capturing, For, If, Branches, Elif, Last, Else, NoElse, Otherwise, yield, item_yield, branches_yield, else_yield}
use Rattle.tera_grammar.proofs.statements.Inside.{IsClosed}
use Rattle.tera_grammar.proofs.statements.Expressions.{expression_closed, filter_closed, attributes_closed, component_closed, array_closed, map_closed}

quote_closed : (q : Quote) (span : Span) (r : Items) → IsClosed true r → IsClosed true (Token (quote_token q) span r)
quote_closed (Simple text) span r is = is
quote_closed (Escaped text) span r is = is

literal_closed : (x : Lit) (span : Span) (r : Items) → IsClosed true r → IsClosed true (Token (literal_token x) span r)
literal_closed (concrete.Number n) span r is = is
literal_closed (concrete.Quoted q) span r is = quote_closed q span r is
literal_closed (concrete.Truth b) span r is = is

default_closed : (d : Default) (r : Items) → IsClosed true r → IsClosed true (default_yield d r)
default_closed (LiteralDefault x span) r is = literal_closed x span r is
default_closed (MinusDefault minus n span) r is = is
default_closed (NothingDefault n) r is = is
default_closed (ArrayDefault a) r is = array_closed a r is
default_closed (MapDefault m) r is = map_closed m r is

assigned_closed : (d : Option Assigned) (r : Items) → IsClosed true r → IsClosed true (if_any assigned_yield d r)
assigned_closed None r is = is
assigned_closed (Some d) r is = default_closed d.value r is

annotation_closed : (t : Option Annotation) (r : Items) → IsClosed true r → IsClosed true (if_any annotation_yield t r)
annotation_closed None r is = is
annotation_closed (Some a) r is = is

at_closed : (at : Option Span) (r : Items) → IsClosed true r → IsClosed true (if_any (mark At) at r)
at_closed None r is = is
at_closed (Some span) r is = is

parameter_closed : (p : Parameter) (r : Items) → IsClosed true r → IsClosed true (parameter_yield p r)
parameter_closed p r is =
    at_closed p.at (name_yield p.name (if_any annotation_yield p.type (if_any assigned_yield p.default r)))
    (annotation_closed p.type (if_any assigned_yield p.default r) (assigned_closed p.default r is))

parameters_closed : (ps : Parameters) (r : Items) → IsClosed true r → IsClosed true (parameters_yield ps r)
parameters_closed (Closed end) r is = is
parameters_closed (Rest dots n end) r is = is
parameters_closed (Final p end) r is = parameter_closed p (mark RightParen end r) is
parameters_closed (More p comma ps) r is = parameter_closed p (mark Comma comma (parameters_yield ps r)) (parameters_closed ps r is)

metadata_closed : (h : Head) (r : Items) → IsClosed true r → IsClosed true (if_any map_yield h.metadata r)
metadata_closed h r is = goes h.metadata
  where
    goes : (m : Option LiteralMap) → IsClosed true (if_any map_yield m r)
    goes None = is
    goes (Some m) = map_closed m r is

component_if_any_closed : (n : Option ComponentName) (r : Items) → IsClosed true r → IsClosed true (if_any component_yield n r)
component_if_any_closed None r is = is
component_if_any_closed (Some n) r is = component_closed n r is

head_closed : (h : Head) (r : Items) → IsClosed false r → IsClosed false (head_yield h r)
head_closed h r is =
    let metadata = if_any map_yield h.metadata (finish h.tag r) in
    component_closed h.name (mark LeftParen h.paren (parameters_yield h.parameters metadata))
    (parameters_closed h.parameters metadata (metadata_closed h (finish h.tag r) is))

ending_closed : (h : Head) (r : Items) → IsClosed false r → IsClosed false (ending_yield h r)
ending_closed h r is = component_if_any_closed h.end_name (finish h.ending r) is

loop_closed : (lp : Loop) (r : Items) → IsClosed true r → IsClosed true (loop_yield lp r)
loop_closed lp r is = second_closed lp.second _ (expression_closed lp.target r is)
  where
    second_closed : (m : concrete.Second) (items : Items) → IsClosed true items → IsClosed true (concrete.second_yield m items)
    second_closed concrete.no_second items h = h
    second_closed (concrete.second s n) items h = h

filters_closed : (fs : Filters) (r : Items) → IsClosed true r → IsClosed true (filters_yield fs r)
filters_closed NoFilters r is = is
filters_closed (Piped bar f fs) r is = filter_closed f (filters_yield fs r) (filters_closed fs r is)

set_opening_closed : (global : Bool) (t : parts.Tag) (r : Items) → IsClosed true r → IsClosed false (opening (OpensSet global) t r)
set_opening_closed false t r is = is
set_opening_closed true t r is = is

capture_closed : (c : Capture) (r : Items) → IsClosed false r → IsClosed false (capture_yield c r)
capture_closed (SetBody global t n fs e) r is = set_opening_closed global t (name_yield n (filters_yield fs (finish t r))) (filters_closed fs (finish t r) is)
capture_closed (Section t f fs e) r is = filter_closed f (filters_yield fs (finish t r)) (filters_closed fs (finish t r) is)
capture_closed (CallBody t n a last e m end) r is =
    let tail = mark (Operation GreaterThan) last (finish t r) in
    component_closed n (attributes_yield a tail) (attributes_closed a tail is)

capture_end_closed : (c : Capture) (r : Items) → IsClosed false r → IsClosed false (capture_end c r)
capture_end_closed (SetBody global t n fs e) r is = is
capture_end_closed (Section t f fs e) r is = is
capture_end_closed (CallBody t n a last e m end) r is = component_closed m (mark (Operation GreaterThan) end (finish e r)) is

name_if_any_closed : (m : Option parts.Name) (r : Items) → IsClosed true r → IsClosed true (if_any name_yield m r)
name_if_any_closed None r is = is
name_if_any_closed (Some n) r is = is

plain_closed : (p : Plain) (r : Items) → IsClosed false r → IsClosed false (plain_yield p r)
plain_closed (grammar.Text text span) r is = is
plain_closed (Shown a e b) r is = expression_closed e (Token (toks.Finish kind.Variable b.dash) b.span r) is
plain_closed (Set global t n sign e) r is =
    set_opening_closed global t (name_yield n (mark Assign sign (expression_yield e (finish t r)))) (expression_closed e (finish t r) is)
plain_closed (Include t q span) r is = quote_closed q span (finish t r) is
plain_closed (Extends t q span) r is = quote_closed q span (finish t r) is
plain_closed (Break t) r is = is
plain_closed (Continue t) r is = is

mutual
  pub body_closed : (b : Body) (r : Items) → IsClosed false r → IsClosed false (yield b r)
  body_closed Done r is = is
  body_closed (Then i b) r is = item_closed i (yield b r) (body_closed b r is)

  item_closed : (i : grammar.Item) (r : Items) → IsClosed false r → IsClosed false (item_yield i r)
  item_closed (Single p) r is = plain_closed p r is
  item_closed (Block t n b e m) r is =
      body_closed b (closing AtEndBlock e (if_any name_yield m (finish e r))) (name_if_any_closed m (finish e r) is)
  item_closed (Define h b) r is = head_closed h (yield b (ending_yield h r)) (body_closed b (ending_yield h r) (ending_closed h r is))
  item_closed (Capturing c b) r is = capture_closed c (yield b (capture_end c r)) (body_closed b (capture_end c r) (capture_end_closed c r is))
  item_closed (For t lp b o e) r is =
      let end = closing AtEndFor e (finish e r) in
      loop_closed lp (finish t (yield b (else_yield o end))) (body_closed b (else_yield o end) (else_closed o end is))
  item_closed (If t c b bs e) r is =
      let end = closing AtEndIf e (finish e r) in
      expression_closed c (finish t (yield b (branches_yield bs end))) (body_closed b (branches_yield bs end) (branches_closed bs end is))

  branches_closed : (bs : Branches) (r : Items) → IsClosed false r → IsClosed false (branches_yield bs r)
  branches_closed (Elif t c b bs) r is =
      expression_closed c (finish t (yield b (branches_yield bs r))) (body_closed b (branches_yield bs r) (branches_closed bs r is))
  branches_closed (Last o) r is = else_closed o r is

  else_closed : (o : Else) (r : Items) → IsClosed false r → IsClosed false (else_yield o r)
  else_closed NoElse r is = is
  else_closed (Otherwise t b) r is = body_closed b r is

pub ends_in_nothing : (m : Marks) (ps : List Piece) (ending : Ending) (b : Body) → tokens_of m [] [] ps ending ≡ yield b Ended → ending ≡ Complete
ends_in_nothing m ps ending b e = pieces_closed m [] [] ps ending (subst (IsClosed false) (sym e) (body_closed b Ended refl))
