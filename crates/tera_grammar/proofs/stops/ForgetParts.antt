-- What is read of the parts of statements is what the plain reading reads, as in `Forget`.
use Rattle.std.proofs.Common.{◌≡◌, ℕ, zero, suc, Bool, true, false, not, cond, Option, Some, None, refl, ap, ◌∙◌}
use Rattle.tera_base.specs.Values as values
use Rattle.tera_base.specs.declared.utils.Span.{Span}
use Rattle.tera_lexer.specs.code.Cursors.{size}
use Rattle.tera_lexer.specs.grammar.Tokens.{Tok, Items, Ended, Failed, Token, Ident, Symbol, Finish, Integer}
use Rattle.tera_lexer.specs.declared.lexer.delimiters.Kind.TheVariants as kind
use Rattle.tera_grammar.specs.Options.{◌>>=◌, guard}
use Rattle.tera_grammar.specs.Limits.{Limits}
use Rattle.tera_grammar.specs.Words.{is_none, is_reserved}
use Rattle.tera_grammar.specs.expressions.Operators.{Minus, In}
use Rattle.tera_grammar.specs.expressions.Marks.{mark, Mark, LeftParen, RightParen, LeftBracket, LeftBrace, Comma, Colon, Bar, Spread, Assign, At, Operation}
use Rattle.tera_grammar.specs.expressions.Concrete.{Tree, Atomic, Array, Row, Lit, of_entries}
use Rattle.tera_grammar.specs.expressions.Companions.{Opened, array_value, map_value}
use Rattle.tera_grammar.specs.expressions.Reading.Front.{Place, at, among, literal_of, begins, same_token, takes as full_takes, Reads as full_Reads}
use Rattle.tera_grammar.proofs.plain.expressions.Reading.Front.{skip as plain_skip, moved as plain_moved, Reads as plain_Reads}
use Rattle.tera_grammar.specs.expressions.Reading.Rooms.{Room}
use Rattle.tera_grammar.proofs.plain.expressions.Reading.Bracketed.{row_of as plain_row_of}
use Rattle.tera_grammar.proofs.plain.expressions.Reading.Atoms.{array_of as plain_array_of}
use Rattle.tera_grammar.proofs.plain.expressions.Reading.Loop.{expr as plain_expr}
use Rattle.tera_grammar.specs.expressions.Reading.Whole.{widest, valued, row_if_array as full_row_if_array, array_if_constant, array_after, map_after, left_over as full_left_over, expression_of as full_expression_of, filter_of as full_filter_of, all_attributes as full_all_attributes, path_of as full_path_of, literal_map_of as full_literal_map_of, outermost as full_outermost, kwargs_of as full_kwargs_of, literal_array_of as full_literal_array_of}
use Rattle.tera_grammar.proofs.plain.expressions.Reading.Whole.{with_array, with_map, row_if_array as plain_row_if_array, left_over as plain_left_over, expression_of as plain_expression_of, filter_of as plain_filter_of, all_attributes as plain_all_attributes, path_of as plain_path_of, literal_array_of as plain_literal_array_of, literal_map_of as plain_literal_map_of, outermost as plain_outermost, kwargs_of as plain_kwargs_of}
use Rattle.tera_grammar.specs.statements.Names.{agrees}
use Rattle.tera_grammar.specs.statements.TagParts.{Edge, Name, Closer, closer_token, AtEndComponent}
use Rattle.tera_grammar.specs.statements.Expressions.{component_text}
use Rattle.tera_grammar.specs.statements.Heads.{Filters}
use Rattle.tera_grammar.specs.statements.Components.{Default, LiteralDefault, Parameter, Parameters, is_known, is_body, component_texts}
use Rattle.tera_grammar.specs.statements.Reading.TagParts.{Front, Ends, Closes, Holds, Shows, Opens, Wrong, front as front_of, wrong_at, finish_of as full_finish_of, variable_end_of as full_variable_end_of, closed_at as full_closed_at, closed as full_closed, closed_tag as full_closed_tag}
use Rattle.tera_grammar.specs.statements.Reading.Components.{default_marks, Opened as OpenedTag, is_name, minus_kind, parameter_by, typed_well, default_by as full_default_by, default_at as full_default_at, default_of as full_default_of, annotation_in as full_annotation_in, assigned_in as full_assigned_in, fresh_name as full_fresh_name, parameter_after as full_parameter_after, parameter_of as full_parameter_of, parameters_after as full_parameters_after, parameters_at as full_parameters_at, parameters_in as full_parameters_in, parameters_by as full_parameters_by, parameters_of as full_parameters_of, metadata_in as full_metadata_in, opened_of as full_opened_of, end_name_in as full_end_name_in, ending_of as full_ending_of}
use Rattle.tera_grammar.specs.statements.Reading.Meeting.{Met, meet, nothing_met}
use Rattle.tera_grammar.specs.Reads.{Read, found, stopped, bind, given, holds, Takes, first_as, forget}
use Rattle.tera_grammar.specs.expressions.Reading.Loop.{expr as full_expr}
use Rattle.tera_grammar.proofs.stops.Forget.{forget_bind, takes_forget, skip_forget, name_forget, name_of_forget, dotted_forget, arguments_forget, args_forget, attributes_forget, array_forget, row_forget, variables_forget, fresh_forget, expr_forget}
use Rattle.tera_grammar.proofs.plain.statements.Reading.TagParts.{finish_of as plain_finish_of, variable_end_of as plain_variable_end_of, closed_at as plain_closed_at, closed as plain_closed, closed_tag as plain_closed_tag}
use Rattle.tera_grammar.specs.statements.Reading.Heads.{free_name as full_free_name, loop_of as full_loop_of, filters_in as full_filters_in, filters_by as full_filters_by, filters_of as full_filters_of}
use Rattle.tera_grammar.proofs.plain.statements.Reading.Heads.{free_name as plain_free_name, loop_of as plain_loop_of, filters_in as plain_filters_in, filters_by as plain_filters_by, filters_of as plain_filters_of}
use Rattle.tera_grammar.proofs.plain.statements.Reading.Components.{default_by as plain_default_by, default_at as plain_default_at, default_of as plain_default_of, at_in as plain_at_in, annotation_in as plain_annotation_in, assigned_in as plain_assigned_in, fresh_name as plain_fresh_name, parameter_after as plain_parameter_after, parameter_of as plain_parameter_of, parameters_after as plain_parameters_after, parameters_at as plain_parameters_at, parameters_in as plain_parameters_in, parameters_by as plain_parameters_by, parameters_of as plain_parameters_of, metadata_in as plain_metadata_in, opened_of as plain_opened_of, end_name_in as plain_end_name_in, ending_of as plain_ending_of, minus_of as plain_minus_of}

-- a test
pub guard_forget : {A : Type 0} (z : Items) (b : Bool) (x : Read A) (v : Option A) → forget x ≡ v → forget (bind (holds z b) (λ u. x)) ≡ (guard b >>= λ u. v)
guard_forget z true x v h = h
guard_forget z false x v h = refl

-- what is outermost
left_over_forget : {A : Type 0} (o : full_Reads A) (q : plain_Reads A) → forget o ≡ q → forget (full_left_over o) ≡ plain_left_over q
left_over_forget (stopped z) q is = ap plain_left_over is
left_over_forget (found x) q is = ap plain_left_over is

outermost_forget : (l : Limits) (w : Room) (m : ℕ) (p : Place) → forget (full_outermost l w m p) ≡ plain_outermost l w m p
outermost_forget l w m p = fresh_forget l.links (full_expr l.depth) (plain_expr l.depth) (expr_forget l.depth) w m p

pub expression_forget : (l : Limits) (b : Bool) (ts : Items) → forget (full_expression_of l b ts) ≡ plain_expression_of l b ts
unfolding full_expression_of plain_expression_of
expression_forget l b ts = left_over_forget _ _ (expr_forget l.depth (widest l b) 0 (at l.links ts))

pub filter_forget : (l : Limits) (b : Bool) (ts : Items) → forget (full_filter_of l b ts) ≡ plain_filter_of l b ts
unfolding full_filter_of plain_filter_of
filter_forget l b ts =
    left_over_forget _ _ (forget_bind _ _ _ _ (name_of_forget (at 0 ts)) (λ n.
    forget_bind _ _ _ _ (args_forget (full_outermost l) (plain_outermost l) (outermost_forget l) (widest l b) n.1) (λ g. refl)))

pub all_attributes_forget : (l : Limits) (b : Bool) (ts : Items) → forget (full_all_attributes l b ts) ≡ plain_all_attributes l b ts
unfolding full_all_attributes plain_all_attributes
all_attributes_forget l b ts = left_over_forget _ _ (attributes_forget (full_outermost l) (plain_outermost l) (outermost_forget l) (widest l b) (at 0 ts))

pub kwargs_forget : (l : Limits) (b : Bool) (ts : Items) → forget (full_kwargs_of l b ts) ≡ plain_kwargs_of l b ts
unfolding full_kwargs_of plain_kwargs_of
kwargs_forget l b ts =
    left_over_forget _ _ (forget_bind _ _ _ _ (skip_forget LeftParen (at 0 ts)) (λ s.
    forget_bind _ _ _ _ (arguments_forget (full_outermost l) (plain_outermost l) (outermost_forget l) (widest l b) s.1) (λ r. refl)))

pub path_forget : (ts : Items) → forget (full_path_of ts) ≡ plain_path_of ts
unfolding full_path_of plain_path_of
path_forget ts = left_over_forget _ _ (forget_bind _ _ _ _ (name_of_forget (at 0 ts)) (λ n. forget_bind _ _ _ _ (dotted_forget n.1) (λ ds. refl)))

-- constant arrays and maps, after their brackets
constant_array : (s : Span) (row : Row) (q : Place) (o : Option values.Vals)
    → forget (bind (given q.tokens (valued (record { mark = s; row = row }) o)) (λ a. found (a, q))) ≡ with_array (record { mark = s; row = row }) q o
constant_array s row q None = refl
constant_array s row q (Some vs) = refl

constant_map : (s : Span) (row : Row) (q : Place) (o : Option values.Pairs)
    → forget (bind (given q.tokens (valued (record { mark = s; row = row }) o)) (λ a. found (a, q))) ≡ with_map (record { mark = s; row = row }) q o
constant_map s row q None = refl
constant_map s row q (Some vs) = refl

if_array : (s : Span) (q : Place) (e : Tree)
    → forget (bind (given q.tokens (array_if_constant s (full_row_if_array e))) (λ a. found (a, q)))
    ≡ (plain_row_if_array e >>= λ r. with_array (record { mark = s; row = r }) q (array_value (record { mark = s; row = r })))
if_array s q (Atomic (Array here row)) = constant_array s row q (array_value (record { mark = s; row = row }))
if_array s q e = refl

array_after_forget : (l : Limits) (s : Span) (ts : Items) → forget (array_after l s ts) ≡ plain_literal_array_of l (mark LeftBracket s ts)
unfolding array_after plain_literal_array_of plain_skip
array_after_forget l s ts =
    left_over_forget _ _ (forget_bind _ _ _ _ (array_forget (full_outermost l) (plain_outermost l) (outermost_forget l) (widest l false) s (at 0 ts)) (λ e. if_array s e.1 e.0))

abbrev array_from : Limits → Span → Place → plain_Reads (Opened × values.Vals)
array_from l s p =
    plain_array_of (plain_outermost l) (widest l false) s p >>= λ e. plain_row_if_array e.0 >>= λ r.
    with_array (record { mark = s; row = r }) e.1 (array_value (record { mark = s; row = r }))

array_from_forget : (l : Limits) (s : Span) (ts : Items) → forget (array_after l s ts) ≡ plain_left_over (array_from l s (at 0 ts))
unfolding array_after
array_from_forget l s ts =
    left_over_forget _ _ (forget_bind _ _ _ _ (array_forget (full_outermost l) (plain_outermost l) (outermost_forget l) (widest l false) s (at 0 ts)) (λ e. if_array s e.1 e.0))

abbrev array_read : Limits → Option (Span × Items) → Option ((Opened × values.Vals) × Items)
array_read l o = plain_left_over (plain_moved 0 o >>= λ s. array_from l s.0 s.1)

pub literal_array_forget : (l : Limits) (ts : Items) → forget (full_literal_array_of l ts) ≡ plain_literal_array_of l ts
unfolding full_literal_array_of plain_literal_array_of plain_skip
literal_array_forget l ts = by (full_takes LeftBracket ts) ∙ ap (array_read l) (takes_forget LeftBracket ts)
  where
    by : (o : Takes Span) → forget (bind o (λ s. array_after l s.0 s.1)) ≡ array_read l (forget o)
    by (stopped z) = refl
    by (found s) = array_from_forget l s.0 s.1

abbrev map_from : Limits → Span → Place → plain_Reads (Opened × values.Pairs)
map_from l s p =
    plain_row_of (plain_outermost l) (widest l false) of_entries p >>= λ r. with_map (record { mark = s; row = r.0 }) r.1 (map_value (record { mark = s; row = r.0 }))

map_from_forget : (l : Limits) (s : Span) (ts : Items) → forget (map_after l s ts) ≡ plain_left_over (map_from l s (at 0 ts))
unfolding map_after
map_from_forget l s ts =
    left_over_forget _ _ (forget_bind _ _ _ _ (row_forget (full_outermost l) (plain_outermost l) (outermost_forget l) (widest l false) of_entries (at 0 ts)) (λ r.
    constant_map s r.0 r.1 (map_value (record { mark = s; row = r.0 }))))

map_after_forget : (l : Limits) (s : Span) (ts : Items) → forget (map_after l s ts) ≡ plain_literal_map_of l (mark LeftBrace s ts)
unfolding plain_literal_map_of plain_skip
map_after_forget l s ts = map_from_forget l s ts

abbrev map_read : Limits → Option (Span × Items) → Option ((Opened × values.Pairs) × Items)
map_read l o = plain_left_over (plain_moved 0 o >>= λ s. map_from l s.0 s.1)

pub literal_map_forget : (l : Limits) (ts : Items) → forget (full_literal_map_of l ts) ≡ plain_literal_map_of l ts
unfolding full_literal_map_of plain_literal_map_of plain_skip
literal_map_forget l ts = by (full_takes LeftBrace ts) ∙ ap (map_read l) (takes_forget LeftBrace ts)
  where
    by : (o : Takes Span) → forget (bind o (λ s. map_after l s.0 s.1)) ≡ map_read l (forget o)
    by (stopped z) = refl
    by (found s) = map_from_forget l s.0 s.1

-- the ends of tags
finish_at_forget : (t : Tok) (s : Span) (us : Items) → forget (full_finish_of (Token t s us)) ≡ plain_finish_of (Token t s us)
finish_at_forget (Finish kind.Block dash) s us = refl
finish_at_forget (Finish kind.Variable dash) s us = refl
finish_at_forget t s us = refl

pub finish_forget : (ts : Items) → forget (full_finish_of ts) ≡ plain_finish_of ts
finish_forget (Token t s us) = finish_at_forget t s us
finish_forget Ended = refl
finish_forget (Failed text there) = refl

end_at_forget : (t : Tok) (s : Span) (us : Items) → forget (full_variable_end_of (Token t s us)) ≡ plain_variable_end_of (Token t s us)
end_at_forget (Finish kind.Block dash) s us = refl
end_at_forget (Finish kind.Variable dash) s us = refl
end_at_forget t s us = refl

pub end_forget : (ts : Items) → forget (full_variable_end_of ts) ≡ plain_variable_end_of ts
end_forget (Token t s us) = end_at_forget t s us
end_forget Ended = refl
end_forget (Failed text there) = refl

-- closing tags
closed_at_forget : (c : Closer) (ts : Items) (fr : Front) → forget (full_closed_at c ts fr) ≡ plain_closed_at c fr
unfolding full_closed_at
closed_at_forget c ts (Closes x start first us) = by start first us (same_token (closer_token x) (closer_token c))
  where
    by : (start : Edge) (first : Span) (us : Items) (b : Bool) → forget {A = (Edge × Span) × Items} (cond b (found ((start, first), us)) (stopped (wrong_at ts))) ≡ (guard b >>= λ u. Some ((start, first), us))
    by start first us true = refl
    by start first us false = refl
closed_at_forget c ts Ends = refl
closed_at_forget c ts (Holds text s us) = refl
closed_at_forget c ts (Shows start us) = refl
closed_at_forget c ts (Opens o start first us) = refl
closed_at_forget c ts Wrong = refl

pub closed_forget : (c : Closer) (ts : Items) → forget (full_closed c ts) ≡ plain_closed c ts
closed_forget c ts = closed_at_forget c ts (front_of ts)

pub closed_tag_forget : (c : Closer) (ts : Items) → forget (full_closed_tag c ts) ≡ plain_closed_tag c ts
closed_tag_forget c ts = forget_bind _ _ _ _ (closed_forget c ts) (λ x. forget_bind _ _ _ _ (finish_forget x.1) (λ f. refl))

-- heads
pub free_name_forget : (ts : Items) → forget (full_free_name ts) ≡ plain_free_name ts
free_name_forget ts = forget_bind _ _ _ _ (name_forget ts) (λ n. by n (is_reserved n.0.text))
  where
    by : (n : Name × Items) (b : Bool) → forget (cond b (stopped n.1) (found n)) ≡ (guard (not b) >>= λ u. Some n)
    by n true = refl
    by n false = refl

pub loop_forget : (l : Limits) (ts : Items) → forget (full_loop_of l ts) ≡ plain_loop_of l ts
unfolding full_loop_of plain_loop_of
loop_forget l ts =
    forget_bind _ _ _ _ (left_over_forget _ _ (variables_forget (at 0 ts))) (λ v. forget_bind _ _ _ _ (takes_forget (Operation In) v.1) (λ w.
    forget_bind _ _ _ _ (expression_forget l true w.1) (λ e. refl)))

filters_in_forget : (l : Limits) (again : Items → Takes Filters) (other : Items → Option (Filters × Items)) → ((ts : Items) → forget (again ts) ≡ other ts) → (b : Bool) (ts : Items) (o : Takes Span)
    → forget (full_filters_in again l b ts o) ≡ plain_filters_in other l b ts (forget o)
unfolding full_filters_in plain_filters_in
filters_in_forget l again other same b ts (stopped z) = refl
filters_in_forget l again other same b ts (found s) = forget_bind _ _ _ _ (filter_forget l b s.1) (λ f. forget_bind _ _ _ _ (same f.1) (λ fs. refl))

filters_by_forget : (l : Limits) (n : ℕ) (b : Bool) (ts : Items) → forget (full_filters_by n l b ts) ≡ plain_filters_by n l b ts
unfolding full_filters_by plain_filters_by
filters_by_forget l zero b ts = refl
filters_by_forget l (suc n) b ts =
    filters_in_forget l (full_filters_by n l b) (plain_filters_by n l b) (filters_by_forget l n b) b ts (full_takes Bar ts) ∙ ap (plain_filters_in (plain_filters_by n l b) l b ts) (takes_forget Bar ts)

pub filters_forget : (l : Limits) (b : Bool) (ts : Items) → forget (full_filters_of l b ts) ≡ plain_filters_of l b ts
unfolding full_filters_of plain_filters_of
filters_forget l b ts = filters_by_forget l (suc (size ts)) b ts

-- components
minus_at_forget : (minus : Span) (t : Tok) (s : Span) (us : Items) → forget (first_as (minus_kind minus) (Token t s us)) ≡ plain_minus_of minus (Token t s us)
minus_at_forget minus (Integer n) s us = refl
minus_at_forget minus t s us = refl

minus_forget : (minus : Span) (ts : Items) → forget (first_as (minus_kind minus) ts) ≡ plain_minus_of minus ts
minus_forget minus (Token t s us) = minus_at_forget minus t s us
minus_forget minus Ended = refl
minus_forget minus (Failed text there) = refl

default_by_forget : (l : Limits) (m : Mark) (s : Span) (ts : Items) → forget (full_default_by l m s ts) ≡ plain_default_by l m s ts
unfolding full_default_by plain_default_by
default_by_forget l (Operation Minus) s ts = minus_forget s ts
default_by_forget l LeftBracket s ts = forget_bind _ _ _ _ (array_after_forget l s ts) (λ a. refl)
default_by_forget l LeftBrace s ts = forget_bind _ _ _ _ (map_after_forget l s ts) (λ m. refl)
default_by_forget l _ s ts = refl

literal_default : (s : Span) (ts : Items) (o : Option Lit) → forget {A = Default × Items} (bind (given ts o) (λ x. found (LiteralDefault x s, ts))) ≡ (o >>= λ x. Some (LiteralDefault x s, ts))
literal_default s ts None = refl
literal_default s ts (Some x) = refl

default_at_forget : (l : Limits) (t : Tok) (s : Span) (ts : Items) → forget (full_default_at l t s ts) ≡ plain_default_at l t s ts
unfolding full_default_at plain_default_at
default_at_forget l (Ident text) s ts = guard_forget ts (is_none text) _ _ refl
default_at_forget l (Symbol op) s ts = default_by_forget l (among default_marks (Symbol op)) s ts
default_at_forget l t s ts = literal_default s ts (literal_of t)

default_forget : (l : Limits) (ts : Items) → forget (full_default_of l ts) ≡ plain_default_of l ts
unfolding full_default_of plain_default_of
default_forget l (Token t s us) = default_at_forget l t s us
default_forget l Ended = refl
default_forget l (Failed text there) = refl

annotation_forget : (ts : Items) (o : Takes Span) → forget (full_annotation_in ts o) ≡ plain_annotation_in ts (forget o)
unfolding full_annotation_in plain_annotation_in
annotation_forget ts (stopped z) = refl
annotation_forget ts (found c) = forget_bind _ _ _ _ (name_forget c.1) (λ n. guard_forget n.1 (is_known (Some (record { colon = c.0; name = n.0 }))) _ _ refl)

assigned_forget : (l : Limits) (ts : Items) (o : Takes Span) → forget (full_assigned_in l ts o) ≡ plain_assigned_in l ts (forget o)
unfolding full_assigned_in plain_assigned_in
assigned_forget l ts (stopped z) = refl
assigned_forget l ts (found s) = forget_bind _ _ _ _ (default_forget l s.1) (λ d. refl)

fresh_name_forget : (seen : Met) (ts : Items) → forget (full_fresh_name seen ts) ≡ plain_fresh_name seen ts
fresh_name_forget seen ts =
    forget_bind _ _ _ _ (name_forget ts) (λ n. guard_forget n.1 (not (is_body n.0.text)) _ _ (guard_forget n.1 (not (seen n.0.text)) (found n) (Some n) refl))

parameter_after_forget : (l : Limits) (seen : Met) (a : Option Span) (ts : Items) → forget (full_parameter_after l seen a ts) ≡ plain_parameter_after l seen a ts
unfolding full_parameter_after plain_parameter_after
parameter_after_forget l seen a ts =
    forget_bind _ _ _ _ (fresh_name_forget seen ts) (λ n.
    forget_bind _ _ _ _ (annotation_forget n.1 (full_takes Colon n.1) ∙ ap (plain_annotation_in n.1) (takes_forget Colon n.1)) (λ t.
    forget_bind _ _ _ _ (assigned_forget l t.1 (full_takes Assign t.1) ∙ ap (plain_assigned_in l t.1) (takes_forget Assign t.1)) (λ d.
    guard_forget d.1 (typed_well a n.0 t.0 d.0) _ _ refl)))

parameter_by_forget : (l : Limits) (seen : Met) (ts : Items) (o : Takes Span)
    → forget (parameter_by l seen ts o) ≡ plain_parameter_after l seen (plain_at_in ts (forget o)).0 (plain_at_in ts (forget o)).1
parameter_by_forget l seen ts (stopped z) = parameter_after_forget l seen None ts
parameter_by_forget l seen ts (found x) = parameter_after_forget l seen (Some x.0) x.1

parameter_forget : (l : Limits) (seen : Met) (ts : Items) → forget (full_parameter_of l seen ts) ≡ plain_parameter_of l seen ts
parameter_forget l seen ts =
    parameter_by_forget l seen ts (full_takes At ts) ∙ ap (λ o. plain_parameter_after l seen (plain_at_in ts o).0 (plain_at_in ts o).1) (takes_forget At ts)

module _ (l : Limits) (again : Met → Items → Takes Parameters) (other : Met → Items → Option (Parameters × Items)) (goes : (seen : Met) (ts : Items) → forget (again seen ts) ≡ other seen ts) where
  after_forget : (seen : Met) (p : Parameter) (ts : Items) (o : Takes Span) → forget (full_parameters_after again seen p ts o) ≡ plain_parameters_after other seen p ts (forget o)
  unfolding full_parameters_after plain_parameters_after
  after_forget seen p ts (found x) = refl
  after_forget seen p ts (stopped z) = forget_bind _ _ _ _ (takes_forget Comma ts) (λ c. forget_bind _ _ _ _ (goes (meet p.name.text seen) c.1) (λ ps. refl))

  parameters_at_forget : (seen : Met) (ts : Items) (o : Takes Span) → forget (full_parameters_at again l seen ts o) ≡ plain_parameters_at other l seen ts (forget o)
  unfolding full_parameters_at plain_parameters_at
  parameters_at_forget seen ts (found x) = forget_bind _ _ _ _ (fresh_name_forget seen x.1) (λ n. forget_bind _ _ _ _ (takes_forget RightParen n.1) (λ e. refl))
  parameters_at_forget seen ts (stopped z) =
      forget_bind _ _ _ _ (parameter_forget l seen ts) (λ p. after_forget seen p.0 p.1 (full_takes RightParen p.1) ∙ ap (plain_parameters_after other seen p.0 p.1) (takes_forget RightParen p.1))

  parameters_in_forget : (seen : Met) (ts : Items) (o : Takes Span) → forget (full_parameters_in again l seen ts o) ≡ plain_parameters_in other l seen ts (forget o)
  unfolding full_parameters_in plain_parameters_in
  parameters_in_forget seen ts (found x) = refl
  parameters_in_forget seen ts (stopped z) = parameters_at_forget seen ts (full_takes Spread ts) ∙ ap (plain_parameters_at other l seen ts) (takes_forget Spread ts)

parameters_by_forget : (n : ℕ) (l : Limits) (seen : Met) (ts : Items) → forget (full_parameters_by n l seen ts) ≡ plain_parameters_by n l seen ts
unfolding full_parameters_by plain_parameters_by
parameters_by_forget zero l seen ts = refl
parameters_by_forget (suc n) l seen ts =
    parameters_in_forget l (full_parameters_by n l) (plain_parameters_by n l) (parameters_by_forget n l) seen ts (full_takes RightParen ts)
    ∙ ap (plain_parameters_in (plain_parameters_by n l) l seen ts) (takes_forget RightParen ts)

parameters_forget : (l : Limits) (seen : Met) (ts : Items) → forget (full_parameters_of l seen ts) ≡ plain_parameters_of l seen ts
unfolding full_parameters_of plain_parameters_of
parameters_forget l seen ts = parameters_by_forget (suc (size ts)) l seen ts

metadata_forget : (l : Limits) (ts : Items) (b : Bool) → forget (full_metadata_in l ts b) ≡ plain_metadata_in l ts b
unfolding full_metadata_in plain_metadata_in
metadata_forget l ts false = refl
metadata_forget l ts true = forget_bind _ _ _ _ (literal_map_forget l ts) (λ m. refl)

pub opened_forget : (l : Limits) (seen : Met) (ts : Items) → forget (full_opened_of l seen ts) ≡ plain_opened_of l seen ts
unfolding full_opened_of plain_opened_of
opened_forget l seen ts =
    forget_bind _ _ _ _ (path_forget ts) (λ n. guard_forget n.1 (not (seen (component_text n.0))) _ _
    (forget_bind _ _ _ _ (takes_forget LeftParen n.1) (λ paren. forget_bind _ _ _ _ (parameters_forget l nothing_met paren.1) (λ ps.
    forget_bind _ _ _ _ (metadata_forget l ps.1 (begins LeftBrace ps.1)) (λ m. forget_bind _ _ _ _ (finish_forget m.1) (λ f. refl))))))

end_name_forget : (ts : Items) (b : Bool) → forget (full_end_name_in ts b) ≡ plain_end_name_in ts b
unfolding full_end_name_in plain_end_name_in
end_name_forget ts false = refl
end_name_forget ts true = forget_bind _ _ _ _ (path_forget ts) (λ n. refl)

pub ending_forget : (start : Edge) (first : Span) (o : OpenedTag) (ts : Items) → forget (full_ending_of start first o ts) ≡ plain_ending_of start first o ts
unfolding full_ending_of plain_ending_of
ending_forget start first o ts =
    forget_bind _ _ _ _ (closed_forget AtEndComponent ts) (λ x. forget_bind _ _ _ _ (end_name_forget x.1 (is_name x.1)) (λ n.
    guard_forget n.1 (agrees (component_text o.name) (component_texts n.0)) _ _ (forget_bind _ _ _ _ (finish_forget n.1) (λ f. refl))))
