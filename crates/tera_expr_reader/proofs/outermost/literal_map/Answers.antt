use Rattle.std.proofs.Common.{◌≡◌, ◌∙◌, inl, inr, ap, sym, subst}
use Rattle.std.specs.Option.{option_map}
use Rattle.std.proofs.lemmas.Result.{err_from_is_err_and}
use Rattle.tera_base.specs.Errors.{ReportsBy}
use Rattle.tera_base.specs.ValueView.{value_view}
use Rattle.tera_lexer.specs.grammar.Place.{IsWithin}
use Rattle.tera_grammar.specs.expressions.Marks.{LeftBrace}
use Rattle.tera_grammar.specs.expressions.Reading.Front.{at}
use Rattle.tera_expr_parts.specs.Folding.{constant_of}
use Rattle.tera_expr_parts.specs.Ranges.{RunsFrom}
use Rattle.tera_expr_parts.specs.Allowed.{limits_of}
use Rattle.tera_expr_reader.proofs.LiteralMaps.{no_brace, map_fails, map_comes, no_map_comes}
use Rattle.tera_expr_reader.proofs.OutermostLemmas.{map_given}
use Rattle.tera_expr_reader.proofs.Ranges.{still_within, refused_from}
use Rattle.tera_expr_reader.proofs.outermost.literal_map.Goals as goal

pub returns-in_err-expect-clause-gives : goal.returns-in_err-expect-clause-gives
returns-in_err-expect-clause-gives c =
    let p = err_from_is_err_and c.from_residual.result c.from_residual.ensures.1 in
    rw (p.1, p.2) (no_brace (limits_of c.args.limits) c.args.cursor.now.left _ _ c.in_err-expect.ensures.gives)

pub returns-in_err-map-clause-gives : goal.returns-in_err-map-clause-gives
returns-in_err-map-clause-gives c =
    let mid = c.expect.new.cursor in
    let gives = rw (c.outermost-values.ensures.reader, c.outermost-values.ensures.room) at c.in_err-map.ensures.gives in
    let p = err_from_is_err_and c.from_residual-in_err-map.result c.from_residual-in_err-map.ensures.1 in
    rw (p.1, p.2) (map_fails (limits_of c.args.limits) c.args.cursor.now.left mid.left mid.span c.in_ok-expect.ensures.gives c.copied-first.result _ _ gives)

pub returns-in-Some-clause-gives : goal.returns-in-Some-clause-gives
returns-in-Some-clause-gives c =
    let mid = c.expect.new.cursor in
    let new = c.map.new.cursor.left in
    let gives = rw (c.outermost-values.ensures.reader, c.outermost-values.ensures.room, c.outermost-values.ensures.scope) at c.in_ok-map.ensures.gives in
    let (t, read, shown, ends) = gives in
    let is = sym (ap (option_map value_view) c.in-Some.is) ∙ c.constant.ensures ∙ ap constant_of shown in
    map_given (limits_of c.args.limits) c.args.cursor.now.left new c.in-Some.value
    (map_comes (limits_of c.args.limits) c.args.cursor.now.left mid.left mid.span c.in_ok-expect.ensures.gives c.copied-first.result
    t (at c.map.new.links new) read (value_view c.in-Some.value) is)

pub returns-in-None-clause-gives : goal.returns-in-None-clause-gives
returns-in-None-clause-gives c =
    let mid = c.expect.new.cursor in
    let gives = rw (c.outermost-values.ensures.reader, c.outermost-values.ensures.room, c.outermost-values.ensures.scope) at c.in_ok-map.ensures.gives in
    let (t, read, shown, ends) = gives in
    let is = sym (ap (option_map value_view) c.in-None.is) ∙ c.constant.ensures ∙ ap constant_of shown in
    inr (inl (no_map_comes (limits_of c.args.limits) c.args.cursor.now.left mid.left mid.span c.in_ok-expect.ensures.gives c.copied-first.result
    t (at c.map.new.links c.map.new.cursor.left) read is))

pub map_not_constant-requires : goal.map_not_constant-requires
map_not_constant-requires c =
    still_within c.expect.new.cursor c.map.new.cursor c.copied-first.result c.in_ok-map.ensures.later
    (subst (IsWithin c.expect.new.cursor.source) (sym c.copied-first.ensures) c.current_span.ensures.within)

pub returns-in-None-clause-refusal : goal.returns-in-None-clause-refusal
returns-in-None-clause-refusal c =
    let same : c.copied-first.result ≡ c.expect.new.cursor.span = c.copied-first.ensures ∙ c.current_span.ensures.span in
    refused_from LeftBrace c.args.cursor.now c.expect.new.cursor c.map.new.cursor c.map_not_constant.result c.in_ok-expect.ensures.gives c.in_ok-expect.ensures.later c.in_ok-map.ensures.later
    (subst (λ s. ReportsBy (λ text span. RunsFrom s c.map.new.cursor span) c.map_not_constant.result) same c.map_not_constant.ensures.reports) c.map_not_constant.ensures.notes
