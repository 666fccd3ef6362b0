use Rattle.std.proofs.Common.{Option, sym, ap, ◌∙◌}
use Rattle.std.specs.Option.{option_map}
use Rattle.tera_lexer.specs.code.Seen.{seen}
use Rattle.tera_ast.specs.View.{expression_view}
use Rattle.tera_ast.specs.declared.ast.Expression.{Expression}
use Rattle.tera_expr_reader.proofs.LoneLemmas.{lone_taken}
use Rattle.tera_expr_reader.proofs.lone.lone.Goals as goal

pub returns : goal.returns
returns c =
    let leaf = sym c.in_ok-expr.ensures ∙ ap (λ (o : Option Expression). option_map expression_view o) c.in-Some-2.is in
    lone_taken c.args.depth c.args.cursor.now c.skip.new.self c.skip.result (seen c.in-Some.token.now) c.in-Some-first_span.span.now c.in-Some-2.expr c.if-depth-eq0.false
    (sym c.stop_is_second.ensures ∙ c.if-not-stop_is_second.false) c.in-Some.ensures.shows.1 c.in-Some-first_span.ensures.shows.1 c.in-Some.ensures.shows.0 leaf c.skip.ensures.skips
