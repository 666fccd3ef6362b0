use Rattle.std.proofs.Common.{◌∙◌, ap}
use Rattle.tera_ast.specs.Tree as tree
use Rattle.tera_expr_parts.specs.Allowed.{limits_of}
use Rattle.tera_tags.proofs.AloneLemmas.{alone, alone_read, alone_shown}
use Rattle.tera_tags.proofs.tag_parts.tag_expression.Goals as goal

pub returns-in_ok-variable-in-Some-clause-gives : goal.returns-in_ok-variable-in-Some-clause-gives
returns-in_ok-variable-in-Some-clause-gives c =
    let (is, names, ends, took) = c.in-Some.ensures in
    let name = c.in-Some.name.now in
    let span = c.eat_alone.new.cursor.span in (
      alone name span,
      alone_read (limits_of c.args.setting.now.limits) c.args.in_loop c.args.cursor.now.left c.eat_alone.new.cursor.left name span c.args.setting.now.valid is names ends,
      c.in_ok-variable-in-Some.ensures ∙ ap (tree.Var name) (c.copied-span.ensures ∙ c.current_span.ensures.span) ∙ alone_shown c.args.in_loop name span,
    )

pub returns-in-None-clause-gives : goal.returns-in-None-clause-gives
returns-in-None-clause-gives c = rw (c.scope.ensures.in_loop, c.scope.ensures.limits, c.in-None.ensures) at c.expression.ensures.gives

pub returns-in-None-clause-refusal : goal.returns-in-None-clause-refusal
returns-in-None-clause-refusal c = rw c.in-None.ensures at c.expression.ensures.refusal

pub returns-in-None-clause-later : goal.returns-in-None-clause-later
returns-in-None-clause-later c = rw c.in-None.ensures at c.expression.ensures.later
