use Rattle.std.proofs.Common.{ap, ◌∙◌}
use Rattle.tera_ast.specs.View.{args_view, expression_view}
use Rattle.tera_grammar.specs.expressions.Output.{put_arg}
use Rattle.tera_expr_parts.proofs.ArgumentsLemmas.{put_view}
use Rattle.tera_expr_parts.proofs.arguments.put_argument.Goals as goal

pub returns-clause-puts : goal.returns-clause-puts
returns-clause-puts c =
    ap args_view c.in_ok-_before.ensures.entries ∙ put_view c.args.arguments.now.entries c.in_ok-name.name c.args.value
    ∙ ap (λ n. put_arg n (expression_view c.args.value) (args_view c.args.arguments.now.entries)) c.in_ok-name.ensures.ok
