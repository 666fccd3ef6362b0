use Rattle.std.proofs.Common.{◌∙◌, ap}
use Rattle.std.proofs.lemmas.Result.{err_from_is_err_and}
use Rattle.tera_ast.specs.Tree as tree
use Rattle.tera_grammar.specs.statements.Grammar.{Shown, Single}
use Rattle.tera_grammar.specs.statements.Output.{AddsNode}
use Rattle.tera_grammar.specs.statements.Reading.TagParts.{front}
use Rattle.tera_expr_parts.specs.Allowed.{limits_of}
use Rattle.tera_statements.proofs.ItemsLemmas.{shown_taken, shows_given, shows_nothing, shows_tag, shows_unended}
use Rattle.tera_expect.proofs.Steps.{failed_as}
use Rattle.tera_statements.proofs.items.variable_tag.Goals as goal

pub returns-in_err-expr-clause-gives : goal.returns-in_err-expr-clause-gives
returns-in_err-expr-clause-gives c = λ self path represents seen.
    let ts = c.args.cursor.now.left in
    let p = err_from_is_err_and c.from_residual-in_err-expr.result c.from_residual-in_err-expr.ensures.1 in
    let (start, is) = shown_taken ts c.pass.new.cursor.left _ _ (shows_tag ts c.requires) c.in_ok-pass.ensures.passes.1.1 in
    let fact = rw represents.loop at c.in_err-expr.ensures.gives in
    rw (p.1, p.2) (failed_as _ _ _ _ (λ z h. shows_nothing (limits_of c.args.setting.now.limits) self path seen ts (front ts) start c.pass.new.cursor.left is z h) fact)

pub returns-in_err-variable_end-clause-gives : goal.returns-in_err-variable_end-clause-gives
returns-in_err-variable_end-clause-gives c = λ self path represents seen.
    let ts = c.args.cursor.now.left in
    let p = err_from_is_err_and c.from_residual-in_err-variable_end.result c.from_residual-in_err-variable_end.ensures.1 in
    let (start, is) = shown_taken ts c.pass.new.cursor.left _ _ (shows_tag ts c.requires) c.in_ok-pass.ensures.passes.1.1 in
    let (e, read, shows) = rw represents.loop at c.in_ok-expr.ensures.gives in
    rw (p.1, p.2) (failed_as _ _ _ _ (λ z h. shows_unended (limits_of c.args.setting.now.limits) self path seen ts (front ts) start c.pass.new.cursor.left is e c.tag_expression.new.cursor.left read z h)
    c.in_err-variable_end.ensures.gives)

pub returns-clause-gives : goal.returns-clause-gives
returns-clause-gives c = λ self path represents seen.
    let ts = c.args.cursor.now.left in
    let (start, is) = shown_taken ts c.pass.new.cursor.left _ _ (shows_tag ts c.requires) c.in_ok-pass.ensures.passes.1.1 in
    let (e, read, shows) = rw represents.loop at c.in_ok-expr.ensures.gives in
    let (f, ended) = c.in_ok-variable_end.ensures.gives in (
      Single (Shown start e f),
      shows_given (limits_of c.args.setting.now.limits) self path seen ts (front ts) start c.pass.new.cursor.left is e c.tag_expression.new.cursor.left read f c.variable_end.new.cursor.left ended,
      ap AddsNode (c.shown_node.ensures ∙ ap tree.Shown shows),
    )
