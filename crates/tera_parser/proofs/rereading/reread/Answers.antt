use Rattle.std.proofs.Common.{◌≡◌, ◌∙◌, ap, subst}
use Rattle.std.proofs.lemmas.Result.{err_from_is_err_and}
use Rattle.tera_base.specs.Errors.{IsMemory}
use Rattle.tera_ast.specs.View.{expression_view}
use Rattle.tera_tree.specs.Outputs.{output_view}
use Rattle.tera_tree.specs.Tree.{Output}
use Rattle.tera_grammar.specs.statements.Top.{Derives}
use Rattle.tera_spelling.specs.Sources.{in_tag}
use Rattle.tera_source.specs.Source.{source_text}
use Rattle.tera_source.specs.Writable.{IsWritable}
use Rattle.tera_expr_parts.specs.Allowed.{limits_of}
use Rattle.tera_source.proofs.Bodiless.{bodiless}
use Rattle.tera_parser.specs.Job.{Job}
use Rattle.tera_parser.proofs.AgainLemmas.{memory_again, shown_again}
use Rattle.tera_parser.proofs.rereading.reread.Goals as goal
use Rattle.tera_parser.proofs.rereading.reread.Goals.{After-as_str-2}

-- what is parsed is the text of the expression in a tag
in_its_tag : (c : After-as_str-2) → IsWritable (expression_view c.args.expression.now)
    → c.as_str-2.result.now ≡ in_tag (source_text (expression_view c.args.expression.now))
in_its_tag c writable = c.as_str-2.ensures.value ∙ c.in_ok-source.ensures ∙ ap in_tag (c.as_str.ensures.value ∙ c.in_ok-text.ensures.text writable)

pub returns-clause-again : goal.returns-clause-again
returns-clause-again c = λ printed.
    let at = (goal.at.returns-clause-again c).After-as_str-2 in
    let read = output_view c.in_ok-parse.field-0 in
    let derived = subst (λ (j : Job). Derives j.limits j.marks j.source read) c.with_limits-parser.ensures c.in_ok-parse.ensures.sound in
    shown_again (limits_of c.args.limits) _ _ (expression_view c.args.expression.now) c.default-delimiters.ensures.0 (in_its_tag at printed.writable)
    read c.expression_alone.result derived c.expression_alone.ensures.alone printed

pub returns-in_err-text-clause-again : goal.returns-in_err-text-clause-again
returns-in_err-text-clause-again c = λ printed.
    let p = err_from_is_err_and c.from_residual.result c.from_residual.ensures.1 in
    rw (p.1, p.2) (c.in_err-text.ensures.memory (bodiless (expression_view c.args.expression.now) printed.writable))

pub returns-in_err-parse-clause-again : goal.returns-in_err-parse-clause-again
returns-in_err-parse-clause-again c = λ printed.
    let at = (goal.at.returns-in_err-parse-clause-again c).After-as_str-2 in
    let p = err_from_is_err_and c.from_residual-in_err-parse.result c.from_residual-in_err-parse.ensures.1 in
    let complete =
    subst (λ (j : Job). (o : Output) → Derives j.limits j.marks j.source o → IsMemory c.in_err-parse.field-0.0) c.with_limits-parser.ensures
    c.in_err-parse.ensures.complete
    in
    rw (p.1, p.2) (memory_again (limits_of c.args.limits) _ _ (expression_view c.args.expression.now) c.default-delimiters.ensures.0
    (in_its_tag at printed.writable) c.in_err-parse.field-0.0 complete printed)
