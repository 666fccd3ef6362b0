-- Of loops.
use Rattle.std.proofs.Common.{◌∙◌, ap, ◌∷◌, inl, map, sym}
use Rattle.std.proofs.lemmas.Result.{err_from_is_err_and}
use Rattle.tera_ast.specs.Tree as tree
use Rattle.tera_ast.specs.View.{nodes_of, node_view}
use Rattle.tera_grammar.specs.statements.Grammar.{For, NoElse}
use Rattle.tera_grammar.specs.statements.Output.{AddsNode}
use Rattle.tera_grammar.specs.statements.Reading.TagParts.{tag}
use Rattle.tera_statements.specs.Adding.{seen_of, here}
use Rattle.tera_statements.proofs.ConditionsLemmas.{loop_unended, loop_empty, no_else, loop_unclosed, loop_given, without_else, else_unfinished, otherwise_given}
use Rattle.tera_expect.proofs.Steps.{failed_as}
use Rattle.tera_statements.specs.Around.{context_of}
use Rattle.tera_expr_parts.specs.Allowed.{limits_of}
use Rattle.tera_grammar.specs.statements.Reading.{body}
use Rattle.tera_tags.specs.declared.fronts.Closer.TheVariants as closers
use Rattle.tera_expect.proofs.TakingLemmas.{goes_all_ok, took_all}
use Rattle.tera_tags.proofs.Tags.{closed_memory, unclosed}
use Rattle.tera_statements.proofs.+bodies.Goals as goal

pub loops::for_loop-returns-in_err-head-clause-gives : goal.loops::for_loop-returns-in_err-head-clause-gives
loops::for_loop-returns-in_err-head-clause-gives t c = λ path represents start.
    let p = err_from_is_err_and c.from_residual.result c.from_residual.ensures.1 in
    rw (p.1, p.2) (failed_as _ _ _ _ (λ z h. loop_unended _ _ path start _ _ _ z h) c.in_err-head.ensures.gives)

pub loops::for_loop-returns-in_err-inside-clause-gives : goal.loops::for_loop-returns-in_err-inside-clause-gives
loops::for_loop-returns-in_err-inside-clause-gives t c = λ path represents start.
    let p = err_from_is_err_and c.from_residual-in_err-inside.result c.from_residual-in_err-inside.ensures.1 in
    let (x, head, is) = c.in_ok-head.ensures.gives in
    rw (p.1, p.2) (failed_as _ _ _ _ (λ z h. loop_empty _ _ path start _ (seen_of c.args.names.now) _ x _ head z h) (c.in_err-inside.ensures.gives path represents))

pub loops::for_loop-returns-in_err-otherwise-clause-gives : goal.loops::for_loop-returns-in_err-otherwise-clause-gives
loops::for_loop-returns-in_err-otherwise-clause-gives t c = λ path represents start.
    let p = err_from_is_err_and c.from_residual-in_err-otherwise.result c.from_residual-in_err-otherwise.ensures.1 in
    let (x, head, is) = c.in_ok-head.ensures.gives in
    let (b, inside, shows) = c.in_ok-inside.ensures.gives path represents in
    rw (p.1, p.2) (failed_as _ _ _ _ (λ z h. no_else _ _ path start _ (seen_of c.args.names.now) _ x _ head b _ inside z h) (c.in_err-otherwise.ensures.gives path represents))

pub loops::for_loop-returns-in_err-closed_tag-clause-gives : goal.loops::for_loop-returns-in_err-closed_tag-clause-gives
loops::for_loop-returns-in_err-closed_tag-clause-gives t c = λ path represents start.
    let p = err_from_is_err_and c.from_residual-in_err-closed_tag.result c.from_residual-in_err-closed_tag.ensures.1 in
    let (x, head, is) = c.in_ok-head.ensures.gives in
    let (b, inside, shows) = c.in_ok-inside.ensures.gives path represents in
    let (o, other, otherwise) = c.in_ok-otherwise.ensures.gives path represents in
    rw (p.1, p.2) (failed_as _ _ _ _ (λ z h. loop_unclosed _ _ path start _ (seen_of c.args.names.now) _ x _ head b _ inside o _ other z h) c.in_err-closed_tag.ensures.gives)

pub loops::for_loop-returns-clause-gives : goal.loops::for_loop-returns-clause-gives
loops::for_loop-returns-clause-gives t c = λ path represents start.
    let (x, head, is) = c.in_ok-head.ensures.gives in
    let (b, inside, shows) = c.in_ok-inside.ensures.gives path represents in
    let (o, other, otherwise) = c.in_ok-otherwise.ensures.gives path represents in
    let (e, closed) = c.in_ok-closed_tag.ensures.gives in (
      For (tag start c.args.cursor.now.span x.1) x.0 b o e,
      loop_given _ _ path start c.args.cursor.now.span (seen_of c.args.names.now) _ x _ head b _ inside o _ other e _ closed,
      ap AddsNode (c.for_loop.ensures ∙ (λ i. tree.ForLoop (is.0.0 i) (is.0.1 i) (is.1 i) (nodes_of (shows i)) (nodes_of (otherwise i)))),
    )

pub loops::else_body-returns-then-not-closes-clause-gives : goal.loops::else_body-returns-then-not-closes-clause-gives
loops::else_body-returns-then-not-closes-clause-gives t c = λ path represents.
    let none = unclosed closers.Else c.args.cursor.now.left (sym c.closes.ensures ∙ c.if-not-closes.true) in
    (NoElse, without_else _ _ (seen_of c.args.names.now) c.args.cursor.now.left _ none, ap (map node_view) c.new.ensures.items)

pub loops::else_body-returns-in_err-take_closer-clause-gives : goal.loops::else_body-returns-in_err-take_closer-clause-gives
loops::else_body-returns-in_err-take_closer-clause-gives t c = λ path represents.
    let p = err_from_is_err_and c.from_residual.result c.from_residual.ensures.1 in
    rw (p.1, p.2) (inl (closed_memory closers.Else c.args.cursor.now.left _ _ (sym c.closes.ensures ∙ c.if-not-closes.false) c.in_err-take_closer.ensures.gives))

pub loops::else_body-returns-in_err-finish-clause-gives : goal.loops::else_body-returns-in_err-finish-clause-gives
loops::else_body-returns-in_err-finish-clause-gives t c = λ path represents.
    let p = err_from_is_err_and c.from_residual-in_err-finish.result c.from_residual-in_err-finish.ensures.1 in
    let (x, there) = c.in_ok-take_closer.ensures.gives in
    rw (p.1, p.2) (failed_as _ _ _ _ (λ z h. else_unfinished _ _ (seen_of c.args.names.now) c.args.cursor.now.left x _ there z h) c.in_err-finish.ensures.gives)

pub loops::else_body-returns-clause-gives : goal.loops::else_body-returns-clause-gives
loops::else_body-returns-clause-gives t c = λ path represents.
    let (x, there) = c.in_ok-take_closer.ensures.gives in
    let (f, ended) = c.in_ok-finish.ensures.gives in
    let l = limits_of c.args.setting.now.limits in
    otherwise_given (body c.args.depth l) (context_of c.args.opening.now.context ∷ path) (seen_of c.args.names.now) c.args.cursor.now.left x c.take_closer.new.cursor.left there f c.finish.new.cursor.left ended
    c.body.result (here c.body.new.names c.body.new.cursor) (c.body.ensures.gives path represents)

pub loops::else_body-returns-clause-later : goal.loops::else_body-returns-clause-later
loops::else_body-returns-clause-later t c =
    goes_all_ok c.body.result c.args.cursor.now c.finish.new.cursor c.body.new.cursor (took_all _ _ _ c.in_ok-take_closer.ensures.later c.in_ok-finish.ensures.later) c.body.ensures.later
