-- Of statements that take their body as a value.
use Rattle.std.proofs.Common.{◌∙◌, refl, sym, ap, inl, inr, false}
use Rattle.std.proofs.lemmas.Result.{err_from_is_err_and}
use Rattle.tera_statements.specs.Adding.{seen_of}
use Rattle.tera_expect.specs.Taking.{name_at}
use Rattle.tera_statements.proofs.CapturesLemmas.{set_unnamed, set_named, set_without, set_unended, set_empty, set_unclosed, set_given, section_unended, section_empty, section_unclosed, section_given, uncalled, call_unended, call_empty, call_unclosed, call_given}
use Rattle.tera_expect.proofs.Steps.{failed_as}
use Rattle.tera_ast.specs.Tree as tree
use Rattle.tera_ast.specs.View.{filters_of, nodes_of}
use Rattle.tera_grammar.specs.statements.Grammar.{Capturing}
use Rattle.tera_grammar.specs.statements.Heads.{SetBody, Section, CallBody}
use Rattle.tera_grammar.specs.statements.Output.{AddsNode}
use Rattle.tera_grammar.specs.statements.Reading.TagParts.{tag}
use Rattle.tera_grammar.specs.expressions.Spans.{spanning}
use Rattle.tera_statements.proofs.+bodies.Goals as goal

pub captures::set-returns-in_err-name-clause-gives : goal.captures::set-returns-in_err-name-clause-gives
captures::set-returns-in_err-name-clause-gives t c = λ path represents start.
    let p = err_from_is_err_and c.from_residual.result c.from_residual.ensures.1 in
    rw (p.1, p.2) (failed_as _ _ _ _ (λ z h. set_unnamed _ _ path _ start _ _ _ z h) c.in_err-name.ensures.gives)

pub captures::set-returns-then-eat-clause-gives : goal.captures::set-returns-then-eat-clause-gives
captures::set-returns-then-eat-clause-gives t c = λ path represents start.
    let sign = rw c.if-eat.true at c.eat.ensures in
    let n = name_at c.free_name.new.cursor.span c.in_ok-name.name in
    rw (set_named _ _ path _ start c.args.cursor.now.span (seen_of c.args.names.now) _ _ n _ c.in_ok-name.ensures.gives sign.0)
    (c.set_value.ensures.gives path represents _ start c.args.cursor.now.span (seen_of c.args.names.now) n c.free_name.new.cursor.left refl)

pub captures::set-returns-clause-gives : goal.captures::set-returns-clause-gives
captures::set-returns-clause-gives t c = λ path represents start.
    let none = rw c.if-eat.false at c.eat.ensures in
    let n = name_at c.free_name.new.cursor.span c.in_ok-name.name in
    rw (set_named _ _ path _ start c.args.cursor.now.span (seen_of c.args.names.now) _ _ n _ c.in_ok-name.ensures.gives none.0)
    (rw none.1 at (c.set_body.ensures.gives path represents refl start c.args.cursor.now.span n refl))

pub captures::set_body-returns-in_err-check_set-clause-gives : goal.captures::set_body-returns-in_err-check_set-clause-gives
captures::set_body-returns-in_err-check_set-clause-gives t c = λ path represents is start first n named.
    let p = err_from_is_err_and c.from_residual.result c.from_residual.ensures.1 in
    rw (p.1, p.2) (inr (inl (set_without _ _ path _ start first _ n _ c.in_err-check_set.ensures.fails)))

pub captures::set_body-returns-in_err-filters-clause-gives : goal.captures::set_body-returns-in_err-filters-clause-gives
captures::set_body-returns-in_err-filters-clause-gives t c = λ path represents is start first n named.
    let p = err_from_is_err_and c.from_residual-in_err-filters.result c.from_residual-in_err-filters.ensures.1 in
    let fact = rw represents.loop at c.in_err-filters.ensures.gives in
    rw (p.1, p.2) (failed_as _ _ _ _ (λ z h. set_unended _ _ path _ start first _ n _ z h) fact)

pub captures::set_body-returns-in_err-inside-clause-gives : goal.captures::set_body-returns-in_err-inside-clause-gives
captures::set_body-returns-in_err-inside-clause-gives t c = λ path represents is start first n named.
    let p = err_from_is_err_and c.from_residual-in_err-inside.result c.from_residual-in_err-inside.ensures.1 in
    let (x, read, are) = rw represents.loop at c.in_ok-filters.ensures.gives in
    let fact = rw is at (c.in_err-inside.ensures.gives path represents) in
    rw (p.1, p.2) (failed_as _ _ _ _ (λ z h. set_empty _ _ path _ start first (seen_of c.args.names.now) n _ x _ read z h) fact)

pub captures::set_body-returns-in_err-closed_tag-clause-gives : goal.captures::set_body-returns-in_err-closed_tag-clause-gives
captures::set_body-returns-in_err-closed_tag-clause-gives t c = λ path represents is start first n named.
    let p = err_from_is_err_and c.from_residual-in_err-closed_tag.result c.from_residual-in_err-closed_tag.ensures.1 in
    let (x, read, are) = rw represents.loop at c.in_ok-filters.ensures.gives in
    let (b, inside, shows) = rw is at (c.in_ok-inside.ensures.gives path represents) in
    rw (p.1, p.2) (failed_as _ _ _ _ (λ z h. set_unclosed _ _ path _ start first (seen_of c.args.names.now) n _ x _ read b _ inside z h) c.in_err-closed_tag.ensures.gives)

pub captures::set_body-returns-clause-gives : goal.captures::set_body-returns-clause-gives
captures::set_body-returns-clause-gives t c = λ path represents is start first n named.
    let (x, read, are) = rw represents.loop at c.in_ok-filters.ensures.gives in
    let (b, inside, shows) = rw is at (c.in_ok-inside.ensures.gives path represents) in
    let (e, closed) = c.in_ok-closed_tag.ensures.gives in
    let text = c.in_ok-name.ensures.ok ∙ sym named in
    let none = rw c.new.ensures.items at are in (
      Capturing (SetBody c.args.variable.global (tag start first x.1) n x.0 e) b,
      set_given _ _ path _ start first (seen_of c.args.names.now) n _ x _ read b _ inside e _ closed,
      ap AddsNode (c.block_set.ensures ∙ (λ i. tree.BlockSet (text i) (filters_of (none i)) (nodes_of (shows i)) c.args.variable.global)),
    )

pub captures::section-returns-in_err-filters-clause-gives : goal.captures::section-returns-in_err-filters-clause-gives
captures::section-returns-in_err-filters-clause-gives t c = λ path represents start.
    let p = err_from_is_err_and c.from_residual.result c.from_residual.ensures.1 in
    let fact = rw represents.loop at c.in_err-filters.ensures.gives in
    rw (p.1, p.2) (failed_as _ _ _ _ (λ z h. section_unended _ _ path start _ _ _ z h) fact)

pub captures::section-returns-in_err-inside-clause-gives : goal.captures::section-returns-in_err-inside-clause-gives
captures::section-returns-in_err-inside-clause-gives t c = λ path represents start.
    let p = err_from_is_err_and c.from_residual-in_err-inside.result c.from_residual-in_err-inside.ensures.1 in
    let (x, read, are) = rw represents.loop at c.in_ok-filters.ensures.gives in
    rw (p.1, p.2) (failed_as _ _ _ _ (λ z h. section_empty _ _ path start _ (seen_of c.args.names.now) _ x _ read z h) (c.in_err-inside.ensures.gives path represents))

pub captures::section-returns-in_err-closed_tag-clause-gives : goal.captures::section-returns-in_err-closed_tag-clause-gives
captures::section-returns-in_err-closed_tag-clause-gives t c = λ path represents start.
    let p = err_from_is_err_and c.from_residual-in_err-closed_tag.result c.from_residual-in_err-closed_tag.ensures.1 in
    let (x, read, are) = rw represents.loop at c.in_ok-filters.ensures.gives in
    let (b, inside, shows) = c.in_ok-inside.ensures.gives path represents in
    rw (p.1, p.2) (failed_as _ _ _ _ (λ z h. section_unclosed _ _ path start _ (seen_of c.args.names.now) _ x _ read b _ inside z h) c.in_err-closed_tag.ensures.gives)

pub captures::section-returns-clause-gives : goal.captures::section-returns-clause-gives
captures::section-returns-clause-gives t c = λ path represents start.
    let (x, read, are) = rw represents.loop at c.in_ok-filters.ensures.gives in
    let (b, inside, shows) = c.in_ok-inside.ensures.gives path represents in
    let (e, closed) = c.in_ok-closed_tag.ensures.gives in (
      Capturing (Section (tag start c.args.cursor.now.span x.2) x.0 x.1 e) b,
      section_given _ _ path start c.args.cursor.now.span (seen_of c.args.names.now) _ x _ read b _ inside e _ closed,
      ap AddsNode (c.filter_section.ensures ∙ (λ i. tree.FilterSection (filters_of (are i)) (nodes_of (shows i)))),
    )

pub captures::call-returns-in_err-name-clause-gives : goal.captures::call-returns-in_err-name-clause-gives
captures::call-returns-in_err-name-clause-gives t c = λ path represents start.
    let p = err_from_is_err_and c.from_residual.result c.from_residual.ensures.1 in
    rw (p.1, p.2) (failed_as _ _ _ _ (λ z h. uncalled _ _ path start _ _ _ z h) c.in_err-name.ensures.gives)

pub captures::call-returns-in_err-attributes-clause-gives : goal.captures::call-returns-in_err-attributes-clause-gives
captures::call-returns-in_err-attributes-clause-gives t c = λ path represents start.
    let p = err_from_is_err_and c.from_residual-in_err-attributes.result c.from_residual-in_err-attributes.ensures.1 in
    let (n, called, is) = c.in_ok-name.ensures.gives in
    let fact = rw represents.loop at c.in_err-attributes.ensures.gives in
    rw (p.1, p.2) (failed_as _ _ _ _ (λ z h. call_unended _ _ path start _ _ _ n _ called z h) fact)

pub captures::call-returns-in_err-inside-clause-gives : goal.captures::call-returns-in_err-inside-clause-gives
captures::call-returns-in_err-inside-clause-gives t c = λ path represents start.
    let p = err_from_is_err_and c.from_residual-in_err-inside.result c.from_residual-in_err-inside.ensures.1 in
    let (n, called, is) = c.in_ok-name.ensures.gives in
    let (x, given, are) = rw represents.loop at c.in_ok-attributes.ensures.gives in
    rw (p.1, p.2) (failed_as _ _ _ _ (λ z h. call_empty _ _ path start _ (seen_of c.args.names.now) _ n _ called x _ given z h) (c.in_err-inside.ensures.gives path represents))

pub captures::call-returns-in_err-last-clause-gives : goal.captures::call-returns-in_err-last-clause-gives
captures::call-returns-in_err-last-clause-gives t c = λ path represents start.
    let p = err_from_is_err_and c.from_residual-in_err-last.result c.from_residual-in_err-last.ensures.1 in
    let (n, called, is) = c.in_ok-name.ensures.gives in
    let (x, given, are) = rw represents.loop at c.in_ok-attributes.ensures.gives in
    let (b, inside, shows) = c.in_ok-inside.ensures.gives path represents in
    rw (p.1, p.2) (failed_as _ _ _ _ (λ z h. call_unclosed _ _ path start _ (seen_of c.args.names.now) _ n _ called x _ given b _ inside z h)
    (c.in_err-last.ensures.gives n (sym is ∙ sym c.as_str.ensures.value)))

pub captures::call-returns-clause-gives : goal.captures::call-returns-clause-gives
captures::call-returns-clause-gives t c = λ path represents start.
    let (n, called, is) = c.in_ok-name.ensures.gives in
    let (x, given, are) = rw represents.loop at c.in_ok-attributes.ensures.gives in
    let (b, inside, shows) = c.in_ok-inside.ensures.gives path represents in
    let (e, closed, ends) = c.in_ok-last.ensures.gives n (sym is ∙ sym c.as_str.ensures.value) in
    let span = c.spanning-span.ensures ∙ (λ i. spanning ((c.copied.ensures ∙ c.current_span.ensures.span) i) (ends i)) in (
      Capturing (CallBody (tag start c.args.cursor.now.span x.2) n x.0 x.1 e.0 e.1 e.2) b,
      call_given _ _ path start c.args.cursor.now.span (seen_of c.args.names.now) _ n _ called x _ given b _ inside e _ closed,
      ap AddsNode (c.shown_node.ensures ∙ ap tree.Shown (c.in_ok-call.ensures ∙ (λ i. tree.ComponentCall (is i) (are i) (nodes_of (shows i)) false (span i)))),
    )
