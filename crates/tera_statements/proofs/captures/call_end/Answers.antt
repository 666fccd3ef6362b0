use Rattle.std.proofs.Common.{◌≡◌, ◌∙◌, sym, inr, inl}
use Rattle.std.specs.Str.{bytes_eq}
use Rattle.std.proofs.lemmas.Result.{err_from_is_err_and}
use Rattle.tera_grammar.specs.statements.Expressions.{component_text}
use Rattle.tera_grammar.specs.statements.TagParts.{AtEndCall}
use Rattle.tera_grammar.specs.statements.Reading.TagParts.{tag}
use Rattle.tera_statements.proofs.CapturesLemmas.{call_not_closed, end_unnamed, end_renamed, end_without, end_unfinished, end_given}
use Rattle.tera_expect.proofs.Steps.{failed_as, fails_by}
use Rattle.tera_tags.proofs.Tags.{unclosed_at_end}
use Rattle.tera_statements.proofs.captures.call_end.Goals as goal

pub returns-then-at_end-clause-gives : goal.returns-then-at_end-clause-gives
returns-then-at_end-clause-gives c = λ n named. inr (inl (call_not_closed n _ _ (unclosed_at_end AtEndCall c.args.cursor.now.left (sym c.at_end.ensures ∙ c.if-at_end.true))))

pub returns-in_err-closed-clause-gives : goal.returns-in_err-closed-clause-gives
returns-in_err-closed-clause-gives c = λ n named.
    let p = err_from_is_err_and c.from_residual.result c.from_residual.ensures.1 in
    rw (p.1, p.2) (failed_as _ _ _ _ (λ z h. call_not_closed n _ z h) c.in_err-closed.ensures.gives)

pub returns-in_err-end-clause-gives : goal.returns-in_err-end-clause-gives
returns-in_err-end-clause-gives c = λ n named.
    let p = err_from_is_err_and c.from_residual-in_err-end.result c.from_residual-in_err-end.ensures.1 in
    let (x, there) = c.in_ok-closed.ensures.gives in
    rw (p.1, p.2) (failed_as _ _ _ _ (λ z h. end_unnamed n _ x _ there z h) c.in_err-end.ensures.gives)

pub returns-in_err-check_call_name-clause-gives : goal.returns-in_err-check_call_name-clause-gives
returns-in_err-check_call_name-clause-gives c = λ n named.
    let p = err_from_is_err_and c.from_residual-in_err-check_call_name.result c.from_residual-in_err-check_call_name.ensures.1 in
    let (x, there) = c.in_ok-closed.ensures.gives in
    let (m, read, is) = c.in_ok-end.ensures.gives in
    let texts : bytes_eq c.as_str.result.now c.args.name.now ≡ bytes_eq (component_text m) (component_text n) = λ i. bytes_eq ((c.as_str.ensures.value ∙ is) i) (sym named i) in
    rw (p.1, p.2) (fails_by _ _ _ (λ h. inl (end_renamed n _ x _ there m _ read (sym texts ∙ h))) c.in_err-check_call_name.ensures.fails)

pub returns-in_err-expect-clause-gives : goal.returns-in_err-expect-clause-gives
returns-in_err-expect-clause-gives c = λ n named.
    let p = err_from_is_err_and c.from_residual-in_err-expect.result c.from_residual-in_err-expect.ensures.1 in
    let (x, there) = c.in_ok-closed.ensures.gives in
    let (m, read, is) = c.in_ok-end.ensures.gives in
    let texts : bytes_eq c.as_str.result.now c.args.name.now ≡ bytes_eq (component_text m) (component_text n) = λ i. bytes_eq ((c.as_str.ensures.value ∙ is) i) (sym named i) in
    rw (p.1, p.2) (failed_as _ _ _ _ (λ z h. end_without n _ x _ there m _ read (sym texts ∙ c.in_ok-check_call_name.ensures.same) z h) c.in_err-expect.ensures.gives)

pub returns-in_err-finish-clause-gives : goal.returns-in_err-finish-clause-gives
returns-in_err-finish-clause-gives c = λ n named.
    let p = err_from_is_err_and c.from_residual-in_err-finish.result c.from_residual-in_err-finish.ensures.1 in
    let (x, there) = c.in_ok-closed.ensures.gives in
    let (m, read, is) = c.in_ok-end.ensures.gives in
    let texts : bytes_eq c.as_str.result.now c.args.name.now ≡ bytes_eq (component_text m) (component_text n) = λ i. bytes_eq ((c.as_str.ensures.value ∙ is) i) (sym named i) in
    rw (p.1, p.2) (failed_as _ _ _ _ (λ z h. end_unfinished n _ x _ there m _ read (sym texts ∙ c.in_ok-check_call_name.ensures.same) _ _ c.in_ok-expect.ensures.gives z h) c.in_err-finish.ensures.gives)

pub returns-clause-gives : goal.returns-clause-gives
returns-clause-gives c = λ n named.
    let (x, there) = c.in_ok-closed.ensures.gives in
    let (m, read, is) = c.in_ok-end.ensures.gives in
    let (f, ended) = c.in_ok-finish.ensures.gives in
    let texts : bytes_eq c.as_str.result.now c.args.name.now ≡ bytes_eq (component_text m) (component_text n) = λ i. bytes_eq ((c.as_str.ensures.value ∙ is) i) (sym named i) in (
      (tag x.0 x.1 f, m, c.expect.new.cursor.span),
      end_given n _ x _ there m _ read (sym texts ∙ c.in_ok-check_call_name.ensures.same) _ _ c.in_ok-expect.ensures.gives f _ ended,
      c.copied-last.ensures ∙ c.current_span.ensures.span,
    )
