use Rattle.std.proofs.Common.{◌≡◌, Err, List, inl, inr, subst, ap, ◌∙◌, rules}
use Rattle.tera_base.specs.Contexts.{context_view, put_all}
use Rattle.tera_tree.proofs.Coming.{came}
use Rattle.tera_tree.specs.Calls.{Pair, arguments_view, texts, body_pairs, unknown, IsAmong}
use Rattle.tera_tree.proofs.CallNames.{among_filter}
use Rattle.tera_tree.proofs.CallSteps.{rest_stops, arguments_stop, built}
use Rattle.tera_tree.proofs.ast.ComponentDefinition.build_context.Goals as goal

pub returns-in_err-rest : goal.returns-in_err-rest
returns-in_err-rest g c =
    let same : c.from_residual-in_err-rest.result ≡ Err c.in_err-rest.field-0.0 = search rules in
    let u = c.in_ok-unknown.ensures in
    rw same (rest_stops _ _ _ c.args.self.now c.args.body u.0 c.deref.result.now u.1 (ap texts c.deref.ensures.value ∙ u.2) _ c.in_err-rest.ensures)

pub returns-in_err-context : goal.returns-in_err-context
returns-in_err-context g c =
    let same : c.from_residual-in_err-context.result ≡ Err c.in_err-context.field-0.0 = search rules in
    let u = c.in_ok-unknown.ensures in
    rw same (arguments_stop _ _ _ c.args.self.now c.args.body u.0 c.deref.result.now u.1 (ap texts c.deref.ensures.value ∙ u.2) _ c.in_ok-rest.rest (came _ _ _ c.in_ok-rest.ensures) c.in_err-context.ensures)

pub returns : goal.returns
returns g c =
    let u = c.in_ok-unknown.ensures in
    built _ _ _ c.args.self.now c.args.body u.0 c.deref.result.now u.1 (ap texts c.deref.ensures.value ∙ u.2) c.in_ok-rest.rest c.in_ok-context.context _ (came _ _ _ c.in_ok-rest.ensures) (came _ _ _ c.in_ok-context.ensures)
    (c.in_ok-put_value-2.ensures ∙ ap (λ (ps : List Pair). put_all ps (context_view c.put_value.new.context)) c.named_body.ensures ∙ ap (put_all (body_pairs c.args.body)) c.in_ok-put_value.ensures)

pub rest_value-requires : goal.rest_value-requires
rest_value-requires g c = λ n h.
    let u = c.in_ok-unknown.ensures in
    let asked : IsAmong (unknown (arguments_view c.args.self.now.kwargs.entries) (texts u.0)) n.now = subst (λ ns. IsAmong ns n.now) (ap texts c.deref.ensures.value ∙ u.2) h in
    c.requires.value n (inr (u.0, u.1, among_filter _ (texts u.0) n.now asked))

pub argument_values-requires-clause-value : goal.argument_values-requires-clause-value
argument_values-requires-clause-value g c = λ n h. c.requires.value n (inl h)
