use Rattle.std.proofs.Common.{◌≡◌, ◌∙◌, ◌||◌, false, refl, sym, ap}
use Rattle.std.specs.Option.{is_some}
use Rattle.tera_ast.specs.View.{nodes_view}
use Rattle.tera_check.specs.Named.{known_in, taken_in}
use Rattle.tera_check.specs.Parameters.{named_in_nodes}
use Rattle.tera_rules.specs.Repeated.{span_under}
use Rattle.tera_check.specs.Scopes.{is_hidden, is_named, is_to_come, named_in_scope}
use Rattle.tera_check.proofs.ParametersLemmas.{scope_more}
use Rattle.tera_check.proofs.parameters.naming_of.Goals as goal

pub loop-part-init : goal.loop-part-init
loop-part-init c = λ n.
    let takes = taken_in (known_in c.args.catalogue.now) in
    let body = nodes_view c.args.body.now.items in
    let none : (is_some (span_under c.new.result n) || is_some (span_under c.new-2.result n)) ≡ false = rw (c.new.ensures.empty, c.new-2.ensures.empty) refl in
    let scope = c.in_ok-scope_of.ensures takes n ∙ ap (λ hidden. named_in_nodes takes (is_hidden hidden n) n body) c.new-3.ensures.items in
    let scopes =
    scope_more takes n c.new-scopes.result.items c.push.new.self.items c.in_ok-scope_of.field-0 (named_in_nodes takes false n body) c.in_ok-push.ensures.items scope
    ∙ ap (λ ss. is_to_come takes n ss || named_in_nodes takes false n body) c.new-scopes.ensures.items in
    λ i. none i || scopes i

pub loop-part-preserved : goal.loop-part-preserved
loop-part-preserved c = λ n.
    let takes = taken_in (known_in c.args.catalogue.now) in
    let scope = c.in-Some.scope in
    c.in_ok-take_last-in-Some.ensures n
    ∙ ap (λ b. is_named c.loop-part.naming n || b) (sym (scope_more takes n c.pop.new.self.items c.loop-part.scopes.items scope (named_in_scope takes n scope) c.in-Some.ensures.items refl))
    ∙ c.loop-part.invariant n
