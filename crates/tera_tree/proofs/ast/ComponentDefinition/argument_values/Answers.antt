use Rattle.std.proofs.Common.{◌≡◌, [], ◌∷◌, ◌++◌, Err, string_bytes, refl, ap, ◌∙◌, rules}
use Rattle.std.specs.Fn.{FnReturnsAt}
use Rattle.tera_tree.specs.Outcomes.{Gives}
use Rattle.tera_base.specs.ValueView.{value_view}
use Rattle.tera_tree.proofs.Coming.{came, gave, turn_stopped, zip_more}
use Rattle.tera_tree.specs.Calls.{Pair, arguments_view, ArgumentComesTo}
use Rattle.tera_tree.proofs.CallNames.{Entry, split_arguments, done_more, arguments_more, all_done, put_all_more, among_arguments}
use Rattle.tera_tree.proofs.ast.ComponentDefinition.argument_values.Goals as goal

pub returns-in_err-value : goal.returns-in_err-value
returns-in_err-value g c =
    let l = c.loop-name in
    let e : Entry = (c.in-Some.name.now, c.in-Some.argument.now) in
    let same : c.from_residual.result ≡ Err c.in_err-value.field-0.0 = search rules in
    rw same (turn_stopped _ (ArgumentComesTo (FnReturnsAt g.G.Fn c.args.get_value.now) (FnReturnsAt g.H.Fn c.args.get_implicit_value.now)) _ _ _ _ _ _ l.invariant.1 _ (split_arguments _ l.invariant.0 c.next.new.self l.name-iterator e l.invariant.2 c.in-Some.ensures.steps) l.invariant.3 (rw c.as_str.ensures.value at c.in_err-value.ensures))

pub loop-name-preserved : goal.loop-name-preserved
loop-name-preserved g c =
    let l = c.loop-name in
    let e : Entry = (c.in-Some.name.now, c.in-Some.argument.now) in
    let p : Pair = (string_bytes c.in-Some.name.now, value_view c.in_ok-value.value) in (
      l.invariant.0 ++ e ∷ [],
      l.invariant.1 ++ p ∷ [],
      done_more _ l.invariant.0 c.next.new.self l.name-iterator e l.invariant.2 c.in-Some.ensures.steps,
      rw (arguments_more l.invariant.0 e) (zip_more _ _ _ _ _ l.invariant.3 (rw c.as_str.ensures.value at (came _ _ _ c.in_ok-value.ensures))),
      c.in_ok-insert_value.ensures.pairs ∙ rw (c.as_str-in-loop-name.ensures.value, l.invariant.4, put_all_more l.invariant.1 p []) refl,
    )

pub returns : goal.returns
returns g c =
    let l = c.loop-name in
    let all : arguments_view l.invariant.0 ≡ arguments_view c.args.self.now.kwargs.entries = all_done _ l.invariant.0 l.name-iterator l.invariant.2 c.in-None.ensures.steps.0 in
    gave _ _ _ (Gives l.invariant.1, rw all at l.invariant.3, ap Gives l.invariant.4)

pub value-requires-clause-value : goal.value-requires-clause-value
value-requires-clause-value g c = λ n e.
    let l = c.loop-name in
    let entry : Entry = (c.in-Some.name.now, c.in-Some.argument.now) in
    c.requires.value n (rw (e, c.as_str.ensures.value) (among_arguments _ l.invariant.0 c.next.new.self l.name-iterator entry l.invariant.2 c.in-Some.ensures.steps))

pub value-requires-clause-implicit : goal.value-requires-clause-implicit
value-requires-clause-implicit g c = λ n e.
    let l = c.loop-name in
    let entry : Entry = (c.in-Some.name.now, c.in-Some.argument.now) in
    c.requires.implicit n (rw (e, c.as_str.ensures.value) (among_arguments _ l.invariant.0 c.next.new.self l.name-iterator entry l.invariant.2 c.in-Some.ensures.steps))
