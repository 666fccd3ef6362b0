use Rattle.std.proofs.Common.{◌≡◌, ℕ, List, [], ◌∷◌, ◌++◌, map, refl, sym, ap, ◌∙◌}
use Rattle.std.proofs.lemmas.List.{map-append}
use Rattle.tera_tree.specs.Calls.{arguments_view, argument_names}
use Rattle.tera_tree.specs.Definitions.{named_argument}
use Rattle.tera_tree.specs.Infos.{argument_info, arg_view}
use Rattle.tera_tree.specs.Tree.{Argument}
use Rattle.tera_tree.proofs.CallNames.{Entry, done_more, arguments_more, arguments_ordered, all_done}
use Rattle.tera_tree.proofs.infos.argument_infos_of.Goals as goal

-- what is reported has the names of the arguments
reported_names : (rows : List (List ℕ × Argument)) → map (λ a. a.name) (map argument_info rows) ≡ argument_names rows
reported_names [] = refl
reported_names (a ∷ rows) = ap (λ ns. a.0 ∷ ns) (reported_names rows)

pub loop-name-preserved : goal.loop-name-preserved
loop-name-preserved c =
    let l = c.loop-name in
    let done = l.invariant.0 in
    let e : Entry = (c.in-Some.name.now, c.in-Some.argument.now) in (
      done ++ e ∷ [],
      done_more _ done c.next.new.self l.name-iterator e l.invariant.1 c.in-Some.ensures.steps,
      ap (λ ts. map arg_view ts) c.in_ok-push.ensures.items
          ∙ map-append arg_view l.described.items (c.in_ok-described.field-0 ∷ [])
          ∙ rw (l.invariant.2, c.in_ok-described.ensures, c.as_str.ensures.value) (sym (ap (λ es. map argument_info es) (arguments_more done e) ∙ map-append argument_info (arguments_view done) (named_argument e ∷ []))),
    )

pub returns-clause-described : goal.returns-clause-described
returns-clause-described c = c.loop-name.invariant.2 ∙ ap (λ es. map argument_info es) (all_done _ c.loop-name.invariant.0 c.loop-name.name-iterator c.loop-name.invariant.1 c.in-None.ensures.steps.0)

pub returns-clause-ordered : goal.returns-clause-ordered
returns-clause-ordered c =
    rw (returns-clause-described c, reported_names (arguments_view c.args.arguments.now.entries)) (arguments_ordered c.args.arguments.now.entries c.into_iter-name-iterator.ensures.into_iter_gives.5)
