-- Of conditions.
use Rattle.std.proofs.Common.{◌≡◌, ◌∙◌, ap, ◌∷◌, rules, [], ◌++◌, map, inl, refl, sym}
use Rattle.std.proofs.lemmas.Result.{err_from_is_err_and}
use Rattle.tera_ast.specs.Tree as tree
use Rattle.tera_ast.specs.View.{nodes_of}
use Rattle.tera_grammar.specs.statements.Grammar.{If, InIf, in_loop}
use Rattle.tera_grammar.specs.statements.Output.{AddsNode}
use Rattle.tera_grammar.specs.statements.Reading.TagParts.{tag}
use Rattle.tera_statements.specs.Adding.{seen_of, here}
use Rattle.tera_statements.proofs.ConditionsLemmas.{no_first, no_branches, if_unclosed, if_given, no_condition, condition_empty, condition_given, elif_branch, ends_by, no_elif_branch, no_elif_there}
use Rattle.tera_expect.proofs.Steps.{failed_as}
use Rattle.tera_expr_parts.specs.Allowed.{limits_of}
use Rattle.std.proofs.lemmas.List.{map-append}
use Rattle.tera_grammar.specs.statements.Reading.Loops.{nest}
use Rattle.tera_grammar.proofs.statements.Loops.{branching_starts, branching_on, branching_ends, branching_refused, branching_end_refused}
use Rattle.tera_statements.specs.Conditions.{branch_view}
use Rattle.tera_expect.proofs.TakingLemmas.{stays, goes_further, took_goes, took_all, took_size}
use Rattle.tera_tags.proofs.Tags.{closed_memory}
use Rattle.tera_tags.specs.declared.fronts.Closer.TheVariants as closers
use Rattle.tera_statements.proofs.+bodies.Goals as goal

pub conditions::condition-returns-in_err-first-clause-gives : goal.conditions::condition-returns-in_err-first-clause-gives
conditions::condition-returns-in_err-first-clause-gives t c = λ path represents start.
    let p = err_from_is_err_and c.from_residual.result c.from_residual.ensures.1 in
    rw (p.1, p.2) (failed_as _ _ _ _ (λ z h. no_first _ _ path start _ (seen_of c.args.names.now) _ z h) (c.in_err-first.ensures.gives path represents))

pub conditions::condition-returns-in_err-others-clause-gives : goal.conditions::condition-returns-in_err-others-clause-gives
conditions::condition-returns-in_err-others-clause-gives t c = λ path represents start.
    let p = err_from_is_err_and c.from_residual-in_err-others.result c.from_residual-in_err-others.ensures.1 in
    let (x, one, is) = c.in_ok-first.ensures.gives path represents in
    rw (p.1, p.2) (failed_as _ _ _ _ (λ z h. no_branches _ _ path start _ (seen_of c.args.names.now) _ x _ one z h) (c.in_err-others.ensures.gives path represents))

pub conditions::condition-returns-in_err-closed_tag-clause-gives : goal.conditions::condition-returns-in_err-closed_tag-clause-gives
conditions::condition-returns-in_err-closed_tag-clause-gives t c = λ path represents start.
    let p = err_from_is_err_and c.from_residual-in_err-closed_tag.result c.from_residual-in_err-closed_tag.ensures.1 in
    let (x, one, is) = c.in_ok-first.ensures.gives path represents in
    let (bs, more, are) = c.in_ok-others.ensures.gives path represents in
    rw (p.1, p.2) (failed_as _ _ _ _ (λ z h. if_unclosed _ _ path start _ (seen_of c.args.names.now) _ x _ one bs _ more z h) c.in_err-closed_tag.ensures.gives)

pub conditions::condition-returns-clause-gives : goal.conditions::condition-returns-clause-gives
conditions::condition-returns-clause-gives t c = λ path represents start.
    let (x, one, is) = c.in_ok-first.ensures.gives path represents in
    let (bs, more, are) = c.in_ok-others.ensures.gives path represents in
    let (e, closed) = c.in_ok-closed_tag.ensures.gives in (
      If (tag start c.args.cursor.now.span x.1) x.0 x.2 bs e,
      if_given _ _ path start c.args.cursor.now.span (seen_of c.args.names.now) _ x _ one bs _ more e _ closed,
      ap AddsNode (c.when.ensures ∙ (λ i. tree.If (is.0 i) (nodes_of (is.1 i)) (nodes_of (are i)))),
    )

pub conditions::read_branch-returns-in_err-condition-clause-gives : goal.conditions::read_branch-returns-in_err-condition-clause-gives
conditions::read_branch-returns-in_err-condition-clause-gives t c = λ path represents.
    let p = err_from_is_err_and c.from_residual.result c.from_residual.ensures.1 in
    let fact = rw represents.loop at c.in_err-condition.ensures.gives in
    rw (p.1, p.2) (failed_as _ _ _ _ (λ z h. no_condition (limits_of c.args.setting.now.limits) c.args.depth (InIf ∷ path) (seen_of c.args.names.now) c.args.cursor.now.left z h) fact)

pub conditions::read_branch-returns-in_err-body-clause-gives : goal.conditions::read_branch-returns-in_err-body-clause-gives
conditions::read_branch-returns-in_err-body-clause-gives t c = λ path represents.
    let p = err_from_is_err_and c.from_residual-in_err-body.result c.from_residual-in_err-body.ensures.1 in
    let (x, read, is) = rw represents.loop at c.in_ok-condition.ensures.gives in
    rw (p.1, p.2) (failed_as _ _ _ _ (λ z h. condition_empty (limits_of c.args.setting.now.limits) c.args.depth (InIf ∷ path) (seen_of c.args.names.now) c.args.cursor.now.left
    x c.expression_to_end.new.cursor.left read z h) (c.in_err-body.ensures.gives path represents))

pub conditions::read_branch-returns-clause-gives : goal.conditions::read_branch-returns-clause-gives
conditions::read_branch-returns-clause-gives t c = λ path represents.
    let (x, read, is) = rw represents.loop at c.in_ok-condition.ensures.gives in
    let (b, inside, shows) = c.in_ok-body.ensures.gives path represents in (
      (x.0, x.1, b),
      condition_given (limits_of c.args.setting.now.limits) c.args.depth (InIf ∷ path) (seen_of c.args.names.now) c.args.cursor.now.left x c.expression_to_end.new.cursor.left read b _ inside,
      (is, shows),
    )

pub conditions::other_branches-branches-init : goal.conditions::other_branches-branches-init
conditions::other_branches-branches-init t c = record {
  branching = λ path represents.
      let l = limits_of c.args.setting.now.limits in
      let none : map branch_view c.new-branches.result.items ≡ [] = ap (map branch_view) c.new-branches.ensures.items in
      branching_starts l c.args.depth (InIf ∷ path) (in_loop path) (here c.args.names.now c.args.cursor.now) (here c.args.names.now c.args.cursor.now) (map branch_view c.new-branches.result.items) none refl;
  later = stays c.args.cursor.now;
}

pub conditions::other_branches-returns-in_err-take_closer-clause-gives : goal.conditions::other_branches-returns-in_err-take_closer-clause-gives
conditions::other_branches-returns-in_err-take_closer-clause-gives t c = λ path represents.
    let p = err_from_is_err_and c.from_residual.result c.from_residual.ensures.1 in
    rw (p.1, p.2) (inl (closed_memory closers.Elif c.branches.cursor.left _ _ (sym c.closes.ensures ∙ c.branches-test.true) c.in_err-take_closer.ensures.gives))

pub conditions::other_branches-returns-in_err-branch-clause-gives : goal.conditions::other_branches-returns-in_err-branch-clause-gives
conditions::other_branches-returns-in_err-branch-clause-gives t c = λ path represents.
    let l = limits_of c.args.setting.now.limits in
    let seen = seen_of c.branches.names in
    let p = err_from_is_err_and c.from_residual-in_err-branch.result c.from_residual-in_err-branch.ensures.1 in
    let (x, there) = c.in_ok-take_closer.ensures.gives in
    let so_far = c.branches.invariant.branching path represents in
    rw (p.1, p.2) (failed_as _ _ _ _ (λ z h. branching_refused l c.args.depth (InIf ∷ path) (in_loop path) (here c.args.names.now c.args.cursor.now) (here c.branches.names c.branches.cursor) _ so_far z
    (no_elif_branch l c.args.depth (InIf ∷ path) seen c.branches.cursor.left c.take_closer.new.cursor.left x there z h)) (c.in_err-branch.ensures.gives path represents))

pub conditions::other_branches-branches-preserved : goal.conditions::other_branches-branches-preserved
conditions::other_branches-branches-preserved t c = record {
  branching = λ path represents.
      let l = limits_of c.args.setting.now.limits in
      let seen = seen_of c.branches.names in
      let (x, there) = c.in_ok-take_closer.ensures.gives in
      let (b, read, is) = c.in_ok-branch.ensures.gives path represents in
      let so_far = c.branches.invariant.branching path represents in
      let one : c.push.new.self.items ≡ c.branches.branches.items ++ c.in_ok-branch.branch ∷ [] = search rules in
      let pushed = ap (map branch_view) one ∙ map-append branch_view c.branches.branches.items (c.in_ok-branch.branch ∷ []) in
      branching_on l c.args.depth (InIf ∷ path) (in_loop path) (here c.args.names.now c.args.cursor.now) (here c.branches.names c.branches.cursor) (map branch_view c.branches.branches.items)
      (record { tag = tag x.0 x.1 b.1; condition = b.0; body = b.2 }) (here c.read_branch.new.names c.read_branch.new.cursor) (map branch_view c.push.new.self.items) so_far
      (elif_branch l c.args.depth (InIf ∷ path) seen c.branches.cursor.left c.take_closer.new.cursor.left x there b _ read)
      (pushed ∙ (λ i. map branch_view c.branches.branches.items ++ (is.0 i, is.1 i) ∷ []));
  later = goes_further _ _ _ c.branches.invariant.later (took_goes _ _ (took_all _ _ _ c.in_ok-take_closer.ensures.later c.in_ok-branch.ensures.later));
}

pub conditions::other_branches-branches-smaller : goal.conditions::other_branches-branches-smaller
conditions::other_branches-branches-smaller t c = took_size c.branches.cursor c.read_branch.new.cursor (took_all _ _ _ c.in_ok-take_closer.ensures.later c.in_ok-branch.ensures.later)

pub conditions::other_branches-returns-in_err-otherwise-clause-gives : goal.conditions::other_branches-returns-in_err-otherwise-clause-gives
conditions::other_branches-returns-in_err-otherwise-clause-gives t c = λ path represents.
    let l = limits_of c.args.setting.now.limits in
    let p = err_from_is_err_and c.from_residual-in_err-otherwise.result c.from_residual-in_err-otherwise.ensures.1 in
    let so_far = c.branches.invariant.branching path represents in
    let none = no_elif_there c.branches.cursor.left (sym c.closes.ensures ∙ c.branches-test.false) in
    rw (p.1, p.2) (failed_as _ _ _ _ (λ z h. branching_end_refused l c.args.depth (InIf ∷ path) (in_loop path) (here c.args.names.now c.args.cursor.now) (here c.branches.names c.branches.cursor) _ so_far none z h)
    (c.in_err-otherwise.ensures.gives path represents))

pub conditions::other_branches-returns-clause-gives : goal.conditions::other_branches-returns-clause-gives
conditions::other_branches-returns-clause-gives t c = λ path represents.
    let l = limits_of c.args.setting.now.limits in
    let so_far = c.branches.invariant.branching path represents in
    let none = no_elif_there c.branches.cursor.left (sym c.closes.ensures ∙ c.branches-test.false) in
    let (o, other, otherwise) = c.in_ok-otherwise.ensures.gives path represents in
    let (bs, read, shows) = branching_ends l c.args.depth (InIf ∷ path) (in_loop path) (here c.args.names.now c.args.cursor.now) (here c.branches.names c.branches.cursor) _ (o, _) so_far none other in
    ends_by (in_loop path) c.nested.result _ _ bs _ read (ap (nest (map branch_view c.branches.branches.items)) otherwise ∙ shows) c.nested.ensures.nested c.nested.ensures.refusal
