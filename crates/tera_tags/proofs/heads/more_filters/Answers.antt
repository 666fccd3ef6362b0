use Rattle.std.proofs.Common.{rules, ◌≡◌, [], ◌∷◌, ◌++◌}
use Rattle.std.proofs.lemmas.Result.{err_from_is_err_and}
use Rattle.tera_expr_parts.specs.Allowed.{limits_of}
use Rattle.tera_expect.proofs.TakingLemmas.{stays, goes_further, took_goes, took_all, took_size}
use Rattle.tera_tags.proofs.FiltersLemmas.{pipes_end, pipes_fail, pipes_on, pipes_start}
use Rattle.tera_tags.proofs.heads.more_filters.Goals as goal

pub filters-init : goal.filters-init
filters-init c = record {
  piping = pipes_start (limits_of c.args.setting.now.limits) c.args.in_loop c.args.cursor.now.left c.args.before.items;
  later = stays c.args.cursor.now;
}

pub returns-in_err-filter-clause-gives : goal.returns-in_err-filter-clause-gives
returns-in_err-filter-clause-gives c =
    let bar = rw c.filters-test.true at c.eat.ensures in
    let p = err_from_is_err_and c.from_residual.result c.from_residual.ensures.1 in
    let fact = rw (c.scope.ensures.in_loop, c.scope.ensures.limits) at c.in_err-filter.ensures.gives in
    rw (p.1, p.2) (pipes_fail (limits_of c.args.setting.now.limits) c.args.in_loop c.args.cursor.now.left c.filters.cursor.left c.args.before.items c.filters.filters.items
    c.eat.new.cursor.span c.eat.new.cursor.left c.filter.new.cursor.left _ c.filters.invariant.piping bar.0 fact)

pub filters-preserved : goal.filters-preserved
filters-preserved c =
    let bar = rw c.filters-test.true at c.eat.ensures in
    let one : c.push.new.self.items ≡ c.filters.filters.items ++ c.in_ok-filter.filter ∷ [] = search rules in
    let (g, read, is) = rw (c.scope.ensures.in_loop, c.scope.ensures.limits) at c.in_ok-filter.ensures.gives in
    record {
      piping = pipes_on (limits_of c.args.setting.now.limits) c.args.in_loop c.args.cursor.now.left c.filters.cursor.left c.args.before.items c.filters.filters.items
          c.eat.new.cursor.span c.eat.new.cursor.left c.filter.new.cursor.left c.in_ok-filter.filter g c.push.new.self.items c.filters.invariant.piping bar.0 read is one;
      later = goes_further _ _ _ c.filters.invariant.later (took_goes _ _ (took_all _ _ _ bar.1 c.in_ok-filter.ensures.later));
    }

pub filters-smaller : goal.filters-smaller
filters-smaller c =
    let bar = rw c.filters-test.true at c.eat.ensures in
    took_size c.filters.cursor c.filter.new.cursor (took_all _ _ _ bar.1 c.in_ok-filter.ensures.later)

pub returns-clause-gives : goal.returns-clause-gives
returns-clause-gives c =
    let none = rw c.filters-test.false at c.eat.ensures in
    rw none.1 (pipes_end (limits_of c.args.setting.now.limits) c.args.in_loop c.args.cursor.now.left c.filters.cursor.left c.args.before.items c.filters.filters.items
    c.filters.invariant.piping _ none.0)

pub returns-clause-later : goal.returns-clause-later
returns-clause-later c =
    let none = rw c.filters-test.false at c.eat.ensures in
    rw none.1 c.filters.invariant.later
