use Rattle.std.proofs.Common.{subst}
use Rattle.tera_jobs.specs.Report.{AreWithUnusedIf}
use Rattle.tera_jobs.proofs.reporting.found_in.Goals as goal

pub returns : goal.returns
returns c = record {
  found = c.in_ok-all.all.items;
  are = c.in_ok-all.ensures;
  named = c.add_if_named.new.all.items;
  with_names = c.in_ok-add_if_named.ensures;
  more = c.add_if_registered.new.all.items;
  with_unknown = c.in_ok-add_if_registered.ensures;
  with_unused =
      subst (λ on. AreWithUnusedIf on c.args.templates.now.items c.args.checked c.add_if_registered.new.all.items c.add_unused_if.new.all.items) c.looks_for_unused-looks.ensures
      c.in_ok-add_unused_if.ensures;
}
