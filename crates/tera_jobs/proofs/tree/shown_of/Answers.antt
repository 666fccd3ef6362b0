use Rattle.std.proofs.Common.{rules}
use Rattle.tera_jobs.proofs.tree.shown_of.Goals as goal

pub returns : goal.returns
returns c = record {
  written = rw c.if-shape.false (record {
    faults = c.in_ok-faults.faults.items;
    in_order = c.in_ok-faults.ensures.ordered;
    are = c.in_ok-faults.ensures.faults;
    tree = search rules;
    beside = c.in_ok-faults_text.ensures;
  });
  faulty = search rules;
}
