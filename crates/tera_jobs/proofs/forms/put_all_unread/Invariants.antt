use Rattle.std.proofs.Common.{◌≡◌, ◌++◌, drop, map}
use Rattle.std.specs.List.{flat_map}
use Rattle.tera_report.specs.Unread.{unread_result}
use Rattle.tera_jobs.specs.Forms.{of_unread}
use Rattle.tera_jobs.specs.Sources.{unreadable_view}
use Rattle.tera_jobs.proofs.forms.put_all_unread.Given as goal

abbrev pub invariant-loop-one : goal.invariant-loop-one
invariant-loop-one l = record {
  tokens : l.initial.out.tokens ++ flat_map (of_unread unread_result) (map unreadable_view l.unread)
      ≡ l.out.tokens ++ flat_map (of_unread unread_result) (map unreadable_view (drop l.one-index l.unread));
  before : l.out.before ≡ l.initial.out.before;
}
