use Rattle.std.proofs.Common.{◌≡◌, ◌∷◌, drop, map}
use Rattle.text_edits.specs.Edits.{change_view, edited}
use Rattle.text_edits.specs.Runs.{IsRun, run_text}
use Rattle.text_edits.proofs.edits.after_some.Given as goal

-- the changes that are left make of the text of the run what all make of the first
abbrev pub invariant-others : goal.invariant-others
invariant-others l = record {
  run : IsRun l.run;
  encoding : l.run.encoding ≡ l.fn.encoding;
  made : l.made ≡ l.other-index;
  edited : edited l.fn.encoding (run_text l.run) (map change_view (drop l.made l.following)) ≡ edited l.fn.encoding l.fn.text (change_view l.fn.change ∷ map change_view l.following);
}
