use Rattle.std.proofs.Common.{◌≤◌}
use Rattle.std.specs.List.{prefix_len}
use Rattle.tera_outline.specs.Runs.{is_black}
use Rattle.tera_outline.proofs.edits.common_word_len.Given as goal

-- no white space is in either text so far
abbrev pub invariant-loop-count : goal.invariant-loop-count
invariant-loop-count l = record {
  old : l.count ≤ prefix_len is_black l.old;
  new : l.count ≤ prefix_len is_black l.new;
}
