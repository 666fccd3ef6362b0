use Rattle.std.proofs.Common.{◌≡◌, ℕ, ◌<◌, ◌≤◌, false, [], ◌++◌, map, drop, get_or}
use Rattle.std.specs.Str.{bytes_eq}
use Rattle.terminal_text.specs.Edits.{texts_of, edit_view, edits_of}
use Rattle.terminal_text.proofs.edits.edits_of.Given as goal

abbrev pub invariant-lines : goal.invariant-lines
invariant-lines l = record {
  order : l.start ≤ l.at;
  edits : edits_of (texts_of l.old) (texts_of l.new) ≡ map edit_view l.edits.items ++ edits_of (drop l.start (texts_of l.old)) (drop l.start (texts_of l.new));
  differ : (k : ℕ) → l.start ≤ k → k < l.at → bytes_eq (get_or (texts_of l.old) k []) (get_or (texts_of l.new) k []) ≡ false;
}
