use Rattle.std.proofs.Common.{◌≡◌, ◌++◌, ◌<◌, ◌≤◌, ℕ, List, length, string_bytes}
use denote.Shadow.{shadow}
use denote.Text.{Utf8}
use Rattle.tera_lexer.specs.grammar.Place.{place_after}
use Rattle.tera_mend.specs.Views.{LeadsTo, place_view}
use Rattle.tera_mend.proofs.lone.add_lone_faults.Given as goal

-- the faults so far lead to what was written so far with what is left
abbrev pub invariant-loop-tag : goal.invariant-loop-tag
invariant-loop-tag l = record {
  text : shadow (Utf8 l.rest);
  leads : (source : List ℕ) → 0 < length l.fn.faults.items → LeadsTo l.fn.file source l.fn.faults.items l.fn.text
      → (0 < length l.faults.items) × LeadsTo l.fn.file source l.faults.items (string_bytes l.done ++ l.rest);
  place : place_view l.place ≡ place_after (string_bytes l.done);
  bound : length l.fn.faults.items ≤ l.fn.most → length l.faults.items ≤ l.fn.most;
}
