use Rattle.std.proofs.Common.{◌<◌, ◌⊎◌, length, take, vec_len}
use Rattle.std.specs.Prelude.{All, Any, Contains}
use Rattle.tera_files.specs.Below.{IsUnlisted}
use Rattle.tera_files.specs.Finding.{AreOfAll, input}
use Rattle.tera_files.specs.Listing.{files_in, IsStarted}
use Rattle.tera_files.specs.Names.{texts}
use Rattle.tera_files.proofs.finding.files_of.Given as goal

abbrev pub invariant-loop-path : goal.invariant-loop-path
invariant-loop-path g l = record {
  found : AreOfAll (texts l.selection.extensions.now) (take l.path-index (texts l.paths)) (files_in l.listing);
  unlisted : All (λ one. Any (λ path. IsUnlisted path one) (take l.path-index (texts l.paths))) l.unlisted.items;
  input_read : Contains (take l.path-index (texts l.paths)) input → Contains (files_in l.listing) input;
  started : IsStarted l.initial.listing → IsStarted l.listing;
  answered : IsStarted l.initial.listing → 0 < l.path-index → (0 < length (files_in l.listing)) ⊎ (0 < vec_len l.unlisted);
}
