use Rattle.std.proofs.Common.{◌<◌, length, map, take}
use Rattle.std.specs.Prelude.{AllPairs}
use Rattle.tera_files.specs.Below.{AddsSome, IsBefore, path_of}
use Rattle.tera_files.specs.Finding.{AddsTemplates}
use Rattle.tera_files.specs.Listing.{files_in, IsStarted}
use Rattle.tera_files.proofs.finding.add_templates.Given as goal

abbrev pub invariant-loop-template : goal.invariant-loop-template
invariant-loop-template g l = record {
  each : AddsTemplates l.initial.listing (take l.template-index l.templates.items) l.listing;
  some : AllPairs IsBefore (map path_of l.templates.items)
      → AddsSome (take l.template-index (map path_of l.templates.items)) (files_in l.initial.listing) (files_in l.listing);
  started : IsStarted l.initial.listing → IsStarted l.listing;
  answered : IsStarted l.initial.listing → 0 < l.template-index → 0 < length (files_in l.listing);
}
