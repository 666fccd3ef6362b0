use Rattle.std.proofs.Common.{ap, map, string_bytes, ◌∙◌}
use Rattle.tera_files.proofs.ListingLemmas.{map-insert_key}
use Rattle.tera_files.proofs.listing.Listing.add_path.Goals as goal

pub returns-clause-files : goal.returns-clause-files
returns-clause-files c = ap (map string_bytes) c.in_ok-insert.ensures.keys ∙ map-insert_key c.args.self.now.files.keys c.args.path
