use Rattle.tera_files.proofs.ListingLemmas.{apart_texts}
use Rattle.tera_files.proofs.listing.Listing.into_files.Goals as goal

pub returns-clause-apart : goal.returns-clause-apart
returns-clause-apart c = apart_texts c.args.self.files.keys c.into_iter.ensures.into_iter_gives.3
