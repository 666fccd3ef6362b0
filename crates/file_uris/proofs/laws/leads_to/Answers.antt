use Rattle.file_uris.proofs.DecodingLemmas.{reference_leads_to}
use Rattle.file_uris.proofs.laws.leads_to.Goals as goal

pub returns : goal.returns
returns c = reference_leads_to
