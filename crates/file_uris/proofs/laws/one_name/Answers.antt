use Rattle.file_uris.proofs.DecodingLemmas.{name_once}
use Rattle.file_uris.proofs.laws.one_name.Goals as goal

pub returns : goal.returns
returns c = name_once
