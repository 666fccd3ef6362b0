use Rattle.tera_mend.proofs.Spans.{spans_kept}
use Rattle.tera_mend.proofs.laws.spans_stay.Goals as goal

pub returns : goal.returns
returns c =
    λ l m source steps reached rest text mends edits front part after is some none last. spans_kept l m source steps reached rest text mends edits front part after is some none last
