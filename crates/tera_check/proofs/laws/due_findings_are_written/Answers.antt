use Rattle.tera_check.proofs.DueLaws.{written}
use Rattle.tera_check.proofs.laws.due_findings_are_written.Goals as goal

pub returns : goal.returns
returns c = λ known open_text number t file source most m f mended is found. written known open_text number t file source most m f mended is found
