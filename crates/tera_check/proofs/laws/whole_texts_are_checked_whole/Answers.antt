use Rattle.tera_check.proofs.DueLaws.{whole, without_ignores}
use Rattle.tera_check.proofs.laws.whole_texts_are_checked_whole.Goals as goal

pub returns : goal.returns
returns c = record {
  silenced = λ known number t o parsed mended. whole known number t o parsed mended;
  whole = λ known number t o parsed mended none. without_ignores known number t o parsed mended none;
}
