use Rattle.std.proofs.Common.{refl}
use Rattle.tera_parser.proofs.Meanings.{pairs_same, types_same, of_types_same, names_same}
use Rattle.tera_parser.proofs.laws.one_meaning.Goals as goal

pub returns : goal.returns
returns c = record {
  pairs = pairs_same;
  types = types_same;
  of_types = of_types_same;
  names = names_same;
  nowhere = refl;
}
