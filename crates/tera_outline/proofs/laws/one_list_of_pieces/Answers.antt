use Rattle.tera_outline.proofs.Readings.{all_tokens, one_list}
use Rattle.tera_outline.proofs.laws.one_list_of_pieces.Goals as goal

pub returns : goal.returns
returns c = record { one = one_list; tokens = all_tokens }
