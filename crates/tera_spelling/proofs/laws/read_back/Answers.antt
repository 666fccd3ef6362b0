use Rattle.tera_spelling.proofs.Tags.{tag_read, each_tag_read}
use Rattle.tera_spelling.proofs.laws.read_back.Goals as goal

pub returns : goal.returns
returns c = record {
  exists = λ items are. tag_read items are;
  each = λ items read are tokens. each_tag_read items read are tokens;
}
