use Rattle.tera_outline.proofs.SemanticLemmas.{tokens_sound}
use Rattle.tera_outline.proofs.laws.semantic_tokens_in_order.Goals as goal

pub returns : goal.returns
returns c = tokens_sound
