use Rattle.tera_grammar.proofs.Readings.{template_sound, template_complete}
use Rattle.tera_grammar.proofs.laws.each_is_read.Goals as goal

pub returns : goal.returns
returns c = λ l items b. (template_complete l items b, template_sound l items b)
