use Rattle.std.proofs.Common.{le_refl}
use Rattle.tera_grammar.proofs.statements.Tops.{template_complete}
use Rattle.tera_grammar.proofs.stops.Final.{lost_after, lost_at, lost_in}
use Rattle.tera_grammar.proofs.laws.lost_sources.Goals as goal

pub returns : goal.returns
returns c = record {
  before = λ l source items left tile h n first last passes. lost_after l (template_complete l) source items left tile h n first last passes last.range.end (le_refl _);
  after = λ l source items left t s tile h n first last passes. lost_at l (template_complete l) source items left t s tile h n first last passes last.range.end (le_refl _);
  lexical = λ l source items text span tile fault. lost_in l (template_complete l) source items text span tile fault span.range.start (le_refl _);
}
