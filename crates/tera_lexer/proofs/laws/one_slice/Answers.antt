use Rattle.tera_lexer.proofs.Slices.{span_slice}
use Rattle.tera_lexer.proofs.laws.one_slice.Goals as goal

pub returns : goal.returns
returns c = λ front text rest. span_slice front text rest
