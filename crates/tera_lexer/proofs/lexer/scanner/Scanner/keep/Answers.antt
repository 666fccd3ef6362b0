use Rattle.std.proofs.Common.{sym, subst}
use Rattle.tera_lexer.specs.reading.State.{Progress}
use Rattle.tera_lexer.specs.code.Markers.{IsAhead}
use Rattle.tera_lexer.proofs.lexer.scanner.Scanner.keep.Goals as goal

pub invariant_of-self : goal.invariant_of-self
invariant_of-self c = record {
  following = c.self.invariant.following;
  cut = c.self.invariant.cut;
  place = c.self.invariant.place;
  marks = c.self.invariant.marks;
  text = c.self.invariant.text;
  pairs = c.self.invariant.pairs;
  ahead = subst (λ (r : Progress). IsAhead r.marks r.rest c.args.ahead) (sym c.self.view_is) c.requires;
}
