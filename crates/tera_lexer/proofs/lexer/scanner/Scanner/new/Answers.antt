use Rattle.std.proofs.Common.{refl}
use Rattle.std.proofs.lemmas.Str.{IsCharBoundary-start}
use Rattle.tera_lexer.specs.grammar.Place.{place_after}
use Rattle.tera_lexer.proofs.lexer.scanner.Scanner.new.Goals as goal

pub invariant_of-result : goal.invariant_of-result
unfolding place_after
invariant_of-result c = record { following = refl; cut = IsCharBoundary-start c.args.source.now c.utf8.source; place = refl; marks = c.requires; text = c.utf8.source; pairs = c.of-pairs.ensures; ahead = tt }
