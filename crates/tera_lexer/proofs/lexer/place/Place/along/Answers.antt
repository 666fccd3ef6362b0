use Rattle.tera_lexer.proofs.Places.{after_printable}
use Rattle.tera_lexer.proofs.lexer.place.Place.along.Goals as goal

pub returns : goal.returns
returns c text len are = after_printable c.args.self text c.args.len len are
