use Rattle.tera_lexer.proofs.Finding.{find_is}
use Rattle.tera_lexer.proofs.lexer.markers.find_marker.Goals as goal

pub returns : goal.returns
returns c = find_is c.args.marker.now c.args.bytes.now c.first_marker.result c.requires c.first_marker.ensures
