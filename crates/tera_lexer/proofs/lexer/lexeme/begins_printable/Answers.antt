use Rattle.std.proofs.lemmas.Bool.{OnTrue_from, leb-true}
use Rattle.tera_lexer.proofs.Lanes.{are_printable}
use Rattle.tera_lexer.proofs.lexer.lexeme.begins_printable.Goals as goal

pub returns-then-bytes-ge-LANES : goal.returns-then-bytes-ge-LANES
returns-then-bytes-ge-LANES c =
    OnTrue_from _ _ (λ few. are_printable c.args.bytes.now c.args.len c.printable_lanes.result c.printable_lanes.ensures (leb-true c.args.len c.printable_lanes.result few))
