use Rattle.std.proofs.Common.{length}
use Rattle.tera_outline.specs.Symbols.{outline_of}
use Rattle.tera_server.proofs.ForestLemmas.{all_within, nests}
use Rattle.tera_server.proofs.laws.symbols_within.Goals as goal

pub returns : goal.returns
returns c = λ text parts are. all_within (outline_of (length text) parts) (nests (outline_of (length text) parts) (c.symbols_nest.ensures text parts are))
