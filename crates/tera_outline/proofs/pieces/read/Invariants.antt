use Rattle.std.proofs.Common.{◌≡◌, ◌++◌, None, map}
use Rattle.tera_lexer.specs.code.Cursors.{size}
use Rattle.tera_outline.specs.Pieces.{part_of, read_in, stop_of, stopped_after}
use Rattle.tera_outline.proofs.pieces.read.Given as goal

-- those that were kept, and those that are read of the tokens that are left, are all; and they stop where all do
abbrev pub invariant-tokens : goal.invariant-tokens
invariant-tokens l = record {
  pieces : map part_of l.pieces.items ++ read_in l.rest.again l.rest.text.now l.tag.opened l.tokens.left
      ≡ read_in l.rest.again l.rest.text.now None l.initial.tokens.left;
  opened : stopped_after l.rest.again l.rest.text.now l.tag.opened l.tokens.left
      ≡ stopped_after l.rest.again l.rest.text.now None l.initial.tokens.left;
  stop : l.tag.stop ≡ stop_of l.rest.again l.rest.text.now l.tag.opened;
}

abbrev pub decreases-tokens : goal.decreases-tokens
decreases-tokens l = size l.tokens.left
