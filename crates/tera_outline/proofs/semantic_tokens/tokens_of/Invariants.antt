use Rattle.std.proofs.Common.{◌≡◌, ◌++◌, length, map}
use Rattle.tera_outline.specs.Pieces.{part_of}
use Rattle.tera_outline.specs.SemanticTokens.{tokens_in, semantic_tokens_of}
use Rattle.tera_outline.proofs.semantic_tokens.tokens_of.Given as goal

abbrev pub invariant-pieces : goal.invariant-pieces
invariant-pieces l =
    l.tokens.items ++ tokens_in l.context l.text (map part_of l.rest) ≡ semantic_tokens_of l.text (map part_of l.initial.rest)

abbrev pub decreases-pieces : goal.decreases-pieces
decreases-pieces l = length l.rest
