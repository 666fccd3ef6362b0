use Rattle.std.proofs.Common.{◌≡◌, ◌+◌, ◌++◌, length}
use Rattle.tera_outline.specs.SemanticTokens.{on_lines}
use Rattle.tera_outline.proofs.semantic_tokens.push_lines.Given as goal

abbrev pub invariant-bytes : goal.invariant-bytes
invariant-bytes l = record {
  place : l.at + length l.rest ≡ l.start + length l.bytes;
  found : l.tokens.items ++ on_lines l.kind l.from l.at l.rest ≡ l.initial.tokens.items ++ on_lines l.kind l.start l.start l.bytes;
}

abbrev pub decreases-bytes : goal.decreases-bytes
decreases-bytes l = length l.rest
