use Rattle.std.proofs.Common.{◌≡◌, string_bytes}
use Rattle.tera_lexer.specs.code.Cursors.{size}
use Rattle.tera_lexer.specs.grammar.Marks.{marks_of}
use Rattle.tera_layout.specs.WrittenLayout.{nothing, put, written, AreWritten}
use Rattle.tera_layout.proofs.formatting.push_tokens.Given as goal

-- what is written, and what is to be written of the tokens that are left
abbrev pub invariant-tokens : goal.invariant-tokens
invariant-tokens l = record {
  source : l.tokens.source ≡ l.source;
  written :
      AreWritten (marks_of l.delimiters) l.source l.initial.tokens.left
      (put (string_bytes l.initial.out) (written (marks_of l.delimiters) l.source nothing l.initial.tokens.left))
      (string_bytes l.out) l.run l.reached l.last l.tokens.left;
}

abbrev pub decreases-tokens : goal.decreases-tokens
decreases-tokens l = size l.tokens.left
