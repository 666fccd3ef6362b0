use Rattle.std.proofs.Common.{[], false}
use Rattle.tera_lexer.specs.grammar.Marks.{marks_of}
use Rattle.tera_lexer.specs.grammar.Tokens.{AreTokensOf}
use Rattle.tera_lexer.specs.reading.Left.{left_of}
use Rattle.tera_lexer.proofs.Lefts.{start_tokens}
use Rattle.tera_lexer.proofs.Tilings.{tokens_tile, tiles_count}
use Rattle.tera_lexer.proofs.lexer.stream.tokenize.Goals as goal

pub returns-clause-tokens : goal.returns-clause-tokens
returns-clause-tokens c = start_tokens (marks_of c.args.delimiters) c.requires c.args.input.now c.new.result c.new.ensures

pub returns-clause-count : goal.returns-clause-count
returns-clause-count c =
    let tokens : AreTokensOf (marks_of c.args.delimiters) c.args.input.now (left_of c.new.result) = start_tokens (marks_of c.args.delimiters) c.requires c.args.input.now c.new.result c.new.ensures in
    tiles_count _ false [] c.args.input.now (tokens_tile (marks_of c.args.delimiters) c.requires c.args.input.now _ tokens)
