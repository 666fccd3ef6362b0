-- Tokens that leave no tag unclosed.
pub use Rattle.tera_lexer.specs.grammar.Lexed.{IsClosed}
