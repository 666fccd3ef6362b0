-- The readings that proofs take apart.
unfoldable pub use Rattle.tera_grammar.specs.Words.{is_none, is_reserved}
unfoldable pub use Rattle.tera_grammar.specs.expressions.Reading.Front.{front_of_token}
unfoldable pub use Rattle.tera_grammar.specs.expressions.Reading.Rooms.{inside_subscript, inside_array}
