-- The reading functions of what the statements use of expressions: what is read, and the tokens after it.
unfoldable pub use Rattle.tera_grammar.proofs.plain.expressions.Reading.Whole.{expression_of, filter_of, all_attributes as attributes_of, path_of as component_of, literal_array_of as array_of, literal_map_of as map_of}
