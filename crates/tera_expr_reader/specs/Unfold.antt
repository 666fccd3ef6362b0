-- The readings that proofs take apart.
unfoldable pub use Rattle.tera_grammar.specs.Words.{is_loop_field}
unfoldable pub use Rattle.tera_grammar.specs.expressions.Reading.Front.{skip, link_of}
unfoldable pub use Rattle.tera_grammar.specs.expressions.Reading.Bracketed.{sub_of, part_of, extra_of}
unfoldable pub use Rattle.tera_grammar.specs.expressions.Reading.Atoms.{chain_of}
unfoldable pub use Rattle.tera_grammar.specs.expressions.Reading.Loop.{suffix_in}
