-- The names of components that are read.
use Rattle.std.specs.Prelude.{◌≡◌, Result, Ok, Err, String, string_bytes}
use Rattle.std.specs.declared.alloc.Global.{Global}
use Rattle.tera_base.specs.declared.errors.Error.{Error}
use Rattle.tera_lexer.specs.grammar.Tokens.{Items}
use Rattle.tera_grammar.specs.expressions.Companions.{Path, path_output}
use Rattle.tera_grammar.specs.expressions.Reading.Whole.{path_of}
use Rattle.tera_grammar.specs.Reads.{found, Fails}

abbrev pub GivesPath : Items → Result (String Global) Error → Items → Type 0
GivesPath old (Ok s) new = (x : Path) × (path_of old ≡ found (x, new)) × (string_bytes s ≡ path_output x)
GivesPath old (Err e) new = Fails (path_of old) new e
