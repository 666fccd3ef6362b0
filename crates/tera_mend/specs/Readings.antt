-- What is read of a text.
use Rattle.std.specs.Prelude.{◌≡◌, ℕ, List}
use Rattle.tera_lexer.specs.grammar.Marks.{default_marks}
use Rattle.tera_tree.specs.Outputs.{output_view}
use Rattle.tera_tree.specs.Tree.{Output}
use Rattle.tera_tree.specs.declared.outputs.ParserOutput.{ParserOutput}
use Rattle.tera_grammar.specs.Limits.{usual}
use Rattle.tera_grammar.specs.statements.Places.{Places}
use Rattle.tera_grammar.specs.statements.Top.{Derives, DerivesNames}
use Rattle.tera_tags.specs.Known.{AreNames}
use Rattle.tera_tags.specs.declared.names.Names.{Names}
use Rattle.tera_parser.specs.Notes.{NotesName}
use Rattle.tera_mend.specs.Mending.{Fails}
use Rattle.tera_mend.specs.declared.reading.Reading.{Reading}
use Rattle.tera_mend.specs.declared.reading.Reading.TheVariants.{Tree, Fault}

-- the output and the names of the text
abbrev pub AreOf : List ℕ → ParserOutput → Names → Type 0
AreOf text output names = (places : Places) × DerivesNames usual default_marks text (output_view output) places × AreNames names places

-- the one tree of the text, or a fault of it
abbrev pub IsReadingOf : List ℕ → List ℕ → Reading → Type 0
IsReadingOf file text (Tree output names) =
    AreOf text output names × ((other : Output) → Derives usual default_marks text other → output_view output ≡ other)
IsReadingOf file text (Fault error) = Fails usual default_marks text error × NotesName file error
