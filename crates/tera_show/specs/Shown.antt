-- What is shown.
use Rattle.std.specs.Prelude.{◌≡◌, ◌<◌, ℕ, List, [], ◌∷◌, ◌++◌, length, take, codes, Option, IfSome, Result, Ok, Err, IsUtf8}
use Rattle.std.specs.Fmt.{decimal}
use Rattle.std.specs.Io.KnownBytes.{Keeps, Appends}
use Rattle.line_text.specs.Line.{on_one_line}
use Rattle.tera_lexer.specs.grammar.Marks.{default_marks}
use Rattle.tera_lexer.specs.grammar.Place.{IsWithin}
use Rattle.tera_lexer.specs.grammar.Tokens.{Items, AreTokensOf}
use Rattle.tera_lexer.specs.grammar.Faults.{Faults}
use Rattle.tera_tree.specs.Tree.{Output}
use Rattle.tera_grammar.specs.Limits.{Limits}
use Rattle.tera_grammar.specs.statements.Lost.{AreLost}
use Rattle.tera_grammar.specs.statements.Top.{Derives}
use Rattle.tera_base.specs.declared.utils.Span.{Span}
use Rattle.tera_tree_text.specs.TreeText.{text_of}
use Rattle.tera_show.specs.declared.stream.Outcome.{Outcome}
use Rattle.tera_show.specs.declared.stream.Outcome.TheVariants.{Tree, Syntax, NotUtf8}
use Rattle.tera_show.specs.declared.stream.ShowFault.{ShowFault}
use Rattle.tera_show.specs.declared.stream.ShowFault.TheVariants.{Memory, Read, Write}

-- the line of a syntax error, whose message is on one line
abbrev pub fault_line : List ℕ → Span → List ℕ
fault_line message span =
    codes "syntax error at " ++ (decimal span.start_line ++ (codes ":" ++ (decimal span.start_col ++ (codes " (" ++ (decimal span.range.start ++ (codes ".." ++ (decimal span.range.end ++ (codes "): " ++ (on_one_line message ++ 10 ∷ [])))))))))

-- the answer to an input: the text of the output of its derivation within the limits; the line of a syntax error of it,
-- where it has no derivation, and where it is lost; or that it is not text
abbrev pub IsAnswer : Limits → List ℕ → Outcome → List ℕ → Type 0
IsAnswer l input Tree text = IsUtf8 input × ((output : Output) × Derives l default_marks input output × (text ≡ text_of output))
IsAnswer l input Syntax text =
    IsUtf8 input × ((output : Output) → Derives l default_marks input output → ⊥)
    × ((message : List ℕ) × (span : Span) × (text ≡ fault_line message span) × IsWithin input span
    × ((items : Items) × AreTokensOf default_marks input items × Faults items message span)
    × ((items : Items) → AreTokensOf default_marks input items → AreLost l span.range.end items))
IsAnswer l input NotUtf8 text = (IsUtf8 input → ⊥) × (text ≡ codes "input is not UTF-8" ++ 10 ∷ [])

-- what a reader gave and a writer took: an answer, whole; nothing; or less than an answer
abbrev pub IsShown : Limits → Option (List ℕ) → Option (List ℕ) → Option (List ℕ) → Result Outcome ShowFault → Type 0
IsShown l read old new (Ok outcome) = IfSome read (λ input. (text : List ℕ) × IsAnswer l input outcome text × Appends old new text)
IsShown l read old new (Err Memory) = Keeps old new
IsShown l read old new (Err Read) = Keeps old new
IsShown l read old new (Err Write) =
    IfSome read (λ input. (outcome : Outcome) × (text : List ℕ) × (n : ℕ) × IsAnswer l input outcome text × (n < length text) × Appends old new (take n text))

-- the status of the program
abbrev pub status_of : Result Outcome ShowFault → ℕ
status_of (Ok Tree) = 0
status_of (Ok Syntax) = 1
status_of (Ok NotUtf8) = 2
status_of (Err Memory) = 3
status_of (Err Read) = 4
status_of (Err Write) = 4
