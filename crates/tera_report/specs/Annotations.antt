-- Findings as workflow commands of GitHub.
use Rattle.std.specs.Prelude.{◌≡◌, ◌≢◌, ◌+◌, ◌-◌, ◌^◌, ◌==◌, ◌++◌, if◌then◌else◌, ℕ, List, [], ◌∷◌, min, codes, chars, encode_utf8}
use Rattle.std.specs.Fmt.{decimal}
use Rattle.std.specs.List.{flat_map, AllByRecursion}
use Rattle.line_text.specs.Line.{on_one_line}
use Rattle.tera_base.specs.declared.utils.Span.{Span}
use Rattle.tera_findings.specs.Findings.{FindingVal, FoundAs, kind_name}
use Rattle.tera_findings.specs.declared.finding.Severity.{Severity}
use Rattle.tera_findings.specs.declared.finding.Severity.TheVariants.{Error, Warning}

-- a character of a message
abbrev pub escaped_character : ℕ → List ℕ
escaped_character c =
    if c == 37 then codes "%25"
    else (if c == 13 then codes "%0D"
    else (if c == 10 then codes "%0A" else encode_utf8 c))

-- .. of a property, where a colon or a comma is escaped, as it would end that
abbrev pub property_character : ℕ → List ℕ
property_character c =
    if c == 58 then codes "%3A"
    else (if c == 44 then codes "%2C" else escaped_character c)

abbrev pub escaped : List ℕ → List ℕ
escaped text = flat_map escaped_character (chars text)

abbrev pub property : List ℕ → List ℕ
property text = flat_map property_character (chars text)

-- a column from 1
abbrev pub column_of : ℕ → ℕ
column_of col = min (col + 1) (2 ^ 64 - 1)

-- where a span begins and ends: its end is the column after it
abbrev pub span_text : Span → List ℕ
span_text s =
    codes ",line=" ++ (decimal s.start_line
    ++ (codes ",col=" ++ (decimal (column_of s.start_col)
    ++ (codes ",endLine=" ++ (decimal s.end_line
    ++ (codes ",endColumn=" ++ decimal (column_of s.end_col)))))))

-- a command, up to the file
abbrev pub command_of : Severity → List ℕ
command_of Error = codes "::error file="
command_of Warning = codes "::warning file="

-- the command of a finding in a file; its message is on one line, and the file is named as it is
unfoldable pub annotation : List ℕ → FindingVal → List ℕ
annotation file (FoundAs kind severity span text notes) =
    command_of severity ++ (property file
    ++ (span_text span
    ++ (codes ",title=" ++ (kind_name kind
    ++ (codes "::" ++ (escaped (on_one_line text) ++ codes "\n"))))))

-- the text is one line with its end
abbrev pub IsOneLine : List ℕ → Type 0
IsOneLine text = (line : List ℕ) × (text ≡ line ++ 10 ∷ []) × AllByRecursion (λ b. b ≢ 10) line
