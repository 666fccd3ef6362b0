-- Files that cannot be read, or are wrong as a whole, by their names.
use Rattle.std.specs.Prelude.{◌≡◌, ◌&&◌, ℕ, nat_eq, Bool, List, string_bytes, cond, Option, None}
use Rattle.std.specs.BTreeMap.{get_by_text}
use Rattle.std.specs.Option.{option_eq, option_map}
use Rattle.std.specs.Str.{bytes_eq}
use Rattle.tera_findings.specs.declared.finding.Severity.{Severity}
use Rattle.tera_findings.specs.declared.finding.Severity.TheVariants.{Error, Warning}
use Rattle.tera_editor.specs.declared.unread.Reason.{Reason}
use Rattle.tera_editor.specs.declared.unread.UnreadFiles.{UnreadFiles}

-- the number of a severity in the protocol
abbrev pub severity_number : Severity → ℕ
severity_number Error = 1
severity_number Warning = 2

-- the line that is wrong, if the file was read; and the message
pub record ReasonVal : Type 0 where
  pub line : Option ℕ
  pub message : List ℕ

abbrev pub reason_view : Reason → ReasonVal
reason_view r = record { line = r.line; message = string_bytes r.message }

abbrev pub unread : List ℕ → ReasonVal
unread why = record { line = None; message = why }

abbrev pub is_same : ReasonVal → ReasonVal → Bool
is_same a b = option_eq nat_eq a.line b.line && bytes_eq a.message b.message

-- why the file of a name cannot be read, or what is wrong in it
abbrev pub why_of : UnreadFiles → List ℕ → Option ReasonVal
why_of u n = option_map reason_view (get_by_text u.why n)

-- this is the reason for the file of this name, or there is none; and nothing else changes
abbrev pub IsWhyAt : List ℕ → Option ReasonVal → UnreadFiles → UnreadFiles → Type 0
IsWhyAt name why old now = (n : List ℕ) → why_of now n ≡ cond (bytes_eq name n) why (why_of old n)
