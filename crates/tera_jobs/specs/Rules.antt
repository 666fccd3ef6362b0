-- The rules of findings, as they are explained.
use Rattle.std.specs.Prelude.{ℕ, List, ◌++◌, codes}
use Rattle.tera_findings.specs.Findings.{kind_name, severity_name, severity_of}
use Rattle.tera_findings.specs.declared.finding.Kind.{Kind}

-- the line above the section of a rule: its name and its severity
abbrev pub heading : Kind → List ℕ
heading kind = kind_name kind ++ (codes ": " ++ (severity_name (severity_of kind) ++ codes "\n"))
