-- From the fields of a `Parser` to what it is given.
use Rattle.tera_lexer.specs.grammar.Marks.{marks_of, IsValid}
use Rattle.tera_expr_parts.specs.Allowed.{AreValid, limits_of}
use Rattle.tera_parser.specs.Job.{Job}
use Rattle.tera_parser.specs.declared.parsing.Parser.TheInside.{Inside}

abbrev pub job_of : Inside → Job
job_of p = record {
  filename = p.filename.now;
  source = p.source.now;
  marks = marks_of p.delimiters;
  limits = limits_of p.limits;
}

-- a source can be divided with the markers, and read within the limits
abbrev pub IsReadable : Inside → Type 0
IsReadable p = IsValid (marks_of p.delimiters) × AreValid (limits_of p.limits)
