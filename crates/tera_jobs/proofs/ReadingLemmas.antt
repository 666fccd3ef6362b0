-- A template that was read.
use Rattle.std.proofs.Common.{◌≡◌, ℕ, List, Result, Ok, Err, IfOk, IfErr, IfSome, string_bytes}
use Rattle.std.specs.declared.alloc.AllocError.{AllocError}
use Rattle.tera_templates.specs.Templates.{HasHidden}
use Rattle.tera_templates.specs.Ignores.{AreIgnoresIn}
use Rattle.tera_templates.specs.Mended.{IsMended}
use Rattle.tera_templates.specs.declared.templates.Template.{Template}
use Rattle.tera_grammar.specs.Limits.{usual}
use Rattle.tera_grammar.specs.statements.Top.{Derives}
use Rattle.tera_lexer.specs.grammar.Marks.{Marks}
use Rattle.tera_parser.specs.Refusal.{LosesSource, Refuses}
use Rattle.tera_tree.specs.Outputs.{output_view}
use Rattle.tera_jobs.specs.Sources.{IsReadFrom}

pub is_read : (m : Marks) (file source : List ℕ) (faults : ℕ) (r : Result Template AllocError) → IfOk r (λ t. string_bytes t.file ≡ file)
    → IfOk r (λ t. IfOk t.parsed (λ o. Derives usual m source (output_view o))) → IfOk r (λ t. IfErr t.parsed (Refuses m source)) → IfOk r (λ t. IfErr t.parsed (LosesSource usual m source))
    → IfOk r (λ t. IfSome t.mended (IsMended file source faults)) → IfOk r (AreIgnoresIn m source) → IfOk r HasHidden → IfOk r (IsReadFrom m file source faults)
is_read m file source faults (Ok t) named read refused lost mended ignores hidden =
    record { named = named; read = read; refused = refused; lost = lost; mended = mended; ignores = ignores; hidden = hidden }
is_read m file source faults (Err e) named read refused lost mended ignores hidden = tt
