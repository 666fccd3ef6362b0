-- A document that was read.
use Rattle.std.proofs.Common.{◌≡◌, ℕ, List, map, string_bytes, None, IfOk, IfErr, IfSome, MatchOption, MatchResult, [], true, sym, subst}
use Rattle.tera_grammar.specs.Limits.{usual}
use Rattle.tera_grammar.specs.statements.Places.{Places}
use Rattle.tera_grammar.specs.statements.Reading.Meeting.{group_all, nothing_grouped}
use Rattle.tera_grammar.specs.statements.Top.{Derives, DerivesNames}
use Rattle.tera_lexer.specs.grammar.Marks.{default_marks}
use Rattle.tera_parser.specs.Notes.{NotesName}
use Rattle.tera_parser.specs.Refusal.{LosesSource, Refuses}
use Rattle.tera_tags.specs.Known.{grouped_of}
use Rattle.tera_tree.specs.Outputs.{output_view}
use Rattle.tera_tree.specs.Tree.{Output}
use Rattle.tera_templates.specs.Templates.{HasHidden, tree_of}
use Rattle.tera_findings.specs.Faults.{IsSyntaxError}
use Rattle.tera_templates.specs.Ignores.{AreIgnoresIn}
use Rattle.tera_templates.specs.Mended.{IsMended, text_of}
use Rattle.tera_templates.specs.declared.templates.Template.{Template}
use Rattle.tera_site.specs.Kept.{kept_page}
use Rattle.tera_site.specs.Pages.{page_of}
use Rattle.tera_workspace.specs.Fresh.{IsRead, most_faults}
use Rattle.tera_workspace.specs.Kept.{reported_of, HasNames, IsNewlyRead}
use Rattle.tera_workspace.specs.Sources.{Source}
use Rattle.tera_workspace.specs.declared.judged.Judged.{Judged}

-- what `read_template` promises of the text and the name
pub is_read : (name text : List ℕ) (t : Template) → string_bytes t.file ≡ name
    → IfOk t.parsed (λ o. Derives usual default_marks text (output_view o))
    → ((output : Output) → Derives usual default_marks text output → MatchResult t.parsed (λ o. output_view o ≡ output) (λ _. ⊥))
    → IfErr t.parsed IsSyntaxError → IfErr t.parsed (Refuses default_marks text) → IfErr t.parsed (LosesSource usual default_marks text)
    → IfErr t.parsed (NotesName name)
    → IfOk t.parsed (λ _. t.mended ≡ None) → IfSome t.mended (IsMended name text most_faults)
    → MatchOption (tree_of t)
    ((t.defined_at.items ≡ []) × (grouped_of t.parameters_at ≡ nothing_grouped))
    (λ o. (names : Places) × DerivesNames usual default_marks (text_of text t) (output_view o) names × (t.defined_at.items ≡ map (λ n. n.span) names.components)
    × (grouped_of t.parameters_at ≡ group_all names.parameters nothing_grouped))
    → AreIgnoresIn default_marks text t
    → HasHidden t
    → IsRead (record { name = name; text = text }) t
is_read name text t file sound complete fault refusal lost notes unmended mended places ignores hidden =
    record { file = file; sound = sound; complete = complete; fault = fault; refusal = refusal; lost = lost; notes = notes; unmended = unmended; mended = mended; places = places; ignores = ignores; hidden = hidden }

pub is_newly_read : (name text : List ℕ) (j : Judged) → j.text ≡ text → IsRead (record { name = name; text = text }) j.template
    → HasNames j.names j.template → kept_page j.page ≡ page_of j.template → j.stale ≡ true → reported_of j ≡ [] → IsNewlyRead name text j
is_newly_read name text j same read names page stale unreported =
    record {
      named = read.file;
      texted = same;
      whole =
          let s : Source = record { name = string_bytes j.template.file; text = j.text } in
          let is : record { name = name; text = text } ≡ s = λ i. record { name = sym read.file i; text = sym same i } in
          record {
            read = subst (λ (x : Source). IsRead x j.template) is read;
            names = names;
            page = page;
          };
      stale = stale;
      unreported = unreported;
    }
