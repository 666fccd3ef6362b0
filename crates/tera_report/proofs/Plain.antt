-- A finding without colours and sources.
use Rattle.std.proofs.Common.{◌≡◌, ℕ, List, [], ◌∷◌, ◌++◌, codes, decimal, Option, None, refl, ap, ◌∙◌, append_assoc, append-nil}
use Rattle.std.specs.List.{flat_map}
use Rattle.line_text.specs.Line.{on_one_line}
use Rattle.tera_base.specs.declared.utils.Span.{Span}
use Rattle.tera_findings.specs.Findings.{NoteVal, NoteOf, FindingVal, FoundAs, place_of}
use Rattle.tera_report.specs.FullTexts.{word_of, message, message_line, note_text, full_text, line_of, note_line, lines_of}
use Rattle.tera_report.specs.declared.role.Role.{Role}
use Rattle.tera_report.specs.declared.role.Role.TheVariants.{Finding, Note}
use Rattle.terminal_text.specs.declared.style.Style.TheVariants.{Plain}

regroup : (f l c w t : List ℕ)
    → (f ++ (codes ":" ++ (l ++ (codes ":" ++ (c ++ codes ":"))))) ++ (codes " " ++ (w ++ (codes ": " ++ (t ++ 10 ∷ []))))
    ≡ f ++ ((codes ":" ++ (l ++ (codes ":" ++ (c ++ (codes ": " ++ (w ++ codes ": ")))))) ++ (t ++ 10 ∷ []))
regroup f l c w t = simp append_assoc

plain_message : (role : Role) (file : List ℕ) (span : Span) (text : List ℕ)
    → message Plain (λ _. None) role file span text ≡ line_of file (place_of span) (word_of role) text
plain_message role file span text =
    append-nil (message_line Plain role file span text)
    ∙ regroup (on_one_line file) (decimal (place_of span).line) (decimal (place_of span).column) (word_of role) (on_one_line text)

plain_notes : (notes : List NoteVal) → flat_map (note_text Plain (λ _. None)) notes ≡ flat_map note_line notes
plain_notes [] = refl
plain_notes (NoteOf file span text ∷ notes) = λ i. plain_message Note file span text i ++ plain_notes notes i

pub plain_is : (file : List ℕ) (finding : FindingVal) → full_text Plain (λ _. None) file finding ≡ lines_of file finding
unfolding full_text
plain_is file (FoundAs kind severity span text notes) =
    λ i. plain_message (Finding kind severity) file span text i ++ plain_notes notes i

pub plain_without : (known : List ℕ → Option (List ℕ)) (file : List ℕ) (finding : FindingVal)
    → ((other : List ℕ) → known other ≡ None) → full_text Plain known file finding ≡ lines_of file finding
plain_without known file finding none = ap (λ k. full_text Plain k file finding) (λ i other. none other i) ∙ plain_is file finding
