use Rattle.std.proofs.Common.{◌≡◌, ◌+◌, ◌∷◌, ◌++◌, List, ℕ, drop, map, string_bytes, sym, ap, ◌∙◌, append_assoc, append-nil}
use Rattle.std.specs.List.{flat_map}
use Rattle.std.proofs.Math.ListN.{drop_of_length-le}
use Rattle.tera_findings.specs.Findings.{note_view}
use Rattle.tera_findings.specs.declared.finding.Note.{Note}
use Rattle.tera_report.specs.FullTexts.{note_text}
use Rattle.terminal_text.specs.Files.{source_of}
use Rattle.tera_report.proofs.Pieces.{next_is}
use Rattle.tera_report.proofs.full_text.push_notes.Goals as goal

pub loop-note-preserved : goal.loop-note-preserved
loop-note-preserved c =
    let held = c.loop-note.invariant in
    let items : List Note = c.deref-note-items.result.now in
    let note : Note = c.note-item.result in
    let known : source_of c.loop-note.sources ≡ source_of c.args.sources.now = λ i file. held.same file i in
    let report = note_text c.args.style (source_of c.args.sources.now) in
    let rest : List ℕ = flat_map report (map note_view (drop (c.loop-note.note-index + 1) items)) in
    let next : drop c.loop-note.note-index items ≡ note ∷ drop (c.loop-note.note-index + 1) items
    = next_is items c.loop-note.note-index note c.loop-note-test.true c.note-item.is in
    let written : string_bytes c.push_note.new.to ≡ string_bytes c.loop-note.to ++ report (note_view note)
    = c.in_ok-push_note.ensures.text ∙ ap (λ k. string_bytes c.loop-note.to ++ note_text c.args.style k (note_view note)) known in record {
      text = ap (λ l. l ++ rest) written ∙ append_assoc (string_bytes c.loop-note.to) (report (note_view note)) rest
          ∙ ap (λ (ns : List Note). string_bytes c.loop-note.to ++ flat_map report (map note_view ns)) (sym next) ∙ held.text;
      same = λ other. c.in_ok-push_note.ensures.same other ∙ held.same other;
    }

pub returns-clause-text : goal.returns-clause-text
returns-clause-text c =
    let items : List Note = c.deref-note-items.result.now in
    let report = note_text c.args.style (source_of c.args.sources.now) in
    sym (append-nil (string_bytes c.loop-note.to))
    ∙ ap (λ (ns : List Note). string_bytes c.loop-note.to ++ flat_map report (map note_view ns)) (sym (drop_of_length-le items c.loop-note-test.false))
    ∙ c.loop-note.invariant.text
    ∙ ap (λ (ns : List Note). string_bytes c.args.to.now ++ flat_map report (map note_view ns)) c.deref-note-items.ensures.value
