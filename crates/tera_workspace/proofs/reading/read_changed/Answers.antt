use Rattle.std.proofs.Common.{◌≡◌, ◌∙◌, ◌<◌, [], length, map, string_bytes, unwrap_or, refl, ap, subst, arith}
use Rattle.text_edits.specs.Documents.{text_of}
use Rattle.text_edits.specs.Stored.{document_of}
use Rattle.tera_workspace.specs.Kept.{sources_of, IsTextAt}
use Rattle.tera_workspace.specs.Names.{is_among}
use Rattle.tera_workspace.specs.Sources.{text_named}
use Rattle.tera_workspace.proofs.ReadingLemmas.{stay_after}
use Rattle.tera_workspace.proofs.ReadSoFar.{none_read, one_read, all_read, text_or_none}
use Rattle.tera_workspace.proofs.reading.read_changed.Goals as goal

pub loop-name-init : goal.loop-name-init
loop-name-init c = none_read c.args.documents.now (map string_bytes c.deref-name-items.result.now) c.args.all.now.items

pub loop-name-preserved : goal.loop-name-preserved
loop-name-preserved c =
    let documents = c.args.documents.now in
    let s = c.name-item.result in
    let within : c.loop-name.name-index < length c.deref-name-items.result.now = omega arith in
    let has : c.unwrap_or-text.result.now ≡ unwrap_or (text_of (document_of documents (string_bytes s))) [] =
    text_or_none c.text.result c.unwrap_or-text.result _ (text_of (document_of documents c.as_str.result.now)) c.unwrap_or-text.ensures refl c.text.ensures
    ∙ ap (λ n. unwrap_or (text_of (document_of documents n)) []) c.as_str.ensures.value in
    let at : IsTextAt (string_bytes s) c.unwrap_or-text.result.now c.loop-name.all.items c.put.new.all.items =
    subst (λ n. IsTextAt n c.unwrap_or-text.result.now c.loop-name.all.items c.put.new.all.items) c.as_str-in-loop-name.ensures.value c.in_ok-put.ensures.read in
    one_read documents c.deref-name-items.result.now c.loop-name.name-index s c.unwrap_or-text.result.now c.args.all.now.items c.loop-name.all.items c.put.new.all.items
    within c.name-item.is has c.put.ensures.kept at c.loop-name.invariant

pub returns-in_err-put-clause-kept : goal.returns-in_err-put-clause-kept
returns-in_err-put-clause-kept c = stay_after c.args.all.now.items c.loop-name.all.items c.put.new.all.items c.loop-name.invariant.kept c.put.ensures.kept

pub returns-in_err-put-clause-texts : goal.returns-in_err-put-clause-texts
returns-in_err-put-clause-texts c = λ n free.
    ap (λ js. text_named n (sources_of js)) c.in_err-put.ensures.err
    ∙ c.loop-name.invariant.others n (ap (λ names. is_among n (map string_bytes names)) c.deref-name-items.ensures.value ∙ free)

pub returns : goal.returns
returns c = record {
  kept = c.loop-name.invariant.kept;
  texts = λ n free. c.loop-name.invariant.others n (ap (λ names. is_among n (map string_bytes names)) c.deref-name-items.ensures.value ∙ free);
  read = λ n among.
      all_read c.args.documents.now c.deref-name-items.result.now c.loop-name.name-index c.args.all.now.items c.loop-name.all.items (omega arith) c.loop-name.invariant n
      (ap (λ names. is_among n (map string_bytes names)) c.deref-name-items.ensures.value ∙ among);
}
