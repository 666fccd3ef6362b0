use Rattle.std.proofs.Common.{◌≡◌, ◌∙◌, ◌+◌, ◌∷◌, ◌++◌, [], cond, drop, map, refl, sym, ap}
use Rattle.std.proofs.lemmas.List.{map-append, append-nil}
use Rattle.std.proofs.lemmas.List.Elements.{filter-append}
use Rattle.std.specs.Option.{is_some}
use Rattle.text_edits.specs.Documents.{text_of}
use Rattle.text_edits.specs.Stored.{document_of}
use Rattle.tera_workspace.specs.Components.{files_by}
use Rattle.tera_workspace.specs.Kept.{name_of}
use Rattle.tera_workspace.proofs.LeftLemmas.{left_next, left_last}
use Rattle.tera_workspace.proofs.WorkspaceLemmas.{is_there}
use Rattle.tera_workspace.proofs.workspace.Workspace.files.Goals as goal
use Rattle.tera_workspace.proofs.workspace.Workspace.files.Goals.{then-is_some+in_ok-push, else-is_some}

pub loop-judged-init : goal.loop-judged-init
loop-judged-init c = rw c.new-files.ensures.items refl

pub loop-judged-preserved : goal.loop-judged-preserved
loop-judged-preserved c =
    let ds = c.args.self.now.documents in
    let items = c.deref-judged-items.result.now in
    let i = c.loop-judged.judged-index in
    let j = c.judged-item.result in
    let done = map (λ f. f.now) c.loop-judged.files.items in
    let there : is_some (text_of (document_of ds (name_of j))) ≡ c.is_some.result =
    is_there ds (name_of j) c.as_str-file.result.now c.text.result c.is_some.result c.as_str-file.ensures.value c.text.ensures c.is_some.ensures in
    let put : map (λ f. f.now) c.if-is_some.files.items ≡ done ++ files_by ds (name_of j ∷ []) = elim c.if-is_some.branch [
      | then-is_some+in_ok-push w ↦
          ap (λ fs. map (λ f. f.now) fs.items) w.files-is ∙ ap (λ fs. map (λ f. f.now) fs) w.in_ok-push.ensures.items
          ∙ map-append (λ f. f.now) c.loop-judged.files.items (c.as_str-file.result ∷ [])
          ∙ ap (λ n. done ++ n ∷ []) c.as_str-file.ensures.value
          ∙ ap (λ b. done ++ cond b (name_of j ∷ []) []) (sym (there ∙ w.if-is_some.true))
      | else-is_some w ↦
          ap (λ fs. map (λ f. f.now) fs.items) w.files-is ∙ sym (append-nil done)
          ∙ ap (λ b. done ++ cond b (name_of j ∷ []) []) (sym (there ∙ w.if-is_some.false))
    ] in
    left_next (λ js. files_by ds (map name_of js)) (files_by ds (map name_of items)) done (map (λ f. f.now) c.if-is_some.files.items) (files_by ds (name_of j ∷ [])) items i j
    c.loop-judged-test.true c.judged-item.is
    (filter-append (λ f. is_some (text_of (document_of ds f))) (name_of j ∷ []) (map name_of (drop (i + 1) items)))
    put c.loop-judged.invariant

pub returns : goal.returns
returns c =
    let ds = c.args.self.now.documents in
    let items = c.deref-judged-items.result.now in
    left_last (λ js. files_by ds (map name_of js)) (files_by ds (map name_of items)) (map (λ f. f.now) c.loop-judged.files.items) items c.loop-judged.judged-index
    c.loop-judged-test.false refl c.loop-judged.invariant
    ∙ ap (λ js. files_by ds (map name_of js)) c.deref-judged-items.ensures.value
