use Rattle.std.proofs.Common.{List, ℕ, ◌++◌, ap, map}
use Rattle.std.proofs.lemmas.Str.{IsCharBoundary-start}
use Rattle.tera_fixes.specs.Edited.{edit_view, edited}
use Rattle.tera_fixes.proofs.edits.with_edits.Goals as goal

pub loop-edit-init : goal.loop-edit-init
loop-edit-init c = (
  IsCharBoundary-start c.args.text.now c.utf8.text,
  ap (λ (bytes : List ℕ). bytes ++ edited c.args.text.now 0 (map edit_view c.deref-edit-items.result.now)) c.in_ok-whole.ensures.bytes,
)
