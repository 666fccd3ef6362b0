use Rattle.std.proofs.Common.{◌≡◌, drop, map}
use Rattle.tera_workspace.specs.Definitions.{text_view}
use Rattle.tera_answers.specs.References.{looked_for_by}
use Rattle.tera_answers.proofs.ReferenceLemmas.{AreListed}
use Rattle.tera_answers.proofs.references.put_references.Given as goal

abbrev pub invariant-loop-text : goal.invariant-loop-text
invariant-loop-text l = record {
  listed : AreListed (looked_for_by l.search) (map text_view l.texts) (map text_view (drop l.text-index l.texts)) l.initial.out.tokens l.out.tokens;
  before : l.out.before ≡ l.initial.out.before;
}
