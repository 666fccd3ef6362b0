use Rattle.std.proofs.Common.{◌≡◌, ◌++◌, drop, map}
use Rattle.std.specs.List.{flat_map}
use Rattle.tera_outline.specs.Names.{name_view}
use Rattle.tera_workspace.specs.Definitions.{text_view}
use Rattle.tera_answers.specs.References.{looked_for_by, reference_tokens}
use Rattle.tera_answers.proofs.references.put_names.Given as goal

abbrev pub invariant-loop-name : goal.invariant-loop-name
invariant-loop-name l = record {
  tokens : l.initial.out.tokens ++ flat_map (reference_tokens (looked_for_by l.search) (text_view l.text)) (map name_view l.names) ≡ l.out.tokens ++ flat_map (reference_tokens (looked_for_by l.search) (text_view l.text)) (map name_view (drop l.name-index l.names));
  before : l.out.before ≡ l.initial.out.before;
}
