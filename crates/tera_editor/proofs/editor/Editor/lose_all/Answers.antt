use Rattle.std.proofs.Common.{rules}
use Rattle.std.proofs.lemmas.Map.Made.{map_same_pairs}
use Rattle.tera_editor.specs.Editors.{seen_lost}
use Rattle.tera_editor.proofs.EditorLemmas.{all_lost}
use Rattle.tera_editor.proofs.editor.Editor.lose_all.Goals as goal

pub returns : goal.returns
returns c = all_lost c.args.self.now.seen c.retain.new.self (map_same_pairs _ seen_lost _ (λ k v b w f' t. search rules) _ _ c.retain.ensures.filtered)
