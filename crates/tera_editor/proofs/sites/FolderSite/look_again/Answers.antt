use Rattle.std.proofs.Common.{◌∙◌, ap, rules}
use Rattle.std.specs.BTreeMap.{get_by_text}
use Rattle.std.specs.Option.{option_map}
use Rattle.std.proofs.lemmas.Map.Made.{filter_same_pairs, map_same_pairs}
use Rattle.tera_workspace.specs.Names.{is_among}
use Rattle.tera_editor.specs.Sites.{asked_if, is_entry_due}
use Rattle.tera_editor.proofs.SiteLemmas.{asked_at, asked_given, asked_if_there, each_by}
use Rattle.tera_editor.proofs.sites.FolderSite.look_again.Goals as goal

pub returns-clause-due : goal.returns-clause-due
returns-clause-due c =
    asked_at c.args.self.now c.retain.new.self c.ask_each.new.presences c.retain-2.new.self c.retain-2.ensures.was_ordered
    (each_by c.args.self.now.presences c.retain.new.self asked_if_there (map_same_pairs _ asked_if_there _ (λ k v b w f' t. search rules) _ _ c.retain.ensures.filtered))
    (λ q. c.ask_each.ensures q ∙ ap (λ ns. option_map (asked_if (is_among q ns)) (get_by_text c.retain.new.self q)) c.lacking.ensures)
    (filter_same_pairs _ is_entry_due _ (λ k v b w f' t. search rules) _ _ c.retain-2.ensures.filtered)

pub returns-clause-given : goal.returns-clause-given
returns-clause-given c =
    asked_given c.args.self.now c.retain-2.new.self c.retain.ensures.was_ordered c.retain-2.ensures.ordered (returns-clause-due c)
