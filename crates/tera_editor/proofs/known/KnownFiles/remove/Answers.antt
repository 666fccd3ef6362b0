use Rattle.std.proofs.Common.{false}
use Rattle.std.proofs.lemmas.Map.Text.{btree_set_updates_text}
use Rattle.tera_editor.proofs.known.KnownFiles.remove.Goals as goal

pub returns : goal.returns
returns c = btree_set_updates_text c.args.name.now c.args.self.now.names c.remove.new.self false c.remove.ensures.updates
