use Rattle.std.proofs.lemmas.Map.Text.{btree_map_updates_str}
use Rattle.terminal_text.proofs.source.Sources.add.Goals as goal

pub returns : goal.returns
returns c = λ other.
    btree_map_updates_str c.args.file.now c.args.self.now.texts c.insert.new.self _ c.in_ok-insert.ensures.updates other
