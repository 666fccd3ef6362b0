use Rattle.std.proofs.Common.{◌≡◌, ◌++◌, drop}
use Rattle.json.specs.Tree.{items_tokens}
use Rattle.tera_tree_json.specs.Constants.{bytes_json}
use Rattle.tera_tree_json.proofs.constants.put_each_byte.Given as goal

abbrev pub invariant-loop-byte : goal.invariant-loop-byte
invariant-loop-byte l =
    (l.out.before ≡ l.initial.out.before)
    × (l.initial.out.tokens ++ items_tokens (bytes_json l.bytes) ≡ l.out.tokens ++ items_tokens (bytes_json (drop l.byte-index l.bytes)))
