use Rattle.std.proofs.Common.{◌≡◌, ◌∙◌, min, drop, ap}
use Rattle.std.specs.List.{prefix_len}
use Rattle.tera_outline.specs.Runs.{is_black}
use Rattle.tera_outline.proofs.edits.word_len.Goals as goal

pub returns-clause-count : goal.returns-clause-count
returns-clause-count c =
    let old : c.split_at.result.1.now ≡ drop c.args.at.old c.args.old.now = c.split_at.ensures.back ∙ ap (drop c.args.at.old) c.as_bytes.ensures.value in
    let new : c.split_at-2.result.1.now ≡ drop c.args.at.new c.args.new.now = c.split_at-2.ensures.back ∙ ap (drop c.args.at.new) c.as_bytes-2.ensures.value in
    c.common_word_len.ensures.count ∙ λ i. min (prefix_len is_black (old i)) (prefix_len is_black (new i))
