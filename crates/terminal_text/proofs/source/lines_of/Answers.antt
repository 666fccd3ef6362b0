use Rattle.std.proofs.Common.{map, List, ℕ, sym, ap, ◌∙◌, arith}
use Rattle.std.specs.Str.Iter.{split_text, split_has_more, split_pattern}
use Rattle.std.specs.Str.Lines.{strip_carriage_return}
use Rattle.std.proofs.lemmas.Iterator.Consumers.{YieldsList-end}
use Rattle.std.proofs.lemmas.Iterator.Splits.{YieldsList-from_str_split}
use Rattle.std.proofs.lemmas.Simd.{map-map}
use denote.Ref.{Bor}
use Rattle.terminal_text.proofs.source.lines_of.Goals as goal

pub returns : goal.returns
returns c =
    let made = c.split-piece-items.ensures in
    let gives = c.into_iter-piece-iterator.ensures.into_iter_gives in
    let source = c.args.source.now in
    let pieces = YieldsList-from_str_split 10 source (omega arith) (ap split_text gives ∙ made.text) (ap split_has_more gives ∙ made.has_more) (ap split_pattern gives ∙ made.pattern) in
    let all = YieldsList-end pieces c.loop-piece.yielded _ c.loop-piece.yielded_by _ _ c.in-None.is c.next.ensures.steps in
    c.loop-piece.invariant ∙ sym (map-map strip_carriage_return (λ (p : Bor (List ℕ)). p.now) c.loop-piece.yielded) ∙ ap (map strip_carriage_return) all.0
