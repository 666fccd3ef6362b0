use Rattle.std.proofs.Common.{◌∙◌, ap, arith, sym, reverse}
use Rattle.std.specs.Prelude.{flat_map}
use Rattle.text_edits.specs.Edits.{after, change_view}
use Rattle.text_edits.specs.Runs.{piece_text, run_text}
use Rattle.text_edits.proofs.Kept.{part_kept}
use Rattle.text_edits.proofs.runs.Run.goes_on.Goals as goal

pub returns-clause-text : goal.returns-clause-text
returns-clause-text c =
    let run = c.args.self.now in
    let (from, to) = c.bytes-from.result in
    let tail = flat_map piece_text (reverse run.pieces.items) in
    c.in_ok-put.ensures.text
    ∙ part_kept run.encoding run.text.now tail c.in-Part.new.now run.kept from to c.in-Part.start c.in-Part.end c.requires.kept.0 c.bytes-from.ensures.from c.bytes-from.ensures.to (omega arith)
    ∙ ap (λ change. after run.encoding (run_text run) (change_view change)) (sym c.in-Part.is)
