use Rattle.tera_c.specs.Asked.{limits_at, IsReadable}
use Rattle.tera_c.proofs.WithoutTree.{refuses_asked}
use Rattle.tera_c.proofs.parsed.parsed.Goals as goal

pub returns-in-Ok-markers_at-clause-err : goal.returns-in-Ok-markers_at-clause-err
returns-in-Ok-markers_at-clause-err c =
    let text = c.in-Ok.ensures.cases in
    let marks = c.in-Ok-markers_at.ensures.ok in
    let limits = c.limits_from-limits.ensures in
    let readable : IsReadable (limits_at c.args.limits.now) c.args.markers.now c.args.source.now = record {
      room = rw limits at (rw c.if-not-valid.false at c.valid.ensures);
      marks = marks.1;
      text = text.1;
    } in
    refuses_asked _ _ _ c.parsed_text.result readable (rw (limits, marks.0, text.0) at c.parsed_text.ensures.err)
