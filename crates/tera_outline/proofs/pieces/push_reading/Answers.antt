use Rattle.std.proofs.Common.{◌+◌, map, option_map, sym, ap}
use Rattle.tera_outline.specs.Pieces.{part_of}
use Rattle.tera_outline.proofs.Readings.{reading_adds}
use Rattle.tera_outline.proofs.pieces.push_reading.Goals as goal

pub returns-in-Some-clause-read : goal.returns-in-Some-clause-read
returns-in-Some-clause-read c =
    let reading = c.in_ok-reading.reading in
    reading_adds c.args.again c.args.text.now c.split_at.result.1.now c.args.from c.unwrap_or.result (map part_of c.args.pieces.now.items) (map part_of reading.pieces.items) (map part_of c.push_before.new.pieces.items)
    reading.opened c.next_after-next.result _ c.split_at.ensures.back c.in_ok-reading.ensures c.next_after-next.ensures.next c.unwrap_or.ensures c.in_ok-push_before.ensures
    (ap (option_map (λ n. c.args.from + n)) (sym c.in-Some.is))

pub returns-in-None-clause-read : goal.returns-in-None-clause-read
returns-in-None-clause-read c =
    let reading = c.in_ok-reading.reading in
    reading_adds c.args.again c.args.text.now c.split_at.result.1.now c.args.from c.unwrap_or.result (map part_of c.args.pieces.now.items) (map part_of reading.pieces.items) (map part_of c.push_before.new.pieces.items)
    reading.opened c.next_after-next.result _ c.split_at.ensures.back c.in_ok-reading.ensures c.next_after-next.ensures.next c.unwrap_or.ensures c.in_ok-push_before.ensures
    (ap (option_map (λ n. c.args.from + n)) (sym c.in-None.is))
