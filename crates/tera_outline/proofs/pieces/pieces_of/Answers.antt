use Rattle.std.proofs.Common.{◌≡◌, ◌+◌, ◌-◌, suc, false, map, subst, arith}
use Rattle.std.specs.Prelude.{IfSome}
use Rattle.std.specs.Str.{IsCharBoundary}
use Rattle.std.proofs.lemmas.Str.{IsCharBoundary-start}
use Rattle.tera_outline.specs.Pieces.{part_of}
use Rattle.tera_outline.proofs.Readings.{moved_by_none, passed, ended, exhausted}
use Rattle.tera_outline.proofs.pieces.pieces_of.Goals as goal

pub readings-init : goal.readings-init
readings-init c = record {
  cut = IsCharBoundary-start c.args.text.now c.utf8.text;
  read = λ rest are. rw (c.new-pieces.ensures.items, moved_by_none rest) are;
}

pub returns-in-None : goal.returns-in-None
returns-in-None c =
    let at = c.readings in
    let fewer : 100 - at._reading ≡ suc (100 - (at._reading + 1)) = omega (arith, c.readings-test.true) in
    ended 100 (100 - at._reading) (100 - (at._reading + 1)) at.from false at.again c.args.text.now (map part_of at.pieces.items) (map part_of c.push_reading.new.pieces.items) c.in_ok-next.field-0 fewer c.in-None.is
    c.in_ok-next.ensures.read at.invariant.read

pub readings-preserved : goal.readings-preserved
readings-preserved c =
    let at = c.readings in
    let next = c.in-Some.next in
    let fewer : 100 - at._reading ≡ suc (100 - (at._reading + 1)) = omega (arith, c.readings-test.true) in
    record {
      cut = subst (λ o. IfSome o (IsCharBoundary c.args.text.now)) c.in-Some.is c.in_ok-next.ensures.cut;
      read = passed 100 (100 - at._reading) (100 - (at._reading + 1)) at.from next false at.again c.args.text.now (map part_of at.pieces.items) (map part_of c.push_reading.new.pieces.items) c.in_ok-next.field-0 fewer c.in-Some.is
          c.in_ok-next.ensures.read at.invariant.read;
    }

pub returns : goal.returns
returns c =
    let at = c.readings in
    exhausted 100 (100 - at._reading) at.from false at.again c.args.text.now (map part_of at.pieces.items) (omega (arith, c.readings-test.false)) at.invariant.read
