use Rattle.std.proofs.Common.{◌≤◌, length, take, drop, arith}
use Rattle.std.proofs.lemmas.List.{take_rest, length-drop}
use Rattle.std.specs.Io.KnownBytes.{Appends}
use Rattle.tera_show.proofs.Known.{appends_more, take_on}
use Rattle.tera_show.proofs.writing.write_all.Goals as goal

pub loop-done-preserved : goal.loop-done-preserved
loop-done-preserved g c =
    let fits : c.in-Ok.n ≤ length (drop c.loop-done.done c.args.text.now) = rw take_rest at c.in-Ok.ensures.bound in
    let wrote : Appends (g.W.Write.contents c.loop-done.writer) (g.W.Write.contents c.write.new.self) (take c.in-Ok.n (drop c.loop-done.done c.args.text.now)) = rw take_rest at c.in-Ok.ensures.bytes in
    record {
      within = omega (arith, length-drop c.loop-done.done c.args.text.now);
      written = appends_more _ _ _ _ _ _ c.loop-done.invariant.written wrote (take_on c.args.text.now c.loop-done.done c.in-Ok.n c.loop-done.invariant.within fits);
    }
