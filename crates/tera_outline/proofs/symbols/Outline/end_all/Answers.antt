use Rattle.std.proofs.Common.{arith}
use Rattle.tera_outline.proofs.OutlineSteps.{popped, ended_here}
use Rattle.tera_outline.proofs.symbols.Outline.end_all.Goals as goal

pub left-preserved : goal.left-preserved
left-preserved c =
    let pops = popped c.left.self.symbols.len c.left.self.open.items c.pop.new.self.items c.pop.result c.in-Some.left c.pop.ensures.items c.in-Some.is c.left.invariant.numbered in
    record {
      numbered = pops.1;
      ended = ended_here c.args.last c.left.self.symbols.items c.index_mut.result.now c.left.self.open.items c.pop.new.self.items c.in-Some.left _
          pops.0 (omega (arith, pops.2, c.left.self.symbols.ok.0)) c.index_mut.ensures.value c.left.invariant.ended;
    }
