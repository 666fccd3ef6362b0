use Rattle.std.proofs.Common.{◌∙◌, sym, arith}
use Rattle.tera_outline.proofs.OutlineSteps.{popped, others_around, closed_here, closed_before}
use Rattle.tera_outline.proofs.symbols.Outline.close.Goals as goal

pub returns-then-is_same-clause-closed : goal.returns-then-is_same-clause-closed
returns-then-is_same-clause-closed c =
    let pops = popped c.inner.self.symbols.len c.inner.self.open.items c.pop.new.self.items c.pop.result c.in-Some.inner c.pop.ensures.items c.in-Some.is c.inner.invariant.numbered in
    closed_here c.args.kind c.args.start c.args.end c.inner.self.symbols.items c.index_mut.result.now c.inner.self.open.items c.pop.new.self.items c.in-Some.inner _
    pops.0 (sym c.is_same.ensures ∙ c.if-is_same.true) (omega (arith, pops.2, c.inner.self.symbols.ok.0)) c.index_mut.ensures.value c.inner.invariant.unwound

pub returns-then-is_same-clause-others : goal.returns-then-is_same-clause-others
returns-then-is_same-clause-others c =
    let pops = popped c.inner.self.symbols.len c.inner.self.open.items c.pop.new.self.items c.pop.result c.in-Some.inner c.pop.ensures.items c.in-Some.is c.inner.invariant.numbered in
    others_around c.inner.self.open.items c.pop.new.self.items c.in-Some.inner pops.0 c.inner.invariant.others

pub inner-preserved : goal.inner-preserved
inner-preserved c =
    let pops = popped c.inner.self.symbols.len c.inner.self.open.items c.pop.new.self.items c.pop.result c.in-Some.inner c.pop.ensures.items c.in-Some.is c.inner.invariant.numbered in
    record {
      numbered = pops.1;
      others = others_around c.inner.self.open.items c.pop.new.self.items c.in-Some.inner pops.0 c.inner.invariant.others;
      unwound = closed_before c.args.kind c.args.start c.args.end c.inner.self.symbols.items c.index_mut-in-Some.result.now c.inner.self.open.items c.pop.new.self.items c.in-Some.inner _
          pops.0 (sym c.is_same.ensures ∙ c.if-is_same.false) (omega (arith, pops.2, c.inner.self.symbols.ok.0)) c.index_mut-in-Some.ensures.value c.inner.invariant.unwound;
    }
