use Rattle.tera_outline.specs.Opened.{state_of}
use Rattle.tera_outline.proofs.OutlineSteps.{numbered_state, mark_taken, all_taken}
use Rattle.tera_outline.proofs.symbols.symbols_in.Goals as goal

pub tags-preserved-in_ok-take : goal.tags-preserved-in_ok-take
tags-preserved-in_ok-take c = record {
  numbered = c.in_ok-take.ensures.numbered;
  others = c.in_ok-take.ensures.others;
  settles = mark_taken c.args.last c.tags.rest.now c.mark_of.result c.in-Some.mark (state_of c.tags.outline) (state_of c.take.new.self) _ c.in-len1-up.len_at_least
      c.mark_of.ensures c.in-Some.is (numbered_state c.tags.outline c.tags.invariant.numbered) c.in_ok-take.ensures.took c.tags.invariant.settles;
}

pub returns : goal.returns
returns c = all_taken c.args.last (state_of c.tags.outline) c.tags.rest.now _ _ c.in_default.len_below c.tags.invariant.settles c.end_all.ensures
