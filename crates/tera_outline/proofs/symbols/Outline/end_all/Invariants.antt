use Rattle.std.proofs.Common.{◌≡◌, vec_len}
use Rattle.tera_outline.specs.Opened.{state_of, all_ended, AreNumbered}
use Rattle.tera_outline.proofs.symbols.Outline.end_all.Given as goal

abbrev pub invariant-left : goal.invariant-left
invariant-left l = record {
  numbered : AreNumbered l.self;
  ended : all_ended l.last (state_of l.self) ≡ all_ended l.last (state_of l.initial.self);
}

abbrev pub decreases-left : goal.decreases-left
decreases-left l = vec_len l.self.open
