use Rattle.std.proofs.Common.{◌≡◌, vec_len}
use Rattle.tera_outline.specs.Opened.{state_of, unwound, AreNumbered, KnowsOthers}
use Rattle.tera_outline.proofs.symbols.Outline.close.Given as goal

abbrev pub invariant-inner : goal.invariant-inner
invariant-inner l = record {
  numbered : AreNumbered l.self;
  others : KnowsOthers l.self;
  unwound : unwound l.kind l.start l.end (state_of l.self) ≡ unwound l.kind l.start l.end (state_of l.initial.self);
}

abbrev pub decreases-inner : goal.decreases-inner
decreases-inner l = vec_len l.self.open
