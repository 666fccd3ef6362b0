-- What holds of a tree, where there is one.
use Rattle.std.proofs.Common.{Option, None, Some, IfSome, MatchOption}

-- what holds of what there is in one of two cases, with something less
pub if_any : {T : Type 0} (N : Type 0) (S P : T → Type 0) (o : Option T) → ((t : T) → S t → P t) → MatchOption o N S → IfSome o P
if_any N S P None less h = tt
if_any N S P (Some t) less h = less t h
