-- What the last call of a body promises, for what the body promises: `on_ok_weaker` with its last two arguments swapped.
use Rattle.std.proofs.Common.{Result, OnOk}
use Rattle.std.proofs.lemmas.Result.{on_ok_weaker}

pub and_so : {T E P Q : Type 0} (r : Result T E) → OnOk r P → (P → Q) → OnOk r Q
and_so r p f = on_ok_weaker r f p
