-- Functions that answer the same.
use Rattle.std.proofs.Common.{◌≡◌}

pub same_answers : {X Y : Type 0} (one other : X → Y) → ((x : X) → one x ≡ other x) → one ≡ other
same_answers one other same = λ i x. same x i
