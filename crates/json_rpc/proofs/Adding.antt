-- Bytes that are added one after the other.
use Rattle.std.proofs.Common.{ℕ, ◌+◌, ◌≤◌, List, ◌++◌, Result, Ok, Err, Vec, append_assoc, ap, ◌∙◌, arith}
use Rattle.std.specs.declared.alloc.Global.{Global}
use Rattle.json_rpc.specs.Room.{Adds}

pub adds_within : {E : Type 0} {r : Result (Unit {0}) E} {old new : Vec ℕ Global} {xs : List ℕ} {m : ℕ} (n : ℕ) →
    Adds r old new xs m → m ≤ n → Adds r old new xs n
adds_within {r = Ok u} n a h = record { ok = a.ok; len = omega (arith, a.len, h); capacity = a.capacity; full = a.full }
adds_within {r = Err e} n a h = record { ok = a.ok; len = a.len; capacity = a.capacity; full = omega (arith, a.full, h) }

pub adds_more : {E : Type 0} {u : Unit {0}} {r : Result (Unit {0}) E} {old mid new : Vec ℕ Global} {xs ys : List ℕ} {m n : ℕ} →
    Adds {E = E} (Ok u) old mid xs m → Adds r mid new ys n → Adds r old new (xs ++ ys) (m + n)
adds_more {r = Ok u} {old = old} {xs = xs} {ys = ys} a b = record {
  ok = b.ok ∙ ap (λ l. l ++ ys) a.ok ∙ append_assoc old.items xs ys;
  len = omega (arith, a.len, b.len);
  capacity = omega (arith, a.capacity, b.capacity);
  full = b.full;
}
adds_more {r = Err e} a b = record {
  ok = b.ok;
  len = b.len;
  capacity = omega (arith, a.capacity, b.capacity);
  full = omega (arith, a.len, a.capacity, b.full);
}
