-- The names of new files that are to take the places of others.
use Rattle.std.specs.Prelude.{◌≡◌, ◌≤◌, ℕ, List, ◌++◌, Contains, codes, decimal, length}

-- `b'/'`
abbrev pub slash : ℕ
slash = 47

-- The front of a name, which leaves room for what comes after it.
pub record IsFront (name front : List ℕ) : Type 0 where
  pub rest : List ℕ
  pub whole : name ≡ front ++ rest
  pub room : length front ≤ 235

-- the name of this number, of a file whose name begins so
abbrev pub numbered : List ℕ → ℕ → List ℕ
numbered front number = front ++ (codes "." ++ (decimal number ++ codes ".tera-new"))

-- A path in the folder of the file at `path`: the front of its name, with a number after it.
pub record IsBeside (path : List ℕ) (number : ℕ) (beside : List ℕ) : Type 0 where
  pub folder : List ℕ
  pub name : List ℕ
  pub front : List ℕ
  pub whole : path ≡ folder ++ name
  pub last : ¬ (Contains name slash)
  pub is_front : IsFront name front
  pub named : beside ≡ folder ++ numbered front number
