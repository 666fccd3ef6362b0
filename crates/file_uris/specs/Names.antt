-- The names of documents: the paths of files, and of what is not a file the URI itself.
use Rattle.std.specs.Prelude.{◌≡◌, ◌⊎◌, ◌++◌, ◌==◌, if◌then◌else◌, ℕ, Bool, true, false, List, [], ◌∷◌, codes}
use Rattle.std.specs.Str.{IsUtf8}
use Rattle.file_uris.specs.Decoding.{decoded, single_slashed}
use Rattle.file_uris.specs.Encoding.{encoded_path}

-- how the URI of a file begins
abbrev pub scheme : List ℕ
scheme = codes "file://"

-- a path that begins at the root
abbrev pub is_rooted : List ℕ → Bool
is_rooted [] = false
is_rooted (b ∷ bs) = b == 47

-- the URI of a name
abbrev pub uri_of : List ℕ → List ℕ
uri_of name = if is_rooted name then scheme ++ encoded_path name else name

-- the host of a file here: none, or the one that stands for it
abbrev pub IsHere : List ℕ → Type 0
IsHere host = (host ≡ []) ⊎ (host ≡ codes "localhost")

-- the URI is that of a file, whose path is this text
pub record IsOfFile (uri path : List ℕ) : Type 0 where
  pub host : List ℕ
  pub rest : List ℕ
  pub file : uri ≡ scheme ++ (host ++ rest)
  pub here : IsHere host
  pub path_is : path ≡ single_slashed (decoded rest)
  pub rooted : is_rooted (decoded rest) ≡ true
  pub text : IsUtf8 path

-- the name that a URI gives: the path of a file, and else the URI
abbrev pub IsNameOf : List ℕ → List ℕ → Type 0
IsNameOf uri name = IsOfFile uri name ⊎ ((name ≡ uri) × ((path : List ℕ) → ¬ (IsOfFile uri path)))
