-- What is kept of a site.
use Rattle.std.specs.Prelude.{ℕ, List, []}
use Rattle.tera_site.specs.Kept.{KeptVal}

-- of a document: its file, and what is around its template
pub record AroundFile : Type 0 where
  pub file : List ℕ
  pub around : KeptVal

-- its root, the names of the templates in it that were not read, the names that its templates use and that no template has,
-- and what is kept of its documents
pub record KeptSiteVal : Type 0 where
  pub root : List ℕ
  pub others : List (List ℕ)
  pub lacking : List (List ℕ)
  pub documents : List AroundFile

-- none of its documents was looked at
abbrev pub no_site : List ℕ → List (List ℕ) → KeptSiteVal
no_site root others = record { root = root; others = others; lacking = []; documents = [] }
