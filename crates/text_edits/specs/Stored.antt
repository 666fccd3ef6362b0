-- The documents that are kept, by the names of their files.
use Rattle.std.specs.Prelude.{◌≡◌, ℕ, List, cond, string_bytes}
use Rattle.std.specs.BTreeMap.{get_by_text}
use Rattle.std.specs.Option.{option_map}
use Rattle.std.specs.Str.{bytes_eq}
use Rattle.text_edits.specs.Documents.{DocumentVal}
use Rattle.text_edits.specs.declared.documents.Documents.{Documents}

-- the document of a name
abbrev pub document_of : Documents → List ℕ → DocumentVal
document_of ds n = record {
  opened = option_map string_bytes (get_by_text ds.opened n);
  stored = option_map string_bytes (get_by_text ds.stored n);
}

-- the document of this name is another, by a function, and the others are what they were
abbrev pub IsChangedAt : List ℕ → (DocumentVal → DocumentVal) → Documents → Documents → Type 0
IsChangedAt name change old now =
    (n : List ℕ) → document_of now n ≡ cond (bytes_eq name n) (change (document_of old n)) (document_of old n)

-- all are what they were
abbrev pub AreSame : Documents → Documents → Type 0
AreSame old now = (n : List ℕ) → document_of now n ≡ document_of old n
