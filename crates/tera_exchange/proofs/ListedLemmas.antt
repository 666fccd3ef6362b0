-- Files that paths mean, of which some are left out.
use Rattle.std.proofs.Common.{List, ℕ, Option, Result, Ok, Err, String, IfOk, map, string_bytes}
use Rattle.std.specs.BTreeSet.{BTreeSet}
use Rattle.std.specs.declared.alloc.Global.{Global}
use Rattle.std.proofs.lemmas.List.Elements.{All-contains_itself}
use Rattle.tera_files.specs.Finding.{IsFound}
use Rattle.tera_files.specs.declared.finding.Found.{Found}
use Rattle.tera_program_parts.specs.Excluded.{AreKept, IsExcluded, Names}
use Rattle.tera_program_parts.proofs.KeptLemmas.{among}
use Rattle.tera_exchange.specs.Serving.{AreListed}

-- what paths mean, without some of it
pub listed_but : {E : Type 0} (knows : List ℕ → Option (List ℕ) → Type 0) (excluded : BTreeSet Names) (r : Result Found E) (extensions paths : List (List ℕ)) (found : Found) →
    IsFound extensions paths found → IfOk r (AreKept knows excluded found) → IfOk r (λ (kept : Found). AreListed extensions paths (map string_bytes kept.files.items))
listed_but knows excluded (Ok kept) extensions paths found is left =
    let out = λ (file : String Global). IsExcluded knows excluded (string_bytes file) in
    (map string_bytes found.files.items, is.in_order, among string_bytes out found.files.items kept.files.items left.files)
listed_but knows excluded (Err e) extensions paths found is left = tt

-- .. all of it
pub listed_all : (extensions paths : List (List ℕ)) (found : Found) → IsFound extensions paths found → AreListed extensions paths (map string_bytes found.files.items)
listed_all extensions paths found is = (map string_bytes found.files.items, is.in_order, All-contains_itself (map string_bytes found.files.items))
