-- Documents that are marked, one by one.
use Rattle.std.proofs.Common.{◌≡◌, ◌∙◌, ◌<◌, ◌+◌, ℕ, List, ◌++◌, ◌||◌, length, take, drop, get_or, set, map, Bool, true, false, refl, sym, ap}
use Rattle.std.proofs.Common.{◌&&◌, not, if◌then◌else◌}
use Rattle.std.specs.List.{list_any}
use Rattle.std.proofs.lemmas.List.Edits.{map_over_more}
use Rattle.tera_workspace.specs.Kept.{is_reported_in, marked}
use Rattle.tera_workspace.specs.Names.{is_among}
use Rattle.tera_workspace.specs.declared.judged.Judged.{Judged}

-- one that is marked already stays so
again : (s x : Bool) → (if not s && x then true else s) ≡ (if x then true else s)
again true true = refl
again true false = refl
again false true = refl
again false false = refl

pub marked_next : (touched : List (List ℕ)) (file : List ℕ) (old items : List Judged) (i : ℕ) (j : Judged) → i < length old
    → items ≡ map (marked touched file) (take i old) ++ drop i old → j ≡ get_or items i j
    → (b : Bool) → (not j.stale && (list_any (λ n. is_among n j.names) touched || is_reported_in file j)) ≡ b
    → set items i (record j { stale = if b then true else j.stale }) ≡ map (marked touched file) (take (i + 1) old) ++ drop (i + 1) old
marked_next touched file old items i j within before is b e =
    let touches : Bool = list_any (λ n. is_among n j.names) touched || is_reported_in file j in
    ap (λ (x : Bool). set items i (record j { stale = if x then true else j.stale })) (sym e)
    ∙ ap (λ (s : Bool). set items i (record j { stale = s })) (again j.stale touches) ∙ map_over_more (marked touched file) old items i j within before is
