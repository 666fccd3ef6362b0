-- The components of templates, one by one, and their order.
use Rattle.std.proofs.Common.{◌≡◌, ◌∙◌, ◌<◌, ◌+◌, ℕ, suc, List, [], ◌∷◌, ◌++◌, length, drop, get_or, map, Bool, sym, ap, arith, drop-cons, append_assoc}
use Rattle.std.specs.Cmp.{IsTotalOrder, IsStrictWeakOrder}
use Rattle.std.specs.List.Sorted.{IsSortedBy}
use Rattle.std.specs.Ordering.{is_lt}
use Rattle.std.proofs.lemmas.Cmp.{nat_cmp_total, nat_list_cmp_total, on_total, then_total}
use Rattle.std.proofs.lemmas.List.{get_or-map, length-map, map-append}
use Rattle.std.proofs.lemmas.List.Sorted.{ranks_by}
use Rattle.tera_rules.specs.Judged.{KnownVal}
use Rattle.tera_check.specs.Named.{defined_in, defined_by}
use Rattle.tera_templates.specs.declared.templates.Template.{Template}
use Rattle.tera_catalogue.specs.Listed.{Rank, rank_cmp}

-- one more of a list, of which the rest is to come
drop_next : {X : Type 0} (xs : List X) (i : ℕ) (x : X) → i < length xs → x ≡ get_or xs i x → drop i xs ≡ x ∷ drop (suc i) xs
drop_next xs i x h is = drop-cons xs i x h ∙ ap (λ y. y ∷ drop (suc i) xs) (sym is)

joined : (all before now one rest : List KnownVal) → all ≡ before ++ (one ++ rest) → now ≡ before ++ one → all ≡ now ++ rest
joined all before now one rest held step = held ∙ sym (append_assoc before one rest) ∙ ap (λ ks. ks ++ rest) (sym step)

-- templates
pub template_next : (ts : List Template) (i : ℕ) (t : Template) (before now all : List KnownVal) → i < length ts → t ≡ get_or ts i t
    → all ≡ before ++ defined_by i (drop i ts) → now ≡ before ++ defined_in i t → all ≡ now ++ defined_by (i + 1) (drop (i + 1) ts)
template_next ts i t before now all h is held step =
    let next : i + 1 ≡ suc i = omega arith in
    let here : all ≡ before ++ defined_by i (t ∷ drop (suc i) ts) = held ∙ ap (λ us. before ++ defined_by i us) (drop_next ts i t h is) in
    rw next (joined all before now (defined_in i t) (defined_by (suc i) (drop (suc i) ts)) here step)

-- what is reported for them
pub reported_next : {W X Y Z : Type 0} (h : X → Z) (f : W → X) (g : Y → Z) (xs : List W) (i : ℕ) (x : W) (before : List Y) (y : Y) (now : List Y) → i < length xs → x ≡ get_or xs i x
    → map h (map f xs) ≡ map g before ++ map h (map f (drop i xs)) → g y ≡ h (f x) → now ≡ before ++ y ∷ []
    → map h (map f xs) ≡ map g now ++ map h (map f (drop (i + 1) xs))
reported_next h f g xs i x before y now within is held same step =
    let next : i + 1 ≡ suc i = omega arith in
    let rest = map h (map f (drop (suc i) xs)) in
    rw next (held
    ∙ ap (λ ws. map g before ++ map h (map f ws)) (drop_next xs i x within is)
    ∙ ap (λ z. map g before ++ z ∷ rest) (sym same)
    ∙ sym (append_assoc (map g before) (g y ∷ []) rest)
    ∙ ap (λ zs. zs ++ rest) (sym (ap (map g) step ∙ map-append g before (y ∷ []))))

-- ---- the order

rank_total : IsTotalOrder rank_cmp
rank_total =
    then_total (then_total (then_total (on_total (λ (r : Rank). r.0) nat_list_cmp_total) (on_total (λ (r : Rank). r.1) nat_list_cmp_total)) (on_total (λ (r : Rank). r.2) nat_cmp_total))
    (on_total (λ (r : Rank). r.3) nat_cmp_total)

pub ranked : {X : Type 0} (rank : X → Rank) → IsStrictWeakOrder (λ x y. is_lt (rank_cmp (rank x) (rank y)))
ranked rank = ranks_by rank_total rank

-- what is in order by what it is seen as
pub sorted_map : {X Y : Type 0} (f : X → Y) (lt : Y → Y → Bool) (xs : List X) → IsSortedBy (λ x y. lt (f x) (f y)) xs → IsSortedBy lt (map f xs)
sorted_map f lt [] h = λ k d low high. absurd (omega arith)
sorted_map f lt (x ∷ xs) h = λ k d low high.
    let n : length (map f (x ∷ xs)) ≡ length (x ∷ xs) = length-map (x ∷ xs) f in
    let within : k + 1 < length (x ∷ xs) = omega (arith, n, high) in
    rw (get_or-map f (x ∷ xs) (k + 1) x d within, get_or-map f (x ∷ xs) k x d (omega (arith, within))) (h k x low within)
