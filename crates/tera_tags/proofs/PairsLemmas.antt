-- Putting pairs among others, by their names.
use Rattle.std.proofs.Common.{◌≡◌, ◌⊎◌, inl, inr, ℕ, List, [], ◌∷◌, length, map, Global, String, string_bytes, Ordering, Less, Equal, Greater, string_cmp, refl, ap, ◌∙◌, arith}
use Rattle.std.specs.BTreeMap.{insert_entry}
use Rattle.std.specs.FinMap.Entries.{by_order}
use Rattle.std.specs.List.{zip}
use Rattle.std.specs.Ordering.{match_ordering}
use Rattle.tera_base.specs.Values as values
use Rattle.tera_base.specs.Values.{Pairs, Val}
use Rattle.tera_base.specs.ValueView.{pairs_view}
use Rattle.tera_base.specs.declared.values.Key.{Key}
use Rattle.tera_base.specs.declared.values.Value.{Value}
use Rattle.tera_grammar.specs.statements.Components.{put_pairs}
use Rattle.tera_grammar.specs.statements.Types.{Sorted, put_name}

-- each pair by the text of its name, and by what it stands for
abbrev pub named : {X Y : Type 0} → (X → Y) → String Global × X → List ℕ × Y
named f e = (string_bytes e.0, f e.1)

by_match : {A B : Type 0} (f : List A → List B) (r : Ordering) (a b c : List A) → f (match_ordering r a b c) ≡ match_ordering r (f a) (f b) (f c)
by_match f Less a b c = refl
by_match f Equal a b c = refl
by_match f Greater a b c = refl

one_of : {A : Type 0} (r : Ordering) (a b c d : A) → c ≡ d → match_ordering r a b c ≡ by_order r a b d
one_of Less a b c d h = refl
one_of Equal a b c d h = refl
one_of Greater a b c d h = h

pub put_named : {X Y : Type 0} (f : X → Y) (es : List (String Global × X)) (k : String Global) (v : X)
    → map (named f) (insert_entry string_cmp es k v) ≡ put_name (string_bytes k) (f v) (map (named f) es)
put_named f [] k v = refl
put_named f (e ∷ es) k v =
    by_match (map (named f)) (string_cmp k e.0) ((k, v) ∷ e ∷ es) ((e.0, v) ∷ es) (e ∷ insert_entry string_cmp es k v)
    ∙ one_of (string_cmp k e.0) (named f (k, v) ∷ named f e ∷ map (named f) es) (named f (e.0, v) ∷ map (named f) es) (named f e ∷ map (named f) (insert_entry string_cmp es k v))
    (named f e ∷ put_name (string_bytes k) (f v) (map (named f) es)) (ap (λ more. named f e ∷ more) (put_named f es k v))

pub all_put : (ks : List Key) (vs : List Value) (values : Sorted Val) → (length ks ≡ 0) ⊎ (length vs ≡ 0) → put_pairs (pairs_view (zip ks vs)) values ≡ values
all_put [] vs values h = refl
all_put (k ∷ ks) [] values h = refl
all_put (k ∷ ks) (v ∷ vs) values (inl h) = absurd (omega arith)
all_put (k ∷ ks) (v ∷ vs) values (inr h) = absurd (omega arith)

-- a map that stands for the pairs that were read
pub same_pairs : (v : Val) (ps qs : Pairs) → v ≡ values.Map ps → v ≡ values.Map qs → ps ≡ qs
same_pairs v ps qs a b = cc
