-- Arguments in the byte order of their names.
use Rattle.std.proofs.Common.{◌≢◌, Ordering, Less, Equal, Greater, ◌≡◌, ℕ, true, false, List, [], ◌∷◌, bytes_eq, refl, sym, ap, ◌∙◌}
use Rattle.std.specs.Ordering.{nat_cmp, match_ordering, ordering_reverse, is_eq}
use Rattle.std.specs.Cmp.Lexicographic.{slice_cmp}
use Rattle.std.specs.List.{AllByRecursion}
use Rattle.std.proofs.lemmas.Slice.Eq.{bytes_eq-Decides}
use Rattle.std.proofs.lemmas.Cmp.{nat_list_cmp_total}
use Rattle.std.proofs.lemmas.Map.Text.{is_eq-slice_cmp}
use Rattle.tera_ast.specs.Tree.{Expr, Args, NoArgs, Arg}
use Rattle.tera_grammar.specs.Words.{AreDistinct}
use Rattle.tera_grammar.specs.expressions.Output.{put_arg}

-- the name is before all of these
abbrev pub Below : List ℕ → Args → Type 0
Below n NoArgs = Unit {0}
Below n (Arg m e g) = (slice_cmp nat_cmp n m ≡ Less) × Below n g

abbrev pub Sorted : Args → Type 0
Sorted NoArgs = Unit {0}
Sorted (Arg n e g) = Below n g × Sorted g

abbrev pub arg_names : Args → List (List ℕ)
arg_names NoArgs = []
arg_names (Arg n e g) = n ∷ arg_names g

below_through : (n m : List ℕ) (g : Args) → slice_cmp nat_cmp n m ≡ Less → Below m g → Below n g
below_through n m NoArgs h b = tt
below_through n m (Arg k e g) h b = (nat_list_cmp_total.trans n m k h b.0, below_through n m g h b.1)

turned : (n m : List ℕ) → slice_cmp nat_cmp n m ≡ Greater → slice_cmp nat_cmp m n ≡ Less
turned n m h = nat_list_cmp_total.antisymm m n ∙ ap ordering_reverse h

pub by_ordering : (P : Args → Type 0) (o : Ordering) (x y z : Args) → (o ≡ Less → P x) → (o ≡ Equal → P y) → (o ≡ Greater → P z) → P (match_ordering o x y z)
by_ordering P Less x y z f g h = f refl
by_ordering P Equal x y z f g h = g refl
by_ordering P Greater x y z f g h = h refl

below_put : (n m : List ℕ) (e : Expr) (g : Args) → slice_cmp nat_cmp m n ≡ Less → Below m g → Below m (put_arg n e g)
below_put n m e NoArgs h b = (h, tt)
below_put n m e (Arg k f rest) h b =
    by_ordering (Below m) (slice_cmp nat_cmp n k) (Arg n e (Arg k f rest)) (Arg k e rest) (Arg k f (put_arg n e rest))
    (λ o. (h, b)) (λ o. b) (λ o. (b.0, below_put n m e rest h b.1))

pub sorted_put : (n : List ℕ) (e : Expr) (g : Args) → Sorted g → Sorted (put_arg n e g)
sorted_put n e NoArgs s = (tt, tt)
sorted_put n e (Arg k f rest) s =
    by_ordering Sorted (slice_cmp nat_cmp n k) (Arg n e (Arg k f rest)) (Arg k e rest) (Arg k f (put_arg n e rest))
    (λ o. ((o, below_through n k rest o s.0), s)) (λ o. s) (λ o. (below_put n k e rest (turned n k o) s.0, sorted_put n e rest s.1))

unequal : (n m : List ℕ) → slice_cmp nat_cmp n m ≡ Less → n ≢ m
unequal n m h same =
    let other : bytes_eq n m ≡ false = sym (is_eq-slice_cmp n m) ∙ ap is_eq h in
    let equal : bytes_eq n m ≡ true = (bytes_eq-Decides n m).1 same in cc

none_below : (n : List ℕ) (g : Args) → Below n g → AllByRecursion (λ m. n ≢ m) (arg_names g)
none_below n NoArgs b = tt
none_below n (Arg m e g) b = (unequal n m b.0, none_below n g b.1)

pub sorted_distinct : (g : Args) → Sorted g → AreDistinct (arg_names g)
sorted_distinct NoArgs s = tt
sorted_distinct (Arg n e g) s = (none_below n g s.0, sorted_distinct g s.1)
