-- Lists of names with no two equal, and the test for them.
use Rattle.std.proofs.Common.{◌≡◌, ◌≢◌, ℕ, true, false, List, [], ◌∷◌, refl}
use Rattle.std.specs.List.{AllByRecursion}
use Rattle.tera_lexer.specs.grammar.Words.{is_one_of}
use Rattle.tera_grammar.specs.Words.{are_distinct, AreDistinct}
use Rattle.tera_grammar.proofs.Options.{not_ok, or_false, and_ok, bytes_apart, bytes_differ}

apart_ok : (n : List ℕ) (ns : List (List ℕ)) → is_one_of ns n ≡ false → AllByRecursion (λ m. n ≢ m) ns
apart_ok n [] h = tt
apart_ok n (m ∷ ms) h = let (one, others) = or_false _ _ h in (bytes_differ n m one, apart_ok n ms others)

apart_true : (n : List ℕ) (ns : List (List ℕ)) → AllByRecursion (λ m. n ≢ m) ns → is_one_of ns n ≡ false
apart_true n [] h = refl
apart_true n (m ∷ ms) h = rw (bytes_apart n m h.0, apart_true n ms h.1) refl

pub distinct_ok : (ns : List (List ℕ)) → are_distinct ns ≡ true → AreDistinct ns
distinct_ok [] h = tt
distinct_ok (n ∷ ns) h = let (first, others) = and_ok _ _ h in (apart_ok n ns (not_ok _ first), distinct_ok ns others)

pub distinct_true : (ns : List (List ℕ)) → AreDistinct ns → are_distinct ns ≡ true
distinct_true [] h = refl
distinct_true (n ∷ ns) h = rw (apart_true n ns h.0, distinct_true ns h.1) refl
