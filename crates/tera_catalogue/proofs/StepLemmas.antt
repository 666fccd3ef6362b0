-- What is written one after another.
use Rattle.std.proofs.Common.{◌≡◌, ◌∙◌, ◌<◌, ◌+◌, ℕ, suc, List, ◌∷◌, ◌++◌, length, map, drop, get_or, Result, Ok, Err, OnOk, sym, ap, arith, drop-cons, append_assoc}
use Rattle.std.specs.List.{flat_map}

pub on_ok : {T E P Q : Type 0} (r : Result T E) → OnOk r P → (P → Q) → OnOk r Q
on_ok (Ok x) p f = f p
on_ok (Err e) p f = p

pub before : {A : Type 0} (start now last a rest : List A) → now ≡ start ++ a → last ≡ now ++ rest → last ≡ start ++ (a ++ rest)
before start now last a rest first following = following ∙ ap (λ ts. ts ++ rest) first ∙ append_assoc start a rest

pub three : {A : Type 0} (start t u v a b c : List A) → t ≡ start ++ a → u ≡ t ++ b → v ≡ u ++ c → v ≡ start ++ (a ++ (b ++ c))
three start t u v a b c one two last = before start t v a (b ++ c) one (before t u v b c two last)

pub four : {A : Type 0} (start t u v w a b c d : List A) → t ≡ start ++ a → u ≡ t ++ b → v ≡ u ++ c → w ≡ v ++ d → w ≡ start ++ (a ++ (b ++ (c ++ d)))
four start t u v w a b c d h1 h2 h3 h4 = before start t w a (b ++ (c ++ d)) h1 (three t u v w b c d h2 h3 h4)

pub five : {A : Type 0} (start t u v w x a b c d e : List A) → t ≡ start ++ a → u ≡ t ++ b → v ≡ u ++ c → w ≡ v ++ d → x ≡ w ++ e
    → x ≡ start ++ (a ++ (b ++ (c ++ (d ++ e))))
five start t u v w x a b c d e h1 h2 h3 h4 h5 = before start t x a (b ++ (c ++ (d ++ e))) h1 (four t u v w x b c d e h2 h3 h4 h5)

pub six : {A : Type 0} (start t u v w x y a b c d e f : List A) → t ≡ start ++ a → u ≡ t ++ b → v ≡ u ++ c → w ≡ v ++ d → x ≡ w ++ e → y ≡ x ++ f
    → y ≡ start ++ (a ++ (b ++ (c ++ (d ++ (e ++ f)))))
six start t u v w x y a b c d e f h1 h2 h3 h4 h5 h6 =
    before start t y a (b ++ (c ++ (d ++ (e ++ f)))) h1 (five t u v w x y b c d e f h2 h3 h4 h5 h6)

pub seven : {A : Type 0} (start t u v w x y z a b c d e f g : List A) → t ≡ start ++ a → u ≡ t ++ b → v ≡ u ++ c → w ≡ v ++ d → x ≡ w ++ e → y ≡ x ++ f → z ≡ y ++ g
    → z ≡ start ++ (a ++ (b ++ (c ++ (d ++ (e ++ (f ++ g))))))
seven start t u v w x y z a b c d e f g h1 h2 h3 h4 h5 h6 h7 =
    before start t z a (b ++ (c ++ (d ++ (e ++ (f ++ g))))) h1 (six t u v w x y z b c d e f g h2 h3 h4 h5 h6 h7)

pub eight : {A : Type 0} (start s t u v w x y z a b c d e f g h : List A) → s ≡ start ++ a → t ≡ s ++ b → u ≡ t ++ c → v ≡ u ++ d → w ≡ v ++ e → x ≡ w ++ f → y ≡ x ++ g → z ≡ y ++ h
    → z ≡ start ++ (a ++ (b ++ (c ++ (d ++ (e ++ (f ++ (g ++ h)))))))
eight start s t u v w x y z a b c d e f g h h1 h2 h3 h4 h5 h6 h7 h8 =
    before start s z a (b ++ (c ++ (d ++ (e ++ (f ++ (g ++ h)))))) h1 (seven s t u v w x y z b c d e f g h h2 h3 h4 h5 h6 h7 h8)

-- one more of a list, of which the rest is to come
pub map_next : {X Y A : Type 0} (f : Y → List A) (g : X → Y) (xs : List X) (i : ℕ) (x : X) (before now all : List A) → i < length xs → x ≡ get_or xs i x
    → all ≡ before ++ flat_map f (map g (drop i xs)) → now ≡ before ++ f (g x) → all ≡ now ++ flat_map f (map g (drop (i + 1) xs))
map_next f g xs i x before now all h is held step =
    let next : i + 1 ≡ suc i = omega arith in
    rw next (held
    ∙ ap (λ us. before ++ flat_map f (map g us)) (drop-cons xs i x h ∙ ap (λ y. y ∷ drop (suc i) xs) (sym is))
    ∙ sym (append_assoc before (f (g x)) (flat_map f (map g (drop (suc i) xs))))
    ∙ ap (λ ks. ks ++ flat_map f (map g (drop (suc i) xs))) (sym step))

pub flat_next : {X A : Type 0} (f : X → List A) (xs : List X) (i : ℕ) (x : X) (before now all : List A) → i < length xs → x ≡ get_or xs i x
    → all ≡ before ++ flat_map f (drop i xs) → now ≡ before ++ f x → all ≡ now ++ flat_map f (drop (i + 1) xs)
flat_next f xs i x before now all h is held step =
    let next : i + 1 ≡ suc i = omega arith in
    rw next (held
    ∙ ap (λ us. before ++ flat_map f us) (drop-cons xs i x h ∙ ap (λ y. y ∷ drop (suc i) xs) (sym is))
    ∙ sym (append_assoc before (f x) (flat_map f (drop (suc i) xs)))
    ∙ ap (λ ks. ks ++ flat_map f (drop (suc i) xs)) (sym step))
