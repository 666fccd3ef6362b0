-- A text that grew piece by piece.
use Rattle.std.proofs.Common.{◌≡◌, ◌∙◌, ℕ, List, ◌++◌, ap, append_assoc}

pub joined : (a b c d t u v w : List ℕ) → t ≡ a → u ≡ t ++ b → v ≡ u ++ c → w ≡ v ++ d → w ≡ a ++ (b ++ (c ++ d))
joined a b c d t u v w first second third fourth =
    fourth ∙ ap (λ x. x ++ d) (third ∙ ap (λ x. x ++ c) (second ∙ ap (λ x. x ++ b) first)) ∙ append_assoc (a ++ b) c d ∙ append_assoc a b (c ++ d)

pub joined_more : (a b c d e t u v w x : List ℕ) → t ≡ a → u ≡ t ++ b → v ≡ u ++ c → w ≡ v ++ d → x ≡ w ++ e → x ≡ a ++ (b ++ (c ++ (d ++ e)))
joined_more a b c d e t u v w x first second third fourth fifth =
    fifth ∙ ap (λ y. y ++ e) (joined a b c d t u v w first second third fourth) ∙ append_assoc a (b ++ (c ++ d)) e
    ∙ ap (λ y. a ++ y) (append_assoc b (c ++ d) e ∙ ap (λ y. b ++ y) (append_assoc c d e))
