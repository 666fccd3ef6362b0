-- The numbers of the first templates of names, from the last to the first.
use Rattle.std.proofs.Common.{◌≡◌, ◌∙◌, ℕ, suc, List, [], ◌∷◌, ◌++◌, Option, Some, String, Global, cond, length, map, sym, ap, append_assoc, arith}
use Rattle.std.proofs.lemmas.List.{length-append, map-append}
use Rattle.tera_ast.specs.View.{name_view}
use Rattle.tera_site.specs.Sites.{is_name, number_from}

abbrev pub Name : Type 0
Name = Option (String Global)

one_more : (left rest : List Name) (m : Name) → left ≡ rest ++ m ∷ [] → length left ≡ suc (length rest)
one_more left rest m is = ap length is ∙ length-append rest (m ∷ []) ∙ omega arith

pub numbers_next : (left rest : List Name) (m : Name) (done all : List (Option (List ℕ))) (before after : List ℕ → Option ℕ)
    → map name_view left ++ done ≡ all → left ≡ rest ++ m ∷ []
    → ((n : List ℕ) → before n ≡ number_from (length left) done n)
    → ((n : List ℕ) → after n ≡ cond (is_name (name_view m) n) (Some (length rest)) (before n))
    → (map name_view rest ++ (name_view m ∷ done) ≡ all) × ((n : List ℕ) → after n ≡ number_from (length rest) (name_view m ∷ done) n)
numbers_next left rest m done all before after held split is step = (
  sym (append_assoc (map name_view rest) (name_view m ∷ []) done)
      ∙ ap (λ ns. ns ++ done) (sym (map-append name_view rest (m ∷ [])) ∙ ap (map name_view) (sym split)) ∙ held,
  λ n. step n ∙ ap (cond (is_name (name_view m) n) (Some (length rest))) (is n ∙ ap (λ k. number_from k done n) (one_more left rest m split)),
)
