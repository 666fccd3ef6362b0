-- Texts by names, after a change under one name.
use Rattle.std.proofs.Common.{◌≡◌, ◌∙◌, ℕ, List, Bool, true, false, cond, Option, String, string_bytes, refl, ap, subst}
use Rattle.std.specs.BTreeMap as tree
use Rattle.std.specs.BTreeMap.{BTreeMap, get_by_text}
use Rattle.std.specs.Cmp.Lexicographic.{slice_cmp}
use Rattle.std.specs.Option.{option_map}
use Rattle.std.specs.Ordering.{nat_cmp}
use Rattle.std.specs.Str.{bytes_eq}
use Rattle.std.specs.String.{string_cmp}
use Rattle.std.specs.declared.alloc.Global.{Global}
use Rattle.std.proofs.lemmas.Map.Text.{btree_map_updates_text}
use Rattle.std.proofs.lemmas.Slice.Eq.{bytes_eq-Decides}
use Rattle.text_edits.specs.Documents.{DocumentVal}

abbrev pub Texts : Type 0
Texts = BTreeMap (String Global) (String Global)

abbrev pub text_at : Texts → List ℕ → Option (List ℕ)
text_at m n = option_map string_bytes (get_by_text m n)

abbrev pub Updates : List ℕ → Texts → Texts → Option (String Global) → Type 0
Updates name m n w = tree.UpdatesBy string_cmp (λ k. slice_cmp nat_cmp name (string_bytes k)) m n w

abbrev pub with_opened : Option (List ℕ) → Option (List ℕ) → DocumentVal
with_opened stored opened = record { opened = opened; stored = stored }

abbrev pub with_stored : Option (List ℕ) → Option (List ℕ) → DocumentVal
with_stored opened stored = record { opened = opened; stored = stored }

map_cond : (b : Bool) (o p : Option (String Global)) → option_map string_bytes (cond b o p) ≡ cond b (option_map string_bytes o) (option_map string_bytes p)
map_cond true o p = refl
map_cond false o p = refl

-- the text of each name
text_after : (name : List ℕ) (m n : Texts) (w : Option (String Global)) → Updates name m n w
    → (q : List ℕ) → text_at n q ≡ cond (bytes_eq name q) (option_map string_bytes w) (text_at m q)
text_after name m n w h q = ap (option_map string_bytes) (btree_map_updates_text name m n w h q) ∙ map_cond (bytes_eq name q) w (get_by_text m q)

-- a document of which one text is another
opened_cond : (b : Bool) (x y s : Option (List ℕ)) → with_opened s (cond b x y) ≡ cond b (with_opened s x) (with_opened s y)
opened_cond true x y s = refl
opened_cond false x y s = refl

stored_cond : (b : Bool) (x y o : Option (List ℕ)) → with_stored o (cond b x y) ≡ cond b (with_stored o x) (with_stored o y)
stored_cond true x y o = refl
stored_cond false x y o = refl

pub opened_after : (name : List ℕ) (m n stored : Texts) (w : Option (String Global)) → Updates name m n w
    → (q : List ℕ) → with_opened (text_at stored q) (text_at n q) ≡ cond (bytes_eq name q) (with_opened (text_at stored q) (option_map string_bytes w)) (with_opened (text_at stored q) (text_at m q))
opened_after name m n stored w h q =
    ap (with_opened (text_at stored q)) (text_after name m n w h q) ∙ opened_cond (bytes_eq name q) (option_map string_bytes w) (text_at m q) (text_at stored q)

pub stored_after : (name : List ℕ) (m n opened : Texts) (w : Option (String Global)) → Updates name m n w
    → (q : List ℕ) → with_stored (text_at opened q) (text_at n q) ≡ cond (bytes_eq name q) (with_stored (text_at opened q) (option_map string_bytes w)) (with_stored (text_at opened q) (text_at m q))
stored_after name m n opened w h q =
    ap (with_stored (text_at opened q)) (text_after name m n w h q) ∙ stored_cond (bytes_eq name q) (option_map string_bytes w) (text_at m q) (text_at opened q)

-- what is so at the name is so at each name that is equal
pub at_equal : (A : Type 0) (name q : List ℕ) (f g : List ℕ → A) (y : A) → f name ≡ g name → cond (bytes_eq name q) (f q) y ≡ cond (bytes_eq name q) (g q) y
at_equal A name q f g y e = by (bytes_eq name q) (bytes_eq-Decides name q).0
  where
    by : (b : Bool) → (b ≡ true → name ≡ q) → cond b (f q) y ≡ cond b (g q) y
    by true h = subst (λ n. f n ≡ g n) (h refl) e
    by false h = refl
