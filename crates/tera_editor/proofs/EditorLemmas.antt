-- What an editor reported about documents, after a change under one name.
use Rattle.std.proofs.Common.{◌≡◌, ◌∙◌, ℕ, List, Bool, true, false, cond, Option, None, Some, String, string_bytes, map, refl, sym, ap, subst}
use Rattle.std.specs.BTreeMap as tree
use Rattle.std.specs.BTreeMap.{BTreeMap, get_by_text, is_at}
use Rattle.std.specs.Map.{lookup}
use Rattle.std.specs.Cmp.Lexicographic.{slice_cmp}
use Rattle.std.specs.Option.{option_map}
use Rattle.std.specs.Ordering.{nat_cmp}
use Rattle.std.specs.Str.{bytes_eq}
use Rattle.std.specs.String.{string_cmp}
use Rattle.std.specs.declared.alloc.Global.{Global}
use Rattle.std.proofs.lemmas.Map.Made.{lookup-map_values}
use Rattle.std.proofs.lemmas.Map.Text.{btree_map_updates_text}
use Rattle.std.proofs.lemmas.Slice.Eq.{bytes_eq-Decides}
use Rattle.tera_editor.specs.Editors.{SeenVal, seen_view, lost, seen_lost}
use Rattle.tera_editor.specs.declared.editor.Seen.{Seen}

abbrev pub SeenBy : Type 0
SeenBy = BTreeMap (String Global) Seen

abbrev pub seen_at : SeenBy → List ℕ → Option SeenVal
seen_at m n = option_map seen_view (get_by_text m n)

abbrev pub Updates : List ℕ → SeenBy → SeenBy → Option Seen → Type 0
Updates name m n w = tree.UpdatesBy string_cmp (λ k. slice_cmp nat_cmp name (string_bytes k)) m n w

map_cond : (b : Bool) (o p : Option Seen) → option_map seen_view (cond b o p) ≡ cond b (option_map seen_view o) (option_map seen_view p)
map_cond true o p = refl
map_cond false o p = refl

-- of each name
pub seen_after : (name : List ℕ) (m n : SeenBy) (w : Option Seen) → Updates name m n w → (q : List ℕ) → seen_at n q ≡ cond (bytes_eq name q) (option_map seen_view w) (seen_at m q)
seen_after name m n w h q = ap (option_map seen_view) (btree_map_updates_text name m n w h q) ∙ map_cond (bytes_eq name q) w (get_by_text m q)

at_equal : (A : Type 0) (name q : List ℕ) (f g : List ℕ → A) (y : A) → f name ≡ g name → cond (bytes_eq name q) (f q) y ≡ cond (bytes_eq name q) (g q) y
at_equal A name q f g y e = by (bytes_eq name q) (bytes_eq-Decides name q).0
  where
    by : (b : Bool) → (b ≡ true → name ≡ q) → cond b (f q) y ≡ cond b (g q) y
    by true h = subst (λ n. f n ≡ g n) (h refl) e
    by false h = refl

-- where what was reported for the name became another by a function
pub seen_changed : (name : List ℕ) (m n : SeenBy) (f : SeenVal → SeenVal) (v w : Seen) → Updates name m n (Some w) → get_by_text m name ≡ Some v → seen_view w ≡ f (seen_view v) →
    (q : List ℕ) → seen_at n q ≡ cond (bytes_eq name q) (option_map f (seen_at m q)) (seen_at m q)
seen_changed name m n f v w h had e q =
    seen_after name m n (Some w) h q
    ∙ at_equal (Option SeenVal) name q (λ _. Some (seen_view w)) (λ k. option_map f (seen_at m k)) (seen_at m q) (ap Some e ∙ sym (ap (λ o. option_map f (option_map seen_view o)) had))

twice : (o : Option Seen) → option_map seen_view (option_map seen_lost o) ≡ option_map lost (option_map seen_view o)
twice None = refl
twice (Some s) = refl

-- where that of each became lost
pub all_lost : (m n : SeenBy) → n.entries ≡ map (λ e. (e.0, seen_lost e.1)) m.entries → (q : List ℕ) → seen_at n q ≡ option_map lost (seen_at m q)
all_lost m n e q =
    let test = is_at (λ k. slice_cmp nat_cmp q (string_bytes k)) in
    ap (λ es. option_map seen_view (lookup test es)) e
    ∙ ap (option_map seen_view) (lookup-map_values seen_lost test m.entries)
    ∙ twice (get_by_text m q)
