-- Why files cannot be read, after a change under one name.
use Rattle.std.proofs.Common.{◌≡◌, ◌∙◌, ℕ, List, Bool, true, false, cond, Option, String, string_bytes, refl, ap}
use Rattle.std.specs.BTreeMap as tree
use Rattle.std.specs.BTreeMap.{BTreeMap, get_by_text}
use Rattle.std.specs.Cmp.Lexicographic.{slice_cmp}
use Rattle.std.specs.Option.{option_map}
use Rattle.std.specs.Ordering.{nat_cmp}
use Rattle.std.specs.Str.{bytes_eq}
use Rattle.std.specs.String.{string_cmp}
use Rattle.std.specs.declared.alloc.Global.{Global}
use Rattle.tera_editor.specs.UnreadFiles.{ReasonVal, reason_view}
use Rattle.tera_editor.specs.declared.unread.Reason.{Reason}
use Rattle.std.proofs.lemmas.Map.Text.{btree_map_updates_text}

abbrev pub Reasons : Type 0
Reasons = BTreeMap (String Global) Reason

abbrev pub reason_at : Reasons → List ℕ → Option ReasonVal
reason_at m n = option_map reason_view (get_by_text m n)

abbrev pub Updates : List ℕ → Reasons → Reasons → Option Reason → Type 0
Updates name m n w = tree.UpdatesBy string_cmp (λ k. slice_cmp nat_cmp name (string_bytes k)) m n w

map_cond : (b : Bool) (o p : Option Reason) → option_map reason_view (cond b o p) ≡ cond b (option_map reason_view o) (option_map reason_view p)
map_cond true o p = refl
map_cond false o p = refl

-- of each name
pub reason_after : (name : List ℕ) (m n : Reasons) (w : Option Reason) → Updates name m n w
    → (q : List ℕ) → reason_at n q ≡ cond (bytes_eq name q) (option_map reason_view w) (reason_at m q)
reason_after name m n w h q = ap (option_map reason_view) (btree_map_updates_text name m n w h q) ∙ map_cond (bytes_eq name q) w (get_by_text m q)
