-- Bodies, parts that may show one, and components that show none, one by one.
use Rattle.std.proofs.Common.{◌≡◌, ◌∙◌, ◌<◌, ◌+◌, ◌||◌, ◌&&◌, ◌∷◌, [], ◌++◌, ℕ, suc, List, Bool, true, false, not, drop, get_or, length, map, refl, sym, ap, subst, arith}
use Rattle.std.proofs.Common.{if◌then◌else◌, drop-cons}
use Rattle.std.specs.List.{list_any}
use Rattle.std.specs.Str.{bytes_eq}
use Rattle.tera_tree.specs.Parts.{PartVal, parts_view, children}
use Rattle.tera_tree.specs.Tree.{Definition}
use Rattle.tera_tree.specs.View.{definition_view}
use Rattle.tera_tree.specs.declared.ast.ComponentDefinition.{ComponentDefinition}
use Rattle.tera_tree.specs.declared.parts.Part.{Part}
use Rattle.tera_rules.specs.Bodies.{is_hidden_in, may_show, shows_body}
use Rattle.tera_rules.specs.Within.{all_parts}
use Rattle.tera_rules.proofs.RulesLemmas.{last_part}

-- a list from one of its places on
pub drop_next : {X : Type 0} (xs : List X) (i : ℕ) (x : X) → i < length xs → x ≡ get_or xs i x → drop i xs ≡ x ∷ drop (suc i) xs
drop_next xs i x h is = drop-cons xs i x h ∙ ap (λ y. y ∷ drop (suc i) xs) (sym is)

-- one more part is taken
pub taken : (old now : List PartVal) (p : PartVal) → now ≡ old ++ children p
    → (may_show p || list_any may_show (all_parts now)) ≡ list_any may_show (all_parts (old ++ p ∷ []))
taken old now p h = (λ i. may_show p || list_any may_show (all_parts (h i))) ∙ sym (ap (list_any may_show) (last_part old p))

-- no part is to come
pub none_shown : (left : List Part) (all : Bool) → list_any may_show (all_parts (parts_view left)) ≡ all → left ≡ [] → false ≡ all
none_shown left all held none = sym (ap (λ ps. list_any may_show (all_parts (parts_view ps))) none) ∙ held

-- the next component
or_next : (here before rest : Bool) → (before || (here || rest)) ≡ ((before || (here || false)) || rest)
or_next here true rest = refl
or_next true false rest = refl
or_next false false rest = refl

hidden_next : (n : List ℕ) (d : Definition) (ds : List Definition) (before now : Bool) → now ≡ (before || is_hidden_in (d ∷ []) n)
    → (before || is_hidden_in (d ∷ ds) n) ≡ (now || is_hidden_in ds n)
hidden_next n d ds before now is =
    or_next (bytes_eq d.name n && not (shows_body d)) before (is_hidden_in ds n) ∙ sym (ap (λ b. b || is_hidden_in ds n) is)

pub next_definition : (n : List ℕ) (ds : List ComponentDefinition) (at : ℕ) (d : ComponentDefinition) (all before now : Bool) → at < length ds → d ≡ get_or ds at d
    → all ≡ (before || is_hidden_in (map definition_view (drop at ds)) n) → now ≡ (before || is_hidden_in (definition_view d ∷ []) n)
    → all ≡ (now || is_hidden_in (map definition_view (drop (at + 1) ds)) n)
next_definition n ds at d all before now inside is held step =
    let next : suc at ≡ at + 1 = omega arith in
    subst (λ k. all ≡ (now || is_hidden_in (map definition_view (drop k ds)) n)) next
    (held ∙ ap (λ es. before || is_hidden_in (map definition_view es) n) (drop_next ds at d inside is)
    ∙ hidden_next n (definition_view d) (map definition_view (drop (suc at) ds)) before now step)

-- the name of one that shows no body, in a set
pub hidden_put : (n : List ℕ) (d : Definition) (before : Bool) → shows_body d ≡ false → (if bytes_eq d.name n then true else before) ≡ (before || is_hidden_in (d ∷ []) n)
hidden_put n d before none = put (bytes_eq d.name n) before ∙ sym (ap (λ b. before || ((bytes_eq d.name n && not b) || false)) none)
  where
    put : (here old : Bool) → (if here then true else old) ≡ (old || ((here && true) || false))
    put true true = refl
    put true false = refl
    put false true = refl
    put false false = refl

pub hidden_kept : (n : List ℕ) (d : Definition) (before : Bool) → shows_body d ≡ true → before ≡ (before || is_hidden_in (d ∷ []) n)
hidden_kept n d before shows = kept (bytes_eq d.name n) before ∙ sym (ap (λ b. before || ((bytes_eq d.name n && not b) || false)) shows)
  where
    kept : (here old : Bool) → old ≡ (old || ((here && false) || false))
    kept true true = refl
    kept true false = refl
    kept false true = refl
    kept false false = refl

-- ---- a body of white space, node by node
