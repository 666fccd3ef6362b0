-- `MapOf` as a type that may hold the type that holds it, by its values.
use Rattle.std.specs.Prelude.{◌≡◌, List, [], ◌∷◌, map, length}
use mathlib.Core.Path.{refl, sym, ap, ◌∙◌}
use mathlib.Core.Former.{Former, one_more, this, const, pair, list, via, children}
use native.Mathlib.Nat.{ℕ_set}
use native.Mathlib.Omega.{arith}
use lib.ListN.{length-map}
use denote.RattleType.{RattleType}
use denote.HoleLaws.{Alike}
use denote.HolePlaces.{Recodes, struct_places, laid}
use denote.Hole.Carrier.{listed}
use denote.Hole.Fix.{over}
use denote.Param.Weighed.{Weighed, most}
use denote.Model.Placed.{held, view_places_where}
use Rattle.std.specs.List.{zip}
use Rattle.std.specs.Map.{values_of}
use Rattle.std.specs.declared.alloc.Global.{Global}
use Rattle.std.specs.contracts.alloc.Global as heap
use Rattle.std.specs.contracts.impls.GlobalAllocator.TheImpl.{ghosts}
use Rattle.std.specs.formers.vec.Vec as vec
use Rattle.std_collections.specs.Layout.Former.{entry, on_value, entries_puts, values_listed, entries_recoded}
use Rattle.tera_base.specs.declared.values.Key.{Key}
use Rattle.tera_base.specs.contracts.values.Key as key
use Rattle.tera_base.specs.declared.values.MapOf.TheInside.{Inside}
use Rattle.tera_base.specs.declared.values.MapOf.TheView.{view, invariant}
use Rattle.tera_base.specs.contracts.values.MapOf as C
use Rattle.tera_base.specs.contracts.values.MapOf.TheInside as I

abbrev pub the_former : Former {0} → Former {0}
the_former g = list (entry g Key)

abbrev pub the_weighed : {g : Former {0}} → Weighed g → Weighed (the_former g)
the_weighed w = record { weight = λ X μ es. most (w.weight X μ) (values_of es); puts = λ X μ es. entries_puts w Key X μ es }

pub the_empty : List (Key × ⊥)
the_empty = []

abbrev pub the_items : (X : Type 0) → List (Key × X) → List X
the_items X es = values_of es

pub the_items_listed : (X : Type 0) (es : List (Key × X)) → listed _ (children (the_former this) X es) ≡ the_items X es
the_items_listed X es = values_listed Key X es

abbrev fields : Former {0}
fields = via (pair (const (List Key)) (vec.the_former this Global)) Inside (λ X a. (a.keys, a.values)) (λ X v. record { keys = v.0; values = v.1 }) (λ X a. refl) (λ X v. refl)

zip-map : {K X Y : Type 0} (h : X → Y) (ks : List K) (vs : List X) → zip ks (map h vs) ≡ map (on_value h) (zip ks vs)
zip-map h [] vs = refl
zip-map h (k ∷ ks) [] = refl
zip-map h (k ∷ ks) (v ∷ vs) = ap (λ l. (k, h v) ∷ l) (zip-map h ks vs)

zip-held : (K X : Type 0) (ks : List K) (vs : List X) → length vs ≡ length ks → held (list (entry this K)) X (zip ks vs) ≡ held (list this) X vs
zip-held K X [] [] e = refl
zip-held K X [] (v ∷ vs) e = absurd (omega arith)
zip-held K X (k ∷ ks) [] e = absurd (omega arith)
zip-held K X (k ∷ ks) (v ∷ vs) e = λ i. (one_more (zip-held K X ks vs (omega arith) i).0, (v, (zip-held K X ks vs (omega arith) i).1))

module _ (R S : RattleType) (h : R.Denot → S.Denot) where
  pub the_places : Alike R S h → Alike (C.the_row R) (C.the_row S) ((the_former this).map R.Denot S.Denot h)
  the_places a = view_places_where fields (the_former this) view
      (λ X Y k u i. zip-map k u.keys u.values.items i)
      (λ X u. length u.values.items ≡ length u.keys) (λ X Y k u e. sym (length-map u.values.items k) ∙ e) (λ X u e. zip-held Key X u.keys u.values.items e)
      R.Denot S.Denot h (C.the_row R).coded (C.the_row S).coded
      (invariant R.Denot) (invariant S.Denot) (λ u. ℕ_set _ _) (λ u. ℕ_set _ _)
      (λ u e. length-map u.values.items h ∙ e) (λ u e. sym (length-map u.values.items h) ∙ e) (λ u e. e)
      (over (I.the_row R)) (over (I.the_row S))
      (struct_places (I.the_type R) (I.the_type S) (λ n. n, (vec.mapped h, tt)) _ (λ d. refl) refl
      ((refl, (λ n. refl, λ n. refl)), (laid _ _ _ (vec.the_places heap.the_row ghosts R S h a), tt)))

  pub the_codes_placed : Recodes R S h → Recodes (C.the_row R) (C.the_row S) ((the_former this).map R.Denot S.Denot h)
  the_codes_placed e d = entries_recoded key.the_row R S h e d
