-- Names of which it is said, one by one, whether there are files.
use Rattle.std.proofs.Common.{◌≡◌, ◌≢◌, ◌∙◌, ◌<◌, ◌≤◌, ◌+◌, ◌==◌, ◌∷◌, [], ℕ, List, Bool, true, false, Vec, vec_len, length, get_or, drop, map, Result, Ok, Err, OnOk, sym, ap, subst}
use Rattle.std.specs.declared.alloc.Global.{Global}
use Rattle.std.proofs.lemmas.Bool.{eqb-true, eqb-false}
use Rattle.std.proofs.lemmas.List.{drop_all, drop_more, nil_from_length}
use Rattle.tera_server.specs.Naming.{IsPresenceSaid}
use Rattle.tera_editor.specs.Sites.{AreAround, NoneDue, UsedVal, due_of_sites, used_view}
use Rattle.tera_server.specs.declared.server.Server.{Server}
use Rattle.tera_editor.specs.declared.sites.Sites.{Sites}
use Rattle.tera_editor.specs.declared.sites.UsedName.{UsedName}
use Rattle.tera_editor.proofs.DueLemmas.{AreDueAmong, due_at_first, due_next, none_due}
use Rattle.tera_exchange.specs.Serving.{IsNameSaid}

pub name_said : {E : Type 0} (r : Result (Unit {0}) E) (u : UsedVal) (there : Bool) (s t : Server) → AreAround [] s.sites t.sites → OnOk r (IsPresenceSaid u there s t) → OnOk r (IsNameSaid u s t)
name_said (Ok x) u there s t around said = (there, around, said)
name_said (Err e) u there s t around said = tt

-- of one more
pub said_next : (xs : List UsedName) (i : ℕ) (x : UsedName) (s t : Server) → i < length xs → x ≡ get_or xs i x →
    AreDueAmong (map used_view (drop i xs)) s.sites → IsNameSaid (used_view x) s t → AreDueAmong (map used_view (drop (i + 1) xs)) t.sites
said_next xs i x s t within is before (there, around, said) =
    let rest = map used_view (drop (i + 1) xs) in
    due_next (used_view x) rest there s.sites t.sites
    (subst (λ us. AreDueAmong us s.sites) (ap (map used_view) (drop_more xs i x within) ∙ ap (λ y. used_view y ∷ rest) (sym is)) before)
    around said.said

-- .. and of all
pub all_said : (xs : List UsedName) (i : ℕ) (s : Server) → length xs ≤ i → AreDueAmong (map used_view (drop i xs)) s.sites → NoneDue s.sites
all_said xs i s all h = none_due s.sites (subst (λ us. AreDueAmong us s.sites) (ap (map used_view) (drop_all i xs all)) h)

-- whether there are names that are due
pub none_in : (due : Vec UsedName Global) → true ≡ (vec_len due == 0) → due.items ≡ []
none_in due is = nil_from_length due.items (sym due.ok.0 ∙ eqb-true _ _ (sym is))

pub some_in : (due : Vec UsedName Global) → false ≡ (vec_len due == 0) → due.items ≢ []
some_in due is none = eqb-false _ _ (sym is) (due.ok.0 ∙ ap length none)

pub none_of_sites : (s : Sites) → due_of_sites s ≡ [] → NoneDue s
none_of_sites s none = none_due s (due_at_first s [] (sym none))
