-- What is asked for, a name after another.
use Rattle.std.proofs.Common.{◌≡◌, ◌∙◌, ◌<◌, ◌+◌, ◌++◌, ◌∷◌, [], ℕ, List, String, string_bytes, length, get_or, take, map, sym, ap}
use Rattle.std.proofs.lemmas.List.{append-nil, map-append, take_more}
use Rattle.std.proofs.lemmas.List.Concat.{flat_map-append}
use Rattle.std.specs.List.{flat_map}
use Rattle.std.specs.declared.alloc.Global.{Global}
use Rattle.tera_server.specs.States.{NeededVal, needs}
use Rattle.tera_server.specs.declared.notes.NeededKind.{NeededKind}

abbrev pub needs_all : NeededKind → List (String Global) → List NeededVal
needs_all kind names = flat_map (needs kind) (map string_bytes names)

pub needs_next : (kind : NeededKind) (names : List (String Global)) (i : ℕ) (name : String Global) → i < length names → name ≡ get_or names i name →
    needs_all kind (take (i + 1) names) ≡ needs_all kind (take i names) ++ needs kind (string_bytes name)
needs_next kind names i name within is =
    ap (needs_all kind) (take_more names i name within ∙ ap (λ n. take i names ++ n ∷ []) (sym is))
    ∙ (ap (flat_map (needs kind)) (map-append string_bytes (take i names) (name ∷ []))
    ∙ (flat_map-append (needs kind) (map string_bytes (take i names)) (string_bytes name ∷ [])
    ∙ ap (λ ws. needs_all kind (take i names) ++ ws) (append-nil (needs kind (string_bytes name)))))
