-- The name that a call of a component has.
use Rattle.std.proofs.Common.{◌≡◌, ◌∙◌, ℕ, List, [], ◌∷◌, ◌++◌, map, String, string_bytes, Global, ap, sym}
use Rattle.std.proofs.lemmas.List.{map-append}
use Rattle.tera_base.specs.declared.utils.Span.{Span}
use Rattle.tera_check.specs.Alike.{name_called}
use Rattle.tera_ast.specs.View.{call_view}
use Rattle.tera_ast.specs.declared.ast.ComponentCall.{ComponentCall, out-ComponentCall}
use Rattle.tera_ast.proofs.Views.{call_out}

called : (c : ComponentCall) (span : Span) → name_called (call_view c span) ≡ string_bytes (out-ComponentCall c).name ∷ []
called c span = ap name_called (call_out c span)

pub call_pushed : (old now : List (String Global)) (key : String Global) (c : ComponentCall) (span : Span) → now ≡ old ++ key ∷ [] → string_bytes key ≡ string_bytes (out-ComponentCall c).name
    → map string_bytes now ≡ map string_bytes old ++ name_called (call_view c span)
call_pushed old now key c span is same =
    ap (map string_bytes) is ∙ map-append string_bytes old (key ∷ [])
    ∙ ap (λ ns. map string_bytes old ++ ns) (ap (λ (n : List ℕ). n ∷ []) same ∙ sym (called c span))
