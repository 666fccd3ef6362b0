-- What the component takes in whose call a position is, by the byte that this is; and the number of a parameter.
use Rattle.std.proofs.Common.{◌≡◌, ◌∙◌, ◌∷◌, [], ℕ, List, length, map, not, cond, Bool, true, false, inl, inr, Option, None, Some, refl, sym, ap, subst}
use Rattle.std.proofs.lemmas.Bool.{cases_Bool}
use Rattle.std.specs.Prelude.{nat_lt}
use Rattle.std.specs.List.{position, prefix_len}
use Rattle.std.specs.Str.{bytes_eq}
use Rattle.std.proofs.lemmas.List.{length-map}
use Rattle.json.specs.Json.{Json}
use Rattle.tera_outline.specs.Calls.{InCallVal, call_at}
use Rattle.tera_outline.specs.Names.{names_of}
use Rattle.tera_outline.specs.Pieces.{Part}
use Rattle.tera_outline.specs.Signatures.{ParameterVal, parameter_view}
use Rattle.tera_outline.specs.declared.signatures.Parameter.{Parameter}
use Rattle.tera_workspace.specs.declared.workspace.Workspace.{Workspace}
use Rattle.tera_answers.specs.Signatures.{IsSignatureIn}

pub signed : (labels : Bool) (w : Workspace) (text : List ℕ) (parts : List Part) (byte at last : ℕ) (given : Option InCallVal) (j : Json) → given ≡ call_at last byte parts → last ≡ length text → byte ≡ at
    → IsSignatureIn labels w (names_of parts) given j → IsSignatureIn labels w (names_of parts) (call_at (length text) at parts) j
signed labels w text parts byte at last given j is long same h =
    subst (λ o. IsSignatureIn labels w (names_of parts) o j) (is ∙ (ap (λ n. call_at n byte parts) long ∙ ap (λ b. call_at (length text) b parts) same)) h

-- the number of a parameter
others_before : (name : List ℕ) (xs : List Parameter)
    → prefix_len (λ (p : Parameter). not (bytes_eq p.name.now name)) xs ≡ prefix_len (λ (p : ParameterVal). not (bytes_eq p.name name)) (map parameter_view xs)
others_before name [] = refl
others_before name (x ∷ xs) = elim (cases_Bool (bytes_eq x.name.now name)) [
  | inl same ↦ rw same refl
  | inr other ↦ rw (other, others_before name xs) refl
]

pub number_of : (name : List ℕ) (xs : List Parameter) → position (λ (p : Parameter). bytes_eq p.name.now name) xs ≡ position (λ (p : ParameterVal). bytes_eq p.name name) (map parameter_view xs)
number_of name xs =
    let others = prefix_len (λ (p : ParameterVal). not (bytes_eq p.name name)) (map parameter_view xs) in
    ap (λ k. cond (nat_lt k (length xs)) (Some k) None) (others_before name xs)
    ∙ ap (λ n. cond (nat_lt others n) (Some others) None) (sym (length-map xs parameter_view))
