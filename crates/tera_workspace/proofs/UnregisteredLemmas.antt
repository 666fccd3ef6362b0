-- What is found in the document of a name by what the program registers.
use Rattle.std.proofs.Common.{◌≡◌, ◌∙◌, ℕ, zero, suc, List, [], ◌∷◌, length, get_or, cond, Option, None, Some, refl, ap, arith}
use Rattle.std.specs.List.{find}
use Rattle.std.specs.Option.{option_map_or}
use Rattle.tera_rules.specs.Registered.{RegisteredVal}
use Rattle.tera_templates.specs.declared.templates.Template.{Template}
use Rattle.text_edits.specs.declared.positions.Encoding.{Encoding}
use Rattle.tera_workspace.specs.Kept.{sources_of, templates_of, IsNumbered, NoneBefore}
use Rattle.tera_workspace.specs.Sources.{text_named}
use Rattle.tera_workspace.specs.Unregistered.{is_of_file, unknown_by, unknown_in}
use Rattle.tera_workspace.specs.declared.judged.Judged.{Judged}
use Rattle.tera_workspace.proofs.NumberLemmas.{text_numbered}

pub template_numbered : (name : List ℕ) (js : List Judged) (k : ℕ) (d : Judged) → IsNumbered name js k → find (is_of_file name) (templates_of js) ≡ Some (get_or js k d).template
template_numbered name [] k d h = absurd (omega (arith, h.within))
template_numbered name (j ∷ js) zero d h = ap (λ b. cond b (Some j.template) (find (is_of_file name) (templates_of js))) (h.is d)
template_numbered name (j ∷ js) (suc k) d h =
    ap (λ b. cond b (Some j.template) (find (is_of_file name) (templates_of js))) (h.first 0 d (omega arith))
    ∙ template_numbered name js k d (record { within = omega (arith, h.within); is = h.is; first = λ m e below. h.first (suc m) e (omega arith) })

pub template_nowhere : (name : List ℕ) (js : List Judged) → NoneBefore name js (length js) → find (is_of_file name) (templates_of js) ≡ None
template_nowhere name [] h = refl
template_nowhere name (j ∷ js) h =
    ap (λ b. cond b (Some j.template) (find (is_of_file name) (templates_of js))) (h 0 j (omega arith)) ∙ template_nowhere name js (λ m e below. h (suc m) e (omega arith))

pub unknown_numbered : (e : Encoding) (r : RegisteredVal) (name : List ℕ) (js : List Judged) (k : ℕ) (d : Judged) → IsNumbered name js k
    → unknown_by e (sources_of js) (templates_of js) r name ≡ unknown_in e (sources_of js) r (get_or js k d).text (get_or js k d).template
unknown_numbered e r name js k d h =
    ap (λ (o : Option Template). option_map_or (unknown_in e (sources_of js) r (text_named name (sources_of js))) o []) (template_numbered name js k d h)
    ∙ ap (λ text. unknown_in e (sources_of js) r text (get_or js k d).template) (text_numbered name js k d h)

pub unknown_nowhere : (e : Encoding) (r : RegisteredVal) (name : List ℕ) (js : List Judged) → NoneBefore name js (length js)
    → unknown_by e (sources_of js) (templates_of js) r name ≡ []
unknown_nowhere e r name js h =
    ap (λ (o : Option Template). option_map_or (unknown_in e (sources_of js) r (text_named name (sources_of js))) o []) (template_nowhere name js h)
