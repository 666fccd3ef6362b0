-- Templates with a fault.
use Rattle.std.proofs.Common.{◌≡◌, ℕ, List, [], Option, None, Some, Result, Ok, Err, IfOk, IfSome, MatchOption, sym, ap, subst, string_bytes}
use Rattle.tera_base.specs.declared.errors.Error.{Error}
use Rattle.tera_lexer.specs.grammar.Marks.{Marks}
use Rattle.tera_mend.specs.Readings.{AreOf}
use Rattle.tera_tags.specs.declared.names.Names.{Names}
use Rattle.tera_templates.specs.Ignores.{AreIgnoresBy, AreIgnoresIn, AreIgnoresOfMended, ignores_view}
use Rattle.tera_templates.specs.Mended.{IsMended}
use Rattle.tera_templates.specs.declared.mended.Mended.{Mended}
use Rattle.tera_templates.specs.declared.templates.Template.{Template}

-- two facts of a result
pub both_ok : {X E : Type 0} (P Q R : X → Type 0) (r : Result X E) → ((x : X) → P x → Q x → R x) → IfOk r P → IfOk r Q → IfOk r R
both_ok P Q R (Ok x) f p q = f x p q
both_ok P Q R (Err e) f p q = tt

-- ---- what was read of a source with faults

abbrev pub IsReadAs : List ℕ → List ℕ → ℕ → Mended × Names → Type 0
IsReadAs file source most m = IsMended file source most m.0 × AreOf (string_bytes m.0.text) m.0.output m.1

pub read_as : (file source : List ℕ) (most : ℕ) (o : Option (Mended × Names)) (m : Mended × Names) → o ≡ Some m → IfSome o (IsReadAs file source most) → IsReadAs file source most m
read_as file source most o m is read = subst (λ o. IfSome o (IsReadAs file source most)) is read

-- ---- the ignores of a template with a fault

pub fault_ignores : (marks : Marks) (source : List ℕ) (t : Template) (e : Error) → t.parsed ≡ Err e
    → MatchOption t.mended (t.ignores.items ≡ []) (λ m. AreIgnoresOfMended source m (ignores_view t.ignores.items)) → AreIgnoresIn marks source t
fault_ignores marks source t e is held =
    subst (λ r. AreIgnoresBy marks source r t.mended (ignores_view t.ignores.items)) (sym is) (by t.mended held)
  where
    by : (m : Option Mended) → MatchOption m (t.ignores.items ≡ []) (λ m. AreIgnoresOfMended source m (ignores_view t.ignores.items))
        → AreIgnoresBy marks source (Err e) m (ignores_view t.ignores.items)
    by None none = ap ignores_view none
    by (Some m) are = are
