-- When an argument is refused, and what is found for it.
use Rattle.std.proofs.Common.{◌≡◌, ℕ, Bool, false, List, Option, Some, None, refl}
use Rattle.tera_tree.specs.Outcomes.{Refuses}
use Rattle.tera_base.specs.Kinds.{kind_of}
use Rattle.tera_base.specs.declared.kinds.ValueKind.TheVariants as kinds
use Rattle.tera_base.specs.Values as values
use Rattle.tera_base.specs.Values.{Val}
use Rattle.tera_base.specs.declared.values.Value.{Value}
use Rattle.tera_tree.specs.Types.{is_of_type}
use Rattle.tera_tree.specs.Tree.{Argument}
use Rattle.tera_tree.specs.View.{default_view}
use Rattle.tera_tree.specs.Calls.{of_type, by_default, default_of, found_value, wrong_type_text, missing_text}
use Rattle.tera_tree.specs.declared.ast.ArgType.{ArgType}

pub wrong_type : (n : List ℕ) (typ : Option ArgType) (t : ArgType) (v : Val) → typ ≡ Some t → false ≡ is_of_type t (kind_of v) → Refuses (wrong_type_text n v t) ≡ of_type n typ v
wrong_type n typ t v e h = rw (e, ← h) refl

pub missing : (n : List ℕ) (default : Option Value) (typ : Option ArgType) (implicit : Bool) → default ≡ None → Refuses (missing_text n typ implicit) ≡ by_default n (default_view default) typ implicit
missing n default typ implicit e = rw e refl

-- nothing is found where the value is undefined, and only there
pub found_none : (n : List ℕ) (a : Argument) (v : Val) → kind_of v ≡ kinds.Undefined → found_value n a v ≡ default_of n a
found_none n a values.Undefined e = refl
found_none n a values.Nothing e = cc
found_none n a (values.Truth b) e = cc
found_none n a (values.I64 m) e = cc
found_none n a (values.U64 m) e = cc
found_none n a (values.I128 m) e = cc
found_none n a (values.U128 m) e = cc
found_none n a (values.Text t) e = cc
found_none n a (values.Bytes t) e = cc
found_none n a (values.Array vs) e = cc
found_none n a (values.Map ps) e = cc

pub found_given : (n : List ℕ) (a : Argument) (v : Val) → (kind_of v ≡ kinds.Undefined → ⊥) → found_value n a v ≡ of_type n a.typ v
found_given n a values.Undefined h = absurd (h refl)
found_given n a values.Nothing h = refl
found_given n a (values.Truth b) h = refl
found_given n a (values.I64 m) h = refl
found_given n a (values.U64 m) h = refl
found_given n a (values.I128 m) h = refl
found_given n a (values.U128 m) h = refl
found_given n a (values.Text t) h = refl
found_given n a (values.Bytes t) h = refl
found_given n a (values.Array vs) h = refl
found_given n a (values.Map ps) h = refl
