-- The calls of a template, and their attributes, by their places.
use Rattle.std.specs.Prelude.{ℕ, List, [], ◌∷◌, Bool, false, if◌then◌else◌, Option, None, Some, bytes_eq, map, nat_eq, string_bytes}
use Rattle.std.specs.Borrow.{Bor}
use Rattle.std.specs.List.{list_any}
use Rattle.std.specs.Option.{option_map, option_or}
use Rattle.tera_base.specs.Spanned.{node_of, span_of}
use Rattle.tera_base.specs.declared.utils.Spanned.{Spanned}
use Rattle.tera_base.specs.declared.values.Key.{Key}
use Rattle.tera_base.specs.declared.values.Key.TheVariants as keys
use Rattle.tera_ast.specs.Spans.{expr_span}
use Rattle.tera_ast.specs.Tree.{Expr}
use Rattle.tera_ast.specs.View.{entry_view}
use Rattle.tera_ast.specs.declared.ast.ComponentCall.{ComponentCall, out-ComponentCall}
use Rattle.tera_ast.specs.declared.ast.MapEntryOf.{MapEntryOf}
use Rattle.tera_ast.specs.declared.ast.MapEntryOf.TheVariants as entries
use Rattle.tera_fixes.specs.declared.attributes.Attribute.{Attribute}

-- a call: the name of its component, its attributes, and whether it has no body
pub record CallVal : Type 0 where
  pub name : List ℕ
  pub attributes : List (MapEntryOf Expr)
  pub is_closed : Bool

abbrev pub call_view : ComponentCall → CallVal
call_view c = record {
  name = string_bytes (out-ComponentCall c).name;
  attributes = map entry_view (out-ComponentCall c).kwargs.items;
  is_closed = (out-ComponentCall c).self_closing;
}

-- the first of the calls that begins with the byte
abbrev pub call_at : List (Bor (Spanned ComponentCall)) → ℕ → Option CallVal
call_at [] byte = None
call_at (c ∷ cs) byte = if nat_eq (span_of c.now).range.start byte then Some (call_view (node_of c.now)) else call_at cs byte

-- an attribute: its call, and the name under which it passes a value
pub record AttributeVal : Type 0 where
  pub call : CallVal
  pub name : List ℕ

abbrev pub attribute_view : Attribute → AttributeVal
attribute_view a = record { call = call_view a.call.now; name = a.name.now }

abbrev pub text_of : Key → Option (List ℕ)
text_of (keys.String name) = Some (string_bytes name)
text_of _ = None

-- the name of the first of some attributes whose value begins with the byte
abbrev pub named_by_one : ℕ → MapEntryOf Expr → Option (List ℕ)
named_by_one byte (entries.KeyValue k e) = if nat_eq (expr_span e).range.start byte then text_of k else None
named_by_one byte (entries.Spread e) = None

abbrev pub named_at : ℕ → List (MapEntryOf Expr) → Option (List ℕ)
named_at byte [] = None
named_at byte (e ∷ es) = option_or (named_by_one byte e) (named_at byte es)

abbrev pub attribute_in : CallVal → ℕ → Option AttributeVal
attribute_in c byte = option_map (λ name. record { call = c; name = name }) (named_at byte c.attributes)

-- .. in the first of the calls that has one
abbrev pub attribute_at : List (Bor (Spanned ComponentCall)) → ℕ → Option AttributeVal
attribute_at [] byte = None
attribute_at (c ∷ cs) byte = option_or (attribute_in (call_view (node_of c.now)) byte) (attribute_at cs byte)

-- the call has an attribute of the name
abbrev pub is_text : List ℕ → Option (List ℕ) → Bool
is_text name None = false
is_text name (Some text) = bytes_eq text name

abbrev pub is_named : List ℕ → MapEntryOf Expr → Bool
is_named name (entries.KeyValue k e) = is_text name (text_of k)
is_named name (entries.Spread e) = false

abbrev pub passes : CallVal → List ℕ → Bool
passes c name = list_any (is_named name) c.attributes
