-- The call of a component that is offered to copy.
use Rattle.std.specs.Prelude.{◌≡◌, ℕ, List, [], ◌++◌, if◌then◌else◌, Option, None, Some, IfSome, codes, string_bytes}
use Rattle.std.specs.List.{flat_map}
use Rattle.tera_grammar.specs.Limits.{usual}
use Rattle.tera_grammar.specs.statements.Top.{Derives}
use Rattle.tera_lexer.specs.grammar.Marks.{default_marks}
use Rattle.tera_tree.specs.Infos.{Info, ArgumentInfo, is_required, info_view}
use Rattle.tera_tree.specs.Tree.{Output}
use Rattle.tera_tree.specs.declared.argument_infos.ComponentArgType.{ComponentArgType}
use Rattle.tera_tree.specs.declared.argument_infos.ComponentArgType.TheVariants as types
use Rattle.tera_catalogue.specs.declared.components.Component.{Component}

-- what comes after the name of an attribute: a constant of the type; or nothing, if the type has none, so that the
-- variable of that name is passed
abbrev pub constant_of : Option ComponentArgType → List ℕ
constant_of None = codes "=\"\""
constant_of (Some types.String) = codes "=\"\""
constant_of (Some types.Bool) = codes "={false}"
constant_of (Some types.Integer) = codes "={0}"
constant_of (Some types.Number) = codes "={0}"
constant_of (Some types.Array) = codes "={[]}"
constant_of (Some types.Map) = codes "={ {} }"
constant_of (Some types.Bytes) = []

-- an attribute, if the argument has to be passed
abbrev pub attribute_of : ArgumentInfo → List ℕ
attribute_of a = if is_required a then codes " " ++ (a.name ++ constant_of a.typ) else []

abbrev pub call_of : Info → List ℕ
call_of i = codes "{{ <" ++ (i.name ++ (flat_map attribute_of i.arguments ++ codes "/> }}"))

-- what is offered is that call, and by itself it is a template, between the usual markers and within the usual limits
abbrev pub IsTemplateText : List ℕ → Type 0
IsTemplateText text = (o : Output) × Derives usual default_marks text o

abbrev pub IsOffer : Info → List ℕ → Type 0
IsOffer i text = (text ≡ call_of i) × IsTemplateText text

abbrev pub IsOffered : Component → Type 0
IsOffered c = IfSome c.call (λ t. IsOffer (info_view c.info) (string_bytes t))
