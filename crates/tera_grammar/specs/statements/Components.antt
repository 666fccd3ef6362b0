-- The definition of a component, except its body: its name, its parameters and its metadata.
use Rattle.std.specs.Prelude.{◌≡◌, ℕ, ℤ, Bool, true, false, ◌||◌, List, [], ◌∷◌, codes, Option, Some, None, is_some, neg_ℤ}
use Rattle.std.specs.Str.{bytes_eq}
use Rattle.tera_base.specs.declared.utils.Span.{Span}
use Rattle.tera_lexer.specs.grammar.Tokens as toks
use Rattle.tera_lexer.specs.grammar.Tokens.{Items, Token}
use Rattle.tera_base.specs.Values as values
use Rattle.tera_base.specs.Values.{Val, Pairs, NoPairs, OnePair}
use Rattle.tera_base.specs.Text.{key_text}
use Rattle.tera_ast.specs.Tree.{Stmt}
use Rattle.tera_tree.specs.Tree.{Argument, Definition}
use Rattle.tera_tree.specs.declared.ast.ArgType.{ArgType}
use Rattle.tera_grammar.specs.expressions.Output.{literal_value}
use Rattle.tera_grammar.specs.expressions.Operators.{Minus}
use Rattle.tera_grammar.specs.expressions.Concrete.{Lit, literal_token}
use Rattle.tera_grammar.specs.expressions.Marks.{mark, LeftParen, RightParen, Comma, Colon, Spread, Assign, At, Operation}
use Rattle.tera_grammar.specs.statements.Types.{type_of, type_named, has_type, Sorted, put_name}
use Rattle.tera_grammar.specs.Words.{is_none, AreDistinct}
use Rattle.tera_grammar.specs.statements.Names.{agrees}
use Rattle.tera_grammar.specs.statements.Tags.{Name, name_yield, Tag, keyword, finish, if_any}
use Rattle.tera_grammar.specs.statements.Expressions.{Limits, ComponentName, component_yield, component_text, LiteralArray, IsLiteralArray, array_yield, array_output, LiteralMap, IsLiteralMap, map_yield, map_output}

-- the default of a parameter: a literal; a minus and a number; a word for no value; a constant array; a constant
-- map
pub data Default : Type 0 where
  LiteralDefault : Lit → Span → Default
  MinusDefault : Span → ℤ → Span → Default
  NothingDefault : Name → Default
  ArrayDefault : LiteralArray → Default
  MapDefault : LiteralMap → Default

abbrev pub FitsDefault : Limits → Default → Type 0
FitsDefault l (NothingDefault n) = is_none n.text ≡ true
FitsDefault l (ArrayDefault a) = IsLiteralArray l a
FitsDefault l (MapDefault m) = IsLiteralMap l m
FitsDefault l d = Unit {0}

abbrev pub default_yield : Default → Items → Items
default_yield (LiteralDefault x span) items = Token (literal_token x) span items
default_yield (MinusDefault minus n span) items = mark (Operation Minus) minus (Token (toks.Integer n) span items)
default_yield (NothingDefault n) items = name_yield n items
default_yield (ArrayDefault a) items = array_yield a items
default_yield (MapDefault m) items = map_yield m items

abbrev pub default_output : Default → Val
default_output (LiteralDefault x span) = literal_value x
default_output (MinusDefault minus n span) = values.I64 (neg_ℤ n)
default_output (NothingDefault n) = values.Nothing
default_output (ArrayDefault a) = values.Array (array_output a)
default_output (MapDefault m) = values.Map (map_output m)

-- the type of a parameter, after a colon, and its default, after an equals sign
pub record Annotation : Type 0 where
  pub colon : Span
  pub name : Name

pub record Assigned : Type 0 where
  pub sign : Span
  pub value : Default

-- a parameter: where `@` is before it, if it does; its name; its type and its default, if any
pub record Parameter : Type 0 where
  pub at : Option Span
  pub name : Name
  pub type : Option Annotation
  pub default : Option Assigned

abbrev pub annotation_yield : Annotation → Items → Items
annotation_yield a items = mark Colon a.colon (name_yield a.name items)

abbrev pub assigned_yield : Assigned → Items → Items
assigned_yield d items = mark Assign d.sign (default_yield d.value items)

abbrev pub parameter_yield : Parameter → Items → Items
parameter_yield p items =
    if_any (mark At) p.at (name_yield p.name (if_any annotation_yield p.type (if_any assigned_yield p.default items)))

abbrev pub default_of : Option Assigned → Option Val
default_of None = None
default_of (Some d) = Some (default_output d.value)

-- the type that is written, or else that of the default
abbrev pub type_of_argument : Option Annotation → Option Val → Option ArgType
type_of_argument (Some a) d = type_named a.name.text
type_of_argument None None = None
type_of_argument None (Some v) = type_of v

abbrev pub argument_of : Parameter → Argument
argument_of p = record {
  default = default_of p.default;
  typ = type_of_argument p.type (default_of p.default);
  implicit = is_some p.at;
}

-- a type that is written is one
abbrev pub is_known : Option Annotation → Bool
is_known None = true
is_known (Some a) = is_some (type_named a.name.text)

abbrev pub is_nothing : Val → Bool
is_nothing values.Nothing = true
is_nothing v = false

-- a default that is a value is of its type
abbrev pub default_has_type : Option ArgType → Option Val → Bool
default_has_type (Some t) (Some v) = is_nothing v || has_type t v
default_has_type type default = true

abbrev pub FitsAssigned : Limits → Option Assigned → Type 0
FitsAssigned l None = Unit {0}
FitsAssigned l (Some d) = FitsDefault l d.value

abbrev pub is_body : List ℕ → Bool
is_body name = bytes_eq name (codes "body")

abbrev pub FitsParameter : Limits → Parameter → Type 0
FitsParameter l p =
    (is_body p.name.text ≡ false) × (is_known p.type ≡ true) × FitsAssigned l p.default
    × (default_has_type (argument_of p).typ (argument_of p).default ≡ true)

-- The parameters, up to the closing parenthesis: none; the rest parameter; a last one; one more, with a comma.
pub data Parameters : Type 0 where
  Closed : Span → Parameters
  Rest : Span → Name → Span → Parameters
  Final : Parameter → Span → Parameters
  More : Parameter → Span → Parameters → Parameters

abbrev pub parameters_yield : Parameters → Items → Items
parameters_yield (Closed end) items = mark RightParen end items
parameters_yield (Rest dots n end) items = mark Spread dots (name_yield n (mark RightParen end items))
parameters_yield (Final p end) items = parameter_yield p (mark RightParen end items)
parameters_yield (More p comma ps) items = parameter_yield p (mark Comma comma (parameters_yield ps items))

-- the names of all of them
abbrev pub parameter_names : Parameters → List (List ℕ)
parameter_names (Closed end) = []
parameter_names (Rest dots n end) = n.text ∷ []
parameter_names (Final p end) = p.name.text ∷ []
parameter_names (More p comma ps) = p.name.text ∷ parameter_names ps

abbrev pub FitEach : Limits → Parameters → Type 0
FitEach l (Closed end) = Unit {0}
FitEach l (Rest dots n end) = is_body n.text ≡ false
FitEach l (Final p end) = FitsParameter l p
FitEach l (More p comma ps) = FitsParameter l p × FitEach l ps

-- each may be there, and no two have one name
abbrev pub FitParameters : Limits → Parameters → Type 0
FitParameters l ps = FitEach l ps × AreDistinct (parameter_names ps)

-- the arguments, put among others
abbrev pub put_arguments : Parameters → Sorted Argument → Sorted Argument
put_arguments (Final p end) args = put_name p.name.text (argument_of p) args
put_arguments (More p comma ps) args = put_arguments ps (put_name p.name.text (argument_of p) args)
put_arguments ps args = args

abbrev pub rest_of : Parameters → Option (List ℕ)
rest_of (Rest dots n end) = Some n.text
rest_of (More p comma ps) = rest_of ps
rest_of ps = None

-- The tags of a component's definition.
pub record Head : Type 0 where
  pub tag : Tag
  pub name : ComponentName
  pub paren : Span
  pub parameters : Parameters
  pub metadata : Option LiteralMap
  pub ending : Tag
  pub end_name : Option ComponentName

abbrev pub head_yield : Head → Items → Items
head_yield h items =
    keyword (codes "component") h.tag (component_yield h.name (mark LeftParen h.paren (parameters_yield h.parameters (if_any map_yield h.metadata (finish h.tag items)))))

abbrev pub ending_yield : Head → Items → Items
ending_yield h items = keyword (codes "endcomponent") h.ending (if_any component_yield h.end_name (finish h.ending items))

abbrev pub FitsMetadata : Limits → Option LiteralMap → Type 0
FitsMetadata l None = Unit {0}
FitsMetadata l (Some m) = IsLiteralMap l m

abbrev pub component_texts : Option ComponentName → Option (List ℕ)
component_texts None = None
component_texts (Some n) = Some (component_text n)

abbrev pub FitsHead : Limits → Head → Type 0
FitsHead l h = FitParameters l h.parameters × FitsMetadata l h.metadata × (agrees (component_text h.name) (component_texts h.end_name) ≡ true)

-- each value under its key's text; of two keys with one text the later wins
abbrev pub put_pairs : Pairs → Sorted Val → Sorted Val
put_pairs NoPairs values = values
put_pairs (OnePair k v ps) values = put_pairs ps (put_name (key_text k) v values)

abbrev pub metadata_output : Option LiteralMap → Sorted Val
metadata_output None = []
metadata_output (Some m) = put_pairs (map_output m) []

abbrev pub definition_of : Head → List Stmt → Definition
definition_of h body = record {
  name = component_text h.name;
  arguments = put_arguments h.parameters [];
  rest = rest_of h.parameters;
  metadata = metadata_output h.metadata;
  body = body;
}
