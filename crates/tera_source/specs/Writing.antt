-- The text that is written for an expression, form by form.
use Rattle.std.specs.Prelude.{ℕ, ℤ, pos, negsuc, suc, Bool, true, false, nat_eq, cond, if◌then◌else◌, List, [], ◌∷◌, ◌++◌, Option, None, Some, codes}
use Rattle.tera_lexer.specs.grammar.Bytes.{dot}
use Rattle.tera_spelling.specs.Spelling.{in_quotes}
use Rattle.std.specs.Fmt.{decimal, signed_decimal}
use Rattle.std.specs.Str.{bytes_eq}
use Rattle.tera_base.specs.Text.{key_text, truth_text}
use Rattle.tera_base.specs.Values as values
use Rattle.tera_base.specs.Values.{KeyVal, TextKey, I64Key, TruthKey, Val, Vals, NoVals, OneVal, Pairs, NoPairs, OnePair}
use Rattle.tera_ast.specs.declared.ast.BinaryOperator.{BinaryOperator}
use Rattle.tera_ast.specs.declared.ast.ArrayEntryOf.{ArrayEntryOf}
use Rattle.tera_ast.specs.declared.ast.ArrayEntryOf.TheVariants as items
use Rattle.tera_ast.specs.declared.ast.MapEntryOf.{MapEntryOf}
use Rattle.tera_ast.specs.declared.ast.MapEntryOf.TheVariants as entries
use Rattle.tera_ast.specs.declared.ast.UnaryOperator.{UnaryOperator}
use Rattle.tera_ast.specs.declared.ast.UnaryOperator.TheVariants as unary
use Rattle.tera_ast.specs.Text.{binary_text}
use Rattle.tera_ast.specs.Tree.{Expr, Const, Array, Map, Var, GetAttr, GetItem, Slice, Filter, Test, Ternary, ListComprehension, ComponentCall, FunctionCall, UnaryOperation, BinaryOperation, MaybeExpr, NoExpr, OneExpr, Args, NoArgs, Arg, Items, NoItems, Item, SpreadItem, Entries, NoEntries, Entry, SpreadEntry}
use Rattle.tera_base.specs.ValueView.{key_view}
use Rattle.tera_source.specs.declared.context.Context.{Context}
use Rattle.tera_source.specs.Contexts.{free, above, before, following, after_prefix, left_of, right_of, takes_negation, breaks}

-- a space is around each dot in the name of a component
abbrev pub dotted : List ℕ → List ℕ
dotted [] = []
dotted (b ∷ bs) = cond (nat_eq b dot) (codes " . " ++ dotted bs) (b ∷ dotted bs)

-- what is before one of several
abbrev pub comma_text : Bool → List ℕ
comma_text later = if later then codes " , " else codes " "

-- a key of a map
abbrev pub key_source : KeyVal → List ℕ
key_source (TextKey text) = in_quotes text
key_source (I64Key n) = signed_decimal n
key_source (TruthKey b) = truth_text b

-- a number, with a space after its minus
abbrev pub number_text : ℤ → List ℕ
number_text (pos n) = decimal n
number_text (negsuc n) = codes "- " ++ decimal (suc n)

-- a constant
abbrev mutual
  pub constant_text : Val → List ℕ
  constant_text (values.Truth b) = truth_text b
  constant_text (values.I64 n) = number_text n
  constant_text (values.U64 n) = decimal n
  constant_text (values.I128 n) = number_text n
  constant_text (values.U128 n) = decimal n
  constant_text (values.Text text) = in_quotes text
  constant_text (values.Array vs) = codes "[" ++ (vals_text false vs ++ codes " ]")
  constant_text (values.Map ps) = codes "{" ++ (pairs_text false ps ++ codes " }")
  constant_text values.Undefined = codes "none"
  constant_text values.Nothing = codes "none"
  constant_text (values.Bytes bs) = codes "none"

  pub vals_text : Bool → Vals → List ℕ
  vals_text later NoVals = []
  vals_text later (OneVal v vs) = comma_text later ++ (constant_text v ++ vals_text true vs)

  pub pairs_text : Bool → Pairs → List ℕ
  pairs_text later NoPairs = []
  pairs_text later (OnePair k v ps) = comma_text later ++ ((key_source k ++ (codes " : " ++ constant_text v)) ++ pairs_text true ps)

abbrev pub dot_text : Bool → List ℕ
dot_text optional = if optional then codes " ?. " else codes " . "

abbrev pub bracket_text : Bool → List ℕ
bracket_text optional = if optional then codes " ?[" else codes " ["

-- the variables of a comprehension
abbrev pub names_text : Option (List ℕ) → List ℕ → List ℕ
names_text None value = value
names_text (Some key) value = key ++ (codes " , " ++ value)

abbrev pub test_text : Bool → List ℕ
test_text negated = if negated then codes " is not " else codes " is "

abbrev pub operator_text : Bool → BinaryOperator → List ℕ
operator_text negated o = if negated then codes " not in " else codes " " ++ (binary_text o ++ codes " ")

abbrev pub has_args : Args → Bool
has_args NoArgs = false
has_args (Arg name e more) = true

-- the arguments of a test or a filter are in parentheses, if there are any
abbrev pub optional_args : Args → List ℕ → List ℕ
optional_args args text = if has_args args then codes " (" ++ (text ++ codes " )") else []

-- a name alone is the variable of that name
abbrev pub is_bare : KeyVal → Expr → Bool
is_bare (TextKey name) (Var variable span) = bytes_eq name variable
is_bare _ _ = false

-- what comes after the `=` of an attribute, whose value is written so
abbrev pub attribute_value : Expr → List ℕ → List ℕ
attribute_value (Const (values.Text text) span) written = in_quotes text
attribute_value e written = codes "{ " ++ (written ++ codes " }")

abbrev pub attribute_text : KeyVal → Expr → List ℕ → List ℕ
attribute_text k e written = if is_bare k e then key_text k else key_text k ++ (codes " = " ++ attribute_value e written)

-- an expression where it is, in parentheses if it breaks what is asked there
abbrev pub put : Expr → (Context → List ℕ) → Context → List ℕ
put e text c = if breaks e c then codes "( " ++ (text free ++ codes " )") else text c

-- a prefix and its operand, whose text is this; a test and `in` take a `not` into themselves
abbrev pub prefixed : UnaryOperator → Expr → (Bool → Context → List ℕ) → Context → List ℕ
prefixed unary.Minus e text c = codes "- " ++ put e (text false) (after_prefix 20 c)
prefixed unary.Not e text c = if takes_negation e then text true c else codes "not " ++ put e (text false) (after_prefix 5 c)

-- an expression without parentheses around it; a test and `in` may be negated
abbrev mutual
  pub text : Bool → Expr → Context → List ℕ
  text negated (Const v span) c = constant_text v
  text negated (Array es span) c = codes "[" ++ (items_text false es ++ codes " ]")
  text negated (Map es span) c = codes "{" ++ (entries_text false es ++ codes " }")
  text negated (Var name span) c = name
  text negated (GetAttr e name optional span) c = put e (text false e) (before 21 c) ++ (dot_text optional ++ name)
  text negated (GetItem e sub optional span) c =
      put e (text false e) (before 21 c) ++ (bracket_text optional ++ (codes " " ++ (put sub (text false sub) free ++ codes " ]")))
  text negated (Slice e start end step optional span) c =
      put e (text false e) (before 21 c)
      ++ (bracket_text optional ++ (maybe_text (codes " ") 0 start ++ (codes " :" ++ (maybe_text (codes " ") 0 end ++ (maybe_text (codes " : ") 0 step ++ codes " ]")))))
  text negated (Filter e name args span) c =
      put e (text false e) (before 18 c) ++ (codes " | " ++ (name ++ optional_args args (args_text false args)))
  text negated (Test e name args span) c =
      put e (text false e) (before 6 c) ++ (test_text negated ++ (name ++ optional_args args (args_text false args)))
  text negated (Ternary e given other span) c =
      put given (text false given) (before 1 c)
      ++ (codes " if " ++ (put e (text false e) free ++ (codes " else " ++ put other (text false other) (following 0 c))))
  text negated (ListComprehension e key value target condition span) c =
      codes "[ " ++ (put e (text false e) free
      ++ (codes " for " ++ (names_text key value ++ (codes " in " ++ (put target (text false target) (above 1) ++ (maybe_text (codes " if ") 1 condition ++ codes " ]"))))))
  text negated (ComponentCall name es body closed span) c = codes "< " ++ (dotted name ++ (attributes_text es ++ codes " / >"))
  text negated (FunctionCall name args span) c = name ++ (codes " (" ++ (args_text false args ++ codes " )"))
  text negated (UnaryOperation o e span) c = prefixed o e (λ n. text n e) c
  text negated (BinaryOperation o l r span) c =
      put l (text false l) (before (suc (left_of o)) c) ++ (operator_text negated o ++ put r (text false r) (following (right_of o) c))

  -- an expression that may be there, after what is before it, with this least left power
  pub maybe_text : List ℕ → ℕ → MaybeExpr → List ℕ
  maybe_text before power NoExpr = []
  maybe_text before power (OneExpr e) = before ++ put e (text false e) (above power)

  pub args_text : Bool → Args → List ℕ
  args_text later NoArgs = []
  args_text later (Arg name e more) = comma_text later ++ ((name ++ (codes " = " ++ put e (text false e) free)) ++ args_text true more)

  pub items_text : Bool → Items → List ℕ
  items_text later NoItems = []
  items_text later (Item e es) = comma_text later ++ (put e (text false e) free ++ items_text true es)
  items_text later (SpreadItem e es) = comma_text later ++ ((codes "... " ++ put e (text false e) free) ++ items_text true es)

  pub entries_text : Bool → Entries → List ℕ
  entries_text later NoEntries = []
  entries_text later (Entry k e es) = comma_text later ++ ((key_source k ++ (codes " : " ++ put e (text false e) free)) ++ entries_text true es)
  entries_text later (SpreadEntry e es) = comma_text later ++ ((codes "... " ++ put e (text false e) free) ++ entries_text true es)

  pub attributes_text : Entries → List ℕ
  attributes_text NoEntries = []
  attributes_text (Entry k e es) = codes " " ++ (attribute_text k e (put e (text false e) free) ++ attributes_text es)
  attributes_text (SpreadEntry e es) = codes " " ++ ((codes "{ ... " ++ (put e (text false e) free ++ codes " }")) ++ attributes_text es)

abbrev pub unary_text : UnaryOperator → Expr → Context → List ℕ
unary_text o e c = prefixed o e (λ n. text n e) c

abbrev pub written : Expr → Context → List ℕ
written e c = put e (text false e) c

-- an item, an entry and an attribute by itself
abbrev pub item_text : ArrayEntryOf Expr → List ℕ
item_text (items.Item e) = written e free
item_text (items.Spread e) = codes "... " ++ written e free

abbrev pub entry_text : MapEntryOf Expr → List ℕ
entry_text (entries.KeyValue k e) = key_source (key_view k) ++ (codes " : " ++ written e free)
entry_text (entries.Spread e) = codes "... " ++ written e free

abbrev pub one_attribute : MapEntryOf Expr → List ℕ
one_attribute (entries.KeyValue k e) = attribute_text (key_view k) e (written e free)
one_attribute (entries.Spread e) = codes "{ ... " ++ (written e free ++ codes " }")
