-- What the public calls promise, by the grammar.
use Rattle.std.specs.Prelude.{◌≡◌, ◌+◌, Bool, Result, Ok, Err, String, Vec, string_bytes}
use Rattle.std.specs.declared.alloc.Global.{Global}
use Rattle.std.specs.BTreeMap.{BTreeMap}
use Rattle.tera_base.specs.Errors.{IsMemory}
use Rattle.tera_base.specs.Values as values
use Rattle.tera_base.specs.Values.{Vals, Pairs}
use Rattle.tera_base.specs.ValueView.{value_view}
use Rattle.tera_base.specs.declared.errors.Error.{Error}
use Rattle.tera_base.specs.declared.utils.Span.{Span}
use Rattle.tera_base.specs.declared.values.Value.{Value}
use Rattle.tera_lexer.specs.code.Cursors.{Position, size}
use Rattle.tera_lexer.specs.grammar.Tokens.{Items, Ended, Failed, Token}
use Rattle.tera_ast.specs.View.{args_view, entries_view, expression_view}
use Rattle.tera_ast.specs.declared.ast.Expression.{Expression}
use Rattle.tera_ast.specs.declared.ast.MapEntryOf.{MapEntryOf}
use Rattle.tera_grammar.specs.Limits.{Limits}
use Rattle.tera_grammar.specs.expressions.Concrete.{Attributes, Tree, attributes_yield, yield}
use Rattle.tera_grammar.specs.expressions.Companions.{AreKwargs, ArrayWithin, EachArgs, Filtering, IsArray, IsMap, Opened, Path, array_yield, filter_output, filter_yield, kwargs_output, kwargs_yield, map_yield, path_output, path_yield}
use Rattle.tera_grammar.specs.expressions.Conditions.{AreArgs, AreAttributes, IsExpression}
use Rattle.tera_grammar.specs.expressions.Measures.{EachAttribute, EachRow, Within}
use Rattle.tera_grammar.specs.expressions.Output.{attributes_output, output}

-- the span of the last token, or the one before where there is none
abbrev pub last_span : Span → Items → Span
last_span before Ended = before
last_span before (Failed text span) = before
last_span before (Token t span items) = last_span span items

-- What was taken is a yield, which is given in front of others: as many tokens were taken as it has by itself, and
-- the span is that of its last one.
abbrev pub TookTokens : (Items → Items) → Position → Position → Type 0
TookTokens tokens old new =
    (old.left ≡ tokens new.left) × (new.taken ≡ old.taken + size (tokens Ended)) × (new.span ≡ last_span old.span (tokens Ended))

-- These tokens were taken and nothing else, and the answer is as it has to be; or an allocation failed.
abbrev pub TakesOnly : {E : Type 0} → (E → Type 0) → Items → Result E Error → Position → Type 0
TakesOnly Is rest (Ok e) new = (new.left ≡ rest) × Is e
TakesOnly Is rest (Err e) new = IsMemory e

-- an expression within the limits was taken, and the answer is what it stands for
abbrev pub TookExpression : Limits → Bool → Position → Expression → Position → Type 0
TookExpression limits in_loop old e new =
    (t : Tree) × TookTokens (yield t) old new × IsExpression in_loop t × Within limits t × (expression_view e ≡ output in_loop t)

-- attributes, each value within the limits
abbrev pub TookAttributes : Limits → Bool → Position → Vec (MapEntryOf Expression) Global → Position → Type 0
TookAttributes limits in_loop old v new =
    (x : Attributes) × TookTokens (attributes_yield x) old new × AreAttributes in_loop x × EachAttribute (Within limits) x
    × (entries_view v.items ≡ attributes_output in_loop x)

-- arguments with their parentheses, each within the limits
abbrev pub TookKwargs : Limits → Bool → Position → BTreeMap (String Global) Expression → Position → Type 0
TookKwargs limits in_loop old m new =
    (x : Opened) × TookTokens (kwargs_yield x) old new × AreKwargs in_loop x × EachRow (Within limits) x.row
    × (args_view m.entries ≡ kwargs_output in_loop x)

-- a filter of no value, which is at the token taken before, each argument within the limits
abbrev pub TookFilter : Limits → Bool → Position → Expression → Position → Type 0
TookFilter limits in_loop old e new =
    (x : Filtering) × TookTokens (filter_yield x) old new × AreArgs in_loop x.args × EachArgs (Within limits) x.args
    × (expression_view e ≡ filter_output in_loop old.span x)

-- names joined by dots
abbrev pub TookPath : Position → String Global → Position → Type 0
TookPath old s new = (x : Path) × TookTokens (path_yield x) old new × (string_bytes s ≡ path_output x)

-- an array of constants, within the limits
abbrev pub TookArray : Limits → Position → Value → Position → Type 0
TookArray limits old v new =
    (x : Opened) × (vs : Vals) × TookTokens (array_yield x) old new × IsArray x vs × ArrayWithin limits x × (value_view v ≡ values.Array vs)

-- a map of constants, each value within the limits
abbrev pub TookMap : Limits → Position → Value → Position → Type 0
TookMap limits old v new =
    (x : Opened) × (ps : Pairs) × TookTokens (map_yield x) old new × IsMap x ps × EachRow (Within limits) x.row × (value_view v ≡ values.Map ps)
