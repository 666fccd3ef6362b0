-- What outermost calls read with links, as it is read of tokens alone.
use Rattle.std.proofs.Common.{◌≡◌, ℕ, Bool, Result, Ok, Err, refl, ap, ◌∙◌}
use Rattle.std.specs.Prelude.{String, Vec}
use Rattle.std.specs.declared.alloc.Global.{Global}
use Rattle.std.specs.BTreeMap.{BTreeMap}
use Rattle.tera_base.specs.Values as values
use Rattle.tera_base.specs.ValueView.{value_view}
use Rattle.tera_base.specs.declared.errors.Error.{Error}
use Rattle.tera_base.specs.declared.utils.Span.{Span}
use Rattle.tera_base.specs.declared.values.Value.{Value}
use Rattle.tera_lexer.specs.grammar.Tokens.{Items}
use Rattle.tera_ast.specs.Tree as tree
use Rattle.tera_ast.specs.Tree.{Expr}
use Rattle.tera_ast.specs.View.{expression_view}
use Rattle.tera_ast.specs.declared.ast.Expression.{Expression}
use Rattle.tera_ast.specs.declared.ast.MapEntryOf.{MapEntryOf}
use Rattle.tera_grammar.specs.Limits.{Limits}
use Rattle.tera_grammar.specs.Reads.{found, ◌>>=◌, Fails}
use Rattle.tera_grammar.specs.expressions.Marks.{LeftParen}
use Rattle.tera_grammar.specs.expressions.Companions.{Filtering, Opened}
use Rattle.tera_grammar.specs.expressions.Output.{args_output}
use Rattle.tera_grammar.specs.expressions.Spans.{args_end, spanning}
use Rattle.tera_grammar.specs.expressions.Reading.Front.{Reads, at, skip, takes}
use Rattle.tera_grammar.specs.expressions.Reading.Bracketed.{arguments_of, attributes_of}
use Rattle.tera_grammar.specs.expressions.Reading.Loop.{expr}
use Rattle.tera_grammar.specs.expressions.Reading.Whole.{kwargs_of, left_over, outermost, widest}
use Rattle.tera_grammar.specs.expressions.Stack.{Gives}
use Rattle.tera_grammar.proofs.Readings.{fails_as}
use Rattle.tera_grammar.specs.statements.Expressions as parts
use Rattle.tera_grammar.specs.statements.Expressions.{LiteralArray, LiteralMap}
use Rattle.tera_grammar.specs.statements.Reading.Expressions as readings
use Rattle.tera_grammar.specs.statements.Reading.Expressions.{array_of, map_of}
use Rattle.tera_expect.specs.Taking.{GivesAt, GivesBy}
use Rattle.tera_expr_parts.specs.Paths.{GivesPath}
use Rattle.tera_expr_reader.specs.Attributes.{ListsAttributes}
use Rattle.tera_expr_reader.specs.Calls as calls
use Rattle.tera_expr_reader.specs.Calls.{AreArguments, call_of}
use Rattle.tera_expr_reader.specs.Outermost.{AreAttributes, AreKwargs, IsArray, IsComponent, IsExpression, IsFilter, IsMap}
use Rattle.tera_expect.proofs.Steps.{failed, failed_as, skipped, unskipped}

-- the links that are left are forgotten
alone : {E T : Type 0} (Is : E → T → Type 0) (r : Result E Error) (k : ℕ) (new : Items) (read : Reads T) → GivesAt Is r (at k new) read → GivesBy Is r new (left_over read)
alone Is (Ok e) k new read (t, is, shows) = (t, ap left_over is, shows)
alone Is (Err e) k new read h = fails_as read (left_over read) new e (λ z none. ap left_over none) h

module _ (limits : Limits) (l : Bool) (old new : Items) (k : ℕ) where
  -- an expression
  abbrev tree_read : Reads parts.Expression
  tree_read = expr limits.depth (widest limits l) 0 (at limits.links old)

  pub expression_alone : (r : Result Expression Error) → Gives expression_view l r (at k new) tree_read → GivesBy (IsExpression l) r new (readings.expression_of limits l old)
  unfolding readings.expression_of
  expression_alone (Ok e) gives = alone (IsExpression l) (Ok e) k new tree_read gives
  expression_alone (Err e) gives = alone (IsExpression l) (Err e) k new tree_read gives

  -- attributes
  pub attributes_alone : (r : Result (Vec (MapEntryOf Expression) Global) Error)
      → GivesAt (ListsAttributes l) r (at k new) (attributes_of (outermost limits) (widest limits l) (at 0 old))
      → GivesBy (λ (es : Vec (MapEntryOf Expression) Global) a. AreAttributes l es.items a) r new (readings.attributes_of limits l old)
  unfolding readings.attributes_of
  attributes_alone r gives = alone (ListsAttributes l) r k new (attributes_of (outermost limits) (widest limits l) (at 0 old)) gives

  -- arguments with their parentheses
  abbrev ShowArguments : BTreeMap (String Global) Expression → Opened → Type 0
  ShowArguments m x = AreKwargs l m.entries x

  abbrev after_paren : Reads Span → Reads Opened
  after_paren o = o >>= λ s. arguments_of (outermost limits) (widest limits l) s.1 >>= λ r. found (record { mark = s.0; row = r.0 }, r.1)

  abbrev kwargs_read : Reads Opened
  kwargs_read = after_paren (skip LeftParen (at 0 old))

  pub no_paren : (e : Error) → Fails (takes LeftParen old) new e → Fails (kwargs_of limits l old) new e
  unfolding kwargs_of
  no_paren e h =
      alone ShowArguments (Err e) k new kwargs_read
      (failed (skip LeftParen (at 0 old)) _ new e (failed_as (takes LeftParen old) (skip LeftParen (at 0 old)) new e (unskipped LeftParen 0 old) h))

  kwargs_by : (mid : Items) (span here : Span) (r : Result (BTreeMap (String Global) Expression) Error) → takes LeftParen old ≡ found (span, mid)
      → GivesAt (AreArguments l here) r (at k new) (arguments_of (outermost limits) (widest limits l) (at 0 mid)) → GivesAt ShowArguments r (at k new) kwargs_read
  kwargs_by mid span here (Ok m) paren (row, read, shows) =
      (record { mark = span; row = row }, rw (skipped LeftParen 0 old mid span paren, read) refl, shows.0)
  kwargs_by mid span here (Err e) paren h =
      failed_as (arguments_of (outermost limits) (widest limits l) (at 0 mid)) kwargs_read new e (λ z none. rw (skipped LeftParen 0 old mid span paren, none) refl) h

  pub kwargs_alone : (mid : Items) (span here : Span) (r : Result (BTreeMap (String Global) Expression) Error) → takes LeftParen old ≡ found (span, mid)
      → GivesAt (AreArguments l here) r (at k new) (arguments_of (outermost limits) (widest limits l) (at 0 mid)) → GivesBy ShowArguments r new (kwargs_of limits l old)
  unfolding kwargs_of
  kwargs_alone mid span here r paren gives = alone ShowArguments r k new kwargs_read (kwargs_by mid span here r paren gives)

  -- a filter, whose input is not a value at the span
  abbrev filter_read : Reads Filtering
  filter_read = call_of (outermost limits) (widest limits l) (at 0 old)

  filter_by : (span : Span) (input : Expr) (here : Span) (r : Result Expression Error) → input ≡ tree.Const values.Nothing span
      → GivesAt (calls.IsFilter l input here) r (at k new) filter_read → GivesAt (IsFilter l span) r (at k new) filter_read
  filter_by span input here (Ok e) is (x, read, shows) =
      (x, read, shows.0 ∙ ap (λ i. tree.Filter i x.name.text (args_output l x.args) (spanning x.name.span (args_end x.name x.args))) is)
  filter_by span input here (Err e) is h = h

  pub filter_alone : (span : Span) (input : Expr) (here : Span) (r : Result Expression Error) → input ≡ tree.Const values.Nothing span
      → GivesAt (calls.IsFilter l input here) r (at k new) filter_read → GivesBy (IsFilter l span) r new (readings.filter_of limits l old)
  unfolding readings.filter_of
  filter_alone span input here r is gives = alone (IsFilter l span) r k new filter_read (filter_by span input here r is gives)

-- the name of a component
pub component_alone : (old new : Items) (r : Result (String Global) Error) → GivesPath old r new → GivesBy IsComponent r new (readings.component_of old)
component_alone old new (Ok s) gives = gives
component_alone old new (Err e) gives = gives

-- a constant array, and a constant map
pub array_given : (limits : Limits) (old new : Items) (v : Value) → (x : LiteralArray) × (array_of limits old ≡ found (x, new)) × (value_view v ≡ values.Array x.1)
    → GivesBy IsArray (Ok v) new (array_of limits old)
unfolding parts.array_output
array_given limits old new v given = given

pub map_given : (limits : Limits) (old new : Items) (v : Value) → (x : LiteralMap) × (map_of limits old ≡ found (x, new)) × (value_view v ≡ values.Map x.1)
    → GivesBy IsMap (Ok v) new (map_of limits old)
unfolding parts.map_output
map_given limits old new v given = given
