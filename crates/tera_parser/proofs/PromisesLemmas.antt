-- From what is read to the grammar.
use Rattle.std.proofs.Common.{◌≡◌, inl, inr, Bool, Result, Ok, Err, sym, ap, subst, ◌∙◌}
use Rattle.std.specs.Prelude.{IfOk, String, Vec, string_bytes}
use Rattle.std.specs.declared.alloc.Global.{Global}
use Rattle.std.specs.BTreeMap.{BTreeMap}
use Rattle.tera_base.specs.Values as values
use Rattle.tera_base.specs.Values.{Pairs, Vals}
use Rattle.tera_base.specs.ValueView.{value_view}
use Rattle.tera_base.specs.declared.errors.Error.{Error}
use Rattle.tera_base.specs.declared.values.Value.{Value}
use Rattle.tera_lexer.specs.code.Cursors.{Position}
use Rattle.tera_lexer.specs.grammar.Tokens.{Items}
use Rattle.tera_ast.specs.View.{args_view, entries_view, expression_view}
use Rattle.tera_ast.specs.declared.ast.Expression.{Expression}
use Rattle.tera_ast.specs.declared.ast.MapEntryOf.{MapEntryOf}
use Rattle.tera_grammar.specs.Limits.{Limits}
use Rattle.tera_grammar.specs.expressions.Concrete.{Attributes, Tree, attributes_yield, yield}
use Rattle.tera_grammar.specs.expressions.Companions.{AreKwargs, ArrayWithin, EachArgs, Filtering, IsArray, IsMap, Opened, Path, array_yield, filter_output, filter_yield, kwargs_output, kwargs_yield, map_yield, path_output, path_yield}
use Rattle.tera_grammar.specs.expressions.Conditions.{AreArgs, AreAttributes, IsExpression}
use Rattle.tera_grammar.specs.expressions.Ends.{EndsAttributes, EndsFilter, EndsPath, IsStop}
use Rattle.tera_grammar.specs.expressions.Measures.{EachAttribute, EachRow, Within}
use Rattle.tera_grammar.specs.expressions.Output.{attributes_output, output}
use Rattle.tera_grammar.specs.Reads as reads
use Rattle.tera_grammar.specs.Reads.{Takes}
use Rattle.tera_grammar.specs.expressions.Reading.Whole.{all_attributes, expression_of, filter_of, kwargs_of, literal_array_of, literal_map_of, path_of}
use Rattle.tera_grammar.specs.statements.Expressions as parts
use Rattle.tera_grammar.proofs.expressions.Fronts.{ends_stop}
use Rattle.tera_grammar.proofs.expressions.InFront.{array_puts, attributes_puts, filter_puts, kwargs_puts, map_puts, path_puts, yield_puts}
use Rattle.tera_grammar.proofs.expressions.Only.{attributes_end, filter_end, path_end}
use Rattle.tera_grammar.proofs.stops.Fronts.{found_same}
use Rattle.tera_grammar.proofs.Readings.{attributes_found_whole, attributes_read_whole, expression_found, expression_read, filter_found, filter_read_whole, kwargs_found, kwargs_read, literal_array_found, literal_array_read, literal_map_found, literal_map_read, path_found, path_read}
use Rattle.tera_expr_parts.proofs.RefusedLemmas.{found_stops}
use Rattle.tera_expr_reader.specs.Outermost as outermost
use Rattle.tera_parser.specs.Promises.{TakesOnly, TookArray, TookAttributes, TookExpression, TookFilter, TookKwargs, TookMap, TookPath}
use Rattle.tera_expect.specs.Taking.{GivesBy, GoesOn, Took}
use Rattle.tera_expect.proofs.TakingLemmas.{later}
use Rattle.tera_parser.proofs.YieldLemmas.{later_on, took_tokens}

-- What is read of tokens is all that can be read of them.
only_by : {E T : Type 0} (Is : E → T → Type 0) (r : Result E Error) (new : Position) (t : T) (rest : Items) (read : Takes T)
    → GivesBy Is r new.left read → read ≡ reads.found (t, rest) → TakesOnly (λ e. Is e t) rest r new
only_by {T = T} Is (Ok e) new t rest read (u, is, shows) whole =
    let same : (u, new.left) ≡ (t, rest) = found_same _ _ (sym is ∙ whole) in
    (ap (λ (x : T × Items). x.1) same, subst (λ (x : T × Items). Is e x.0) same shows)
only_by Is (Err e) new t rest read (inl memory) whole = memory
only_by Is (Err e) new t rest read (inr stops) whole = absurd (found_stops read (t, rest) new.left whole stops)

module _ (limits : Limits) (l : Bool) (old new : Position) where
  -- expressions
  pub found : (r : Result Expression Error) → GivesBy (outermost.IsExpression l) r new.left (expression_of limits l old.left) → IfOk r (λ _. Took old new)
      → IfOk r (λ e. TookExpression limits l old e new)
  found (Ok e) (t, read, shows) took =
      let (tokens, is, within) = expression_found limits l old.left new.left t read in
      (t, took_tokens (yield t) (yield_puts t) old new tokens (later old new took), is, within, shows)
  found (Err e) gives took = tt

  pub complete : (r : Result Expression Error) → GivesBy (outermost.IsExpression l) r new.left (expression_of limits l old.left)
      → (t : Tree) (rest : Items) → IsExpression l t → Within limits t → IsStop rest → old.left ≡ yield t rest
      → TakesOnly (λ e. expression_view e ≡ output l t) rest r new
  complete r gives t rest is within stop tokens =
      only_by (λ e t. expression_view e ≡ output l t) r new t rest (expression_of limits l old.left) gives
      (ap (expression_of limits l) tokens ∙ expression_read limits l t rest is within (ends_stop rest stop))

  -- attributes
  abbrev ShowAttributes : Vec (MapEntryOf Expression) Global → Attributes → Type 0
  ShowAttributes v x = outermost.AreAttributes l v.items x

  pub attributes_found : (r : Result (Vec (MapEntryOf Expression) Global) Error) → GivesBy ShowAttributes r new.left (all_attributes limits l old.left)
      → IfOk r (λ _. GoesOn old new) → IfOk r (λ v. TookAttributes limits l old v new)
  attributes_found (Ok v) (x, read, shows) gone =
      let (tokens, are, each) = attributes_found_whole limits l old.left new.left x read in
      (x, took_tokens (attributes_yield x) (attributes_puts x) old new tokens (later_on old new gone), are, each, shows)
  attributes_found (Err e) gives gone = tt

  pub attributes_complete : (r : Result (Vec (MapEntryOf Expression) Global) Error) → GivesBy ShowAttributes r new.left (all_attributes limits l old.left)
      → (x : Attributes) (rest : Items) → AreAttributes l x → EachAttribute (Within limits) x → EndsAttributes rest → old.left ≡ attributes_yield x rest
      → TakesOnly (λ v. entries_view v.items ≡ attributes_output l x) rest r new
  attributes_complete r gives x rest are each ends tokens =
      only_by ShowAttributes r new x rest (all_attributes limits l old.left) gives
      (ap (all_attributes limits l) tokens ∙ attributes_read_whole limits l x rest are each (attributes_end rest ends))

  -- arguments
  abbrev ShowArguments : BTreeMap (String Global) Expression → Opened → Type 0
  ShowArguments m x = outermost.AreKwargs l m.entries x

  pub kwargs_were_found : (r : Result (BTreeMap (String Global) Expression) Error) → GivesBy ShowArguments r new.left (kwargs_of limits l old.left)
      → IfOk r (λ _. Took old new) → IfOk r (λ m. TookKwargs limits l old m new)
  kwargs_were_found (Ok m) (x, read, shows) took =
      let (tokens, are, each) = kwargs_found limits l old.left new.left x read in
      (x, took_tokens (kwargs_yield x) (kwargs_puts x) old new tokens (later old new took), are, each, shows)
  kwargs_were_found (Err e) gives took = tt

  pub kwargs_complete : (r : Result (BTreeMap (String Global) Expression) Error) → GivesBy ShowArguments r new.left (kwargs_of limits l old.left)
      → (x : Opened) (rest : Items) → AreKwargs l x → EachRow (Within limits) x.row → old.left ≡ kwargs_yield x rest
      → TakesOnly (λ m. args_view m.entries ≡ kwargs_output l x) rest r new
  kwargs_complete r gives x rest are each tokens =
      only_by ShowArguments r new x rest (kwargs_of limits l old.left) gives (ap (kwargs_of limits l) tokens ∙ kwargs_read limits l x rest are each)

  -- filters
  pub filter_was_found : (r : Result Expression Error) → GivesBy (outermost.IsFilter l old.span) r new.left (filter_of limits l old.left) → IfOk r (λ _. Took old new)
      → IfOk r (λ e. TookFilter limits l old e new)
  filter_was_found (Ok e) (x, read, shows) took =
      let (tokens, are, each) = filter_found limits l old.left new.left x read in
      (x, took_tokens (filter_yield x) (filter_puts x) old new tokens (later old new took), are, each, shows)
  filter_was_found (Err e) gives took = tt

  pub filter_complete : (r : Result Expression Error) → GivesBy (outermost.IsFilter l old.span) r new.left (filter_of limits l old.left)
      → (x : Filtering) (rest : Items) → AreArgs l x.args → EachArgs (Within limits) x.args → EndsFilter rest → old.left ≡ filter_yield x rest
      → TakesOnly (λ e. expression_view e ≡ filter_output l old.span x) rest r new
  filter_complete r gives x rest are each ends tokens =
      only_by (λ e x. expression_view e ≡ filter_output l old.span x) r new x rest (filter_of limits l old.left) gives
      (ap (filter_of limits l) tokens ∙ filter_read_whole limits l x rest are each (filter_end rest ends))

-- names of components
module _ (old new : Position) where
  pub path_was_found : (r : Result (String Global) Error) → GivesBy outermost.IsComponent r new.left (path_of old.left) → IfOk r (λ _. Took old new) → IfOk r (λ s. TookPath old s new)
  path_was_found (Ok s) (x, read, shows) took =
      (x, took_tokens (path_yield x) (path_puts x) old new (path_found old.left new.left x read) (later old new took), shows)
  path_was_found (Err e) gives took = tt

  pub path_complete : (r : Result (String Global) Error) → GivesBy outermost.IsComponent r new.left (path_of old.left) → (x : Path) (rest : Items) → EndsPath rest
      → old.left ≡ path_yield x rest → TakesOnly (λ s. string_bytes s ≡ path_output x) rest r new
  path_complete r gives x rest ends tokens =
      only_by (λ s x. string_bytes s ≡ path_output x) r new x rest (path_of old.left) gives (ap path_of tokens ∙ path_read x rest (path_end rest ends))

-- arrays and maps of constants
module _ (limits : Limits) (old new : Position) where
  pub array_was_found : (r : Result Value Error) → GivesBy outermost.IsArray r new.left (literal_array_of limits old.left) → IfOk r (λ _. Took old new)
      → IfOk r (λ v. TookArray limits old v new)
  unfolding parts.array_output
  array_was_found (Ok v) (x, read, shows) took =
      let (tokens, is, within) = literal_array_found limits old.left new.left x.0 x.1 read in
      (x.0, x.1, took_tokens (array_yield x.0) (array_puts x.0) old new tokens (later old new took), is, within, shows)
  array_was_found (Err e) gives took = tt

  pub array_complete : (r : Result Value Error) → GivesBy outermost.IsArray r new.left (literal_array_of limits old.left)
      → (x : Opened) (vs : Vals) (rest : Items) → IsArray x vs → ArrayWithin limits x → old.left ≡ array_yield x rest → TakesOnly (λ v. value_view v ≡ values.Array vs) rest r new
  unfolding parts.array_output
  array_complete r gives x vs rest is within tokens =
      only_by (λ v (x : Opened × Vals). value_view v ≡ values.Array x.1) r new (x, vs) rest (literal_array_of limits old.left) gives
      (ap (literal_array_of limits) tokens ∙ literal_array_read limits x vs rest is within)

  pub map_was_found : (r : Result Value Error) → GivesBy outermost.IsMap r new.left (literal_map_of limits old.left) → IfOk r (λ _. Took old new)
      → IfOk r (λ v. TookMap limits old v new)
  unfolding parts.map_output
  map_was_found (Ok v) (x, read, shows) took =
      let (tokens, is, within) = literal_map_found limits old.left new.left x.0 x.1 read in
      (x.0, x.1, took_tokens (map_yield x.0) (map_puts x.0) old new tokens (later old new took), is, within, shows)
  map_was_found (Err e) gives took = tt

  pub map_complete : (r : Result Value Error) → GivesBy outermost.IsMap r new.left (literal_map_of limits old.left)
      → (x : Opened) (ps : Pairs) (rest : Items) → IsMap x ps → EachRow (Within limits) x.row → old.left ≡ map_yield x rest → TakesOnly (λ v. value_view v ≡ values.Map ps) rest r new
  unfolding parts.map_output
  map_complete r gives x ps rest is within tokens =
      only_by (λ v (x : Opened × Pairs). value_view v ≡ values.Map x.1) r new (x, ps) rest (literal_map_of limits old.left) gives
      (ap (literal_map_of limits) tokens ∙ literal_map_read limits x ps rest is within)
