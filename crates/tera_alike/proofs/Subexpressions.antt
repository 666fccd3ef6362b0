-- The parts of expressions over the same tokens at other places: what holds of a whole expression there holds of them.
use Rattle.std.proofs.Common.{◌≡◌, Bool, true, [], ◌++◌, refl, sym, ap, ap₂, ◌∙◌, arith, codes}
use Rattle.tera_base.specs.Values as values
use Rattle.tera_base.specs.Values.{Pairs}
use Rattle.tera_base.specs.declared.utils.Span.{Span}
use Rattle.tera_lexer.specs.code.Cursors.{nowhere}
use Rattle.tera_lexer.specs.grammar.Tokens.{Items, Token}
use Rattle.tera_ast.specs.Tree as tree
use Rattle.tera_ast.specs.Tree.{Expr}
use Rattle.tera_grammar.specs.expressions.Marks.{mark, Comma, RightBrace}
use Rattle.tera_grammar.specs.expressions.Concrete.{Name, Truth, Second, no_second, second, Dotted, no_dots, dots, Kind, of_arguments, of_items, of_entries, closing, Tree, Atomic, Suffixed, Literal, Call, Array, Map, Row, ended, only, then, Element, plain, spread, pair, argument, Attributes, no_attributes, bare, quoted, valued, spreading, Filter, Args, no_args, args, second_yield, dotted_yield, row_yield, attributes_yield, args_yield}
use Rattle.tera_grammar.specs.expressions.Conditions.{AreVariables, IsRow, AreAttributes, AreArgs}
use Rattle.tera_grammar.specs.expressions.Measures.{row_measure, arrays}
use Rattle.tera_grammar.specs.expressions.Output.{quote_text, key_of, dotted_text, key_variable, value_variable, with_value, constant_items, constant_entries, put_pair, items_output, item_output, entries_output, entry_output, attributes_output, args_output}
use Rattle.tera_source.specs.Placeless.{placeless_args, placeless_items, placeless_entries}
use Rattle.tera_source.proofs.Places.{name_at, second_at, dotted_at, row_at, element_at, args_at, attributes_at, tokens_at, tree_tokens}
use Rattle.tera_source.proofs.SameMeasures.{measure_same}
use Rattle.tera_source.proofs.SameOutput.{output_same}
use Rattle.tera_source.proofs.SameConditions.{bound_same}

-- what comes after the first token, and after the first two
abbrev following : Items → Items
following (Token t span r) = r
following r = r

-- the arguments of a call
abbrev called : Expr → tree.Args
called (tree.FunctionCall n g s) = g
called e = tree.NoArgs

-- an operand that may be before each filter
abbrev plain_operand : Span → Tree
plain_operand span = Atomic (Literal (Truth true) span)

-- Their tokens
module _ (at : Items → Span) (end : Items) where
  abbrev AtPlaces : (Items → Items) → (Items → Items) → Items → Type 0
  AtPlaces tokens moved r = tokens_at at end (tokens r) ≡ moved (tokens_at at end r)

  pub second_tokens : (m : Second) (r : Items) → AtPlaces (second_yield m) (second_yield (second_at at m r)) r
  second_tokens no_second r = refl
  second_tokens (second s n) r = refl

  pub dotted_tokens : (ds : Dotted) (r : Items) → AtPlaces (dotted_yield ds) (dotted_yield (dotted_at at ds r)) r
  dotted_tokens no_dots r = refl
  dotted_tokens (dots s n ds) r = rw (dotted_tokens ds r)

  -- a row after the token that opens it
  pub row_tokens : (k : Kind) (row : Row) (r : Items) → AtPlaces (row_yield k row) (row_yield k (row_at at k row r)) r
  row_tokens of_items row r = ap following (tree_tokens at end (Atomic (Array nowhere row)) r)
  row_tokens of_entries row r = ap following (tree_tokens at end (Atomic (Map nowhere row)) r)
  row_tokens of_arguments row r =
      ap (λ items. following (following items)) (tree_tokens at end (Atomic (Call (record { text = []; span = nowhere }) nowhere row)) r)

  pub args_tokens : (g : Args) (r : Items) → AtPlaces (args_yield g) (args_yield (args_at at g r)) r
  args_tokens no_args r = refl
  args_tokens (args s row) r = rw (row_tokens of_arguments row r)

  pub attributes_tokens : (ats : Attributes) (r : Items) → AtPlaces (attributes_yield ats) (attributes_yield (attributes_at at ats r)) r
  attributes_tokens no_attributes r = refl
  attributes_tokens (bare n ats) r = rw (attributes_tokens ats r)
  attributes_tokens (quoted n s q t ats) r = rw (attributes_tokens ats r)
  attributes_tokens (valued n s b e c ats) r =
      rw (tree_tokens at end e (mark RightBrace c (attributes_yield ats r)), attributes_tokens ats r)
  attributes_tokens (spreading b s e c ats) r =
      rw (tree_tokens at end e (mark RightBrace c (attributes_yield ats r)), attributes_tokens ats r)

-- What they are read as. Constants hold no places.
constant_items_placeless : (is : tree.Items) → constant_items (placeless_items is) ≡ constant_items is
constant_items_placeless tree.NoItems = refl
constant_items_placeless (tree.Item (tree.Const v s) is) = ap (with_value v) (constant_items_placeless is)
constant_items_placeless _ = refl

constant_entries_placeless : (es : tree.Entries) (ps : Pairs) → constant_entries (placeless_entries es) ps ≡ constant_entries es ps
constant_entries_placeless tree.NoEntries ps = refl
constant_entries_placeless (tree.Entry k (tree.Const v s) es) ps = constant_entries_placeless es (put_pair k v ps)
constant_entries_placeless _ ps = refl

module _ (at : Items → Span) where
  pub key_same : (n : Name) (m : Second) (r more : Items) → key_variable (name_at at n r) (second_at at m more) ≡ key_variable n m
  key_same n no_second r more = refl
  key_same n (second s m) r more = refl

  pub value_same : (n : Name) (m : Second) (r more : Items) → value_variable (name_at at n r) (second_at at m more) ≡ value_variable n m
  value_same n no_second r more = refl
  value_same n (second s m) r more = refl

  pub dotted_same : (ds : Dotted) (r : Items) → dotted_text (dotted_at at ds r) ≡ dotted_text ds
  dotted_same no_dots r = refl
  dotted_same (dots s n ds) r = ap (λ x. codes "." ++ (n.text ++ x)) (dotted_same ds r)

  module _ (l : Bool) where
    item_same : (x : Element) (r : Items) (is js : tree.Items) → placeless_items is ≡ placeless_items js →
        placeless_items (item_output l (element_at at x r) is) ≡ placeless_items (item_output l x js)
    item_same (plain e) r is js h = ap₂ tree.Item (output_same at l e r) h
    item_same (spread s e) r is js h = ap₂ tree.SpreadItem (output_same at l e r) h
    item_same (pair x s t e) r is js h = h
    item_same (argument n s e) r is js h = h

    items_same : (k : Kind) (row : Row) (r : Items) → placeless_items (items_output l (row_at at k row r)) ≡ placeless_items (items_output l row)
    items_same k (ended s) r = refl
    items_same k (only x s) r = item_same x (mark (closing k) s r) tree.NoItems tree.NoItems refl
    items_same k (then x s xs) r =
        item_same x (mark Comma s (row_yield k xs r)) (items_output l (row_at at k xs r)) (items_output l xs) (items_same k xs r)

    entry_same : (x : Element) (r : Items) (es fs : tree.Entries) → placeless_entries es ≡ placeless_entries fs →
        placeless_entries (entry_output l (element_at at x r) es) ≡ placeless_entries (entry_output l x fs)
    entry_same (pair x s t e) r es fs h = ap₂ (tree.Entry (key_of x)) (output_same at l e r) h
    entry_same (spread s e) r es fs h = ap₂ tree.SpreadEntry (output_same at l e r) h
    entry_same (plain e) r es fs h = h
    entry_same (argument n s e) r es fs h = h

    entries_same : (k : Kind) (row : Row) (r : Items) → placeless_entries (entries_output l (row_at at k row r)) ≡ placeless_entries (entries_output l row)
    entries_same k (ended s) r = refl
    entries_same k (only x s) r = entry_same x (mark (closing k) s r) tree.NoEntries tree.NoEntries refl
    entries_same k (then x s xs) r =
        entry_same x (mark Comma s (row_yield k xs r)) (entries_output l (row_at at k xs r)) (entries_output l xs) (entries_same k xs r)

    pub constants_same : (row : Row) (r : Items) → constant_items (items_output l (row_at at of_items row r)) ≡ constant_items (items_output l row)
    constants_same row r =
        sym (constant_items_placeless (items_output l (row_at at of_items row r))) ∙ ap constant_items (items_same of_items row r)
        ∙ constant_items_placeless (items_output l row)

    pub pairs_same : (row : Row) (r : Items) (ps : Pairs) →
        constant_entries (entries_output l (row_at at of_entries row r)) ps ≡ constant_entries (entries_output l row) ps
    pairs_same row r ps =
        sym (constant_entries_placeless (entries_output l (row_at at of_entries row r)) ps)
        ∙ ap (λ es. constant_entries es ps) (entries_same of_entries row r) ∙ constant_entries_placeless (entries_output l row) ps

    pub attributes_same : (ats : Attributes) (r : Items) → placeless_entries (attributes_output l (attributes_at at ats r)) ≡ placeless_entries (attributes_output l ats)
    attributes_same no_attributes r = refl
    attributes_same (bare n ats) r = ap (tree.Entry (values.TextKey n.text) (tree.Var n.text nowhere)) (attributes_same ats r)
    attributes_same (quoted n s q t ats) r = ap (tree.Entry (values.TextKey n.text) (tree.Const (values.Text (quote_text q)) nowhere)) (attributes_same ats r)
    attributes_same (valued n s b e c ats) r =
        ap₂ (tree.Entry (values.TextKey n.text)) (output_same at l e (mark RightBrace c (attributes_yield ats r))) (attributes_same ats r)
    attributes_same (spreading b s e c ats) r =
        ap₂ tree.SpreadEntry (output_same at l e (mark RightBrace c (attributes_yield ats r))) (attributes_same ats r)

    -- the arguments of a call of the same name
    pub args_same : (g : Args) (r : Items) → placeless_args (args_output l (args_at at g r)) ≡ placeless_args (args_output l g)
    args_same no_args r = refl
    args_same (args s row) r = ap called (output_same at l (Atomic (Call (record { text = []; span = nowhere }) nowhere row)) r)

  -- Their conditions
  pub variables_bound : (n : Name) (m : Second) (r more : Items) → AreVariables n m → AreVariables (name_at at n r) (second_at at m more)
  variables_bound n no_second r more h = h
  variables_bound n (second s m) r more h = h

  pub items_deep : (row : Row) (r : Items) → row_measure arrays (row_at at of_items row r) ≡ row_measure arrays row
  items_deep row r = let same = measure_same at arrays (Atomic (Array nowhere row)) r in omega arith

  module _ (l : Bool) where
    pub items_bound : (row : Row) (r : Items) → IsRow l of_items row → IsRow l of_items (row_at at of_items row r)
    items_bound row r h = bound_same at l (Atomic (Array nowhere row)) r h

    pub entries_bound : (row : Row) (r : Items) → IsRow l of_entries row → IsRow l of_entries (row_at at of_entries row r)
    entries_bound row r h = bound_same at l (Atomic (Map nowhere row)) r h

    pub attributes_bound : (ats : Attributes) (r : Items) → AreAttributes l ats → AreAttributes l (attributes_at at ats r)
    attributes_bound no_attributes r h = tt
    attributes_bound (bare n ats) r h = attributes_bound ats r h
    attributes_bound (quoted n s q t ats) r h = attributes_bound ats r h
    attributes_bound (valued n s b e c ats) r h = (bound_same at l e _ h.0, attributes_bound ats r h.1)
    attributes_bound (spreading b s e c ats) r h = (bound_same at l e _ h.0, attributes_bound ats r h.1)

    -- those of a filter after an operand that may be before each
    pub args_bound : (g : Args) (r : Items) → AreArgs l g → AreArgs l (args_at at g r)
    args_bound g r h =
        (bound_same at l (Suffixed (plain_operand nowhere) (Filter nowhere (record { text = []; span = nowhere }) g)) r (tt, tt, h)).2
