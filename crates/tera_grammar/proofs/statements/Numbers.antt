-- A number among the constants of a template is one of its tokens' numbers, or the negation of one.
use Rattle.std.proofs.Common.{arith, refl, sym, ◌≡◌, ℕ, Bool, true, false, List, [], ◌∷◌, ◌++◌, Option, Some, None, Less, Equal, Greater, nat_cmp, subst}
use Rattle.std.specs.Prelude.{ℤ, neg_ℤ}
use Rattle.std.specs.List.{AllByRecursion}
use Rattle.std.specs.Cmp.Lexicographic.{slice_cmp}
use Rattle.std.specs.FinMap.Entries.{by_order}
use Rattle.tera_base.specs.declared.utils.Span.{Span}
use Rattle.tera_base.specs.Text.{key_text}
use Rattle.tera_base.specs.Values as values
use Rattle.tera_base.specs.Values.{Val, Pairs}
use Rattle.tera_lexer.specs.grammar.Tokens as toks
use Rattle.tera_lexer.specs.grammar.Tokens.{Tok, Items, Ended, Token, tokens_of}
use Rattle.tera_lexer.specs.grammar.Marks.{Marks, IsValid}
use Rattle.tera_lexer.specs.grammar.Division.{Complete}
use Rattle.tera_lexer.specs.grammar.Tiling.{Tile, Shows, in_tag_after}
use Rattle.tera_lexer.proofs.Tilings.{tokens_tile}
use Rattle.tera_lexer.specs.declared.lexer.delimiters.Kind.TheVariants as kind
use Rattle.tera_ast.specs.Tree as tree
use Rattle.tera_ast.specs.Tree.{Expr, Stmt}
use Rattle.tera_tree.specs.Tree.{Argument, Output}
use Rattle.tera_ast.specs.View.{nodes_of, filters_of}
use Rattle.tera_grammar.specs.expressions.Operators.{GreaterThan}
use Rattle.tera_grammar.specs.expressions.Marks.{mark, RightParen, Comma, Assign, Operation, At}
use Rattle.tera_grammar.specs.expressions.Concrete.{quote_token, literal_token, of_items, of_entries}
use Rattle.tera_grammar.specs.expressions.Output.{items_output, entries_output}
use Rattle.tera_grammar.specs.expressions.Constants.{IsLiteralNumber, EachNumber, EachOfValue, EachOfValues, EachOfPairs, EachConstant, EachOfEntries}
use Rattle.tera_grammar.specs.statements.TagParts.{Name, name_yield, Tag, OpensSet, AtEndSet, AtEndBlock, AtEndFor, AtEndIf, opening, closing, finish, if_any}
use Rattle.tera_grammar.specs.statements.Types.{Sorted, put_name}
use Rattle.tera_grammar.specs.statements.Expressions.{Limits, Expression, expression_yield, expression_output, Filtering, filter_yield, filter_output, Attributes, attributes_yield, attributes_output, ComponentName, component_yield, LiteralArray, IsLiteralArray, array_yield, array_output, LiteralMap, IsLiteralMap, map_yield, map_output}
use Rattle.tera_grammar.specs.statements.Components.{Default, LiteralDefault, MinusDefault, NothingDefault, ArrayDefault, MapDefault, FitsDefault, default_yield, default_output, Annotation, Assigned, Parameter, annotation_yield, assigned_yield, parameter_yield, default_of, argument_of, FitsAssigned, FitsParameter, Parameters, Closed, Rest, Final, More, parameters_yield, FitEach, put_arguments, FitsMetadata, ending_yield, put_pairs, metadata_output}
use Rattle.tera_grammar.specs.statements.Heads.{Loop, loop_yield, Filters, NoFilters, Piped, filters_yield, filters_output, SetBody, Section, CallBody}
use Rattle.tera_grammar.specs.statements.Grammar.{Text, Shown, Set, Include, Extends, Break, Continue, Body, Done, Then, Item, Single, Block, Define, Capturing, For, If, Branches, Elif, Last, Else, NoElse, Otherwise, Path, InFor, InForElse, InBlock, InIf, InComponent, InCapture, yield, item_yield, branches_yield, else_yield, Fits, FitsItem, FitsBranches, FitsElse}
use Rattle.tera_grammar.specs.statements.Output.{text_adds, added_nodes, added_by, definitions_by, output, branch_output, else_output, definitions_of, output_of}
use Rattle.tera_grammar.specs.statements.Top.{IsTemplate, Derives}
use Rattle.tera_grammar.specs.statements.Constants.{EachOfFilters, EachOfNodes, EachOfNode, EachOfDefault, EachOfDefinition, EachOfOutput}
use Rattle.tera_grammar.proofs.expressions.Bodiless.{has_body}
use Rattle.tera_grammar.proofs.expressions.Numbers.{literal_negates, following, after_dotted, after_second, literal_holds, OfValues, OfPairs, constant_items_hold, constant_entries_hold, constants_hold, items_hold, entries_hold, attributes_hold, args_hold}
use Rattle.tera_grammar.proofs.statements.Expressions.{expression_plain}

all-append : {A : Type 0} (P : A → Type 0) (xs ys : List A) → AllByRecursion P xs → AllByRecursion P ys → AllByRecursion P (xs ++ ys)
all-append P [] ys a b = b
all-append P (x ∷ xs) ys a b = (a.0, all-append P xs ys a.1 b)

-- what holds of values holds of them with one more
put_all : {X : Type 0} (Q : X → Type 0) (k : List ℕ) (v : X) (es : Sorted X) → Q v → AllByRecursion (λ e. Q e.1) es
    → AllByRecursion (λ e. Q e.1) (put_name k v es)
put_all Q k v [] h hs = (h, tt)
put_all {X} Q k v (e ∷ es) h hs =
    elim (slice_cmp nat_cmp k e.0) as (λ o. AllByRecursion (λ (y : List ℕ × X). Q y.1) (by_order o ((k, v) ∷ e ∷ es) ((e.0, v) ∷ es) (e ∷ put_name k v es))) [
      | Less ↦ (h, hs)
      | Equal ↦ (h, hs.1)
      | Greater ↦ (hs.0, put_all Q k v es h hs.1)
    ]

module _ (P : ℤ → Type 0) (negates : (n : ℤ) → P n → P (neg_ℤ n)) where
  -- what is in tags
  expression_holds : (f : Bool) (e : Expression) (r : Items) → EachNumber P (expression_yield e r) → EachConstant P (expression_output f e) × EachNumber P r
  expression_holds f e r h = constants_hold P negates f e r h

  filter_holds : (f : Bool) (span : Span) (x : Filtering) (r : Items) → EachNumber P (filter_yield x r) → EachConstant P (filter_output f span x) × EachNumber P r
  filter_holds f span x r h = let y = args_hold P negates f x.args r h in ((tt, y.0), y.1)

  attributes_hold_too : (f : Bool) (a : Attributes) (r : Items) → EachNumber P (attributes_yield a r) → EachOfEntries P (attributes_output f a) × EachNumber P r
  attributes_hold_too f a r h = attributes_hold P negates f a r h

  after_component : (n : ComponentName) (r : Items) → EachNumber P (component_yield n r) → EachNumber P r
  after_component n r h = after_dotted P n.further r h

  array_holds : (l : Limits) (a : LiteralArray) (r : Items) → IsLiteralArray l a → EachNumber P (array_yield a r) → EachOfValues P (array_output a) × EachNumber P r
  unfolding IsLiteralArray array_yield array_output
  array_holds l a r is h =
      let x = items_hold P negates false of_items a.0.row r h in
      (subst (OfValues P) is.0.1 (constant_items_hold P (items_output false a.0.row) x.0), x.1)

  map_holds : (l : Limits) (m : LiteralMap) (r : Items) → IsLiteralMap l m → EachNumber P (map_yield m r) → EachOfPairs P (map_output m) × EachNumber P r
  unfolding IsLiteralMap map_yield map_output
  map_holds l m r is h =
      let x = entries_hold P negates false of_entries m.0.row r h in
      (subst (OfPairs P) is.0.1 (constant_entries_hold P (entries_output false m.0.row) values.NoPairs x.0 tt), x.1)

  filters_hold : (f : Bool) (fs : Filters) (r : Items) → EachNumber P (filters_yield fs r) → EachOfFilters P (filters_of (filters_output f fs)) × EachNumber P r
  filters_hold f NoFilters r h = (tt, h)
  filters_hold f (Piped bar x fs) r h =
      let y = filter_holds f bar x (filters_yield fs r) h in
      let z = filters_hold f fs r y.1 in
      ((y.0, z.0), z.1)

  loop_holds : (lp : Loop) (r : Items) → EachNumber P (loop_yield lp r) → EachConstant P (expression_output true lp.target) × EachNumber P r
  loop_holds lp r h = expression_holds true lp.target r (after_second P lp.second _ h)

  -- a component's definition
  default_holds : (l : Limits) (d : Default) (r : Items) → FitsDefault l d → EachNumber P (default_yield d r) → EachOfValue P (default_output d) × EachNumber P r
  default_holds l (LiteralDefault x span) r is h = (literal_holds P x span r h, following P (literal_token x) span r h)
  default_holds l (MinusDefault minus n span) r is h = (negates n h.0, h.1)
  default_holds l (NothingDefault n) r is h = (tt, h)
  default_holds l (ArrayDefault a) r is h = array_holds l a r is h
  default_holds l (MapDefault m) r is h = map_holds l m r is h

  assigned_holds : (l : Limits) (d : Option Assigned) (r : Items) → FitsAssigned l d → EachNumber P (if_any assigned_yield d r) → EachOfDefault P (default_of d) × EachNumber P r
  assigned_holds l None r is h = (tt, h)
  assigned_holds l (Some d) r is h = default_holds l d.value r is h

  after_annotation : (t : Option Annotation) (r : Items) → EachNumber P (if_any annotation_yield t r) → EachNumber P r
  after_annotation None r h = h
  after_annotation (Some a) r h = h

  after_at : (at : Option Span) (r : Items) → EachNumber P (if_any (mark At) at r) → EachNumber P r
  after_at None r h = h
  after_at (Some span) r h = h

  parameter_holds : (l : Limits) (p : Parameter) (r : Items) → FitsParameter l p → EachNumber P (parameter_yield p r) → EachOfDefault P (argument_of p).default × EachNumber P r
  parameter_holds l p r is h =
      assigned_holds l p.default r is.2 (after_annotation p.type (if_any assigned_yield p.default r) (after_at p.at (name_yield p.name (if_any annotation_yield p.type (if_any assigned_yield p.default r))) h))

  abbrev OfArgument : Argument → Type 0
  OfArgument a = EachOfDefault P a.default

  parameters_hold : (l : Limits) (ps : Parameters) (args : Sorted Argument) (r : Items) → FitEach l ps → AllByRecursion (λ a. OfArgument a.1) args
      → EachNumber P (parameters_yield ps r) → AllByRecursion (λ a. OfArgument a.1) (put_arguments ps args) × EachNumber P r
  parameters_hold l (Closed end) args r is hs h = (hs, h)
  parameters_hold l (Rest dots n end) args r is hs h = (hs, h)
  parameters_hold l (Final p end) args r is hs h =
      let x = parameter_holds l p (mark RightParen end r) is h in (put_all OfArgument p.name.text (argument_of p) args x.0 hs, x.1)
  parameters_hold l (More p comma ps) args r is hs h =
      let x = parameter_holds l p (mark Comma comma (parameters_yield ps r)) is.0 h in
      parameters_hold l ps (put_name p.name.text (argument_of p) args) r is.1 (put_all OfArgument p.name.text (argument_of p) args x.0 hs) x.1

  pairs_hold : (ps : Pairs) (vs : Sorted Val) → EachOfPairs P ps → AllByRecursion (λ m. EachOfValue P m.1) vs → AllByRecursion (λ m. EachOfValue P m.1) (put_pairs ps vs)
  pairs_hold values.NoPairs vs h hs = hs
  pairs_hold (values.OnePair k v ps) vs h hs = pairs_hold ps (put_name (key_text k) v vs) h.1 (put_all (EachOfValue P) (key_text k) v vs h.0 hs)

  metadata_holds : (l : Limits) (m : Option LiteralMap) (r : Items) → FitsMetadata l m → EachNumber P (if_any map_yield m r)
      → AllByRecursion (λ m. EachOfValue P m.1) (metadata_output m) × EachNumber P r
  metadata_holds l None r is h = (tt, h)
  metadata_holds l (Some m) r is h = let x = map_holds l m r is h in (pairs_hold (map_output m) [] x.0 tt, x.1)

  after_component_if_any : (n : Option ComponentName) (r : Items) → EachNumber P (if_any component_yield n r) → EachNumber P r
  after_component_if_any None r h = h
  after_component_if_any (Some n) r h = after_component n r h

  after_name_if_any : (n : Option Name) (r : Items) → EachNumber P (if_any name_yield n r) → EachNumber P r
  after_name_if_any None r h = h
  after_name_if_any (Some n) r h = h

  -- nodes
  nodes-append : (xs ys : List Stmt) → EachOfNodes P (nodes_of xs) → EachOfNodes P (nodes_of ys) → EachOfNodes P (nodes_of (xs ++ ys))
  nodes-append [] ys a b = b
  nodes-append (x ∷ xs) ys a b = (a.0, nodes-append xs ys a.1 b)

  shown_holds : (e : Expr) → has_body e ≡ false → EachConstant P e → EachOfNode P (tree.Shown e)
  shown_holds (tree.ComponentCall name es body false span) is h = cc
  shown_holds e is h = h

  text_holds : (text : List ℕ) → EachOfNodes P (nodes_of (added_nodes (text_adds text)))
  text_holds [] = tt
  text_holds (b ∷ bs) = (tt, tt)

  text_defines : (text : List ℕ) → AllByRecursion (EachOfDefinition P) (definitions_by (text_adds text))
  text_defines [] = tt
  text_defines (b ∷ bs) = tt

  after_opener : (global : Bool) (t : Tag) (r : Items) → EachNumber P (opening (OpensSet global) t r) → EachNumber P r
  after_opener true t r h = h
  after_opener false t r h = h

  -- what an item adds, and what comes after it
  pub record ItemHolds (f : Bool) (i : Item) (r : Items) : Type 0 where
    pub nodes : EachOfNodes P (nodes_of (added_nodes (added_by f i)))
    pub definitions : AllByRecursion (EachOfDefinition P) (definitions_by (added_by f i))
    pub later : EachNumber P r

  mutual
    body_holds : (l : Limits) (path : Path) (f : Bool) (b : Body) (r : Items) → Fits l path b → EachNumber P (yield b r)
        → EachOfNodes P (nodes_of (output f b)) × EachNumber P r
    body_holds l path f Done r is h = (tt, h)
    body_holds l path f (Then i b) r is h =
        let x = item_holds l path f i (yield b r) is.0 h in
        let y = body_holds l path f b r is.1 x.later in
        (nodes-append (added_nodes (added_by f i)) (output f b) x.nodes y.0, y.1)

    item_holds : (l : Limits) (path : Path) (f : Bool) (i : Item) (r : Items) → FitsItem l path i → EachNumber P (item_yield i r) → ItemHolds f i r
    item_holds l path f (Single (Text text span)) r is h = record { nodes = text_holds text; definitions = text_defines text; later = h }
    item_holds l path f (Single (Shown a e b)) r is h =
        let x = expression_holds f e (Token (toks.Finish kind.Variable b.dash) b.span r) h in
        record { nodes = (shown_holds (expression_output f e) (expression_plain f e) x.0, tt); definitions = tt; later = x.1 }
    item_holds l path f (Single (Set g t n s e)) r is h =
        let value = mark Assign s (expression_yield e (finish t r)) in
        let x = expression_holds f e (finish t r) (after_opener g t (name_yield n value) h) in record { nodes = (x.0, tt); definitions = tt; later = x.1 }
    item_holds l path f (Single (Include t q span)) r is h = record { nodes = (tt, tt); definitions = tt; later = following P (quote_token q) span (finish t r) h }
    item_holds l path f (Single (Extends t q span)) r is h = record { nodes = tt; definitions = tt; later = following P (quote_token q) span (finish t r) h }
    item_holds l path f (Single (Break t)) r is h = record { nodes = (tt, tt); definitions = tt; later = h }
    item_holds l path f (Single (Continue t)) r is h = record { nodes = (tt, tt); definitions = tt; later = h }
    item_holds l path f (Block t n b e m) r is h =
        let x = body_holds l (InBlock ∷ path) f b (closing AtEndBlock e (if_any name_yield m (finish e r))) is.2 h in
        record { nodes = (x.0, tt); definitions = tt; later = after_name_if_any m (finish e r) x.1 }
    item_holds l path f (Define d b) r is h =
        let tail = yield b (ending_yield d r) in
        let x = parameters_hold l d.parameters [] (if_any map_yield d.metadata (finish d.tag tail)) is.1.0.0 tt (after_component d.name _ h) in
        let y = metadata_holds l d.metadata (finish d.tag tail) is.1.1 x.1 in
        let z = body_holds l (InComponent ∷ path) f b (ending_yield d r) is.2 y.1 in
        record { nodes = tt; definitions = ((x.0, y.0, z.0), tt); later = after_component_if_any d.end_name (finish d.ending r) z.1 }
    item_holds l path f (Capturing (SetBody g t n fs e) b) r is h =
        let end = closing AtEndSet e (finish e r) in
        let inside = finish t (yield b end) in
        let x = filters_hold f fs inside (after_opener g t (name_yield n (filters_yield fs inside)) h) in
        let y = body_holds l (InCapture ∷ path) f b end is.1 x.1 in
        record { nodes = ((x.0, y.0), tt); definitions = tt; later = y.1 }
    item_holds l path f (Capturing (Section t g fs e) b) r is h =
        let w = filter_holds f t.first g (filters_yield fs (finish t (yield b _))) h in
        let x = filters_hold f fs (finish t (yield b _)) w.1 in
        let y = body_holds l (InCapture ∷ path) f b _ is.1 x.1 in
        record { nodes = (((w.0, x.0), y.0), tt); definitions = tt; later = y.1 }
    item_holds l path f (Capturing (CallBody t n a last e m end) b) r is h =
        let x = attributes_hold_too f a (mark (Operation GreaterThan) last (finish t (yield b _))) (after_component n _ h) in
        let y = body_holds l (InCapture ∷ path) f b _ is.1 x.1 in
        record { nodes = ((x.0, y.0), tt); definitions = tt; later = after_component m (mark (Operation GreaterThan) end (finish e r)) y.1 }
    item_holds l path f (For t lp b o e) r is h =
        let x = loop_holds lp (finish t (yield b (else_yield o (closing AtEndFor e (finish e r))))) h in
        let y = body_holds l (InFor ∷ path) true b (else_yield o (closing AtEndFor e (finish e r))) is.1 x.1 in
        let z = else_holds l (InForElse ∷ path) f o (closing AtEndFor e (finish e r)) is.2 y.1 in
        record { nodes = ((x.0, y.0, z.0), tt); definitions = tt; later = z.1 }
    item_holds l path f (If t c b bs e) r is h =
        let x = expression_holds f c (finish t (yield b (branches_yield bs (closing AtEndIf e (finish e r))))) h in
        let y = body_holds l (InIf ∷ path) f b (branches_yield bs (closing AtEndIf e (finish e r))) is.1 x.1 in
        let z = branches_hold l (InIf ∷ path) f bs (closing AtEndIf e (finish e r)) is.2 y.1 in
        record { nodes = ((x.0, y.0, z.0), tt); definitions = tt; later = z.1 }

    branches_hold : (l : Limits) (path : Path) (f : Bool) (bs : Branches) (r : Items) → FitsBranches l path bs → EachNumber P (branches_yield bs r)
        → EachOfNodes P (nodes_of (branch_output f bs)) × EachNumber P r
    branches_hold l path f (Elif t c b bs) r is h =
        let x = expression_holds f c (finish t (yield b (branches_yield bs r))) h in
        let y = body_holds l path f b (branches_yield bs r) is.1 x.1 in
        let z = branches_hold l path f bs r is.2 y.1 in
        (((x.0, y.0, z.0), tt), z.1)
    branches_hold l path f (Last o) r is h = else_holds l path f o r is h

    else_holds : (l : Limits) (path : Path) (f : Bool) (o : Else) (r : Items) → FitsElse l path o → EachNumber P (else_yield o r)
        → EachOfNodes P (nodes_of (else_output f o)) × EachNumber P r
    else_holds l path f NoElse r is h = (tt, h)
    else_holds l path f (Otherwise t b) r is h = body_holds l path f b r is h

  definitions_hold : (l : Limits) (b : Body) (r : Items) → Fits l [] b → EachNumber P (yield b r) → AllByRecursion (EachOfDefinition P) (definitions_of b)
  definitions_hold l Done r is h = tt
  definitions_hold l (Then i b) r is h =
      let x = item_holds l [] false i (yield b r) is.0 h in
      all-append (EachOfDefinition P) (definitions_by (added_by false i)) (definitions_of b) x.definitions (definitions_hold l b r is.1 x.later)

  pub template_holds : (l : Limits) (ts : Items) (b : Body) → IsTemplate l ts b → EachNumber P ts → EachOfOutput P (output_of b)
  template_holds l ts b is h =
      let tokens = subst (EachNumber P) is.tokens h in
      ((body_holds l [] false b Ended is.fits tokens).0, definitions_hold l b Ended is.fits tokens)

-- the numbers among the tokens of a source are those that a literal may be
literal_more : (t : Tok) (span : Span) (items : Items) (bytes : List ℕ) → Shows t bytes → EachNumber IsLiteralNumber items → EachNumber IsLiteralNumber (Token t span items)
literal_more (toks.Integer n) span items bytes (is, fits) each = (subst IsLiteralNumber (sym is) (omega (arith, fits)), each)
literal_more t span items bytes shows each = each

tile_numbers : (items : Items) (inside : Bool) (front rest : List ℕ) → Tile inside front rest items → EachNumber IsLiteralNumber items
tile_numbers Ended inside front rest tile = tt
tile_numbers (toks.Failed text span) inside front rest tile = tt
tile_numbers (Token t span items) inside front rest (gap, bytes, following, e, between, some, belongs, shows, is, tile) =
    literal_more t span items bytes shows (tile_numbers items (in_tag_after inside t) ((front ++ gap) ++ bytes) following tile)

pub source_holds : (l : Limits) (m : Marks) → IsValid m → (source : List ℕ) (out : Output) → Derives l m source out → EachOfOutput IsLiteralNumber out
source_holds l m valid source out d =
    let items = tokens_of m [] [] d.0 Complete in
    let numbers = tile_numbers items false [] source (tokens_tile m valid source items (d.0, Complete, d.1, refl)) in
    subst (EachOfOutput IsLiteralNumber) (sym d.2.2) (template_holds IsLiteralNumber literal_negates l items d.2.0 d.2.1 numbers)
