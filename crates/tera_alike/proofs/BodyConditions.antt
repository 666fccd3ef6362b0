-- The template over the same tokens at other places meets the conditions that the first meets.
use Rattle.std.proofs.Common.{◌≡◌, ◌≤◌, suc, max, Bool, true, false, [], ◌∷◌, Option, Some, None, refl, sym, ap, ap₂, subst, ◌∙◌}
use Rattle.std.specs.Str.{bytes_eq}
use Rattle.tera_base.specs.Values as values
use Rattle.tera_base.specs.declared.utils.Span.{Span}
use Rattle.tera_lexer.specs.grammar.Tokens as toks
use Rattle.tera_lexer.specs.grammar.Tokens.{Items, Ended, Token}
use Rattle.tera_lexer.specs.declared.lexer.delimiters.Kind.TheVariants as kind
use Rattle.tera_grammar.specs.Limits.{Limits}
use Rattle.tera_grammar.specs.Options.{◌>>=◌, guard}
use Rattle.tera_grammar.specs.Words.{AreDistinct}
use Rattle.tera_grammar.specs.expressions.Operators.{GreaterThan, In}
use Rattle.tera_grammar.specs.expressions.Marks.{mark, LeftParen, RightParen, Comma, Operation}
use Rattle.tera_grammar.specs.expressions.Concrete as concrete
use Rattle.tera_grammar.specs.expressions.Concrete.{Kind, of_items, of_entries, of_arguments, Row, ended, only, then, Element, plain, spread, pair, argument, no_args, args, no_attributes, bare, quoted, valued, spreading, second_yield}
use Rattle.tera_grammar.specs.expressions.Measures.{Within, EachElement, EachRow, EachAttribute}
use Rattle.tera_grammar.specs.expressions.Companions.{EachArgs}
use Rattle.tera_grammar.specs.statements.Names.{agrees, NamesAreDistinct, block_named, component_named, ◌and_then◌}
use Rattle.tera_grammar.specs.statements.TagParts.{Name, AtEndBlock, AtEndFor, AtEndIf, closing, finish, if_any, name_yield}
use Rattle.tera_grammar.specs.statements.Expressions.{Expression, IsExpression, Filtering, IsFilter, Attributes, AreAttributes, ComponentName, LiteralArray, IsLiteralArray, LiteralMap, IsLiteralMap, expression_yield, attributes_yield, map_yield}
use Rattle.tera_grammar.specs.statements.Components.{Default, LiteralDefault, MinusDefault, NothingDefault, ArrayDefault, MapDefault, FitsDefault, Annotation, Assigned, Parameter, assigned_yield, is_known, default_has_type, FitsAssigned, FitsParameter, Parameters, Closed, Rest, Final, More, parameters_yield, parameter_names, FitEach, Head, ending_yield, FitsMetadata, component_texts, FitsHead}
use Rattle.tera_grammar.specs.statements.Heads.{Loop, FitsLoop, Filters, NoFilters, Piped, filters_yield, AreFilters, Capture, SetBody, Section, CallBody, capture_end, FitsCapture}
use Rattle.tera_grammar.specs.statements.Grammar.{Plain, Text, Shown, Set, Include, Extends, Break, Continue, Body, Done, Then, Item, Single, Block, Define, Capturing, For, If, Branches, Elif, Last, Else, NoElse, Otherwise, yield, branches_yield, else_yield, Path, InFor, InForElse, InBlock, InIf, InComponent, InCapture, in_loop, text_if_any, FitsPlain, Fits, FitsItem, FitsBranches, FitsElse, names, item_names, branch_names, else_names, inner, item_height, branch_height, else_height}
use Rattle.tera_grammar.specs.statements.Top.{is_kept, TopLevel, IsTemplate}
use Rattle.tera_grammar.specs.statements.Reading.Phases.{Phase, Starting, Standalone, Extending, next_phase}
use Rattle.tera_grammar.proofs.plain.statements.Reading.{phases}
use Rattle.tera_grammar.proofs.Options.{bind_both}
use Rattle.tera_grammar.proofs.statements.Tops.{top_found, top_read}
use Rattle.tera_source.proofs.Places.{tree_at, row_at, element_at, args_at, attributes_at, tokens_at}
use Rattle.tera_source.proofs.SameMeasures.{within_same}
use Rattle.tera_source.proofs.SameConditions.{bound_same}
use Rattle.tera_alike.proofs.Subexpressions.{constants_same, pairs_same, variables_bound, items_deep, items_bound, entries_bound, args_bound, attributes_bound}
use Rattle.tera_alike.proofs.BodyPlaces.{name_if_any_at, filter_at, component_if_any_at, array_at, map_at, metadata_at, default_at, assigned_at, annotation_at, parameter_at, parameters_at, head_at, filters_at, capture_at, loop_at, plain_at, body_at, item_at, branches_at, else_at, body_tokens}
use Rattle.tera_alike.proofs.BodyOutput.{component_same, argument_same}

module _ (place : Items → Span) (l : Limits) where
  -- Each value is within the limits
  element_within : (x : Element) (r : Items) → EachElement (Within l) x → EachElement (Within l) (element_at place x r)
  element_within (plain e) r h = within_same place l e r h
  element_within (spread s e) r h = within_same place l e r h
  element_within (pair x s t e) r h = within_same place l e r h
  element_within (argument n s e) r h = within_same place l e r h

  row_within : (k : Kind) (row : Row) (r : Items) → EachRow (Within l) row → EachRow (Within l) (row_at place k row r)
  row_within k (ended s) r h = tt
  row_within k (only x s) r h = element_within x _ h
  row_within k (then x s xs) r h = (element_within x _ h.0, row_within k xs r h.1)

  args_within : (g : concrete.Args) (r : Items) → EachArgs (Within l) g → EachArgs (Within l) (args_at place g r)
  args_within no_args r h = tt
  args_within (args s row) r h = row_within of_arguments row r h

  attributes_within : (a : Attributes) (r : Items) → EachAttribute (Within l) a → EachAttribute (Within l) (attributes_at place a r)
  attributes_within no_attributes r h = tt
  attributes_within (bare n ats) r h = attributes_within ats r h
  attributes_within (quoted n s q t ats) r h = attributes_within ats r h
  attributes_within (valued n s b e c ats) r h = (within_same place l e _ h.0, attributes_within ats r h.1)
  attributes_within (spreading b s e c ats) r h = (within_same place l e _ h.0, attributes_within ats r h.1)

  -- What is in tags
  expression_fits : (f : Bool) (e : Expression) (r : Items) → IsExpression l f e → IsExpression l f (tree_at place e r)
  unfolding IsExpression
  expression_fits f e r h = (bound_same place f e r h.0, within_same place l e r h.1)

  filter_fits : (f : Bool) (x : Filtering) (r : Items) → IsFilter l f x → IsFilter l f (filter_at place x r)
  unfolding IsFilter
  filter_fits f x r h = (args_bound place f x.args r h.0, args_within x.args r h.1)

  attributes_fit : (f : Bool) (a : Attributes) (r : Items) → AreAttributes l f a → AreAttributes l f (attributes_at place a r)
  unfolding AreAttributes
  attributes_fit f a r h = (attributes_bound place f a r h.0, attributes_within a r h.1)

  array_fits : (a : LiteralArray) (r : Items) → IsLiteralArray l a → IsLiteralArray l (array_at place a r)
  unfolding IsLiteralArray
  array_fits a r h =
      let row = a.0.row in
      let deep = items_deep place row r in
      ((items_bound place false row r h.0.0, constants_same place false row r ∙ h.0.1), (rw deep h.1.0, row_within of_items row r h.1.1))

  map_fits : (m : LiteralMap) (r : Items) → IsLiteralMap l m → IsLiteralMap l (map_at place m r)
  unfolding IsLiteralMap
  map_fits m r h =
      let row = m.0.row in
      ((entries_bound place false row r h.0.0, pairs_same place false row r values.NoPairs ∙ h.0.1), row_within of_entries row r h.1)

  filters_fit : (f : Bool) (fs : Filters) (r : Items) → AreFilters l f fs → AreFilters l f (filters_at place fs r)
  filters_fit f NoFilters r h = tt
  filters_fit f (Piped bar x fs) r h = (filter_fits f x (filters_yield fs r) h.0, filters_fit f fs r h.1)

  -- Definitions of components
  default_fits : (d : Default) (r : Items) → FitsDefault l d → FitsDefault l (default_at place d r)
  default_fits (LiteralDefault x span) r h = tt
  default_fits (MinusDefault minus n span) r h = tt
  default_fits (NothingDefault n) r h = h
  default_fits (ArrayDefault a) r h = array_fits a r h
  default_fits (MapDefault m) r h = map_fits m r h

  assigned_fits : (d : Option Assigned) (r : Items) → FitsAssigned l d → FitsAssigned l (assigned_at place d r)
  assigned_fits None r h = tt
  assigned_fits (Some d) r h = default_fits d.value r h

  known_same : (a : Option Annotation) (r : Items) → is_known (annotation_at place a r) ≡ is_known a
  known_same None r = refl
  known_same (Some a) r = refl

  parameter_fits : (p : Parameter) (r : Items) → FitsParameter l p → FitsParameter l (parameter_at place p r)
  parameter_fits p r h = (
    h.0,
    known_same p.type (if_any assigned_yield p.default r) ∙ h.1,
    assigned_fits p.default r h.2,
    ap (λ a. default_has_type a.typ a.default) (argument_same place p r) ∙ h.3,
  )

  parameters_fit : (ps : Parameters) (r : Items) → FitEach l ps → FitEach l (parameters_at place ps r)
  parameters_fit (Closed end) r h = tt
  parameters_fit (Rest dots n end) r h = h
  parameters_fit (Final p end) r h = parameter_fits p (mark RightParen end r) h
  parameters_fit (More p comma ps) r h = (parameter_fits p (mark Comma comma (parameters_yield ps r)) h.0, parameters_fit ps r h.1)

  parameter_names_same : (ps : Parameters) (r : Items) → parameter_names (parameters_at place ps r) ≡ parameter_names ps
  parameter_names_same (Closed end) r = refl
  parameter_names_same (Rest dots n end) r = refl
  parameter_names_same (Final p end) r = refl
  parameter_names_same (More p comma ps) r = ap (λ ns. p.name.text ∷ ns) (parameter_names_same ps r)

  metadata_fits : (m : Option LiteralMap) (r : Items) → FitsMetadata l m → FitsMetadata l (metadata_at place m r)
  metadata_fits None r h = tt
  metadata_fits (Some m) r h = map_fits m r h

  texts_same : (n : Option ComponentName) (r : Items) → component_texts (component_if_any_at place n r) ≡ component_texts n
  texts_same None r = refl
  texts_same (Some n) r = ap Some (component_same place n r)

  head_fits : (h : Head) (r q : Items) → FitsHead l h → FitsHead l (head_at place h r q)
  head_fits h r q is =
      let metadata = if_any map_yield h.metadata (finish h.tag r) in
      let parameters = parameters_yield h.parameters metadata in (
        (parameters_fit h.parameters metadata is.0.0, subst AreDistinct (sym (parameter_names_same h.parameters metadata)) is.0.1),
        metadata_fits h.metadata (finish h.tag r) is.1,
        ap₂ agrees (component_same place h.name (mark LeftParen h.paren parameters)) (texts_same h.end_name (finish h.ending q)) ∙ is.2,
      )

  -- Statements
  text_same : (m : Option Name) (r : Items) → text_if_any (name_if_any_at place m r) ≡ text_if_any m
  text_same None r = refl
  text_same (Some n) r = refl

  capture_fits : (f : Bool) (c : Capture) (r q : Items) → FitsCapture l f c → FitsCapture l f (capture_at place c r q)
  capture_fits f (SetBody global t n fs e) r q h = (h.0, filters_fit f fs (finish t r) h.1)
  capture_fits f (Section t x fs e) r q h = (filter_fits f x (filters_yield fs (finish t r)) h.0, filters_fit f fs (finish t r) h.1)
  capture_fits f (CallBody t n a last e m end) r q h =
      let close = mark (Operation GreaterThan) last (finish t r) in
      let shut = mark (Operation GreaterThan) end (finish e q) in
      (attributes_fit f a close h.0, ap₂ bytes_eq (component_same place m shut) (component_same place n (attributes_yield a close)) ∙ h.1)

  loop_fits : (lp : Loop) (r : Items) → FitsLoop l lp → FitsLoop l (loop_at place lp r)
  loop_fits lp r h =
      let word = mark (Operation In) lp.word (expression_yield lp.target r) in
      (variables_bound place lp.first lp.second (second_yield lp.second word) word h.0, expression_fits true lp.target r h.1)

  plain_fits : (path : Path) (p : Plain) (r : Items) → FitsPlain l path p → FitsPlain l path (plain_at place p r)
  plain_fits path (Text text span) r h = tt
  plain_fits path (Shown a e b) r h = expression_fits (in_loop path) e (Token (toks.Finish kind.Variable b.dash) b.span r) h
  plain_fits path (Set global t n sign e) r h = (h.0, expression_fits (in_loop path) e (finish t r) h.1)
  plain_fits path (Include t q span) r h = tt
  plain_fits path (Extends t q span) r h = h
  plain_fits path (Break t) r h = h
  plain_fits path (Continue t) r h = h

  mutual
    body_fits : (path : Path) (b : Body) (r : Items) → Fits l path b → Fits l path (body_at place b r)
    body_fits path Done r h = tt
    body_fits path (Then i b) r h = (item_fits path i (yield b r) h.0, body_fits path b r h.1)

    item_fits : (path : Path) (i : Item) (r : Items) → FitsItem l path i → FitsItem l path (item_at place i r)
    item_fits path (Single p) r h = plain_fits path p r h
    item_fits path (Block t n b e m) r h =
        (h.0, ap (agrees n.text) (text_same m (finish e r)) ∙ h.1, body_fits (InBlock ∷ path) b (closing AtEndBlock e (if_any name_yield m (finish e r))) h.2)
    item_fits path (Define d b) r h =
        let close = ending_yield d r in (h.0, head_fits d (yield b close) r h.1, body_fits (InComponent ∷ path) b close h.2)
    item_fits path (Capturing c b) r h =
        let close = capture_end c r in (capture_fits (in_loop path) c (yield b close) r h.0, body_fits (InCapture ∷ path) b close h.1)
    item_fits path (For t lp b o e) r h =
        let close = closing AtEndFor e (finish e r) in
        let other = else_yield o close in
        (loop_fits lp (finish t (yield b other)) h.0, body_fits (InFor ∷ path) b other h.1, else_fits (InForElse ∷ path) o close h.2)
    item_fits path (If t c b bs e) r h =
        let close = closing AtEndIf e (finish e r) in
        let other = branches_yield bs close in
        (expression_fits (in_loop path) c (finish t (yield b other)) h.0, body_fits (InIf ∷ path) b other h.1, branches_fit (InIf ∷ path) bs close h.2)

    branches_fit : (path : Path) (bs : Branches) (r : Items) → FitsBranches l path bs → FitsBranches l path (branches_at place bs r)
    branches_fit path (Elif t c b bs) r h =
        let other = branches_yield bs r in
        (expression_fits (in_loop path) c (finish t (yield b other)) h.0, body_fits path b other h.1, branches_fit path bs r h.2)
    branches_fit path (Last o) r h = else_fits path o r h

    else_fits : (path : Path) (o : Else) (r : Items) → FitsElse l path o → FitsElse l path (else_at place o r)
    else_fits path NoElse r h = tt
    else_fits path (Otherwise t b) r h = body_fits path b r h

  -- the same names
  mutual
    names_same : (b : Body) (r : Items) → names (body_at place b r) ≡ names b
    names_same Done r = refl
    names_same (Then i b) r = ap₂ ◌and_then◌ (item_names_same i (yield b r)) (names_same b r)

    item_names_same : (i : Item) (r : Items) → item_names (item_at place i r) ≡ item_names i
    item_names_same (Single p) r = refl
    item_names_same (Block t n b e m) r = ap (λ ns. block_named n.text and_then ns) (names_same b _)
    item_names_same (Define h b) r = ap₂ (λ n ns. component_named n and_then ns) (component_same place h.name _) (names_same b _)
    item_names_same (Capturing c b) r = names_same b _
    item_names_same (For t lp b o e) r = ap₂ ◌and_then◌ (names_same b _) (else_names_same o _)
    item_names_same (If t c b bs e) r = ap₂ ◌and_then◌ (names_same b _) (branch_names_same bs _)

    branch_names_same : (bs : Branches) (r : Items) → branch_names (branches_at place bs r) ≡ branch_names bs
    branch_names_same (Elif t c b bs) r = ap₂ ◌and_then◌ (names_same b _) (branch_names_same bs r)
    branch_names_same (Last o) r = else_names_same o r

    else_names_same : (o : Else) (r : Items) → else_names (else_at place o r) ≡ else_names o
    else_names_same NoElse r = refl
    else_names_same (Otherwise t b) r = names_same b r

  -- as many bodies one in another
  mutual
    inner_same : (b : Body) (r : Items) → inner (body_at place b r) ≡ inner b
    inner_same Done r = refl
    inner_same (Then i b) r = ap₂ max (height_same i (yield b r)) (inner_same b r)

    height_same : (i : Item) (r : Items) → item_height (item_at place i r) ≡ item_height i
    height_same (Single p) r = refl
    height_same (Block t n b e m) r = ap suc (inner_same b _)
    height_same (Define h b) r = ap suc (inner_same b _)
    height_same (Capturing c b) r = ap suc (inner_same b _)
    height_same (For t lp b o e) r = ap₂ (λ x y. max (suc x) y) (inner_same b _) (else_height_same o _)
    height_same (If t c b bs e) r = ap₂ (λ x y. max (suc x) y) (inner_same b _) (branch_height_same bs _)

    branch_height_same : (bs : Branches) (r : Items) → branch_height (branches_at place bs r) ≡ branch_height bs
    branch_height_same (Elif t c b bs) r = ap₂ (λ x y. max (suc x) y) (inner_same b _) (branch_height_same bs r)
    branch_height_same (Last o) r = else_height_same o r

    else_height_same : (o : Else) (r : Items) → else_height (else_at place o r) ≡ else_height o
    else_height_same NoElse r = refl
    else_height_same (Otherwise t b) r = ap suc (inner_same b r)

  -- The top level
  kept_same : (i : Item) (r : Items) → is_kept (item_at place i r) ≡ is_kept i
  kept_same (Single (Text text span)) r = refl
  kept_same (Single _) r = refl
  kept_same _ r = refl

  phase_same : (ph : Phase) (i : Item) (r : Items) → next_phase ph (item_at place i r) ≡ next_phase ph i
  phase_same Starting (Single (Text text span)) r = refl
  phase_same Starting (Single _) r = refl
  phase_same Starting _ r = refl
  phase_same Standalone (Single (Extends t q span)) r = refl
  phase_same Standalone (Single _) r = refl
  phase_same Standalone _ r = refl
  phase_same Extending i r = ap (λ k. guard k >>= λ u. Some Extending) (kept_same i r)

  phases_same : (ph : Phase) (b : Body) (r : Items) → phases ph (body_at place b r) ≡ phases ph b
  phases_same ph Done r = refl
  phases_same ph (Then i b) r =
      ap (λ o. o >>= λ q. phases q (body_at place b r)) (phase_same ph i (yield b r))
      ∙ bind_both (next_phase ph i) (λ q. phases q (body_at place b r)) (λ q. phases q b) (λ q is. phases_same q b r)

  top_same : (b : Body) (r : Items) → TopLevel b → TopLevel (body_at place b r)
  top_same b r h = let (ph, phased) = top_read b h in top_found (body_at place b r) ph (phases_same Starting b r ∙ phased)

  -- of a whole template
  pub template_moved : (items : Items) (b : Body) → IsTemplate l items b → IsTemplate l (tokens_at place Ended items) (body_at place b Ended)
  template_moved items b h = record {
    tokens = ap (tokens_at place Ended) h.tokens ∙ body_tokens place Ended b Ended;
    fits = body_fits [] b Ended h.fits;
    distinct = subst NamesAreDistinct (sym (names_same b Ended)) h.distinct;
    top = top_same b Ended h.top;
    low = subst (λ n. suc n ≤ l.bodies) (sym (inner_same b Ended)) h.low;
  }
