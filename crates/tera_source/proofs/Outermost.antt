-- Each outermost expression of a template meets the conditions within the limits, and is among its tokens.
use Rattle.std.proofs.Common.{◌≡◌, Bool, true, false, [], ◌∷◌, Option, Some, None, refl, sym, ap, ◌∙◌}
use Rattle.tera_base.specs.declared.utils.Span.{Span}
use Rattle.tera_lexer.specs.grammar.Tokens.{Tok, Items, Ended, Failed, Token}
use Rattle.tera_grammar.specs.Limits.{Limits}
use Rattle.tera_grammar.specs.expressions.Concrete as concrete
use Rattle.tera_grammar.specs.expressions.Concrete.{Tree, Second, no_second, second, Dotted, no_dots, dots, second_yield, dotted_yield, Kind, of_arguments, of_items, of_entries, Row, ended, only, then, Element, plain, spread, pair, argument, Attributes, no_attributes, bare, quoted, valued, spreading, Args, no_args, args, row_yield, element_yield, attributes_yield, args_yield}
use Rattle.tera_grammar.specs.expressions.Conditions as conditions
use Rattle.tera_grammar.specs.expressions.Conditions.{IsRow, IsElement, AreArgs}
use Rattle.tera_grammar.specs.expressions.Measures.{Within, EachElement, EachRow, EachAttribute}
use Rattle.tera_grammar.specs.expressions.Companions.{EachArgs}
use Rattle.tera_grammar.specs.expressions.Marks.{mark, At}
use Rattle.tera_grammar.specs.statements.TagParts.{Name, if_any, name_yield}
use Rattle.tera_grammar.specs.statements.Expressions as stated
use Rattle.tera_grammar.specs.statements.Expressions.{Filtering, IsFilter, IsLiteralArray, IsLiteralMap, ComponentName, LiteralArray, LiteralMap, expression_yield, filter_yield, component_yield, array_yield, map_yield}
use Rattle.tera_grammar.specs.statements.Components.{Default, LiteralDefault, MinusDefault, NothingDefault, ArrayDefault, MapDefault, FitsDefault, default_yield, Annotation, Assigned, Parameter, annotation_yield, assigned_yield, parameter_yield, FitsAssigned, FitsParameter, Parameters, Closed, Rest, Final, More, parameters_yield, FitEach, FitsMetadata}
use Rattle.tera_grammar.specs.statements.Heads.{Filters, NoFilters, Piped, filters_yield, AreFilters, Capture, SetBody, Section, CallBody, capture_yield, capture_end, FitsCapture}
use Rattle.tera_grammar.specs.statements.Grammar.{Plain, Text, Shown, Set, Include, Extends, Break, Continue, Body, Done, Then, Item, Single, Block, Define, Capturing, For, If, Branches, Elif, Last, Else, NoElse, Otherwise, Path, InFor, InForElse, InBlock, InIf, InComponent, InCapture, plain_yield, yield, item_yield, branches_yield, else_yield, in_loop, FitsPlain, Fits, FitsItem, FitsBranches, FitsElse}
use Rattle.tera_grammar.proofs.expressions.Later.{IsInside, yield_later}
use Rattle.tera_source.specs.InSources.{followed_by}
use Rattle.tera_source.specs.Outermost.{EachOfPlain, EachOfFilters, EachOfCapture, EachOfMap, EachOfDefault, EachOfAssigned, EachOfParameters, EachOfBody, EachOfItem, EachOfBranches, EachOfElse}

-- what is left of tokens after some of them
pub record Left (whole r : Items) : Type 0 where
  pub before : Items
  pub is : whole ≡ followed_by before r

followed_twice : (x y z : Items) → followed_by (followed_by x y) z ≡ followed_by x (followed_by y z)
followed_twice Ended y z = refl
followed_twice (Failed text span) y z = refl
followed_twice (Token t s x) y z = ap (Token t s) (followed_twice x y z)

left_of_left : (whole x r : Items) → Left whole x → Left x r → Left whole r
left_of_left whole x r a b = record { before = followed_by a.before b.before; is = a.is ∙ ap (followed_by a.before) b.is ∙ sym (followed_twice a.before b.before r) }

one_token : (t : Tok) (s : Span) (r : Items) → Left (Token t s r) r
one_token t s r = record { before = Token t s Ended; is = refl }

pub skip : (whole : Items) (t : Tok) (s : Span) (r : Items) → Left whole (Token t s r) → Left whole r
skip whole t s r h = left_of_left whole (Token t s r) r h (one_token t s r)

token_later : (r : Items) (t : Tok) (s : Span) (x : Items) → IsInside t → Left x r → Left (Token t s x) r
token_later r t s x inside h = record { before = Token t s h.before; is = ap (Token t s) h.is }

expression_left : (e : Tree) (r : Items) → Left (concrete.yield e r) r
expression_left e r = yield_later (λ x. Left x r) (token_later r) e r (record { before = Ended; is = refl })

-- it meets the conditions within the limits, and its tokens are in these
pub record StandsAmong (limits : Limits) (whole : Items) (f : Bool) (e : Tree) : Type 0 where
  pub bound : conditions.IsExpression f e
  pub within : Within limits e
  pub before : Items
  pub following : Items
  pub is : whole ≡ followed_by before (concrete.yield e following)

-- what follows from that holds of each
module _ (l : Limits) (whole : Items) (P : Bool → Tree → Type 0) (from : (f : Bool) (e : Tree) → StandsAmong l whole f e → P f e) where
  tree_sound : (f : Bool) (e : Tree) (r : Items) → Left whole (concrete.yield e r) → conditions.IsExpression f e → Within l e → P f e
  tree_sound f e r h is small = from f e (record { bound = is; within = small; before = h.before; following = r; is = h.is })

  after_tree : (e : Tree) (r : Items) → Left whole (concrete.yield e r) → Left whole r
  after_tree e r h = left_of_left whole (concrete.yield e r) r h (expression_left e r)

  -- Rows, arguments and attributes

  element_sound : (f : Bool) (k : Kind) (x : Element) (r : Items) → Left whole (element_yield x r) → IsElement f k x → EachElement (Within l) x →
      EachElement (P f) x × Left whole r
  element_sound f k (plain e) r h is small = (tree_sound f e r h is.1 small, after_tree e r h)
  element_sound f k (spread s e) r h is small = let g = skip whole _ s _ h in (tree_sound f e r g is.1 small, after_tree e r g)
  element_sound f k (pair x s t e) r h is small = let g = skip whole _ t _ (skip whole _ s _ h) in (tree_sound f e r g is.1 small, after_tree e r g)
  element_sound f k (argument n s e) r h is small = let g = skip whole _ s _ (skip whole _ n.span _ h) in (tree_sound f e r g is.1 small, after_tree e r g)

  row_sound : (f : Bool) (k : Kind) (row : Row) (r : Items) → Left whole (row_yield k row r) → IsRow f k row → EachRow (Within l) row →
      EachRow (P f) row × Left whole r
  row_sound f k (ended s) r h is small = (tt, skip whole _ s r h)
  row_sound f k (only x s) r h is small = let one = element_sound f k x _ h is small in (one.0, skip whole _ s r one.1)
  row_sound f k (then x s xs) r h is small =
      let one = element_sound f k x _ h is.0 small.0 in
      let more = row_sound f k xs r (skip whole _ s _ one.1) is.1 small.1 in ((one.0, more.0), more.1)

  args_sound : (f : Bool) (g : Args) (r : Items) → Left whole (args_yield g r) → AreArgs f g → EachArgs (Within l) g → EachArgs (P f) g × Left whole r
  args_sound f no_args r h is small = (tt, h)
  args_sound f (args s row) r h is small = row_sound f of_arguments row r (skip whole _ s _ h) is.0 small

  attributes_sound : (f : Bool) (ats : Attributes) (r : Items) → Left whole (attributes_yield ats r) → conditions.AreAttributes f ats → EachAttribute (Within l) ats →
      EachAttribute (P f) ats × Left whole r
  attributes_sound f no_attributes r h is small = (tt, h)
  attributes_sound f (bare n ats) r h is small = attributes_sound f ats r (skip whole _ n.span _ h) is small
  attributes_sound f (quoted n s q t ats) r h is small = attributes_sound f ats r (skip whole _ t _ (skip whole _ s _ (skip whole _ n.span _ h))) is small
  attributes_sound f (valued n s b e c ats) r h is small =
      let g = skip whole _ b _ (skip whole _ s _ (skip whole _ n.span _ h)) in
      let more = attributes_sound f ats r (skip whole _ c _ (after_tree e _ g)) is.1 small.1 in ((tree_sound f e _ g is.0 small.0, more.0), more.1)
  attributes_sound f (spreading b s e c ats) r h is small =
      let g = skip whole _ s _ (skip whole _ b _ h) in
      let more = attributes_sound f ats r (skip whole _ c _ (after_tree e _ g)) is.1 small.1 in ((tree_sound f e _ g is.0 small.0, more.0), more.1)

  after_second : (m : Second) (r : Items) → Left whole (second_yield m r) → Left whole r
  after_second no_second r h = h
  after_second (second s n) r h = skip whole _ n.span r (skip whole _ s _ h)

  after_dotted : (ds : Dotted) (r : Items) → Left whole (dotted_yield ds r) → Left whole r
  after_dotted no_dots r h = h
  after_dotted (dots s n ds) r h = after_dotted ds r (skip whole _ n.span _ (skip whole _ s _ h))

  -- What is in tags

  expression_sound : (f : Bool) (e : Tree) (r : Items) → Left whole (expression_yield e r) → stated.IsExpression l f e → P f e × Left whole r
  unfolding stated.IsExpression
  expression_sound f e r h is = (tree_sound f e r h is.0 is.1, after_tree e r h)

  filter_sound : (f : Bool) (x : Filtering) (r : Items) → Left whole (filter_yield x r) → IsFilter l f x → EachArgs (P f) x.args × Left whole r
  unfolding IsFilter
  filter_sound f x r h is = args_sound f x.args r (skip whole _ x.name.span _ h) is.0 is.1

  attributes_stand_too : (f : Bool) (ats : Attributes) (r : Items) → Left whole (stated.attributes_yield ats r) → stated.AreAttributes l f ats →
      EachAttribute (P f) ats × Left whole r
  unfolding stated.AreAttributes
  attributes_stand_too f ats r h is = attributes_sound f ats r h is.0 is.1

  after_component : (n : ComponentName) (r : Items) → Left whole (component_yield n r) → Left whole r
  after_component n r h = after_dotted n.further r (skip whole _ n.name.span _ h)

  array_sound : (a : LiteralArray) (r : Items) → Left whole (array_yield a r) → IsLiteralArray l a → EachRow (P false) a.0.row × Left whole r
  unfolding array_yield IsLiteralArray
  array_sound a r h is = row_sound false of_items a.0.row r (skip whole _ a.0.mark _ h) is.0.0 is.1.1

  map_sound : (m : LiteralMap) (r : Items) → Left whole (map_yield m r) → IsLiteralMap l m → EachRow (P false) m.0.row × Left whole r
  unfolding map_yield IsLiteralMap
  map_sound m r h is = row_sound false of_entries m.0.row r (skip whole _ m.0.mark _ h) is.0.0 is.1

  filters_sound : (f : Bool) (fs : Filters) (r : Items) → Left whole (filters_yield fs r) → AreFilters l f fs → EachOfFilters P f fs × Left whole r
  filters_sound f NoFilters r h is = (tt, h)
  filters_sound f (Piped bar x fs) r h is =
      let one = filter_sound f x _ (skip whole _ bar _ h) is.0 in
      let more = filters_sound f fs r one.1 is.1 in ((one.0, more.0), more.1)

  -- Definitions of components

  default_sound : (d : Default) (r : Items) → Left whole (default_yield d r) → FitsDefault l d → EachOfDefault P d × Left whole r
  default_sound (LiteralDefault x span) r h is = (tt, skip whole _ span r h)
  default_sound (MinusDefault minus n span) r h is = (tt, skip whole _ span r (skip whole _ minus _ h))
  default_sound (NothingDefault n) r h is = (tt, skip whole _ n.span r h)
  default_sound (ArrayDefault a) r h is = array_sound a r h is
  default_sound (MapDefault m) r h is = map_sound m r h is

  assigned_sound : (d : Option Assigned) (r : Items) → Left whole (if_any assigned_yield d r) → FitsAssigned l d → EachOfAssigned P d × Left whole r
  assigned_sound None r h is = (tt, h)
  assigned_sound (Some d) r h is = default_sound d.value r (skip whole _ d.sign _ h) is

  after_at : (at : Option Span) (r : Items) → Left whole (if_any (mark At) at r) → Left whole r
  after_at None r h = h
  after_at (Some span) r h = skip whole _ span r h

  after_annotation : (a : Option Annotation) (r : Items) → Left whole (if_any annotation_yield a r) → Left whole r
  after_annotation None r h = h
  after_annotation (Some a) r h = skip whole _ a.name.span r (skip whole _ a.colon _ h)

  parameter_sound : (p : Parameter) (r : Items) → Left whole (parameter_yield p r) → FitsParameter l p → EachOfAssigned P p.default × Left whole r
  parameter_sound p r h is =
      assigned_sound p.default r (after_annotation p.type _ (skip whole _ p.name.span _ (after_at p.at _ h))) is.2

  parameters_sound : (ps : Parameters) (r : Items) → Left whole (parameters_yield ps r) → FitEach l ps → EachOfParameters P ps × Left whole r
  parameters_sound (Closed end) r h is = (tt, skip whole _ end r h)
  parameters_sound (Rest s n end) r h is = (tt, skip whole _ end r (skip whole _ n.span _ (skip whole _ s _ h)))
  parameters_sound (Final p end) r h is = let one = parameter_sound p _ h is in (one.0, skip whole _ end r one.1)
  parameters_sound (More p comma ps) r h is =
      let one = parameter_sound p _ h is.0 in
      let more = parameters_sound ps r (skip whole _ comma _ one.1) is.1 in ((one.0, more.0), more.1)

  metadata_sound : (m : Option LiteralMap) (r : Items) → Left whole (if_any map_yield m r) → FitsMetadata l m → EachOfMap P m × Left whole r
  metadata_sound None r h is = (tt, h)
  metadata_sound (Some m) r h is = map_sound m r h is

  after_name_if_any : (n : Option Name) (r : Items) → Left whole (if_any name_yield n r) → Left whole r
  after_name_if_any None r h = h
  after_name_if_any (Some n) r h = skip whole _ n.span r h

  after_component_if_any : (n : Option ComponentName) (r : Items) → Left whole (if_any component_yield n r) → Left whole r
  after_component_if_any None r h = h
  after_component_if_any (Some n) r h = after_component n r h

  -- a tag that opens or closes a statement: its start, and its first token
  after_start : (t : Tok) (u : Tok) (s first : Span) (r : Items) → Left whole (Token t s (Token u first r)) → Left whole r
  after_start t u s first r h = skip whole u first r (skip whole t s _ h)

  -- Statements

  plain_sound : (path : Path) (p : Plain) (r : Items) → Left whole (plain_yield p r) → FitsPlain l path p → EachOfPlain P (in_loop path) p × Left whole r
  plain_sound path (Text text span) r h is = (tt, skip whole _ span r h)
  plain_sound path (Shown a e b) r h is =
      let one = expression_sound (in_loop path) e _ (skip whole _ a.span _ h) is in (one.0, skip whole _ b.span r one.1)
  plain_sound path (Set global t n sign e) r h is =
      let one = expression_sound (in_loop path) e _ (skip whole _ sign _ (skip whole _ n.span _ (after_start _ _ t.start.span t.first _ h))) is.1 in
      (one.0, skip whole _ t.finish.span r one.1)
  plain_sound path (Include t q span) r h is = (tt, skip whole _ t.finish.span r (skip whole _ span _ (after_start _ _ t.start.span t.first _ h)))
  plain_sound path (Extends t q span) r h is = (tt, skip whole _ t.finish.span r (skip whole _ span _ (after_start _ _ t.start.span t.first _ h)))
  plain_sound path (Break t) r h is = (tt, skip whole _ t.finish.span r (after_start _ _ t.start.span t.first _ h))
  plain_sound path (Continue t) r h is = (tt, skip whole _ t.finish.span r (after_start _ _ t.start.span t.first _ h))

  capture_sound : (f : Bool) (c : Capture) (r : Items) → Left whole (capture_yield c r) → FitsCapture l f c → EachOfCapture P f c × Left whole r
  capture_sound f (SetBody global t n fs e) r h is =
      let one = filters_sound f fs _ (skip whole _ n.span _ (after_start _ _ t.start.span t.first _ h)) is.1 in (one.0, skip whole _ t.finish.span r one.1)
  capture_sound f (Section t x fs e) r h is =
      let one = filter_sound f x _ (after_start _ _ t.start.span t.first _ h) is.0 in
      let more = filters_sound f fs _ one.1 is.1 in ((one.0, more.0), skip whole _ t.finish.span r more.1)
  capture_sound f (CallBody t n a last e m end) r h is =
      let one = attributes_stand_too f a _ (after_component n _ (after_start _ _ t.start.span t.first _ h)) is.0 in
      (one.0, skip whole _ t.finish.span r (skip whole _ last _ one.1))

  after_capture : (c : Capture) (r : Items) → Left whole (capture_end c r) → Left whole r
  after_capture (SetBody global t n fs e) r h = skip whole _ e.finish.span r (after_start _ _ e.start.span e.first _ h)
  after_capture (Section t x fs e) r h = skip whole _ e.finish.span r (after_start _ _ e.start.span e.first _ h)
  after_capture (CallBody t n a last e m end) r h =
      skip whole _ e.finish.span r (skip whole _ end _ (after_component m _ (after_start _ _ e.start.span e.first _ h)))

  mutual
    body_sound : (path : Path) (b : Body) (r : Items) → Left whole (yield b r) → Fits l path b → EachOfBody P (in_loop path) b × Left whole r
    body_sound path Done r h is = (tt, h)
    body_sound path (Then i b) r h is =
        let one = item_sound path i _ h is.0 in
        let more = body_sound path b r one.1 is.1 in ((one.0, more.0), more.1)

    item_sound : (path : Path) (i : Item) (r : Items) → Left whole (item_yield i r) → FitsItem l path i → EachOfItem P (in_loop path) i × Left whole r
    item_sound path (Single p) r h is = plain_sound path p r h is
    item_sound path (Block t n b e m) r h is =
        let one = body_sound (InBlock ∷ path) b _ (skip whole _ t.finish.span _ (skip whole _ n.span _ (after_start _ _ t.start.span t.first _ h))) is.2 in
        (one.0, skip whole _ e.finish.span r (after_name_if_any m _ (after_start _ _ e.start.span e.first _ one.1)))
    item_sound path (Define d b) r h is =
        let one = parameters_sound d.parameters _ (skip whole _ d.paren _ (after_component d.name _ (after_start _ _ d.tag.start.span d.tag.first _ h))) is.1.0.0 in
        let two = metadata_sound d.metadata _ one.1 is.1.1 in
        let three = body_sound (InComponent ∷ path) b _ (skip whole _ d.tag.finish.span _ two.1) is.2 in
        ((one.0, two.0, three.0), skip whole _ d.ending.finish.span r (after_component_if_any d.end_name _ (after_start _ _ d.ending.start.span d.ending.first _ three.1)))
    item_sound path (Capturing c b) r h is =
        let one = capture_sound (in_loop path) c _ h is.0 in
        let two = body_sound (InCapture ∷ path) b _ one.1 is.1 in ((one.0, two.0), after_capture c r two.1)
    item_sound path (For t lp b o e) r h is =
        let one = expression_sound true lp.target _ (skip whole _ lp.word _ (after_second lp.second _ (skip whole _ lp.first.span _ (after_start _ _ t.start.span t.first _ h)))) is.0.1 in
        let two = body_sound (InFor ∷ path) b _ (skip whole _ t.finish.span _ one.1) is.1 in
        let three = else_sound (InForElse ∷ path) o _ two.1 is.2 in
        ((one.0, two.0, three.0), skip whole _ e.finish.span r (after_start _ _ e.start.span e.first _ three.1))
    item_sound path (If t c b bs e) r h is =
        let one = expression_sound (in_loop path) c _ (after_start _ _ t.start.span t.first _ h) is.0 in
        let two = body_sound (InIf ∷ path) b _ (skip whole _ t.finish.span _ one.1) is.1 in
        let three = branches_sound (InIf ∷ path) bs _ two.1 is.2 in
        ((one.0, two.0, three.0), skip whole _ e.finish.span r (after_start _ _ e.start.span e.first _ three.1))

    branches_sound : (path : Path) (bs : Branches) (r : Items) → Left whole (branches_yield bs r) → FitsBranches l path bs →
        EachOfBranches P (in_loop path) bs × Left whole r
    branches_sound path (Elif t c b bs) r h is =
        let one = expression_sound (in_loop path) c _ (after_start _ _ t.start.span t.first _ h) is.0 in
        let two = body_sound path b _ (skip whole _ t.finish.span _ one.1) is.1 in
        let three = branches_sound path bs r two.1 is.2 in ((one.0, two.0, three.0), three.1)
    branches_sound path (Last o) r h is = else_sound path o r h is

    else_sound : (path : Path) (o : Else) (r : Items) → Left whole (else_yield o r) → FitsElse l path o → EachOfElse P (in_loop path) o × Left whole r
    else_sound path NoElse r h is = (tt, h)
    else_sound path (Otherwise t b) r h is = body_sound path b r (skip whole _ t.finish.span _ (after_start _ _ t.start.span t.first _ h)) is

  -- of a whole template
  pub template_sound : (b : Body) → whole ≡ yield b Ended → Fits l [] b → EachOfBody P false b
  template_sound b is fits = (body_sound [] b Ended (record { before = Ended; is = is }) fits).0
