-- The template over the same tokens at other places.
use Rattle.std.proofs.Common.{◌≡◌, Option, Some, None, refl}
use Rattle.tera_base.specs.declared.utils.Span.{Span}
use Rattle.tera_lexer.specs.grammar.Tokens as toks
use Rattle.tera_lexer.specs.grammar.Tokens.{Tok, Items, Token}
use Rattle.tera_lexer.specs.declared.lexer.delimiters.Kind.TheVariants as kind
use Rattle.tera_grammar.specs.expressions.Operators.{GreaterThan, In}
use Rattle.tera_grammar.specs.expressions.Marks.{mark, LeftParen, RightParen, Comma, Assign, Operation, At}
use Rattle.tera_grammar.specs.expressions.Concrete.{Kind, of_items, of_entries, quote_token, second_yield, dotted_yield, row_yield, args_yield}
use Rattle.tera_grammar.specs.expressions.Companions.{Opened}
use Rattle.tera_grammar.specs.statements.TagParts.{Edge, Name, name_yield, Tag, OpensSet, OpensInclude, OpensExtends, OpensBlock, OpensFor, OpensIf, OpensFilter, OpensComponent, OpensBreak, OpensContinue, OpensCall, AtElif, AtElse, AtEndSet, AtEndBlock, AtEndFor, AtEndIf, AtEndFilter, AtEndComponent, AtEndCall, opener_token, closer_token, closing, finish, if_any}
use Rattle.tera_grammar.specs.statements.Expressions.{Expression, Filtering, Attributes, ComponentName, LiteralArray, LiteralMap, expression_yield, filter_yield, attributes_yield, component_yield, array_yield, map_yield}
use Rattle.tera_grammar.specs.statements.Components.{Default, LiteralDefault, MinusDefault, NothingDefault, ArrayDefault, MapDefault, default_yield, Annotation, Assigned, Parameter, annotation_yield, assigned_yield, parameter_yield, Parameters, Closed, Rest, Final, More, parameters_yield, Head, head_yield, ending_yield}
use Rattle.tera_grammar.specs.statements.Heads.{Loop, loop_yield, Filters, NoFilters, Piped, filters_yield, Capture, SetBody, Section, CallBody, capture_yield, capture_end}
use Rattle.tera_grammar.specs.statements.Grammar.{Plain, Text, Shown, Set, Include, Extends, Break, Continue, Body, Done, Then, Item, Single, Block, Define, Capturing, For, If, Branches, Elif, Last, Else, NoElse, Otherwise, plain_yield, yield, item_yield, branches_yield, else_yield}
use Rattle.tera_source.proofs.Places.{name_at, second_at, dotted_at, tree_at, row_at, args_at, attributes_at, tokens_at, tree_tokens}
use Rattle.tera_alike.proofs.Subexpressions.{second_tokens, dotted_tokens, row_tokens, args_tokens, attributes_tokens}

-- a token is where the tokens after it say
module _ (place : Items → Span) where
  abbrev pub edge_at : Edge → Items → Edge
  edge_at e r = record { dash = e.dash; span = place r }

  -- a tag by its first token, what is in it, and what comes after it
  abbrev pub tag_at : Tok → Tag → Items → Items → Tag
  tag_at first t inside r =
      record { start = edge_at t.start (Token first t.first inside); first = place inside; finish = edge_at t.finish r }

  abbrev pub name_if_any_at : Option Name → Items → Option Name
  name_if_any_at None r = None
  name_if_any_at (Some n) r = Some (name_at place n r)

  abbrev pub filter_at : Filtering → Items → Filtering
  filter_at f r = record { name = name_at place f.name (args_yield f.args r); args = args_at place f.args r }

  abbrev pub component_at : ComponentName → Items → ComponentName
  component_at n r = record { name = name_at place n.name (dotted_yield n.further r); further = dotted_at place n.further r }

  abbrev pub component_if_any_at : Option ComponentName → Items → Option ComponentName
  component_if_any_at None r = None
  component_if_any_at (Some n) r = Some (component_at n r)

  abbrev pub opened_at : Kind → Opened → Items → Opened
  opened_at k x r = record { mark = place (row_yield k x.row r); row = row_at place k x.row r }

  abbrev pub array_at : LiteralArray → Items → LiteralArray
  array_at a r = (opened_at of_items a.0 r, a.1)

  abbrev pub map_at : LiteralMap → Items → LiteralMap
  map_at m r = (opened_at of_entries m.0 r, m.1)

  abbrev pub metadata_at : Option LiteralMap → Items → Option LiteralMap
  metadata_at None r = None
  metadata_at (Some m) r = Some (map_at m r)

  -- Definitions of components
  abbrev pub default_at : Default → Items → Default
  default_at (LiteralDefault x span) r = LiteralDefault x (place r)
  default_at (MinusDefault minus n span) r = MinusDefault (place (Token (toks.Integer n) span r)) n (place r)
  default_at (NothingDefault n) r = NothingDefault (name_at place n r)
  default_at (ArrayDefault a) r = ArrayDefault (array_at a r)
  default_at (MapDefault m) r = MapDefault (map_at m r)

  abbrev pub assigned_at : Option Assigned → Items → Option Assigned
  assigned_at None r = None
  assigned_at (Some d) r = Some (record { sign = place (default_yield d.value r); value = default_at d.value r })

  abbrev pub annotation_at : Option Annotation → Items → Option Annotation
  annotation_at None r = None
  annotation_at (Some a) r = Some (record { colon = place (name_yield a.name r); name = name_at place a.name r })

  abbrev pub mark_at : Option Span → Items → Option Span
  mark_at None r = None
  mark_at (Some span) r = Some (place r)

  abbrev pub parameter_at : Parameter → Items → Parameter
  parameter_at p r =
      let value = if_any assigned_yield p.default r in
      let type = if_any annotation_yield p.type value in
      record {
        at = mark_at p.at (name_yield p.name type);
        name = name_at place p.name type;
        type = annotation_at p.type value;
        default = assigned_at p.default r;
      }

  abbrev pub parameters_at : Parameters → Items → Parameters
  parameters_at (Closed end) r = Closed (place r)
  parameters_at (Rest dots n end) r =
      let close = mark RightParen end r in Rest (place (name_yield n close)) (name_at place n close) (place r)
  parameters_at (Final p end) r = Final (parameter_at p (mark RightParen end r)) (place r)
  parameters_at (More p comma ps) r =
      let more = parameters_yield ps r in More (parameter_at p (mark Comma comma more)) (place more) (parameters_at ps r)

  -- The tags around a body: what comes after the opening one, and after the closing one.
  abbrev pub head_at : Head → Items → Items → Head
  head_at h r q =
      let metadata = if_any map_yield h.metadata (finish h.tag r) in
      let parameters = parameters_yield h.parameters metadata in
      let paren = mark LeftParen h.paren parameters in
      let end = finish h.ending q in
      record {
        tag = tag_at (opener_token OpensComponent) h.tag (component_yield h.name paren) r;
        name = component_at h.name paren;
        paren = place parameters;
        parameters = parameters_at h.parameters metadata;
        metadata = metadata_at h.metadata (finish h.tag r);
        ending = tag_at (closer_token AtEndComponent) h.ending (if_any component_yield h.end_name end) q;
        end_name = component_if_any_at h.end_name end;
      }

  abbrev pub filters_at : Filters → Items → Filters
  filters_at NoFilters r = NoFilters
  filters_at (Piped bar f fs) r = let more = filters_yield fs r in Piped (place (filter_yield f more)) (filter_at f more) (filters_at fs r)

  abbrev pub capture_at : Capture → Items → Items → Capture
  capture_at (SetBody global t n fs e) r q =
      let filters = filters_yield fs (finish t r) in
      SetBody global (tag_at (opener_token (OpensSet global)) t (name_yield n filters) r) (name_at place n filters) (filters_at fs (finish t r))
      (tag_at (closer_token AtEndSet) e (finish e q) q)
  capture_at (Section t f fs e) r q =
      let filters = filters_yield fs (finish t r) in
      Section (tag_at (opener_token OpensFilter) t (filter_yield f filters) r) (filter_at f filters) (filters_at fs (finish t r))
      (tag_at (closer_token AtEndFilter) e (finish e q) q)
  capture_at (CallBody t n a last e m end) r q =
      let close = mark (Operation GreaterThan) last (finish t r) in
      let inside = attributes_yield a close in
      let shut = mark (Operation GreaterThan) end (finish e q) in
      CallBody (tag_at (opener_token OpensCall) t (component_yield n inside) r) (component_at n inside) (attributes_at place a close) (place (finish t r))
      (tag_at (closer_token AtEndCall) e (component_yield m shut) q) (component_at m shut) (place (finish e q))

  -- Statements
  abbrev pub loop_at : Loop → Items → Loop
  loop_at lp r =
      let target = expression_yield lp.target r in
      let word = mark (Operation In) lp.word target in
      record {
        first = name_at place lp.first (second_yield lp.second word);
        second = second_at place lp.second word;
        word = place target;
        target = tree_at place lp.target r;
      }

  abbrev pub plain_at : Plain → Items → Plain
  plain_at (Text text span) r = Text text (place r)
  plain_at (Shown a e b) r =
      let end = Token (toks.Finish kind.Variable b.dash) b.span r in
      Shown (edge_at a (expression_yield e end)) (tree_at place e end) (edge_at b r)
  plain_at (Set global t n sign e) r =
      let value = expression_yield e (finish t r) in
      let inside = mark Assign sign value in
      Set global (tag_at (opener_token (OpensSet global)) t (name_yield n inside) r) (name_at place n inside) (place value) (tree_at place e (finish t r))
  plain_at (Include t q span) r =
      Include (tag_at (opener_token OpensInclude) t (Token (quote_token q) span (finish t r)) r) q (place (finish t r))
  plain_at (Extends t q span) r =
      Extends (tag_at (opener_token OpensExtends) t (Token (quote_token q) span (finish t r)) r) q (place (finish t r))
  plain_at (Break t) r = Break (tag_at (opener_token OpensBreak) t (finish t r) r)
  plain_at (Continue t) r = Continue (tag_at (opener_token OpensContinue) t (finish t r) r)

  abbrev mutual
    pub body_at : Body → Items → Body
    body_at Done r = Done
    body_at (Then i b) r = Then (item_at i (yield b r)) (body_at b r)

    pub item_at : Item → Items → Item
    item_at (Single p) r = Single (plain_at p r)
    item_at (Block t n b e m) r =
        let named = if_any name_yield m (finish e r) in
        let close = closing AtEndBlock e named in
        let body = yield b close in
        Block (tag_at (opener_token OpensBlock) t (name_yield n (finish t body)) body) (name_at place n (finish t body)) (body_at b close)
        (tag_at (closer_token AtEndBlock) e named r) (name_if_any_at m (finish e r))
    item_at (Define h b) r = let close = ending_yield h r in Define (head_at h (yield b close) r) (body_at b close)
    item_at (Capturing c b) r = let close = capture_end c r in Capturing (capture_at c (yield b close) r) (body_at b close)
    item_at (For t lp b o e) r =
        let close = closing AtEndFor e (finish e r) in
        let other = else_yield o close in
        let body = yield b other in
        For (tag_at (opener_token OpensFor) t (loop_yield lp (finish t body)) body) (loop_at lp (finish t body)) (body_at b other) (else_at o close)
        (tag_at (closer_token AtEndFor) e (finish e r) r)
    item_at (If t c b bs e) r =
        let close = closing AtEndIf e (finish e r) in
        let other = branches_yield bs close in
        let body = yield b other in
        If (tag_at (opener_token OpensIf) t (expression_yield c (finish t body)) body) (tree_at place c (finish t body)) (body_at b other) (branches_at bs close)
        (tag_at (closer_token AtEndIf) e (finish e r) r)

    pub branches_at : Branches → Items → Branches
    branches_at (Elif t c b bs) r =
        let other = branches_yield bs r in
        let body = yield b other in
        Elif (tag_at (closer_token AtElif) t (expression_yield c (finish t body)) body) (tree_at place c (finish t body)) (body_at b other) (branches_at bs r)
    branches_at (Last o) r = Last (else_at o r)

    pub else_at : Else → Items → Else
    else_at NoElse r = NoElse
    else_at (Otherwise t b) r = Otherwise (tag_at (closer_token AtElse) t (finish t (yield b r)) (yield b r)) (body_at b r)

-- its tokens are those at these places, before what is at the end
module _ (place : Items → Span) (end : Items) where
  abbrev Moves : (Items → Items) → (Items → Items) → Items → Type 0
  Moves tokens moved r = tokens_at place end (tokens r) ≡ moved (tokens_at place end r)

  expression_tokens : (e : Expression) (r : Items) → Moves (expression_yield e) (expression_yield (tree_at place e r)) r
  expression_tokens e r = tree_tokens place end e r

  filter_tokens : (f : Filtering) (r : Items) → Moves (filter_yield f) (filter_yield (filter_at place f r)) r
  filter_tokens f r = rw (args_tokens place end f.args r)

  attributes_moved : (a : Attributes) (r : Items) → Moves (attributes_yield a) (attributes_yield (attributes_at place a r)) r
  attributes_moved a r = attributes_tokens place end a r

  component_tokens : (n : ComponentName) (r : Items) → Moves (component_yield n) (component_yield (component_at place n r)) r
  component_tokens n r = rw (dotted_tokens place end n.further r)

  array_tokens : (a : LiteralArray) (r : Items) → Moves (array_yield a) (array_yield (array_at place a r)) r
  unfolding array_yield
  array_tokens a r = rw (row_tokens place end of_items a.0.row r)

  map_tokens : (m : LiteralMap) (r : Items) → Moves (map_yield m) (map_yield (map_at place m r)) r
  unfolding map_yield
  map_tokens m r = rw (row_tokens place end of_entries m.0.row r)

  name_if_any_tokens : (n : Option Name) (r : Items) → Moves (if_any name_yield n) (if_any name_yield (name_if_any_at place n r)) r
  name_if_any_tokens None r = refl
  name_if_any_tokens (Some n) r = refl

  component_if_any_tokens : (n : Option ComponentName) (r : Items) → Moves (if_any component_yield n) (if_any component_yield (component_if_any_at place n r)) r
  component_if_any_tokens None r = refl
  component_if_any_tokens (Some n) r = component_tokens n r

  metadata_tokens : (m : Option LiteralMap) (r : Items) → Moves (if_any map_yield m) (if_any map_yield (metadata_at place m r)) r
  metadata_tokens None r = refl
  metadata_tokens (Some m) r = map_tokens m r

  default_tokens : (d : Default) (r : Items) → Moves (default_yield d) (default_yield (default_at place d r)) r
  default_tokens (LiteralDefault x span) r = refl
  default_tokens (MinusDefault minus n span) r = refl
  default_tokens (NothingDefault n) r = refl
  default_tokens (ArrayDefault a) r = array_tokens a r
  default_tokens (MapDefault m) r = map_tokens m r

  assigned_tokens : (d : Option Assigned) (r : Items) → Moves (if_any assigned_yield d) (if_any assigned_yield (assigned_at place d r)) r
  assigned_tokens None r = refl
  assigned_tokens (Some d) r = rw (default_tokens d.value r)

  annotation_tokens : (a : Option Annotation) (r : Items) → Moves (if_any annotation_yield a) (if_any annotation_yield (annotation_at place a r)) r
  annotation_tokens None r = refl
  annotation_tokens (Some a) r = refl

  mark_tokens : (at : Option Span) (r : Items) → Moves (if_any (mark At) at) (if_any (mark At) (mark_at place at r)) r
  mark_tokens None r = refl
  mark_tokens (Some span) r = refl

  parameter_tokens : (p : Parameter) (r : Items) → Moves (parameter_yield p) (parameter_yield (parameter_at place p r)) r
  parameter_tokens p r =
      let value = if_any assigned_yield p.default r in
      rw (mark_tokens p.at (name_yield p.name (if_any annotation_yield p.type value)), annotation_tokens p.type value, assigned_tokens p.default r)

  parameters_tokens : (ps : Parameters) (r : Items) → Moves (parameters_yield ps) (parameters_yield (parameters_at place ps r)) r
  parameters_tokens (Closed e) r = refl
  parameters_tokens (Rest dots n e) r = refl
  parameters_tokens (Final p e) r = parameter_tokens p (mark RightParen e r)
  parameters_tokens (More p comma ps) r = rw (parameter_tokens p (mark Comma comma (parameters_yield ps r)), parameters_tokens ps r)

  head_tokens : (h : Head) (r q : Items) → Moves (head_yield h) (head_yield (head_at place h r q)) r
  head_tokens h r q =
      let metadata = if_any map_yield h.metadata (finish h.tag r) in
      rw (component_tokens h.name (mark LeftParen h.paren (parameters_yield h.parameters metadata)), parameters_tokens h.parameters metadata, metadata_tokens h.metadata (finish h.tag r))

  ending_tokens : (h : Head) (r q : Items) → Moves (ending_yield h) (ending_yield (head_at place h r q)) q
  ending_tokens h r q = rw (component_if_any_tokens h.end_name (finish h.ending q))

  filters_tokens : (fs : Filters) (r : Items) → Moves (filters_yield fs) (filters_yield (filters_at place fs r)) r
  filters_tokens NoFilters r = refl
  filters_tokens (Piped bar f fs) r = rw (filter_tokens f (filters_yield fs r), filters_tokens fs r)

  capture_tokens : (c : Capture) (r q : Items) → Moves (capture_yield c) (capture_yield (capture_at place c r q)) r
  capture_tokens (SetBody global t n fs e) r q = rw (filters_tokens fs (finish t r))
  capture_tokens (Section t f fs e) r q = rw (filter_tokens f (filters_yield fs (finish t r)), filters_tokens fs (finish t r))
  capture_tokens (CallBody t n a last e m shut) r q =
      let close = mark (Operation GreaterThan) last (finish t r) in rw (component_tokens n (attributes_yield a close), attributes_moved a close)

  capture_end_tokens : (c : Capture) (r q : Items) → Moves (capture_end c) (capture_end (capture_at place c r q)) q
  capture_end_tokens (SetBody global t n fs e) r q = refl
  capture_end_tokens (Section t f fs e) r q = refl
  capture_end_tokens (CallBody t n a last e m shut) r q = rw (component_tokens m (mark (Operation GreaterThan) shut (finish e q)))

  loop_tokens : (lp : Loop) (r : Items) → Moves (loop_yield lp) (loop_yield (loop_at place lp r)) r
  loop_tokens lp r = rw (second_tokens place end lp.second (mark (Operation In) lp.word (expression_yield lp.target r)), expression_tokens lp.target r)

  plain_tokens : (p : Plain) (r : Items) → Moves (plain_yield p) (plain_yield (plain_at place p r)) r
  plain_tokens (Text text span) r = refl
  plain_tokens (Shown a e b) r = rw (expression_tokens e (Token (toks.Finish kind.Variable b.dash) b.span r))
  plain_tokens (Set global t n sign e) r = rw (expression_tokens e (finish t r))
  plain_tokens (Include t q span) r = refl
  plain_tokens (Extends t q span) r = refl
  plain_tokens (Break t) r = refl
  plain_tokens (Continue t) r = refl

  mutual
    pub body_tokens : (b : Body) (r : Items) → Moves (yield b) (yield (body_at place b r)) r
    body_tokens Done r = refl
    body_tokens (Then i b) r = rw (item_tokens i (yield b r), body_tokens b r)

    item_tokens : (i : Item) (r : Items) → Moves (item_yield i) (item_yield (item_at place i r)) r
    item_tokens (Single p) r = plain_tokens p r
    item_tokens (Block t n b e m) r =
        rw (body_tokens b (closing AtEndBlock e (if_any name_yield m (finish e r))), name_if_any_tokens m (finish e r))
    item_tokens (Define h b) r =
        let close = ending_yield h r in rw (head_tokens h (yield b close) r, body_tokens b close, ending_tokens h (yield b close) r)
    item_tokens (Capturing c b) r =
        let close = capture_end c r in rw (capture_tokens c (yield b close) r, body_tokens b close, capture_end_tokens c (yield b close) r)
    item_tokens (For t lp b o e) r =
        let close = closing AtEndFor e (finish e r) in
        let other = else_yield o close in rw (loop_tokens lp (finish t (yield b other)), body_tokens b other, else_tokens o close)
    item_tokens (If t c b bs e) r =
        let close = closing AtEndIf e (finish e r) in
        let other = branches_yield bs close in rw (expression_tokens c (finish t (yield b other)), body_tokens b other, branches_tokens bs close)

    branches_tokens : (bs : Branches) (r : Items) → Moves (branches_yield bs) (branches_yield (branches_at place bs r)) r
    branches_tokens (Elif t c b bs) r =
        let other = branches_yield bs r in rw (expression_tokens c (finish t (yield b other)), body_tokens b other, branches_tokens bs r)
    branches_tokens (Last o) r = else_tokens o r

    else_tokens : (o : Else) (r : Items) → Moves (else_yield o) (else_yield (else_at place o r)) r
    else_tokens NoElse r = refl
    else_tokens (Otherwise t b) r = rw (body_tokens b r)
