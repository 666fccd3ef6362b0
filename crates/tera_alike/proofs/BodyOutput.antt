-- The template over the same tokens at other places is read as the same, apart from places.
use Rattle.std.proofs.Common.{◌≡◌, Bool, true, false, List, [], ◌∷◌, ◌++◌, map, Option, Some, None, is_some, refl, sym, ap, ap₂, ◌∙◌}
use Rattle.tera_base.specs.Values as values
use Rattle.tera_base.specs.Values.{Val}
use Rattle.tera_base.specs.declared.utils.Span.{Span}
use Rattle.tera_lexer.specs.code.Cursors.{nowhere}
use Rattle.tera_lexer.specs.grammar.Tokens as toks
use Rattle.tera_lexer.specs.grammar.Tokens.{Items, Token}
use Rattle.tera_lexer.specs.declared.lexer.delimiters.Kind.TheVariants as kind
use Rattle.tera_ast.specs.Tree as tree
use Rattle.tera_ast.specs.Tree.{Expr, Stmt, Nodes}
use Rattle.tera_ast.specs.View.{nodes_of, filters_of}
use Rattle.tera_tree.specs.Tree.{Argument, Definition}
use Rattle.tera_grammar.specs.expressions.Operators.{GreaterThan, In}
use Rattle.tera_grammar.specs.expressions.Marks.{mark, LeftParen, RightParen, Comma, Operation}
use Rattle.tera_grammar.specs.expressions.Concrete.{second_yield}
use Rattle.tera_grammar.specs.statements.TagParts.{AtEndBlock, AtEndFor, AtEndIf, closing, finish, if_any, name_yield}
use Rattle.tera_grammar.specs.statements.Expressions.{Expression, Filtering, Attributes, ComponentName, expression_yield, attributes_yield, expression_output, filter_output, attributes_output, component_text, array_output, map_output, LiteralMap, map_yield}
use Rattle.tera_grammar.specs.statements.Types.{Sorted, put_name}
use Rattle.tera_grammar.specs.statements.Components.{Default, LiteralDefault, MinusDefault, NothingDefault, ArrayDefault, MapDefault, default_output, Annotation, Assigned, Parameter, assigned_yield, default_of, type_of_argument, argument_of, Parameters, Closed, Rest, Final, More, parameters_yield, put_arguments, rest_of, Head, ending_yield, metadata_output, definition_of}
use Rattle.tera_grammar.specs.statements.Heads.{Loop, loop_output, Filters, NoFilters, Piped, filters_yield, filters_output, Capture, SetBody, Section, CallBody, capture_end, capture_output}
use Rattle.tera_grammar.specs.statements.Grammar.{Plain, Text, Shown, Set, Include, Extends, Break, Continue, Body, Done, Then, Item, Single, Block, Define, Capturing, For, If, Branches, Elif, Last, Else, NoElse, Otherwise, yield, branches_yield, else_yield}
use Rattle.tera_grammar.specs.statements.Output.{Adds, AddsNode, AddsParent, AddsDefinition, added_nodes, plain_adds, output, added_by, branch_output, else_output, later, parent_by, definitions_by, parent_of, definitions_of, output_of}
use Rattle.tera_grammar.proofs.expressions.Bodiless.{has_body}
use Rattle.tera_grammar.proofs.statements.Expressions.{expression_plain}
use Rattle.tera_source.specs.Placeless.{placeless, placeless_entries}
use Rattle.tera_source.proofs.Places.{tree_at, attributes_at}
use Rattle.tera_source.proofs.SameOutput as whole
use Rattle.tera_alike.proofs.Subexpressions as parts
use Rattle.tera_alike.specs.Outputs.{placeless_filters, placeless_nodes, placeless_node, placeless_list, placeless_definition, placeless_output}
use Rattle.tera_alike.proofs.BodyPlaces.{filter_at, component_at, metadata_at, default_at, assigned_at, annotation_at, mark_at, parameter_at, parameters_at, head_at, filters_at, capture_at, loop_at, plain_at, body_at, item_at, branches_at, else_at}

-- what an item adds, apart from places
abbrev placeless_adds : Adds → Adds
placeless_adds (AddsNode s) = AddsNode (placeless_node s)
placeless_adds (AddsDefinition d) = AddsDefinition (placeless_definition d)
placeless_adds a = a

nodes_added : (a : Adds) (ss : List Stmt) → placeless_list (added_nodes a ++ ss) ≡ added_nodes (placeless_adds a) ++ placeless_list ss
nodes_added (AddsNode s) ss = refl
nodes_added _ ss = refl

definitions_added : (a : Adds) (ds : List Definition) → map placeless_definition (definitions_by a ++ ds) ≡ definitions_by (placeless_adds a) ++ map placeless_definition ds
definitions_added (AddsDefinition d) ds = refl
definitions_added _ ds = refl

parent_added : (a : Adds) → parent_by (placeless_adds a) ≡ parent_by a
parent_added (AddsParent name) = refl
parent_added _ = refl

nodes_placeless : (ss : List Stmt) → placeless_nodes (nodes_of ss) ≡ nodes_of (placeless_list ss)
nodes_placeless [] = refl
nodes_placeless (s ∷ ss) = ap (tree.OneNode (placeless_node s)) (nodes_placeless ss)

nodes_same : (ss others : List Stmt) → placeless_list ss ≡ placeless_list others → placeless_nodes (nodes_of ss) ≡ placeless_nodes (nodes_of others)
nodes_same ss others h = nodes_placeless ss ∙ ap nodes_of h ∙ sym (nodes_placeless others)

shown_plain : (e : Expr) → has_body e ≡ false → placeless_node (tree.Shown e) ≡ tree.Shown (placeless e)
shown_plain (tree.ComponentCall name es body false s) h = cc
shown_plain _ h = refl

module _ (place : Items → Span) where
  expression_same : (f : Bool) (e : Expression) (r : Items) → placeless (expression_output f (tree_at place e r)) ≡ placeless (expression_output f e)
  expression_same f e r = whole.output_same place f e r

  shown_same : (f : Bool) (e : Expression) (r : Items) →
      placeless_node (tree.Shown (expression_output f (tree_at place e r))) ≡ placeless_node (tree.Shown (expression_output f e))
  shown_same f e r =
      shown_plain (expression_output f (tree_at place e r)) (expression_plain f (tree_at place e r)) ∙ ap tree.Shown (expression_same f e r)
      ∙ sym (shown_plain (expression_output f e) (expression_plain f e))

  filter_same : (f : Bool) (here there : Span) (x : Filtering) (r : Items) → placeless (filter_output f here (filter_at place x r)) ≡ placeless (filter_output f there x)
  filter_same f here there x r = ap (λ g. tree.Filter (tree.Const values.Nothing nowhere) x.name.text g nowhere) (parts.args_same place f x.args r)

  attributes_same : (f : Bool) (a : Attributes) (r : Items) → placeless_entries (attributes_output f (attributes_at place a r)) ≡ placeless_entries (attributes_output f a)
  attributes_same f a r = parts.attributes_same place f a r

  pub component_same : (n : ComponentName) (r : Items) → component_text (component_at place n r) ≡ component_text n
  component_same n r = ap (λ x. n.name.text ++ x) (parts.dotted_same place n.further r)

  filters_same : (f : Bool) (fs : Filters) (r : Items) →
      placeless_filters (filters_of (filters_output f (filters_at place fs r))) ≡ placeless_filters (filters_of (filters_output f fs))
  filters_same f NoFilters r = refl
  filters_same f (Piped bar x fs) r = ap₂ tree.OneFilter (filter_same f bar bar x (filters_yield fs r)) (filters_same f fs r)

  -- Definitions of components
  pub default_same : (d : Default) (r : Items) → default_output (default_at place d r) ≡ default_output d
  unfolding array_output map_output
  default_same (LiteralDefault x span) r = refl
  default_same (MinusDefault minus n span) r = refl
  default_same (NothingDefault n) r = refl
  default_same (ArrayDefault a) r = refl
  default_same (MapDefault m) r = refl

  assigned_same : (d : Option Assigned) (r : Items) → default_of (assigned_at place d r) ≡ default_of d
  assigned_same None r = refl
  assigned_same (Some d) r = ap Some (default_same d.value r)

  type_same : (a : Option Annotation) (v : Option Val) (r : Items) → type_of_argument (annotation_at place a r) v ≡ type_of_argument a v
  type_same None v r = refl
  type_same (Some a) v r = refl

  mark_same : (at : Option Span) (r : Items) → is_some (mark_at place at r) ≡ is_some at
  mark_same None r = refl
  mark_same (Some span) r = refl

  pub argument_same : (p : Parameter) (r : Items) → argument_of (parameter_at place p r) ≡ argument_of p
  argument_same p r =
      let value = if_any assigned_yield p.default r in
      rw (assigned_same p.default r, type_same p.type (default_of p.default) value, mark_same p.at _) refl

  arguments_same : (ps : Parameters) (r : Items) (args : Sorted Argument) → put_arguments (parameters_at place ps r) args ≡ put_arguments ps args
  arguments_same (Closed end) r args = refl
  arguments_same (Rest dots n end) r args = refl
  arguments_same (Final p end) r args = ap (λ a. put_name p.name.text a args) (argument_same p (mark RightParen end r))
  arguments_same (More p comma ps) r args =
      arguments_same ps r _ ∙ ap (λ a. put_arguments ps (put_name p.name.text a args)) (argument_same p (mark Comma comma (parameters_yield ps r)))

  rest_same : (ps : Parameters) (r : Items) → rest_of (parameters_at place ps r) ≡ rest_of ps
  rest_same (Closed end) r = refl
  rest_same (Rest dots n end) r = refl
  rest_same (Final p end) r = refl
  rest_same (More p comma ps) r = rest_same ps r

  metadata_same : (m : Option LiteralMap) (r : Items) → metadata_output (metadata_at place m r) ≡ metadata_output m
  unfolding map_output
  metadata_same None r = refl
  metadata_same (Some m) r = refl

  definition_same : (h : Head) (r q : Items) (ss others : List Stmt) → placeless_list ss ≡ placeless_list others →
      placeless_definition (definition_of (head_at place h r q) ss) ≡ placeless_definition (definition_of h others)
  definition_same h r q ss others h' =
      let metadata = if_any map_yield h.metadata (finish h.tag r) in
      let parameters = parameters_yield h.parameters metadata in
      rw (component_same h.name (mark LeftParen h.paren parameters), arguments_same h.parameters metadata [], rest_same h.parameters metadata, metadata_same h.metadata (finish h.tag r), h') refl

  -- Statements
  loop_same : (lp : Loop) (r : Items) (a b x y : Nodes) → placeless_nodes a ≡ placeless_nodes x → placeless_nodes b ≡ placeless_nodes y →
      placeless_node (loop_output (loop_at place lp r) a b) ≡ placeless_node (loop_output lp x y)
  loop_same lp r a b x y one two =
      let word = mark (Operation In) lp.word (expression_yield lp.target r) in
      rw (parts.key_same place lp.first lp.second (second_yield lp.second word) word, parts.value_same place lp.first lp.second (second_yield lp.second word) word, expression_same true lp.target r, one, two) refl

  capture_same : (f : Bool) (c : Capture) (r q : Items) (a b : Nodes) → placeless_nodes a ≡ placeless_nodes b →
      placeless_node (capture_output f (capture_at place c r q) a) ≡ placeless_node (capture_output f c b)
  capture_same f (SetBody global t n fs e) r q a b h = ap₂ (λ x y. tree.BlockSet n.text x y global) (filters_same f fs (finish t r)) h
  capture_same f (Section t x fs e) r q a b h =
      ap₂ tree.FilterSection (ap₂ tree.OneFilter (filter_same f t.first t.first x (filters_yield fs (finish t r))) (filters_same f fs (finish t r))) h
  capture_same f (CallBody t n ats last e m end) r q a b h =
      let close = mark (Operation GreaterThan) last (finish t r) in
      rw (component_same n (attributes_yield ats close), attributes_same f ats close, h) refl

  plain_same : (f : Bool) (p : Plain) (r : Items) → placeless_adds (plain_adds f (plain_at place p r)) ≡ placeless_adds (plain_adds f p)
  plain_same f (Text text span) r = refl
  plain_same f (Shown a e b) r = ap AddsNode (shown_same f e (Token (toks.Finish kind.Variable b.dash) b.span r))
  plain_same f (Set global t n sign e) r = ap (λ x. AddsNode (tree.Set n.text x global)) (expression_same f e (finish t r))
  plain_same f (Include t q span) r = refl
  plain_same f (Extends t q span) r = refl
  plain_same f (Break t) r = refl
  plain_same f (Continue t) r = refl

  if_same : (f : Bool) (c : Expression) (r : Items) (a b x y : Nodes) → placeless_nodes a ≡ placeless_nodes x → placeless_nodes b ≡ placeless_nodes y →
      placeless_node (tree.If (expression_output f (tree_at place c r)) a b) ≡ placeless_node (tree.If (expression_output f c) x y)
  if_same f c r a b x y one two = rw (expression_same f c r, one, two) refl

  mutual
    output_same : (f : Bool) (b : Body) (r : Items) → placeless_list (output f (body_at place b r)) ≡ placeless_list (output f b)
    output_same f Done r = refl
    output_same f (Then i b) r =
        nodes_added (added_by f (item_at place i (yield b r))) (output f (body_at place b r))
        ∙ ap₂ (λ a ss. added_nodes a ++ ss) (added_same f i (yield b r)) (output_same f b r) ∙ sym (nodes_added (added_by f i) (output f b))

    added_same : (f : Bool) (i : Item) (r : Items) → placeless_adds (added_by f (item_at place i r)) ≡ placeless_adds (added_by f i)
    added_same f (Single p) r = plain_same f p r
    added_same f (Block t n b e m) r =
        let close = closing AtEndBlock e (if_any name_yield m (finish e r)) in
        ap (λ ns. AddsNode (tree.Block n.text nowhere ns)) (nodes_same (output f (body_at place b close)) (output f b) (output_same f b close))
    added_same f (Define h b) r =
        let close = ending_yield h r in ap AddsDefinition (definition_same h (yield b close) r _ (output f b) (output_same f b close))
    added_same f (Capturing c b) r =
        let close = capture_end c r in
        ap AddsNode (capture_same f c (yield b close) r _ _ (nodes_same (output f (body_at place b close)) (output f b) (output_same f b close)))
    added_same f (For t lp b o e) r =
        let close = closing AtEndFor e (finish e r) in
        let other = else_yield o close in
        ap AddsNode (loop_same lp (finish t (yield b other)) _ _ _ _
        (nodes_same (output true (body_at place b other)) (output true b) (output_same true b other))
        (nodes_same (else_output f (else_at place o close)) (else_output f o) (else_same f o close)))
    added_same f (If t c b bs e) r =
        let close = closing AtEndIf e (finish e r) in
        let other = branches_yield bs close in
        ap AddsNode (if_same f c (finish t (yield b other)) _ _ _ _
        (nodes_same (output f (body_at place b other)) (output f b) (output_same f b other))
        (nodes_same (branch_output f (branches_at place bs close)) (branch_output f bs) (branches_same f bs close)))

    branches_same : (f : Bool) (bs : Branches) (r : Items) → placeless_list (branch_output f (branches_at place bs r)) ≡ placeless_list (branch_output f bs)
    branches_same f (Elif t c b bs) r =
        let other = branches_yield bs r in
        ap (λ s. s ∷ []) (if_same f c (finish t (yield b other)) _ _ _ _
        (nodes_same (output f (body_at place b other)) (output f b) (output_same f b other))
        (nodes_same (branch_output f (branches_at place bs r)) (branch_output f bs) (branches_same f bs r)))
    branches_same f (Last o) r = else_same f o r

    else_same : (f : Bool) (o : Else) (r : Items) → placeless_list (else_output f (else_at place o r)) ≡ placeless_list (else_output f o)
    else_same f NoElse r = refl
    else_same f (Otherwise t b) r = output_same f b r

  parent_same : (b : Body) (r : Items) → parent_of (body_at place b r) ≡ parent_of b
  parent_same Done r = refl
  parent_same (Then i b) r =
      ap₂ later (sym (parent_added (added_by false (item_at place i (yield b r)))) ∙ ap parent_by (added_same false i (yield b r)) ∙ parent_added (added_by false i)) (parent_same b r)

  definitions_same : (b : Body) (r : Items) → map placeless_definition (definitions_of (body_at place b r)) ≡ map placeless_definition (definitions_of b)
  definitions_same Done r = refl
  definitions_same (Then i b) r =
      definitions_added (added_by false (item_at place i (yield b r))) (definitions_of (body_at place b r))
      ∙ ap₂ (λ a ds. definitions_by a ++ ds) (added_same false i (yield b r)) (definitions_same b r)
      ∙ sym (definitions_added (added_by false i) (definitions_of b))

  -- of a whole template
  pub template_same : (b : Body) (r : Items) → placeless_output (output_of (body_at place b r)) ≡ placeless_output (output_of b)
  template_same b r = rw (parent_same b r, output_same false b r, definitions_same b r) refl
