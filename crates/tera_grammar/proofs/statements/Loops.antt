-- How loops begin, go on and end.
use Rattle.std.proofs.Common.{◌≡◌, ℕ, suc, Bool, true, false, List, [], ◌∷◌, ◌++◌, Option, Some, None, refl, sym, ap, ◌∙◌, append-nil}
use Rattle.tera_base.specs.declared.utils.Span.{Span}
use Rattle.tera_lexer.specs.code.Cursors.{is_end}
use Rattle.tera_lexer.specs.grammar.Tokens.{Items, Ended, Failed, Token}
use Rattle.tera_ast.specs.Tree as tree
use Rattle.tera_ast.specs.Tree.{Expr, Stmt}
use Rattle.tera_tree.specs.Tree.{Argument, Output}
use Rattle.tera_ast.specs.View.{nodes_of}
use Rattle.tera_grammar.specs.expressions.Reading.Front.{takes, taken_quote}
use Rattle.tera_grammar.specs.expressions.Concrete.{Quote}
use Rattle.tera_grammar.specs.expressions.Marks.{RightParen, Comma, Spread, Bar}
use Rattle.tera_grammar.specs.statements.Types.{Sorted, put_name}
use Rattle.tera_grammar.specs.Reads.{Read, found, stopped, ◌>>=◌, given, Takes}
use Rattle.tera_grammar.specs.statements.Places.{places}
use Rattle.tera_grammar.specs.statements.Places.{parameters_placed}
use Rattle.tera_grammar.specs.statements.Reading.Meeting.{Located, Seen, locate, locate_all, meet, met, nothing_located, nothing_met, nothing_seen, ◌having◌}
use Rattle.tera_grammar.specs.statements.TagParts.{Edge, AtElif, OpensExtends}
use Rattle.tera_grammar.specs.statements.Expressions.{Limits, expression_output, Filtering, filter_output}
use Rattle.tera_grammar.specs.statements.Reading.Expressions.{filter_of}
use Rattle.tera_grammar.specs.statements.Components.{Parameter, argument_of, Parameters, put_arguments, rest_of, More}
use Rattle.tera_grammar.specs.statements.Heads.{Filters, NoFilters, Piped, filters_output}
use Rattle.tera_grammar.specs.statements.Grammar.{Body, Done, Then, Item, Branches, Elif, Last, Else, Path}
use Rattle.tera_grammar.specs.statements.Reading.Loops.{top_from, Going, Branch, chain, chain_output, nest, Branching, pipe, pipe_output, Piping, list, Listing, with_added, weight, Parent, turn, Topping}
use Rattle.tera_grammar.specs.statements.Output.{added_nodes, added_by, output, branch_output, else_output, later, parent_by, definitions_by, parent_of, definitions_of, output_of}
use Rattle.tera_grammar.specs.statements.Reading.{Place, at, Reads, Reader, else_in, else_of, branch_in, branches, step, go_on, body, top, top_step, top_on, ended, template}
use Rattle.tera_grammar.specs.statements.Reading.Phases.{Phase, Starting, Standalone, Extending}
use Rattle.tera_grammar.specs.statements.Reading.Heads.{filters_in, filters_of}
use Rattle.tera_grammar.specs.statements.Reading.Components.{parameter_of, parameters_after, parameters_at, parameters_in, parameters_of}
use Rattle.tera_grammar.specs.statements.Reading.TagParts.{Front, Closes, Opens, front, wrong_at}
use Rattle.tera_grammar.specs.statements.Top.{join}
use Rattle.tera_grammar.proofs.statements.Names.{met_located}
use Rattle.tera_grammar.proofs.statements.Phases.{phase_turns}
use Rattle.tera_grammar.proofs.statements.Joins.{join-done, join-item, output-join, later-one, parent-join, definitions-join}
use Rattle.tera_grammar.proofs.statements.Walks.{top_named}
use Rattle.tera_grammar.proofs.stops.Parts.{filters_steps, parameters_steps}
use Rattle.tera_grammar.proofs.stops.Statements.{branches_steps}
use Rattle.tera_grammar.proofs.stops.Bodies.{body_local, body_steps, top_steps}
use Rattle.tera_grammar.proofs.stops.ForgetTags.{top_forget}
use Rattle.tera_grammar.proofs.Readings.{some_of}

pub bind_assoc : {A B C : Type 0} (o : Read A) (f : A → Read B) (g : B → Read C) → ((o >>= f) >>= g) ≡ (o >>= λ x. f x >>= g)
bind_assoc (stopped z) f g = refl
bind_assoc (found x) f g = refl

pub bind_same : {A B : Type 0} (o : Read A) (f g : A → Read B) → ((x : A) → f x ≡ g x) → (o >>= f) ≡ (o >>= g)
bind_same (stopped z) f g same = refl
bind_same (found x) f g same = same x

pub bind_again : {A : Type 0} (o : Read A) (f : A → Read A) → ((x : A) → f x ≡ found x) → o ≡ (o >>= f)
bind_again (stopped z) f same = refl
bind_again (found x) f same = sym (same x)

-- The items of a body, in their loop.
module _ (l : Limits) (d : ℕ) (path : Path) (f : Bool) (start here : Place) (nodes : List Stmt) where
  abbrev ReadsOn : Place → List Stmt → Type 0
  ReadsOn p ns = Going (body (suc d) l path) f start p ns

  abbrev going : Reads (Option Item) → Reads Body
  going o = o >>= λ x. go_on (body (suc d) l path) x.0 x.1

  -- what is left comes to what the next step comes to
  going_steps : (g : ReadsOn here nodes) → body (suc d) l path start ≡ (going (step l (body d l) path here.seen here.tokens (front here.tokens)) >>= λ b. found (join g.before b.0, b.1))
  going_steps g = g.reads ∙ ap (λ o. o >>= λ b. found (join g.before b.0, b.1)) (body_steps l d path here)

  pub going_starts : nodes ≡ [] → start ≡ here → ReadsOn here nodes
  going_starts none same = record {
    before = Done;
    reads = bind_again (body (suc d) l path start) _ (λ x. refl) ∙ ap (λ p. body (suc d) l path p >>= λ b. found (b.0, b.1)) same;
    shows = none;
  }

  pub going_refused : ReadsOn here nodes → (z : Items) → step l (body d l) path here.seen here.tokens (front here.tokens) ≡ stopped z → body (suc d) l path start ≡ stopped z
  going_refused g z h = going_steps g ∙ ap (λ o. going o >>= λ b. found (join g.before b.0, b.1)) h

  pub going_ends : ReadsOn here nodes → step l (body d l) path here.seen here.tokens (front here.tokens) ≡ found (None, here) → (b : Body) × (body (suc d) l path start ≡ found (b, here)) × (nodes ≡ output f b)
  going_ends g h = (
    g.before,
    going_steps g ∙ ap (λ o. going o >>= λ b. found (join g.before b.0, b.1)) h ∙ ap (λ b. found (b, here)) (join-done g.before),
    g.shows,
  )

  pub going_on : (i : Item) (new : Place) (more : List Stmt) → ReadsOn here nodes → step l (body d l) path here.seen here.tokens (front here.tokens) ≡ found (Some i, new) → more ≡ nodes ++ added_nodes (added_by f i) → ReadsOn new more
  going_on i new more g h grown = record {
    before = join g.before (Then i Done);
    reads = going_steps g ∙ ap (λ o. going o >>= λ b. found (join g.before b.0, b.1)) h
        ∙ bind_assoc (body (suc d) l path new) _ _
        ∙ bind_same (body (suc d) l path new) _ _ (λ b. ap (λ v. found (v, b.1)) (join-item g.before i b.0));
    shows = grown ∙ ap (λ v. v ++ added_nodes (added_by f i)) g.shows
        ∙ ap (λ v. output f g.before ++ v) (sym (append-nil (added_nodes (added_by f i)))) ∙ sym (output-join f g.before (Then i Done));
  }

-- the branches of an `if`, the last inside the others
pub nest-chain : (f : Bool) (bs : List Branch) (o : Else) → branch_output f (chain bs (Last o)) ≡ nest (chain_output f bs) (else_output f o)
nest-chain f [] o = refl
nest-chain f (b ∷ bs) o = ap (λ v. tree.If (expression_output f b.condition) (nodes_of (output f b.body)) (nodes_of v) ∷ []) (nest-chain f bs o)

pub nest_pop : (bs : List (Expr × List Stmt)) (b : Expr × List Stmt) (end : List Stmt) → nest (bs ++ b ∷ []) end ≡ nest bs (tree.If b.0 (nodes_of b.1) (nodes_of end) ∷ [])
nest_pop [] b end = refl
nest_pop (a ∷ bs) b end = ap (λ v. tree.If a.0 (nodes_of a.1) (nodes_of v) ∷ []) (nest_pop bs b end)

chain-more : (before : List Branch) (b : Branch) (bs : Branches) → chain (before ++ b ∷ []) bs ≡ chain before (Elif b.tag b.condition b.body bs)
chain-more [] b bs = refl
chain-more (a ∷ before) b bs = ap (Elif a.tag a.condition a.body) (chain-more before b bs)

chain_output-more : (f : Bool) (before : List Branch) (b : Branch) → chain_output f (before ++ b ∷ []) ≡ chain_output f before ++ (expression_output f b.condition, output f b.body) ∷ []
chain_output-more f [] b = refl
chain_output-more f (a ∷ before) b = ap (λ v. (expression_output f a.condition, output f a.body) ∷ v) (chain_output-more f before b)

-- whether an `elif` is there
abbrev pub is_elif : Front → Bool
is_elif (Closes AtElif start first us) = true
is_elif fr = false

-- The branches of an `if`, in their loop.
module _ (l : Limits) (d : ℕ) (path : Path) (f : Bool) (start here : Place) (gathered : List (Expr × List Stmt)) where
  abbrev All : Place → Reads Branches
  All p = branches l (body d l) path p

  abbrev BranchesOn : Place → List (Expr × List Stmt) → Type 0
  BranchesOn p bs = Branching All f start p bs

  pub branching_starts : gathered ≡ [] → start ≡ here → BranchesOn here gathered
  branching_starts none same = record {
    before = [];
    reads = bind_again (All start) _ (λ x. refl) ∙ ap (λ p. All p >>= λ b. found (b.0, b.1)) same;
    shows = none;
  }

  branching_steps : (g : BranchesOn here gathered) → All start ≡ (branch_in l (body d l) path All here.seen here.tokens (front here.tokens) >>= λ bs. found (chain g.before bs.0, bs.1))
  branching_steps g = g.reads ∙ ap (λ o. o >>= λ bs. found (chain g.before bs.0, bs.1)) (branches_steps l (body d l) (body_local l d) path here)

  pub branching_refused : BranchesOn here gathered → (z : Items) → branch_in l (body d l) path All here.seen here.tokens (front here.tokens) ≡ stopped z → All start ≡ stopped z
  branching_refused g z h = branching_steps g ∙ ap (λ o. o >>= λ bs. found (chain g.before bs.0, bs.1)) h

  pub branching_on : (b : Branch) (new : Place) (more : List (Expr × List Stmt)) → BranchesOn here gathered
      → branch_in l (body d l) path All here.seen here.tokens (front here.tokens) ≡ (All new >>= λ bs. found (Elif b.tag b.condition b.body bs.0, bs.1))
      → more ≡ gathered ++ (expression_output f b.condition, output f b.body) ∷ [] → BranchesOn new more
  branching_on b new more g h grown = record {
    before = g.before ++ b ∷ [];
    reads = branching_steps g ∙ ap (λ o. o >>= λ bs. found (chain g.before bs.0, bs.1)) h
        ∙ bind_assoc (All new) _ _ ∙ bind_same (All new) _ _ (λ bs. ap (λ v. found (v, bs.1)) (sym (chain-more g.before b bs.0)));
    shows = grown ∙ ap (λ v. v ++ (expression_output f b.condition, output f b.body) ∷ []) g.shows ∙ sym (chain_output-more f g.before b);
  }

  -- none there: what is left is an `else`, or nothing
  no_elif : (fr : Front) → is_elif fr ≡ false → branch_in l (body d l) path All here.seen here.tokens fr ≡ (else_in (body d l) path here.seen here.tokens fr >>= λ o. found (Last o.0, o.1))
  unfolding branch_in
  no_elif (Closes AtElif tag_start first us) h = cc
  no_elif fr h = refl

  pub branching_ends : (o : Else × Place) → BranchesOn here gathered → is_elif (front here.tokens) ≡ false → else_of (body d l) path here ≡ found o
      → (bs : Branches) × (All start ≡ found (bs, o.1)) × (nest gathered (else_output f o.0) ≡ branch_output f bs)
  branching_ends o g none read = (
    chain g.before (Last o.0),
    branching_steps g ∙ ap (λ v. v >>= λ bs. found (chain g.before bs.0, bs.1)) (no_elif (front here.tokens) none ∙ ap (λ v. v >>= λ x. found (Last x.0, x.1)) read),
    ap (λ v. nest v (else_output f o.0)) g.shows ∙ sym (nest-chain f g.before o.0),
  )

  pub branching_end_refused : BranchesOn here gathered → is_elif (front here.tokens) ≡ false → (z : Items) → else_of (body d l) path here ≡ stopped z → All start ≡ stopped z
  branching_end_refused g none z read = branching_refused g z (no_elif (front here.tokens) none ∙ ap (λ v. v >>= λ x. found (Last x.0, x.1)) read)

-- The filters of a tag, in their loop.
pipe-more : (before : List (Span × Filtering)) (p : Span × Filtering) (fs : Filters) → pipe (before ++ p ∷ []) fs ≡ pipe before (Piped p.0 p.1 fs)
pipe-more [] p fs = refl
pipe-more (q ∷ before) p fs = ap (Piped q.0 q.1) (pipe-more before p fs)

pipe_output-more : (f : Bool) (before : List (Span × Filtering)) (p : Span × Filtering) → pipe_output f (before ++ p ∷ []) ≡ pipe_output f before ++ filter_output f p.0 p.1 ∷ []
pipe_output-more f [] p = refl
pipe_output-more f (q ∷ before) p = ap (λ v. filter_output f q.0 q.1 ∷ v) (pipe_output-more f before p)

filters_output-pipe : (f : Bool) (before : List (Span × Filtering)) → filters_output f (pipe before NoFilters) ≡ pipe_output f before
filters_output-pipe f [] = refl
filters_output-pipe f (p ∷ before) = ap (λ v. filter_output f p.0 p.1 ∷ v) (filters_output-pipe f before)

abbrev more_piped : Limits → Bool → Span → Filtering × Items → Takes Filters
more_piped l f bar y = filters_of l f y.1 >>= λ fs. found (Piped bar y.0 fs.0, fs.1)

module _ (l : Limits) (f : Bool) (start here : Items) (gathered : List Expr) where
  pub piping_starts : gathered ≡ [] → start ≡ here → Piping l f start here gathered
  piping_starts none same = record {
    before = [];
    reads = bind_again (filters_of l f start) _ (λ x. refl) ∙ ap (λ p. filters_of l f p >>= λ fs. found (fs.0, fs.1)) same;
    shows = none;
  }

  piping_steps : (g : Piping l f start here gathered) (bar : Takes Span) → takes Bar here ≡ bar
      → filters_of l f start ≡ (filters_in (filters_of l f) l f here bar >>= λ fs. found (pipe g.before fs.0, fs.1))
  piping_steps g bar is = g.reads ∙ ap (λ o. o >>= λ fs. found (pipe g.before fs.0, fs.1)) (filters_steps l f here ∙ ap (filters_in (filters_of l f) l f here) is)

  pub piping_ends : Piping l f start here gathered → (z : Items) → takes Bar here ≡ stopped z → (fs : Filters) × (filters_of l f start ≡ found (fs, here)) × (gathered ≡ filters_output f fs)
  unfolding filters_in
  piping_ends g z none = (pipe g.before NoFilters, piping_steps g (stopped z) none, g.shows ∙ sym (filters_output-pipe f g.before))

  pub piping_refused : Piping l f start here gathered → (bar : Span × Items) → takes Bar here ≡ found bar → (z : Items) → filter_of l f bar.1 ≡ stopped z → filters_of l f start ≡ stopped z
  unfolding filters_in
  piping_refused g bar is z none = piping_steps g (found bar) is ∙ rw none refl

  pub piping_on : (more : List Expr) → Piping l f start here gathered → (bar : Span × Items) → takes Bar here ≡ found bar → (x : Filtering × Items) → filter_of l f bar.1 ≡ found x
      → more ≡ gathered ++ filter_output f bar.0 x.0 ∷ [] → Piping l f start x.1 more
  unfolding filters_in
  piping_on more g bar is x read grown = record {
    before = g.before ++ (bar.0, x.0) ∷ [];
    reads = piping_steps g (found bar) is
        ∙ ap (λ (o : Takes Filtering). (o >>= more_piped l f bar.0) >>= λ fs. found (pipe g.before fs.0, fs.1)) read
        ∙ bind_assoc (filters_of l f x.1) _ _ ∙ bind_same (filters_of l f x.1) _ _ (λ fs. ap (λ v. found (v, fs.1)) (sym (pipe-more g.before (bar.0, x.0) fs.0)));
    shows = grown ∙ ap (λ v. v ++ filter_output f bar.0 x.0 ∷ []) g.shows ∙ sym (pipe_output-more f g.before (bar.0, x.0));
  }

-- The parameters of a component, in their loop.
list-more : (before : List (Parameter × Span)) (p : Parameter × Span) (ps : Parameters) → list (before ++ p ∷ []) ps ≡ list before (More p.0 p.1 ps)
list-more [] p ps = refl
list-more (q ∷ before) p ps = ap (More q.0 q.1) (list-more before p ps)

pub rest_of-list : (before : List (Parameter × Span)) (ps : Parameters) → rest_of (list before ps) ≡ rest_of ps
rest_of-list [] ps = refl
rest_of-list (p ∷ before) ps = rest_of-list before ps

module _ (l : Limits) (start here : Items) (seen : Located) (gathered : Sorted Argument) where
  pub listing_starts : gathered ≡ [] → seen ≡ nothing_located → start ≡ here → Listing l start here seen gathered
  listing_starts none nothing same = record {
    before = [];
    reads = bind_again (parameters_of l nothing_met start) _ (λ x. refl) ∙ ap (λ v. parameters_of l (met v) start >>= λ ps. found (ps.0, ps.1)) (sym nothing) ∙ ap (λ p. parameters_of l (met seen) p >>= λ ps. found (ps.0, ps.1)) same;
    shows = λ ps. ap (put_arguments ps) (sym none);
    stand = λ ps. ap (locate_all (parameters_placed ps)) (sym nothing);
  }

  -- what is left comes to what is next
  pub listing_steps : (g : Listing l start here seen gathered) → parameters_of l nothing_met start ≡ (parameters_in (parameters_of l) l (met seen) here (takes RightParen here) >>= λ ps. found (list g.before ps.0, ps.1))
  listing_steps g = g.reads ∙ ap (λ o. o >>= λ ps. found (list g.before ps.0, ps.1)) (parameters_steps l (met seen) here)

  pub listing_ends : (x : Parameters × Items) (g : Listing l start here seen gathered) → parameters_in (parameters_of l) l (met seen) here (takes RightParen here) ≡ found x
      → (ps : Parameters) × (parameters_of l nothing_met start ≡ found (ps, x.1)) × (put_arguments x.0 gathered ≡ put_arguments ps []) × (rest_of ps ≡ rest_of x.0)
      × (locate_all (parameters_placed x.0) seen ≡ locate_all (parameters_placed ps) nothing_located)
  listing_ends x g read =
      (list g.before x.0, listing_steps g ∙ ap (λ o. o >>= λ ps. found (list g.before ps.0, ps.1)) read, sym (g.shows x.0), rest_of-list g.before x.0, sym (g.stand x.0))

  pub listing_refused : (g : Listing l start here seen gathered) → (z : Items) → parameters_in (parameters_of l) l (met seen) here (takes RightParen here) ≡ stopped z → parameters_of l nothing_met start ≡ stopped z
  listing_refused g z none = listing_steps g ∙ ap (λ o. o >>= λ ps. found (list g.before ps.0, ps.1)) none

  pub listing_on : (g : Listing l start here seen gathered) → (x : Items) → takes RightParen here ≡ stopped x → (y : Items) → takes Spread here ≡ stopped y
      → (p : Parameter × Items) → parameter_of l (met seen) here ≡ found p
      → (z : Items) → takes RightParen p.1 ≡ stopped z → (comma : Span × Items) → takes Comma p.1 ≡ found comma
      → Listing l start comma.1 (locate p.0.name seen) (put_name p.0.name.text (argument_of p.0) gathered)
  unfolding parameters_in parameters_at parameters_after
  listing_on g x no_end y no_dots p read z no_last comma sound = record {
    before = g.before ++ (p.0, comma.0) ∷ [];
    reads =
        let next = met (locate p.0.name seen) in
        let steps : parameters_in (parameters_of l) l (met seen) here (takes RightParen here) ≡ (parameters_of l next comma.1 >>= λ ps. found (More p.0 comma.0 ps.0, ps.1)) =
        ap (parameters_in (parameters_of l) l (met seen) here) no_end ∙ ap (parameters_at (parameters_of l) l (met seen) here) no_dots
        ∙ ap (λ o. o >>= λ q. parameters_after (parameters_of l) (met seen) q.0 q.1 (takes RightParen q.1)) read
        ∙ ap (parameters_after (parameters_of l) (met seen) p.0 p.1) no_last
        ∙ ap (λ o. o >>= λ c. parameters_of l (meet p.0.name.text (met seen)) c.1 >>= λ ps. found (More p.0 c.0 ps.0, ps.1)) sound
        ∙ ap (λ v. parameters_of l v comma.1 >>= λ ps. found (More p.0 comma.0 ps.0, ps.1)) (sym (met_located p.0.name seen)) in
        listing_steps g ∙ ap (λ o. o >>= λ ps. found (list g.before ps.0, ps.1)) steps
        ∙ bind_assoc (parameters_of l next comma.1) _ _
        ∙ bind_same (parameters_of l next comma.1) _ _ (λ ps. ap (λ v. found (v, ps.1)) (sym (list-more g.before (p.0, comma.0) ps.0)));
    shows = λ ps. ap (λ v. put_arguments v []) (list-more g.before (p.0, comma.0) ps) ∙ g.shows (More p.0 comma.0 ps);
    stand = λ ps. ap (λ v. locate_all (parameters_placed v) nothing_located) (list-more g.before (p.0, comma.0) ps) ∙ g.stand (More p.0 comma.0 ps);
  }

-- The top level, in its loop.
abbrev pub begins_extends : Front → Bool
begins_extends (Opens OpensExtends start first us) = true
begins_extends fr = false

pub other_step : (l : Limits) (f : Reader) (ph : Phase) (seen : Seen) (ts : Items) (fr : Front) → begins_extends fr ≡ false → top_step l f ph seen ts fr ≡ step l f [] seen ts fr
unfolding top_step
other_step l f ph seen ts (Opens OpensExtends start first us) h = cc
other_step l f ph seen ts fr h = refl

pub first_step : (l : Limits) (f : Reader) (seen : Seen) (ts : Items) (fr : Front) → top_step l f Starting seen ts fr ≡ step l f [] seen ts fr
unfolding top_step step
first_step l f seen ts (Opens OpensExtends start first us) = refl
first_step l f seen ts fr = refl

module _ (l : Limits) (d : ℕ) (opens : l.bodies ≡ suc d) (ts : Items) (here : Place) (out : Output) (ph : Phase) where
  abbrev First : Place
  First = at nothing_seen ts

  abbrev TopOn : Place → Output → Phase → Type 0
  TopOn p o q = Topping l d First p o q

  abbrev Next : Reads (Option Item)
  Next = top_step l (body d l) ph here.seen here.tokens (front here.tokens)

  abbrev whole_of : Reads Body → Read Body
  whole_of o = o >>= λ b. ended b.1.tokens >>= λ u. found b.0

  abbrev led : Body → Reads Body → Reads Body
  led w o = o >>= λ b. found (join w b.0, b.1)

  abbrev walked : Reads (Option Item) → Reads Body
  walked o = o >>= λ x. top_on (top_from l d) ph x.0 x.1

  template_is : template l ts ≡ whole_of (top_from l d Starting First)
  unfolding template top
  template_is = ap (λ n. whole_of (top n l First)) opens

  -- what is left comes to what is next
  topping_steps : (g : TopOn here out ph) → top_from l d Starting First ≡ led g.before (walked Next)
  topping_steps g = g.reads ∙ ap (led g.before) (top_steps l (body d l) (body_local l d) ph here)

  pub topping_starts : out ≡ record { parent = None; nodes = []; definitions = [] } → here ≡ First → ph ≡ Starting → TopOn here out ph
  topping_starts none same first = record {
    before = Done;
    reads = bind_again (top_from l d Starting First) (λ b. found (b.0, b.1)) (λ x. refl)
        ∙ ap (λ p. top_from l d Starting p >>= λ b. found (b.0, b.1)) (sym same) ∙ ap (λ q. top_from l d q here >>= λ b. found (b.0, b.1)) (sym first);
    nodes = ap (λ (o : Output). o.nodes) none;
    parent = ap (λ (o : Output). o.parent) none;
    definitions = ap (λ (o : Output). o.definitions) none;
  }

  pub topping_refused : TopOn here out ph → (z : Items) → Next ≡ stopped z → template l ts ≡ stopped z
  topping_refused g z h = template_is ∙ ap whole_of (topping_steps g ∙ ap (λ o. led g.before (walked o)) h)

  over : (g : TopOn here out ph) → Next ≡ found (None, here) → top_from l d Starting First ≡ found (g.before, here)
  over g h = topping_steps g ∙ ap (λ o. led g.before (walked o)) h ∙ ap (λ b. found (b, here)) (join-done g.before)

  top_is : (b : Body) → top_from l d Starting First ≡ found (b, here) → top l.bodies l First ≡ found (b, here)
  unfolding top
  top_is b h = ap (λ n. top n l First) opens ∙ h

  at_end : (us : Items) → is_end us ≡ true → (b : Body) → (ended us >>= λ u. found b) ≡ found b
  at_end Ended h b = refl
  at_end (Failed text span) h b = cc
  at_end (Token t s us) h b = cc

  before_end : (us : Items) → is_end us ≡ false → (b : Body) → (ended us >>= λ u. found b) ≡ stopped (wrong_at us)
  before_end Ended h b = cc
  before_end (Failed text span) h b = refl
  before_end (Token t s us) h b = refl

  -- the end of the tokens
  pub topping_ends : TopOn here out ph → Next ≡ found (None, here) → is_end here.tokens ≡ true
      → (b : Body) × (template l ts ≡ found b) × (out ≡ output_of b) × (here.seen ≡ nothing_seen having places b)
  topping_ends g h left = (
    g.before,
    template_is ∙ ap whole_of (over g h) ∙ at_end here.tokens left g.before,
    λ i. record { parent = g.parent i; nodes = g.nodes i; definitions = g.definitions i },
    top_named l l.bodies ts (g.before, here) (some_of _ _ (top_forget l l.bodies First) _ (top_is g.before (over g h))),
  )

  -- a tag that ends a body, where none is open
  pub topping_left : TopOn here out ph → Next ≡ found (None, here) → is_end here.tokens ≡ false → template l ts ≡ stopped (wrong_at here.tokens)
  topping_left g h left = template_is ∙ ap whole_of (over g h) ∙ before_end here.tokens left g.before

  module _ (i : Item) (new : Place) (more : Output) (g : TopOn here out ph) (read : Next ≡ found (Some i, new)) (grown : more ≡ with_added out (added_by false i)) where
    abbrev allowed : Option Phase → Reads Body
    allowed o = given new.tokens o >>= λ q. top_from l d q new >>= λ b. found (Then i b.0, b.1)

    goes : top_from l d Starting First ≡ led g.before (allowed (turn ph (weight (added_by false i))))
    goes = topping_steps g ∙ ap (λ o. led g.before (walked o)) read ∙ ap (λ o. led g.before (allowed o)) (phase_turns ph i)

    pub topping_on : (q : Phase) → turn ph (weight (added_by false i)) ≡ Some q → TopOn new more q
    topping_on q turned = record {
      before = join g.before (Then i Done);
      reads = goes ∙ ap (λ o. led g.before (allowed o)) turned ∙ bind_assoc (top_from l d q new) _ _
          ∙ bind_same (top_from l d q new) _ _ (λ b. ap (λ v. found (v, b.1)) (join-item g.before i b.0));
      nodes = ap (λ (o : Output). o.nodes) grown ∙ ap (λ v. v ++ added_nodes (added_by false i)) g.nodes
          ∙ ap (λ v. output false g.before ++ v) (sym (append-nil (added_nodes (added_by false i)))) ∙ sym (output-join false g.before (Then i Done));
      parent = ap (λ (o : Output). o.parent) grown ∙ ap (λ p. later p (parent_by (added_by false i))) g.parent
          ∙ ap (later (parent_of g.before)) (later-one (parent_by (added_by false i))) ∙ sym (parent-join g.before (Then i Done));
      definitions = ap (λ (o : Output). o.definitions) grown ∙ ap (λ v. v ++ definitions_by (added_by false i)) g.definitions
          ∙ ap (λ v. definitions_of g.before ++ v) (sym (append-nil (definitions_by (added_by false i)))) ∙ sym (definitions-join g.before (Then i Done));
    }

    -- what the phase does not allow is refused after it
    pub topping_stops : turn ph (weight (added_by false i)) ≡ None → template l ts ≡ stopped new.tokens
    topping_stops none = template_is ∙ ap whole_of (goes ∙ ap (λ o. led g.before (allowed o)) none)

  -- where the phase does not allow an `extends`, it is refused after its string, or where that is none
  abbrev late : Takes (Quote × Span) → Reads Item
  late o = o >>= λ q. stopped q.1

  late_extends : (start : Edge) (first : Span) (us : Items) → turn ph Parent ≡ None → (f : Reader) → (z : Items) → late (taken_quote us) ≡ stopped z
      → top_step l f ph here.seen here.tokens (Opens OpensExtends start first us) ≡ stopped z
  unfolding top_step
  late_extends start first us none f z h = by ph none
    where
      by : (q : Phase) → turn q Parent ≡ None → top_step l f q here.seen here.tokens (Opens OpensExtends start first us) ≡ stopped z
      by Starting never = cc
      by Standalone never = ap (λ o. o >>= λ x. found (Some x.0, x.1)) h
      by Extending never = ap (λ o. o >>= λ x. found (Some x.0, x.1)) h

  pub topping_extends : TopOn here out ph → turn ph Parent ≡ None → (start : Edge) (first : Span) (us : Items) → front here.tokens ≡ Opens OpensExtends start first us
      → (z : Items) → late (taken_quote us) ≡ stopped z → template l ts ≡ stopped z
  topping_extends g none start first us is z h =
      topping_refused g z (ap (top_step l (body d l) ph here.seen here.tokens) is ∙ late_extends start first us none (body d l) z h)
