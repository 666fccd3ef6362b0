-- What the reading function gives is a template that meets its conditions, and the tokens after it.
use Rattle.std.proofs.Common.{◌≡◌, ℕ, zero, suc, ◌≤◌, zero-le, Bool, true, false, ◌∷◌, Option, Some, None, refl, sym, ap, subst, ◌∙◌, arith}
use Rattle.std.proofs.lemmas.Option.{same_Some}
use Rattle.std.specs.Str.{bytes_eq}
use Rattle.tera_base.specs.declared.utils.Span.{Span}
use Rattle.tera_lexer.specs.code.Cursors.{size}
use Rattle.tera_lexer.specs.grammar.Tokens as toks
use Rattle.tera_lexer.specs.grammar.Tokens.{Items, Token}
use Rattle.tera_lexer.specs.declared.lexer.delimiters.Kind.TheVariants as kind
use Rattle.tera_grammar.proofs.expressions.Fronts.{takes_ok, taken_name_ok}
use Rattle.tera_grammar.proofs.plain.expressions.Reading.Front.{takes}
use Rattle.tera_grammar.specs.expressions.Operators.{GreaterThan}
use Rattle.tera_grammar.specs.expressions.Concrete.{quote_token}
use Rattle.tera_grammar.specs.expressions.Marks.{mark, Assign, Operation}
use Rattle.tera_grammar.specs.Options.{◌>>=◌}
use Rattle.tera_grammar.specs.Words.{is_reserved}
use Rattle.tera_grammar.specs.statements.Names.{agrees}
use Rattle.tera_grammar.specs.statements.Places.{block_placed, component_placed, ◌followed_by◌, places, item_places, branch_places, else_places}
use Rattle.tera_grammar.specs.statements.Reading.Meeting.{Seen, met, ◌having◌}
use Rattle.tera_grammar.specs.statements.TagParts.{Edge, Name, name_yield, Tag, Opener, OpensSet, OpensInclude, OpensExtends, OpensBlock, OpensFor, OpensIf, OpensFilter, OpensComponent, OpensBreak, OpensContinue, OpensCall, opener_token, AtElif, AtElse, AtEndSet, AtEndBlock, AtEndFor, AtEndIf, AtEndFilter, AtEndCall, closer_token, start_yield, opening, closing, finish, if_any}
use Rattle.tera_grammar.specs.statements.Expressions.{Limits, expression_yield, filter_yield, attributes_yield, ComponentName, component_yield, component_text}
use Rattle.tera_grammar.specs.statements.Heads.{loop_yield, filters_yield, Capture, SetBody, Section, CallBody, capture_yield, capture_end, FitsCapture}
use Rattle.tera_grammar.specs.statements.Grammar.{Plain, Text, Shown, Set, Include, Extends, Break, Continue, plain_yield, FitsPlain, Body, Then, Item, Single, Block, Define, Capturing, For, If, Branches, Elif, Last, Else, NoElse, Otherwise, yield, item_yield, branches_yield, else_yield, InFor, InForElse, InBlock, InIf, InComponent, InCapture, Path, may_break, in_loop, text_if_any, Fits, FitsItem, FitsBranches, FitsElse, height, item_height, branch_height, else_height}
use Rattle.tera_grammar.specs.statements.Reading.{Place, at}
use Rattle.tera_grammar.proofs.plain.statements.Reading.{Reads, Reader, else_in, branch_in, branches_by, branches, set_after, set_of, include_of, extends_of, break_of, block_end, block_of, component_def_of, section_of, call_end, call_of, for_of, if_of, tag_of, shown_of, step, go_on, items_by, items, body}
use Rattle.tera_grammar.specs.statements.Reading.TagParts.{Front, Ends, Closes, Holds, Shows, Opens, Wrong, front, tag}
use Rattle.tera_grammar.proofs.plain.statements.Reading.TagParts.{name_if_any}
use Rattle.tera_grammar.proofs.Options.{bound, guard_ok, guard_not}
use Rattle.tera_grammar.proofs.statements.Names.{Named, named_nothing, named_both, named_block, named_component}
use Rattle.tera_grammar.proofs.statements.Expressions.{expression_sound, filter_sound, attributes_sound, component_sound}
use Rattle.tera_grammar.proofs.statements.TagParts.{name_if_any_sound, quote_sound, finish_sound, variable_end_sound, FrontOf, front_is, closed_sound, closed_tag_sound}
use Rattle.tera_grammar.proofs.statements.Heads.{free_name_sound, loop_sound, filters_sound}
use Rattle.tera_grammar.proofs.statements.Components.{opened_yield, opened_sound, ending_sound}

pub record FoundBody (l : Limits) (d : ℕ) (path : Path) (p : Place) (b : Body) (q : Place) : Type 0 where
  pub tokens : p.tokens ≡ yield b q.tokens
  pub named : Named (places b) p.seen q.seen
  pub fits : Fits l path b
  pub height : height b ≤ d

pub record FoundItem (l : Limits) (d : ℕ) (path : Path) (p : Place) (i : Item) (q : Place) : Type 0 where
  pub tokens : p.tokens ≡ item_yield i q.tokens
  pub named : Named (item_places i) p.seen q.seen
  pub fits : FitsItem l path i
  pub height : item_height i ≤ d

pub record FoundBranches (l : Limits) (d : ℕ) (path : Path) (p : Place) (bs : Branches) (q : Place) : Type 0 where
  pub tokens : p.tokens ≡ branches_yield bs q.tokens
  pub named : Named (branch_places bs) p.seen q.seen
  pub fits : FitsBranches l path bs
  pub height : branch_height bs ≤ d

pub record FoundElse (l : Limits) (d : ℕ) (path : Path) (p : Place) (o : Else) (q : Place) : Type 0 where
  pub tokens : p.tokens ≡ else_yield o q.tokens
  pub named : Named (else_places o) p.seen q.seen
  pub fits : FitsElse l path o
  pub height : else_height o ≤ d

abbrev pub Sound : Limits → ℕ → Reader → Type 0
Sound l d f = (path : Path) (p : Place) (x : Body × Place) → f path p ≡ Some x → FoundBody l d path p x.0 x.1

-- the start of a tag with its first token
abbrev begun : Edge → Opener → Span → Items → Items
begun start o first us = start_yield start (Token (opener_token o) first us)

module _ (l : Limits) (d : ℕ) (f : Reader) (sound : Sound l d f) where
  none_found : (path : Path) (seen : Seen) (ts : Items) (x : Else × Place) → Some (NoElse, at seen ts) ≡ Some x → FoundElse l d path (at seen ts) x.0 x.1
  none_found path seen ts x h = subst (λ (y : Else × Place). FoundElse l d path (at seen ts) y.0 y.1) (same_Some _ _ h)
      (record { tokens = refl; named = named_nothing seen; fits = tt; height = zero-le })

  pub else_found : (path : Path) (seen : Seen) (ts : Items) (fr : Front) (x : Else × Place) → FrontOf ts fr → else_in f path seen ts fr ≡ Some x → FoundElse l d path (at seen ts) x.0 x.1
  unfolding else_in
  else_found path seen ts (Closes AtElse start first us) x is h =
      bound _ _ _ h (λ e ended more. bound _ _ _ more (λ b read made.
      let found = sound path (at seen e.1) b read in
      subst (λ (y : Else × Place). FoundElse l d path (at seen ts) y.0 y.1) (same_Some (Otherwise (tag start first e.0) b.0, b.1) x made) (record {
        tokens = is ∙ ap (λ v. start_yield start (Token (closer_token AtElse) first v)) (finish_sound us e ended ∙ ap (finish (tag start first e.0)) found.tokens);
        named = found.named;
        fits = found.fits;
        height = found.height;
      })))
  else_found path seen ts fr x is h = none_found path seen ts x h

  last_found : (path : Path) (seen : Seen) (ts : Items) (fr : Front) (x : Branches × Place) → FrontOf ts fr → (else_in f path seen ts fr >>= λ o. Some (Last o.0, o.1)) ≡ Some x → FoundBranches l d path (at seen ts) x.0 x.1
  last_found path seen ts fr x is h =
      bound _ _ _ h (λ o read made.
      let found = else_found path seen ts fr o is read in
      subst (λ (y : Branches × Place). FoundBranches l d path (at seen ts) y.0 y.1) (same_Some (Last o.0, o.1) x made)
      (record { tokens = found.tokens; named = found.named; fits = found.fits; height = found.height }))

  branch_found : (path : Path) (again : Place → Reads Branches) → ((p : Place) (x : Branches × Place) → again p ≡ Some x → FoundBranches l d path p x.0 x.1) →
      (seen : Seen) (ts : Items) (fr : Front) (x : Branches × Place) → FrontOf ts fr → branch_in l f path again seen ts fr ≡ Some x → FoundBranches l d path (at seen ts) x.0 x.1
  unfolding branch_in
  branch_found path again goes seen ts (Closes AtElif start first us) x is h =
      bound _ _ _ h (λ c read rest1. bound _ _ _ rest1 (λ e ended rest2. bound _ _ _ rest2 (λ b inside more. bound _ _ _ more (λ bs others made.
      let condition = expression_sound l (in_loop path) us c read in
      let found = sound path (at seen e.1) b inside in
      let then = goes b.1 bs others in
      subst (λ (y : Branches × Place). FoundBranches l d path (at seen ts) y.0 y.1) (same_Some (Elif (tag start first e.0) c.0 b.0 bs.0, bs.1) x made) (record {
        tokens = is ∙ ap (λ v. start_yield start (Token (closer_token AtElif) first v)) (condition.1 ∙ ap (expression_yield c.0) (finish_sound c.1 e ended
            ∙ ap (finish (tag start first e.0)) (found.tokens ∙ ap (yield b.0) then.tokens)));
        named = named_both _ _ found.named then.named;
        fits = (condition.0, found.fits, then.fits);
        height = omega (arith, found.height, then.height);
      })))))
  branch_found path again goes seen ts fr x is h = last_found path seen ts fr x is h

  branches_by_found : (n : ℕ) (path : Path) (p : Place) (x : Branches × Place) → branches_by n l f path p ≡ Some x → FoundBranches l d path p x.0 x.1
  unfolding branches_by
  branches_by_found zero path p x h = cc
  branches_by_found (suc n) path p x h = branch_found path (branches_by n l f path) (branches_by_found n path) p.seen p.tokens (front p.tokens) x (front_is p.tokens) h

  pub branches_found : (path : Path) (p : Place) (x : Branches × Place) → branches l f path p ≡ Some x → FoundBranches l d path p x.0 x.1
  unfolding branches
  branches_found path p x h = branches_by_found (suc (size p.tokens)) path p x h

  -- what an item is read as
  abbrev Finds : Path → Seen → Items → Item × Place → Type 0
  Finds path seen ts x = FoundItem l d path (at seen ts) x.0 x.1

  single_found : (path : Path) (seen : Seen) (ts vs : Items) (p : Plain) (x : Item × Place) → ts ≡ plain_yield p vs → FitsPlain l path p → Some (Single p, at seen vs) ≡ Some x → Finds path seen ts x
  single_found path seen ts vs p x is fits h =
      subst (Finds path seen ts) (same_Some _ _ h) (record { tokens = is; named = named_nothing seen; fits = fits; height = zero-le })

  -- a body that is taken as a value
  capture_found : (path : Path) (seen : Seen) (ts us : Items) (c : Capture) (b : Body × Place) (vs : Items) (x : Item × Place) → ts ≡ capture_yield c us → FitsCapture l (in_loop path) c
      → f (InCapture ∷ path) (at seen us) ≡ Some b → b.1.tokens ≡ capture_end c vs → Some (Capturing c b.0, at b.1.seen vs) ≡ Some x → Finds path seen ts x
  capture_found path seen ts us c b vs x is fits read end h =
      let found = sound (InCapture ∷ path) (at seen us) b read in
      subst (Finds path seen ts) (same_Some (Capturing c b.0, at b.1.seen vs) x h) (record {
        tokens = is ∙ ap (capture_yield c) (found.tokens ∙ ap (yield b.0) end);
        named = found.named;
        fits = (fits, found.fits);
        height = found.height;
      })

  set_after_found : (path : Path) (global : Bool) (start : Edge) (first : Span) (seen : Seen) (ts us : Items) (n : Name) (sign : Option (Span × Items)) (x : Item × Place)
      → ts ≡ begun start (OpensSet global) first (name_yield n us) → is_reserved n.text ≡ false → takes Assign us ≡ sign → set_after l f path global start first seen n us sign ≡ Some x → Finds path seen ts x
  unfolding set_after
  set_after_found path global start first seen ts us n (Some sign) x is free is_sound h =
      bound _ _ _ h (λ e read more. bound _ _ _ more (λ g ended made.
      let value = expression_sound l (in_loop path) sign.1 e read in
      single_found path seen ts g.1 (Set global (tag start first g.0) n sign.0 e.0) x
      (is ∙ ap (λ v. begun start (OpensSet global) first (name_yield n v)) (takes_ok Assign us sign is_sound ∙ ap (mark Assign sign.0) (value.1 ∙ ap (expression_yield e.0) (finish_sound e.1 g ended))))
      (free, value.0) made))
  set_after_found path global start first seen ts us n None x is free is_sound h =
      bound _ _ _ h (λ fs piped rest1. bound _ _ _ rest1 (λ g ended rest2. bound _ _ _ rest2 (λ b read more. bound _ _ _ more (λ e closed made.
      let filters = filters_sound l (in_loop path) us fs piped in
      capture_found path seen ts g.1 (SetBody global (tag start first g.0) n fs.0 e.0) b e.1 x
      (is ∙ ap (λ v. begun start (OpensSet global) first (name_yield n v)) (filters.1 ∙ ap (filters_yield fs.0) (finish_sound fs.1 g ended)))
      (free, filters.0) read (closed_tag_sound AtEndSet b.1.tokens e closed) made))))

  set_found : (path : Path) (global : Bool) (start : Edge) (first : Span) (seen : Seen) (ts us : Items) (x : Item × Place)
      → ts ≡ begun start (OpensSet global) first us → set_of l f path global start first seen us ≡ Some x → Finds path seen ts x
  unfolding set_of
  set_found path global start first seen ts us x is h =
      bound _ _ _ h (λ n named more.
      let name = free_name_sound us n named in
      set_after_found path global start first seen ts n.1 n.0 (takes Assign n.1) x (is ∙ ap (begun start (OpensSet global) first) name.1) name.0 refl more)

  include_found : (path : Path) (start : Edge) (first : Span) (seen : Seen) (ts us : Items) (x : Item × Place)
      → ts ≡ begun start OpensInclude first us → include_of start first seen us ≡ Some x → Finds path seen ts x
  unfolding include_of
  include_found path start first seen ts us x is h =
      bound _ _ _ h (λ q read more. bound _ _ _ more (λ g ended made.
      single_found path seen ts g.1 (Include (tag start first g.0) q.0.0 q.0.1) x
      (is ∙ ap (begun start OpensInclude first) (quote_sound us q read ∙ ap (Token (quote_token q.0.0) q.0.1) (finish_sound q.1 g ended))) tt made))

  extends_found : (path : Path) (start : Edge) (first : Span) (seen : Seen) (ts us : Items) (x : Item × Place)
      → ts ≡ begun start OpensExtends first us → extends_of path start first seen us ≡ Some x → Finds path seen ts x
  unfolding extends_of
  extends_found path start first seen ts us x is h =
      bound _ _ _ h (λ q read rest. bound _ _ _ rest (λ u may more. bound _ _ _ more (λ g ended made.
      single_found path seen ts g.1 (Extends (tag start first g.0) q.0.0 q.0.1) x
      (is ∙ ap (begun start OpensExtends first) (quote_sound us q read ∙ ap (Token (quote_token q.0.0) q.0.1) (finish_sound q.1 g ended))) (guard_ok _ u may) made)))

  break_found : (path : Path) (o : Opener) (make : Tag → Plain) → ((t : Tag) (vs : Items) → opening o t (finish t vs) ≡ plain_yield (make t) vs) → ((t : Tag) → may_break path ≡ true → FitsPlain l path (make t))
      → (start : Edge) (first : Span) (seen : Seen) (ts us : Items) (x : Item × Place) → ts ≡ begun start o first us → break_of path make start first seen us ≡ Some x → Finds path seen ts x
  unfolding break_of
  break_found path o make yields fits start first seen ts us x is h =
      bound _ _ _ h (λ u may more. bound _ _ _ more (λ g ended made.
      single_found path seen ts g.1 (make (tag start first g.0)) x
      (is ∙ ap (begun start o first) (finish_sound us g ended) ∙ yields (tag start first g.0) g.1) (fits (tag start first g.0) (guard_ok _ u may)) made))

  pub block_end_sound : (n : Name) (ts : Items) (x : (Tag × Option Name) × Items) → block_end n ts ≡ Some x
      → (agrees n.text (text_if_any x.0.1) ≡ true) × (ts ≡ closing AtEndBlock x.0.0 (if_any name_yield x.0.1 (finish x.0.0 x.1)))
  unfolding block_end
  block_end_sound n ts x h =
      bound _ _ _ h (λ e is_sound rest. bound _ _ _ rest (λ u agreed more. bound _ _ _ more (λ g ended made.
      subst (λ (y : (Tag × Option Name) × Items). (agrees n.text (text_if_any y.0.1) ≡ true) × (ts ≡ closing AtEndBlock y.0.0 (if_any name_yield y.0.1 (finish y.0.0 y.1))))
      (same_Some ((tag e.0.0 e.0.1 g.0, (name_if_any e.1).0), g.1) x made) (
        guard_ok _ u agreed,
        closed_sound AtEndBlock ts e is_sound
            ∙ ap (λ v. start_yield e.0.0 (Token (closer_token AtEndBlock) e.0.1 v)) (name_if_any_sound e.1 ∙ ap (if_any name_yield (name_if_any e.1).0) (finish_sound (name_if_any e.1).1 g ended)),
      ))))

  block_found : (path : Path) (start : Edge) (first : Span) (seen : Seen) (ts us : Items) (x : Item × Place)
      → ts ≡ begun start OpensBlock first us → block_of f path start first seen us ≡ Some x → Finds path seen ts x
  unfolding block_of
  block_found path start first seen ts us x is h =
      bound _ _ _ h (λ u may rest1. bound _ _ _ rest1 (λ n named rest2. bound _ _ _ rest2 (λ v fresh rest3. bound _ _ _ rest3 (λ g ended rest4. bound _ _ _ rest4 (λ b read more. bound _ _ _ more (λ e closed made.
      let found = sound (InBlock ∷ path) (at (seen having block_placed n.0) g.1) b read in
      let end = block_end_sound n.0 b.1.tokens e closed in
      subst (Finds path seen ts) (same_Some (Block (tag start first g.0) n.0 b.0 e.0.0 e.0.1, at b.1.seen e.1) x made) (record {
        tokens = is ∙ ap (begun start OpensBlock first) (taken_name_ok us n named ∙ ap (name_yield n.0) (finish_sound n.1 g ended
            ∙ ap (finish (tag start first g.0)) (found.tokens ∙ ap (yield b.0) end.1)));
        named = named_block n.0 (places b.0) (guard_not _ v fresh) found.named;
        fits = (guard_ok _ u may, end.0, found.fits);
        height = found.height;
      })))))))

  define_found : (path : Path) (start : Edge) (first : Span) (seen : Seen) (ts us : Items) (x : Item × Place)
      → ts ≡ begun start OpensComponent first us → component_def_of l f path start first seen us ≡ Some x → Finds path seen ts x
  unfolding component_def_of
  define_found path start first seen ts us x is h =
      bound _ _ _ h (λ u may rest1. bound _ _ _ rest1 (λ o opened rest2. bound _ _ _ rest2 (λ b read more. bound _ _ _ more (λ e closed made.
      let head = opened_sound l (met seen.components) us o opened in
      let found = sound (InComponent ∷ path) (at (seen having component_placed o.0.name o.0.parameters) o.1) b read in
      let end = ending_sound l start first o.0 b.1.tokens e closed in
      subst (Finds path seen ts) (same_Some (Define e.0 b.0, at b.1.seen e.1) x made) (record {
        tokens = is ∙ ap (begun start OpensComponent first) (head.tokens ∙ ap (opened_yield o.0) (found.tokens ∙ ap (yield b.0) end.tokens)) ∙ end.opened _;
        named = subst (λ p. Named (p followed_by places b.0) seen b.1.seen) (λ i. component_placed (sym end.name i) (sym end.parameters i))
            (named_component o.0.name o.0.parameters (places b.0) head.fresh found.named);
        fits = (guard_ok _ u may, end.fits head.parameters head.metadata, found.fits);
        height = found.height;
      })))))

  section_found : (path : Path) (start : Edge) (first : Span) (seen : Seen) (ts us : Items) (x : Item × Place)
      → ts ≡ begun start OpensFilter first us → section_of l f path start first seen us ≡ Some x → Finds path seen ts x
  unfolding section_of
  section_found path start first seen ts us x is h =
      bound _ _ _ h (λ k filtered rest1. bound _ _ _ rest1 (λ fs piped rest2. bound _ _ _ rest2 (λ g ended rest3. bound _ _ _ rest3 (λ b read more. bound _ _ _ more (λ e closed made.
      let filter = filter_sound l (in_loop path) us k filtered in
      let filters = filters_sound l (in_loop path) k.1 fs piped in
      capture_found path seen ts g.1 (Section (tag start first g.0) k.0 fs.0 e.0) b e.1 x
      (is ∙ ap (begun start OpensFilter first) (filter.1 ∙ ap (filter_yield k.0) (filters.1 ∙ ap (filters_yield fs.0) (finish_sound fs.1 g ended))))
      (filter.0, filters.0) read (closed_tag_sound AtEndFilter b.1.tokens e closed) made)))))

  call_end_sound : (n : ComponentName) (ts : Items) (x : (Tag × ComponentName × Span) × Items) → call_end n ts ≡ Some x
      → (bytes_eq (component_text x.0.1) (component_text n) ≡ true) × (ts ≡ closing AtEndCall x.0.0 (component_yield x.0.1 (mark (Operation GreaterThan) x.0.2 (finish x.0.0 x.1))))
  unfolding call_end
  call_end_sound n ts x h =
      bound _ _ _ h (λ e is_sound rest1. bound _ _ _ rest1 (λ m named rest2. bound _ _ _ rest2 (λ u agreed rest3. bound _ _ _ rest3 (λ end last more. bound _ _ _ more (λ g ended made.
      subst (λ (y : (Tag × ComponentName × Span) × Items). (bytes_eq (component_text y.0.1) (component_text n) ≡ true)
      × (ts ≡ closing AtEndCall y.0.0 (component_yield y.0.1 (mark (Operation GreaterThan) y.0.2 (finish y.0.0 y.1)))))
      (same_Some ((tag e.0.0 e.0.1 g.0, m.0, end.0), g.1) x made) (
        guard_ok _ u agreed,
        closed_sound AtEndCall ts e is_sound
            ∙ ap (λ v. start_yield e.0.0 (Token (closer_token AtEndCall) e.0.1 v)) (component_sound e.1 m named ∙ ap (component_yield m.0) (takes_ok (Operation GreaterThan) m.1 end last ∙ ap (mark (Operation GreaterThan) end.0) (finish_sound end.1 g ended))),
      ))))))

  call_found : (path : Path) (start : Edge) (first : Span) (seen : Seen) (ts us : Items) (x : Item × Place)
      → ts ≡ begun start OpensCall first us → call_of l f path start first seen us ≡ Some x → Finds path seen ts x
  unfolding call_of
  call_found path start first seen ts us x is h =
      bound _ _ _ h (λ n named rest1. bound _ _ _ rest1 (λ a given rest2. bound _ _ _ rest2 (λ last shut rest3. bound _ _ _ rest3 (λ g ended rest4. bound _ _ _ rest4 (λ b read more. bound _ _ _ more (λ e closed made.
      let attributes = attributes_sound l (in_loop path) n.1 a given in
      let end = call_end_sound n.0 b.1.tokens e closed in
      capture_found path seen ts g.1 (CallBody (tag start first g.0) n.0 a.0 last.0 e.0.0 e.0.1 e.0.2) b e.1 x
      (is ∙ ap (begun start OpensCall first) (component_sound us n named ∙ ap (component_yield n.0) (attributes.1 ∙ ap (attributes_yield a.0) (takes_ok (Operation GreaterThan) a.1 last shut ∙ ap (mark (Operation GreaterThan) last.0) (finish_sound last.1 g ended)))))
      (attributes.0, end.0) read end.1 made))))))

  for_found : (path : Path) (start : Edge) (first : Span) (seen : Seen) (ts us : Items) (x : Item × Place)
      → ts ≡ begun start OpensFor first us → for_of l f path start first seen us ≡ Some x → Finds path seen ts x
  unfolding for_of
  for_found path start first seen ts us x is h =
      bound _ _ _ h (λ lp headed rest1. bound _ _ _ rest1 (λ g ended rest2. bound _ _ _ rest2 (λ b read rest3. bound _ _ _ rest3 (λ o others more. bound _ _ _ more (λ e closed made.
      let loop = loop_sound l us lp headed in
      let found = sound (InFor ∷ path) (at seen g.1) b read in
      let then = else_found (InForElse ∷ path) b.1.seen b.1.tokens (front b.1.tokens) o (front_is b.1.tokens) others in
      subst (Finds path seen ts) (same_Some (For (tag start first g.0) lp.0 b.0 o.0 e.0, at o.1.seen e.1) x made) (record {
        tokens = is ∙ ap (begun start OpensFor first) (loop.1 ∙ ap (loop_yield lp.0) (finish_sound lp.1 g ended
            ∙ ap (finish (tag start first g.0)) (found.tokens ∙ ap (yield b.0) (then.tokens ∙ ap (else_yield o.0) (closed_tag_sound AtEndFor o.1.tokens e closed)))));
        named = named_both _ _ found.named then.named;
        fits = (loop.0, found.fits, then.fits);
        height = omega (arith, found.height, then.height);
      }))))))

  if_found : (path : Path) (start : Edge) (first : Span) (seen : Seen) (ts us : Items) (x : Item × Place)
      → ts ≡ begun start OpensIf first us → if_of l f path start first seen us ≡ Some x → Finds path seen ts x
  unfolding if_of
  if_found path start first seen ts us x is h =
      bound _ _ _ h (λ c asked rest1. bound _ _ _ rest1 (λ g ended rest2. bound _ _ _ rest2 (λ b read rest3. bound _ _ _ rest3 (λ bs others more. bound _ _ _ more (λ e closed made.
      let condition = expression_sound l (in_loop path) us c asked in
      let found = sound (InIf ∷ path) (at seen g.1) b read in
      let then = branches_found (InIf ∷ path) b.1 bs others in
      subst (Finds path seen ts) (same_Some (If (tag start first g.0) c.0 b.0 bs.0 e.0, at bs.1.seen e.1) x made) (record {
        tokens = is ∙ ap (begun start OpensIf first) (condition.1 ∙ ap (expression_yield c.0) (finish_sound c.1 g ended
            ∙ ap (finish (tag start first g.0)) (found.tokens ∙ ap (yield b.0) (then.tokens ∙ ap (branches_yield bs.0) (closed_tag_sound AtEndIf bs.1.tokens e closed)))));
        named = named_both _ _ found.named then.named;
        fits = (condition.0, found.fits, then.fits);
        height = omega (arith, found.height, then.height);
      }))))))

  tag_found : (path : Path) (o : Opener) (start : Edge) (first : Span) (seen : Seen) (ts us : Items) (x : Item × Place)
      → ts ≡ begun start o first us → tag_of l f path o start first seen us ≡ Some x → Finds path seen ts x
  tag_found path (OpensSet global) start first seen ts us x is h = set_found path global start first seen ts us x is h
  tag_found path OpensInclude start first seen ts us x is h = include_found path start first seen ts us x is h
  tag_found path OpensExtends start first seen ts us x is h = extends_found path start first seen ts us x is h
  tag_found path OpensBlock start first seen ts us x is h = block_found path start first seen ts us x is h
  tag_found path OpensFor start first seen ts us x is h = for_found path start first seen ts us x is h
  tag_found path OpensIf start first seen ts us x is h = if_found path start first seen ts us x is h
  tag_found path OpensFilter start first seen ts us x is h = section_found path start first seen ts us x is h
  tag_found path OpensComponent start first seen ts us x is h = define_found path start first seen ts us x is h
  tag_found path OpensBreak start first seen ts us x is h = break_found path OpensBreak Break (λ t vs. refl) (λ t may. may) start first seen ts us x is h
  tag_found path OpensContinue start first seen ts us x is h = break_found path OpensContinue Continue (λ t vs. refl) (λ t may. may) start first seen ts us x is h
  tag_found path OpensCall start first seen ts us x is h = call_found path start first seen ts us x is h

  shown_found : (path : Path) (start : Edge) (seen : Seen) (ts us : Items) (x : Item × Place) → FrontOf ts (Shows start us) → shown_of l path start seen us ≡ Some x → Finds path seen ts x
  unfolding shown_of
  shown_found path start seen ts us x is h =
      bound _ _ _ h (λ e read more. bound _ _ _ more (λ g ended made.
      let shown = expression_sound l (in_loop path) us e read in
      single_found path seen ts g.1 (Shown start e.0 g.0) x
      (is ∙ ap (Token (toks.Start kind.Variable start.dash) start.span) (shown.1 ∙ ap (expression_yield e.0) (variable_end_sound e.1 g ended))) shown.0 made))

  -- a step finds an item
  pub step_found : (path : Path) (seen : Seen) (ts : Items) (fr : Front) (x : Item × Place) → FrontOf ts fr → step l f path seen fr ≡ Some (Some x) → FoundItem l d path (at seen ts) x.0 x.1
  unfolding step
  step_found path seen ts Ends x is h = cc
  step_found path seen ts (Closes c start first us) x is h = cc
  step_found path seen ts (Holds text span us) x is h = single_found path seen ts us (Text text span) x is tt (same_Some _ _ h)
  step_found path seen ts (Shows start us) x is h =
      bound _ _ _ h (λ y read made. shown_found path start seen ts us x is (read ∙ same_Some _ _ made))
  step_found path seen ts (Opens o start first us) x is h =
      bound _ _ _ h (λ y read made. tag_found path o start first seen ts us x is (read ∙ same_Some _ _ made))
  step_found path seen ts Wrong x is h = cc

  more_found : (path : Path) (again : Place → Reads Body) → ((p : Place) (x : Body × Place) → again p ≡ Some x → FoundBody l (suc d) path p x.0 x.1) →
      (p : Place) (x : Body × Place) (o : Option (Item × Place)) → step l f path p.seen (front p.tokens) ≡ Some o → go_on again p o ≡ Some x → FoundBody l (suc d) path p x.0 x.1
  more_found path again goes p x None read h =
      subst (λ (y : Body × Place). FoundBody l (suc d) path p y.0 y.1) (same_Some _ _ h) (record { tokens = refl; named = named_nothing p.seen; fits = tt; height = omega arith })
  more_found path again goes p x (Some i) read h =
      bound _ _ _ h (λ b others made.
      let found = step_found path p.seen p.tokens (front p.tokens) i (front_is p.tokens) read in
      let then = goes i.1 b others in
      subst (λ (y : Body × Place). FoundBody l (suc d) path p y.0 y.1) (same_Some (Then i.0 b.0, b.1) x made) (record {
        tokens = found.tokens ∙ ap (item_yield i.0) then.tokens;
        named = named_both _ _ found.named then.named;
        fits = (found.fits, then.fits);
        height = omega (arith, found.height, then.height);
      }))

  items_by_found : (n : ℕ) (path : Path) (p : Place) (x : Body × Place) → items_by n l f path p ≡ Some x → FoundBody l (suc d) path p x.0 x.1
  unfolding items_by
  items_by_found zero path p x h = cc
  items_by_found (suc n) path p x h =
      bound _ _ _ h (λ o read more. more_found path (items_by n l f path) (items_by_found n path) p x o read more)

  pub items_found : (path : Path) (p : Place) (x : Body × Place) → items l f path p ≡ Some x → FoundBody l (suc d) path p x.0 x.1
  unfolding items
  items_found path p x h = items_by_found (suc (size p.tokens)) path p x h

-- what is read is a body within the limits that meets its conditions, and what follows it
pub body_sound : (l : Limits) (d : ℕ) → Sound l d (body d l)
unfolding body
body_sound l zero path p x h = cc
body_sound l (suc d) path p x h = items_found l d (body d l) (body_sound l d) path p x h
