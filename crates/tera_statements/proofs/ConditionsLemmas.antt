-- Reading loops and conditions.
use Rattle.std.proofs.Common.{◌≡◌, ℕ, Bool, false, List, ◌∷◌, map, refl, sym, ap, ◌∙◌}
use Rattle.tera_base.specs.declared.utils.Span.{Span}
use Rattle.tera_lexer.specs.grammar.Tokens.{Items}
use Rattle.tera_grammar.specs.statements.Expressions.{Limits, Expression}
use Rattle.tera_grammar.specs.statements.Reading.Expressions.{expression_of}
use Rattle.tera_grammar.specs.statements.Grammar.{Body, Branches, Elif, Item, Else, NoElse, Otherwise, For, If, InFor, InForElse, InIf, Path, in_loop}
use Rattle.tera_grammar.specs.statements.Heads.{Loop}
use Rattle.tera_grammar.specs.statements.Reading.Meeting.{Seen}
use Rattle.tera_grammar.specs.statements.TagParts.{AtElif, AtElse, AtEndSet, AtEndBlock, AtEndFor, AtEndIf, AtEndFilter, AtEndComponent, AtEndCall, Edge, Tag}
use Rattle.tera_grammar.specs.statements.Reading.{Place, Reader, Reads, at, body, branch_in, branches, else_in, else_of, for_of, if_of}
use Rattle.tera_grammar.specs.statements.Reading.Heads.{loop_of}
use Rattle.tera_grammar.specs.statements.Reading.TagParts.{Front, Ends, Closes, Holds, Shows, Opens, Wrong, closed, closed_at, closed_tag, finish_of, front, tag}
use Rattle.std.proofs.Common.{Result, Ok, Err, IfOk, IfErr, Global, Vec, inl}
use Rattle.tera_base.specs.Errors.{IsMemory}
use Rattle.tera_ast.specs.Tree.{Stmt}
use Rattle.tera_ast.specs.View.{node_view}
use Rattle.tera_grammar.specs.statements.Output.{branch_output}
use Rattle.tera_base.specs.declared.errors.Error.{Error}
use Rattle.tera_ast.specs.declared.ast.Node.{Node}
use Rattle.tera_grammar.specs.Reads.{Read, found, stopped, ◌>>=◌}
use Rattle.tera_statements.specs.Adding.{AreBranches, GivesHere, IsBody, IsElse}
use Rattle.tera_statements.specs.Conditions.{Conditional, conditional_of}
use Rattle.tera_tags.specs.Heads.{expression_to_end, loop_to_end}
use Rattle.tera_tags.proofs.HeadsLemmas.{one_to_end}
use Rattle.tera_grammar.proofs.statements.Loops.{is_elif}
use Rattle.tera_grammar.proofs.Readings.{some_of}
use Rattle.tera_grammar.proofs.statements.TagParts.{closed_sound}
use Rattle.tera_grammar.proofs.stops.ForgetParts.{closed_forget}
use Rattle.tera_tags.specs.Kinds.{closes}
use Rattle.tera_tags.specs.declared.fronts.Closer.TheVariants as closers
use Rattle.tera_expect.proofs.Steps.{failed_as}

-- a loop
module _ (l : Limits) (self : Reader) (path : Path) (start : Edge) (first : Span) (seen : Seen) (ts : Items) where
  abbrev looped : Reads Item
  looped = for_of l self path start first seen ts

  abbrev loop_inside : (Loop × Edge) × Items → Reads Item
  loop_inside x =
      self (InFor ∷ path) (at seen x.1) >>= λ b. else_of self (InForElse ∷ path) b.1 >>= λ o. closed_tag AtEndFor o.1.tokens >>= λ e.
      found (For (tag start first x.0.1) x.0.0 b.0 o.0 e.0, at o.1.seen e.1)

  loop_is : looped ≡ (loop_to_end l ts >>= loop_inside)
  unfolding for_of loop_to_end
  loop_is = sym (one_to_end (loop_of l ts) loop_inside)

  pub loop_unended : (z : Items) → loop_to_end l ts ≡ stopped z → looped ≡ stopped z
  loop_unended z h = loop_is ∙ ap (λ o. o >>= loop_inside) h

  module _ (x : Loop × Edge) (us : Items) (head : loop_to_end l ts ≡ found (x, us)) where
    loop_so : looped ≡ loop_inside (x, us)
    loop_so = loop_is ∙ ap (λ o. o >>= loop_inside) head

    pub loop_empty : (z : Items) → self (InFor ∷ path) (at seen us) ≡ stopped z → looped ≡ stopped z
    loop_empty z h = loop_so ∙ rw h refl

    module _ (b : Body) (p : Place) (inside : self (InFor ∷ path) (at seen us) ≡ found (b, p)) where
      pub no_else : (z : Items) → else_of self (InForElse ∷ path) p ≡ stopped z → looped ≡ stopped z
      no_else z h = loop_so ∙ rw (inside, h) refl

      module _ (o : Else) (q : Place) (other : else_of self (InForElse ∷ path) p ≡ found (o, q)) where
        pub loop_unclosed : (z : Items) → closed_tag AtEndFor q.tokens ≡ stopped z → looped ≡ stopped z
        loop_unclosed z h = loop_so ∙ rw (inside, other, h) refl

        pub loop_given : (e : Tag) (vs : Items) → closed_tag AtEndFor q.tokens ≡ found (e, vs)
            → looped ≡ found (For (tag start first x.1) x.0 b o e, at q.seen vs)
        loop_given e vs h = loop_so ∙ rw (inside, other, h) refl

-- an `else`, or none
module _ (self : Reader) (path : Path) (seen : Seen) (ts : Items) where
  else_absent : (fr : Front) (z : Items) → closed_at AtElse ts fr ≡ stopped z → else_in self path seen ts fr ≡ found (NoElse, at seen ts)
  unfolding else_in closed_at
  else_absent (Closes AtElse start first us) z h = cc
  else_absent fr z h = refl

  pub without_else : (z : Items) → closed AtElse ts ≡ stopped z → else_of self path (at seen ts) ≡ found (NoElse, at seen ts)
  without_else z h = else_absent (front ts) z h

  abbrev After : Edge × Span → Items → Reads Else
  After x us = finish_of us >>= λ f. self path (at seen f.1) >>= λ b. found (Otherwise (tag x.0 x.1 f.0) b.0, b.1)

  else_present : (fr : Front) (x : Edge × Span) (us : Items) → closed_at AtElse ts fr ≡ found (x, us) → else_in self path seen ts fr ≡ After x us
  unfolding else_in closed_at
  else_present (Closes AtElse start first vs) x us h = ap (λ (y : (Edge × Span) × Items). After y.0 y.1) (some_same h)
    where
      some_same : {a b : (Edge × Span) × Items} → found a ≡ found b → a ≡ b
      some_same e = cc
  else_present fr x us h = cc

  module _ (x : Edge × Span) (us : Items) (there : closed AtElse ts ≡ found (x, us)) where
    pub else_unfinished : (z : Items) → finish_of us ≡ stopped z → else_of self path (at seen ts) ≡ stopped z
    else_unfinished z h = else_present (front ts) x us there ∙ rw h refl

    module _ (f : Edge) (vs : Items) (ended : finish_of us ≡ found (f, vs)) where
      pub else_is : else_of self path (at seen ts) ≡ (self path (at seen vs) >>= λ b. found (Otherwise (tag x.0 x.1 f) b.0, b.1))
      else_is = else_present (front ts) x us there ∙ rw ended refl

-- a condition with its body
module _ (l : Limits) (depth : ℕ) (path : Path) (seen : Seen) (ts : Items) where
  abbrev conditional : Reads Conditional
  conditional = conditional_of l depth path (at seen ts)

  pub no_condition : (z : Items) → expression_to_end l (in_loop path) ts ≡ stopped z → conditional ≡ stopped z
  no_condition z h = rw h refl

  module _ (c : Expression × Edge) (us : Items) (read : expression_to_end l (in_loop path) ts ≡ found (c, us)) where
    pub condition_empty : (z : Items) → body depth l path (at seen us) ≡ stopped z → conditional ≡ stopped z
    condition_empty z h = rw (read, h) refl

    pub condition_given : (b : Body) (p : Place) → body depth l path (at seen us) ≡ found (b, p) → conditional ≡ found ((c.0, c.1, b), p)
    condition_given b p h = rw (read, h) refl

-- an `else` whose body is read
module _ (self : Reader) (path : Path) (seen : Seen) (ts : Items) (x : Edge × Span) (us : Items) (there : closed AtElse ts ≡ found (x, us)) where
  module _ (f : Edge) (vs : Items) (ended : finish_of us ≡ found (f, vs)) where
    pub otherwise_given : (r : Result (Vec Node Global) Error) (q : Place) → GivesHere (λ ns b. IsBody (in_loop path) ns.items b) r q (self path (at seen vs)) → GivesHere (λ ns o. IsElse (in_loop path) ns.items o) r q (else_of self path (at seen ts))
    otherwise_given (Ok ns) q (b, read, shows) = (Otherwise (tag x.0 x.1 f) b, else_is self path seen ts x us there f vs ended ∙ rw read refl, shows)
    otherwise_given (Err e) q h = failed_as (self path (at seen vs)) (else_of self path (at seen ts)) q.tokens e (λ z none. else_is self path seen ts x us there f vs ended ∙ rw none refl) h

-- the parts of a condition with its body, taken together
module _ (l : Limits) (depth : ℕ) (path : Path) (seen : Seen) where
  abbrev with_body : (Expression × Edge) × Items → Reads Conditional
  with_body c = body depth l path (at seen c.1) >>= λ b. found ((c.0.0, c.0.1, b.0), b.1)

  regrouped : {Z : Type 0} (k : Conditional × Place → Reads Z) (c : Read (Expression × Items))
      → (c >>= λ c. finish_of c.1 >>= λ f. body depth l path (at seen f.1) >>= λ b. k ((c.0, f.0, b.0), b.1))
      ≡ (((c >>= λ c. finish_of c.1 >>= λ f. found ((c.0, f.0), f.1)) >>= with_body) >>= k)
  regrouped k (stopped z) = refl
  regrouped k (found c) = by_finish (finish_of c.1)
    where
      by_body : (f : Edge × Items) (b : Read (Body × Place)) → (b >>= λ b. k ((c.0, f.0, b.0), b.1)) ≡ ((b >>= λ b. found ((c.0, f.0, b.0), b.1)) >>= k)
      by_body f (stopped z) = refl
      by_body f (found b) = refl

      by_finish : (f : Read (Edge × Items)) → (f >>= λ f. body depth l path (at seen f.1) >>= λ b. k ((c.0, f.0, b.0), b.1))
          ≡ (((f >>= λ f. found ((c.0, f.0), f.1)) >>= with_body) >>= k)
      by_finish (stopped z) = refl
      by_finish (found f) = by_body f (body depth l path (at seen f.1))

-- an `if`: a first condition with its body, the others, and the closing tag
module _ (l : Limits) (depth : ℕ) (path : Path) (start : Edge) (first : Span) (seen : Seen) (ts : Items) where
  abbrev Closing : Edge → Expression → Body → Branches × Place → Reads Item
  Closing f c b bs = closed_tag AtEndIf bs.1.tokens >>= λ e. found (If (tag start first f) c b bs.0 e.0, at bs.1.seen e.1)

  abbrev Others : Conditional × Place → Reads Item
  Others x = branches l (body depth l) (InIf ∷ path) x.1 >>= λ bs. Closing x.0.1 x.0.0 x.0.2 bs

  if_is : if_of l (body depth l) path start first seen ts ≡ (conditional_of l depth (InIf ∷ path) (at seen ts) >>= Others)
  unfolding if_of expression_to_end
  if_is = regrouped l depth (InIf ∷ path) seen Others (expression_of l (in_loop path) ts)

  pub no_first : (z : Items) → conditional_of l depth (InIf ∷ path) (at seen ts) ≡ stopped z → if_of l (body depth l) path start first seen ts ≡ stopped z
  no_first z h = if_is ∙ ap (λ o. o >>= Others) h

  module _ (x : Conditional) (p : Place) (one : conditional_of l depth (InIf ∷ path) (at seen ts) ≡ found (x, p)) where
    if_first : if_of l (body depth l) path start first seen ts ≡ Others (x, p)
    if_first = if_is ∙ ap (λ o. o >>= Others) one

    pub no_branches : (z : Items) → branches l (body depth l) (InIf ∷ path) p ≡ stopped z → if_of l (body depth l) path start first seen ts ≡ stopped z
    no_branches z h = if_first ∙ rw h refl

    module _ (bs : Branches) (q : Place) (more : branches l (body depth l) (InIf ∷ path) p ≡ found (bs, q)) where
      pub if_unclosed : (z : Items) → closed_tag AtEndIf q.tokens ≡ stopped z → if_of l (body depth l) path start first seen ts ≡ stopped z
      if_unclosed z h = if_first ∙ rw (more, h) refl

      pub if_given : (e : Tag) (ws : Items) → closed_tag AtEndIf q.tokens ≡ found (e, ws)
          → if_of l (body depth l) path start first seen ts ≡ found (If (tag start first x.1) x.0 x.2 bs e, at q.seen ws)
      if_given e ws h = if_first ∙ rw (more, h) refl

-- the branches after the first one
abbrev elif_with : Edge × Span → Conditional → Branches × Place → Reads Branches
elif_with x c bs = found (Elif (tag x.0 x.1 c.1) c.0 c.2 bs.0, bs.1)

module _ (l : Limits) (depth : ℕ) (path : Path) (seen : Seen) (ts us : Items) (x : Edge × Span) (there : closed AtElif ts ≡ found (x, us)) where
  abbrev All : Place → Reads Branches
  All p = branches l (body depth l) path p

  abbrev Next : Conditional × Place → Reads Branches
  Next c = All c.1 >>= elif_with x c.0

  front_elif : front ts ≡ Closes AtElif x.0 x.1 us
  front_elif = ap front (closed_sound AtElif ts (x, us) (some_of _ _ (closed_forget AtElif ts) (x, us) there))

  branch_is : branch_in l (body depth l) path All seen ts (front ts) ≡ (conditional_of l depth path (at seen us) >>= Next)
  unfolding branch_in expression_to_end
  branch_is = ap (branch_in l (body depth l) path All seen ts) front_elif ∙ regrouped l depth path seen Next (expression_of l (in_loop path) us)

  pub no_elif_branch : (z : Items) → conditional_of l depth path (at seen us) ≡ stopped z → branch_in l (body depth l) path All seen ts (front ts) ≡ stopped z
  no_elif_branch z h = branch_is ∙ ap (λ o. o >>= Next) h

  pub elif_branch : (c : Conditional) (q : Place) → conditional_of l depth path (at seen us) ≡ found (c, q)
      → branch_in l (body depth l) path All seen ts (front ts) ≡ (All q >>= elif_with x c)
  elif_branch c q h = branch_is ∙ ap (λ o. o >>= Next) h

not_elif : (fr : Front) → closes closers.Elif fr ≡ false → is_elif fr ≡ false
not_elif (Closes AtElif start first us) h = cc
not_elif (Closes AtElse start first us) h = refl
not_elif (Closes AtEndSet start first us) h = refl
not_elif (Closes AtEndBlock start first us) h = refl
not_elif (Closes AtEndFor start first us) h = refl
not_elif (Closes AtEndIf start first us) h = refl
not_elif (Closes AtEndFilter start first us) h = refl
not_elif (Closes AtEndComponent start first us) h = refl
not_elif (Closes AtEndCall start first us) h = refl
not_elif Ends h = refl
not_elif (Holds text span us) h = refl
not_elif (Shows start us) h = refl
not_elif (Opens o start first us) h = refl
not_elif Wrong h = refl

pub no_elif_there : (ts : Items) → closes closers.Elif (front ts) ≡ false → is_elif (front ts) ≡ false
no_elif_there ts h = not_elif (front ts) h

-- the branches are read whole, and shown
pub ends_by : (f : Bool) (r : Result (Vec Node Global) Error) (q : Place) (o : Reads Branches) (bs : Branches) (x : List Stmt) → o ≡ found (bs, q) → x ≡ branch_output f bs
    → IfOk r (λ ns. map node_view ns.items ≡ x) → IfErr r IsMemory → GivesHere (λ ns bs. AreBranches f ns.items bs) r q o
ends_by f (Ok ns) q o bs x read same shows memory = (bs, read, shows ∙ same)
ends_by f (Err e) q o bs x read same shows memory = inl memory
