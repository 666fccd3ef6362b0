-- What is read of statements is what the plain reading reads, as in `Forget`.
use Rattle.std.proofs.Common.{◌≡◌, ℕ, zero, suc, Bool, not, [], ◌∷◌, Option, Some, None, refl, sym, ap, ◌∙◌}
use Rattle.std.specs.Str.{bytes_eq}
use Rattle.tera_base.specs.declared.utils.Span.{Span}
use Rattle.tera_lexer.specs.code.Cursors.{size, is_end}
use Rattle.tera_lexer.specs.grammar.Tokens.{Items, Ended, Failed, Token}
use Rattle.tera_grammar.specs.Options.{◌>>=◌, guard}
use Rattle.tera_grammar.specs.Limits.{Limits}
use Rattle.tera_grammar.specs.expressions.Concrete.{Quote}
use Rattle.tera_grammar.specs.expressions.Operators.{GreaterThan}
use Rattle.tera_grammar.specs.expressions.Marks.{Assign, Operation}
use Rattle.tera_grammar.specs.statements.Names.{agrees}
use Rattle.tera_grammar.specs.statements.TagParts.{Edge, Name, Tag, Opener, OpensSet, OpensInclude, OpensExtends, OpensBlock, OpensFor, OpensIf, OpensFilter, OpensComponent, OpensBreak, OpensContinue, OpensCall, AtElif, AtElse, AtEndSet, AtEndBlock, AtEndFor, AtEndIf, AtEndFilter, AtEndCall}
use Rattle.tera_grammar.specs.statements.Expressions.{ComponentName, component_text}
use Rattle.tera_grammar.specs.statements.Grammar.{Plain, Text, Break, Continue, Body, Item, Single, Branches, InFor, InForElse, InBlock, InIf, InComponent, InCapture, Path, may_block, may_break, in_loop, is_outermost, text_if_any}
use Rattle.tera_grammar.specs.statements.Reading.{Place, at, ended, Reads as full_Reads, Reader as full_Reader, else_in as full_else_in, branch_in as full_branch_in, branches_by as full_branches_by, branches as full_branches, set_after as full_set_after, set_of as full_set_of, include_of as full_include_of, extends_of as full_extends_of, break_of as full_break_of, block_end as full_block_end, block_of as full_block_of, component_def_of as full_component_def_of, section_of as full_section_of, call_end as full_call_end, call_of as full_call_of, for_of as full_for_of, if_of as full_if_of, tag_of as full_tag_of, shown_of as full_shown_of, step as full_step, go_on as full_go_on, items_by as full_items_by, items as full_items, body as full_body, extends_at as full_extends_at, top_step as full_top_step, top_on as full_top_on, top_by as full_top_by, top as full_top, template as full_template}
use Rattle.tera_grammar.specs.statements.Reading.Phases.{Phase, Starting, Standalone, Extending, next_phase}
use Rattle.tera_grammar.specs.statements.Reading.TagParts.{tag, Front, Ends, Closes, Holds, Shows, Opens, Wrong, front as front_of, name_if_found as full_name_if_found}
use Rattle.tera_grammar.proofs.plain.statements.Reading.TagParts.{name_if_found as plain_name_if_found, finish_of as plain_finish_of}
use Rattle.tera_grammar.specs.statements.Reading.Meeting.{Seen, met, nothing_seen}
use Rattle.tera_grammar.specs.Reads.{Read, found, stopped, bind, Takes, forget}
use Rattle.tera_grammar.specs.expressions.Reading.Front.{takes as full_takes, taken_name as full_taken_name}
use Rattle.tera_grammar.specs.statements.Top.{IsTemplate}
use Rattle.tera_grammar.proofs.stops.Forget.{forget_bind, forget_given, takes_forget, name_forget, quote_forget}
use Rattle.tera_grammar.proofs.stops.ForgetParts.{guard_forget, expression_forget, filter_forget, all_attributes_forget, path_forget, finish_forget, end_forget, closed_forget, closed_tag_forget, free_name_forget, loop_forget, filters_forget, opened_forget, ending_forget}
use Rattle.std.proofs.lemmas.Option.{same_Some}
use Rattle.tera_grammar.proofs.plain.statements.Reading.{Reads as plain_Reads, Reader as plain_Reader, else_in as plain_else_in, branch_in as plain_branch_in, branches_by as plain_branches_by, branches as plain_branches, set_after as plain_set_after, set_of as plain_set_of, include_of as plain_include_of, extends_of as plain_extends_of, break_of as plain_break_of, block_end as plain_block_end, block_of as plain_block_of, component_def_of as plain_component_def_of, section_of as plain_section_of, call_end as plain_call_end, call_of as plain_call_of, for_of as plain_for_of, if_of as plain_if_of, tag_of as plain_tag_of, shown_of as plain_shown_of, step as plain_step, go_on as plain_go_on, items_by as plain_items_by, items as plain_items, body as plain_body, extends_at as plain_extends_at, top_step as plain_top_step, top_on as plain_top_on, top_by as plain_top_by, top as plain_top, template as plain_template}

module _ (l : Limits) where
  -- a name at the end of a block
  named_forget : {A : Type 0} (ts : Items) (o : Takes Name) (g : Option Name × Items → Read A) (h : Option Name × Items → Option A) → ((x : Option Name × Items) → forget (g x) ≡ h x)
      → forget (bind (full_name_if_found ts o) g) ≡ h (plain_name_if_found ts (forget o))
  named_forget ts (stopped z) g h same = same (None, ts)
  named_forget ts (found n) g h same = same (Some n.0, n.1)

  abbrev named_end : Name → Edge × Span → Option Name × Items → Option ((Tag × Option Name) × Items)
  named_end n x m = guard (agrees n.text (text_if_any m.0)) >>= λ u. plain_finish_of m.1 >>= λ f. Some ((tag x.0 x.1 f.0, m.0), f.1)

  block_end_forget : (n : Name) (ts : Items) → forget (full_block_end n ts) ≡ plain_block_end n ts
  unfolding full_block_end plain_block_end
  block_end_forget n ts =
      forget_bind _ _ _ _ (closed_forget AtEndBlock ts) (λ x.
      named_forget x.1 (full_taken_name x.1) _ (named_end n x.0)
      (λ m. guard_forget m.1 (agrees n.text (text_if_any m.0)) _ _ (forget_bind _ _ _ _ (finish_forget m.1) (λ f. refl)))
      ∙ ap (λ o. named_end n x.0 (plain_name_if_found x.1 o)) (name_forget x.1))

  call_end_forget : (n : ComponentName) (ts : Items) → forget (full_call_end n ts) ≡ plain_call_end n ts
  unfolding full_call_end plain_call_end
  call_end_forget n ts =
      forget_bind _ _ _ _ (closed_forget AtEndCall ts) (λ x. forget_bind _ _ _ _ (path_forget x.1) (λ m. guard_forget m.1 (bytes_eq (component_text m.0) (component_text n)) _ _
      (forget_bind _ _ _ _ (takes_forget (Operation GreaterThan) m.1) (λ e. forget_bind _ _ _ _ (finish_forget e.1) (λ f. refl)))))

  -- statements without a body
  include_forget : (start : Edge) (first : Span) (seen : Seen) (ts : Items) → forget (full_include_of start first seen ts) ≡ plain_include_of start first seen ts
  unfolding full_include_of plain_include_of
  include_forget start first seen ts = forget_bind _ _ _ _ (quote_forget ts) (λ q. forget_bind _ _ _ _ (finish_forget q.1) (λ f. refl))

  extends_forget : (path : Path) (start : Edge) (first : Span) (seen : Seen) (ts : Items) → forget (full_extends_of path start first seen ts) ≡ plain_extends_of path start first seen ts
  unfolding full_extends_of plain_extends_of
  extends_forget path start first seen ts =
      forget_bind _ _ _ _ (quote_forget ts) (λ q. guard_forget q.1 (is_outermost path) _ _ (forget_bind _ _ _ _ (finish_forget q.1) (λ f. refl)))

  break_forget : (path : Path) (make : Tag → Plain) (start : Edge) (first : Span) (seen : Seen) (ts : Items) → forget (full_break_of path make start first seen ts) ≡ plain_break_of path make start first seen ts
  unfolding full_break_of plain_break_of
  break_forget path make start first seen ts = guard_forget ts (may_break path) _ _ (forget_bind _ _ _ _ (finish_forget ts) (λ f. refl))

  shown_forget : (path : Path) (start : Edge) (seen : Seen) (ts : Items) → forget (full_shown_of l path start seen ts) ≡ plain_shown_of l path start seen ts
  unfolding full_shown_of plain_shown_of
  shown_forget path start seen ts = forget_bind _ _ _ _ (expression_forget l (in_loop path) ts) (λ e. forget_bind _ _ _ _ (end_forget e.1) (λ f. refl))

  -- those with one
  module _ (self : full_Reader) (other : plain_Reader) (same : (path : Path) (p : Place) → forget (self path p) ≡ other path p) where
    else_in_forget : (path : Path) (seen : Seen) (ts : Items) (fr : Front) → forget (full_else_in self path seen ts fr) ≡ plain_else_in other path seen ts fr
    unfolding full_else_in plain_else_in
    else_in_forget path seen ts (Closes AtElse start first us) = forget_bind _ _ _ _ (finish_forget us) (λ f. forget_bind _ _ _ _ (same path (at seen f.1)) (λ b. refl))
    else_in_forget path seen ts fr = refl

    branch_in_forget : (path : Path) (again : Place → full_Reads Branches) (more : Place → plain_Reads Branches) → ((p : Place) → forget (again p) ≡ more p) → (seen : Seen) (ts : Items) (fr : Front)
        → forget (full_branch_in l self path again seen ts fr) ≡ plain_branch_in l other path more seen ts fr
    unfolding full_branch_in plain_branch_in
    branch_in_forget path again more goes seen ts (Closes AtElif start first us) =
        forget_bind _ _ _ _ (expression_forget l (in_loop path) us) (λ c. forget_bind _ _ _ _ (finish_forget c.1) (λ f. forget_bind _ _ _ _ (same path (at seen f.1)) (λ b.
        forget_bind _ _ _ _ (goes b.1) (λ bs. refl))))
    branch_in_forget path again more goes seen ts fr = forget_bind _ _ _ _ (else_in_forget path seen ts fr) (λ o. refl)

    branches_by_forget : (n : ℕ) (path : Path) (p : Place) → forget (full_branches_by n l self path p) ≡ plain_branches_by n l other path p
    unfolding full_branches_by plain_branches_by
    branches_by_forget zero path p = refl
    branches_by_forget (suc n) path p =
        branch_in_forget path (full_branches_by n l self path) (plain_branches_by n l other path) (branches_by_forget n path) p.seen p.tokens (front_of p.tokens)

    branches_forget : (path : Path) (p : Place) → forget (full_branches l self path p) ≡ plain_branches l other path p
    unfolding full_branches plain_branches
    branches_forget path p = branches_by_forget (suc (size p.tokens)) path p

    set_after_forget : (path : Path) (global : Bool) (start : Edge) (first : Span) (seen : Seen) (n : Name) (ts : Items) (o : Takes Span)
        → forget (full_set_after l self path global start first seen n ts o) ≡ plain_set_after l other path global start first seen n ts (forget o)
    unfolding full_set_after plain_set_after
    set_after_forget path global start first seen n ts (found s) =
        forget_bind _ _ _ _ (expression_forget l (in_loop path) s.1) (λ e. forget_bind _ _ _ _ (finish_forget e.1) (λ f. refl))
    set_after_forget path global start first seen n ts (stopped z) =
        forget_bind _ _ _ _ (filters_forget l (in_loop path) ts) (λ fs. forget_bind _ _ _ _ (finish_forget fs.1) (λ f. forget_bind _ _ _ _ (same (InCapture ∷ path) (at seen f.1)) (λ b.
        forget_bind _ _ _ _ (closed_tag_forget AtEndSet b.1.tokens) (λ e. refl))))

    set_forget : (path : Path) (global : Bool) (start : Edge) (first : Span) (seen : Seen) (ts : Items)
        → forget (full_set_of l self path global start first seen ts) ≡ plain_set_of l other path global start first seen ts
    unfolding full_set_of plain_set_of
    set_forget path global start first seen ts =
        forget_bind _ _ _ _ (free_name_forget ts) (λ n. set_after_forget path global start first seen n.0 n.1 (full_takes Assign n.1)
        ∙ ap (plain_set_after l other path global start first seen n.0 n.1) (takes_forget Assign n.1))

    block_forget : (path : Path) (start : Edge) (first : Span) (seen : Seen) (ts : Items) → forget (full_block_of self path start first seen ts) ≡ plain_block_of other path start first seen ts
    unfolding full_block_of plain_block_of
    block_forget path start first seen ts =
        guard_forget ts (may_block path) _ _ (forget_bind _ _ _ _ (name_forget ts) (λ n. guard_forget n.1 (not (met seen.blocks n.0.text)) _ _
        (forget_bind _ _ _ _ (finish_forget n.1) (λ f. forget_bind _ _ _ _ (same (InBlock ∷ path) _) (λ b. forget_bind _ _ _ _ (block_end_forget n.0 b.1.tokens) (λ e. refl))))))

    definition_forget : (path : Path) (start : Edge) (first : Span) (seen : Seen) (ts : Items)
        → forget (full_component_def_of l self path start first seen ts) ≡ plain_component_def_of l other path start first seen ts
    unfolding full_component_def_of plain_component_def_of
    definition_forget path start first seen ts =
        guard_forget ts (is_outermost path) _ _ (forget_bind _ _ _ _ (opened_forget l (met seen.components) ts) (λ o. forget_bind _ _ _ _ (same (InComponent ∷ path) _) (λ b.
        forget_bind _ _ _ _ (ending_forget start first o.0 b.1.tokens) (λ h. refl))))

    section_forget : (path : Path) (start : Edge) (first : Span) (seen : Seen) (ts : Items) → forget (full_section_of l self path start first seen ts) ≡ plain_section_of l other path start first seen ts
    unfolding full_section_of plain_section_of
    section_forget path start first seen ts =
        forget_bind _ _ _ _ (filter_forget l (in_loop path) ts) (λ g. forget_bind _ _ _ _ (filters_forget l (in_loop path) g.1) (λ fs. forget_bind _ _ _ _ (finish_forget fs.1) (λ f.
        forget_bind _ _ _ _ (same (InCapture ∷ path) (at seen f.1)) (λ b. forget_bind _ _ _ _ (closed_tag_forget AtEndFilter b.1.tokens) (λ e. refl)))))

    call_forget : (path : Path) (start : Edge) (first : Span) (seen : Seen) (ts : Items) → forget (full_call_of l self path start first seen ts) ≡ plain_call_of l other path start first seen ts
    unfolding full_call_of plain_call_of
    call_forget path start first seen ts =
        forget_bind _ _ _ _ (path_forget ts) (λ n. forget_bind _ _ _ _ (all_attributes_forget l (in_loop path) n.1) (λ a. forget_bind _ _ _ _ (takes_forget (Operation GreaterThan) a.1) (λ last.
        forget_bind _ _ _ _ (finish_forget last.1) (λ f. forget_bind _ _ _ _ (same (InCapture ∷ path) (at seen f.1)) (λ b. forget_bind _ _ _ _ (call_end_forget n.0 b.1.tokens) (λ e. refl))))))

    for_forget : (path : Path) (start : Edge) (first : Span) (seen : Seen) (ts : Items) → forget (full_for_of l self path start first seen ts) ≡ plain_for_of l other path start first seen ts
    unfolding full_for_of plain_for_of
    for_forget path start first seen ts =
        forget_bind _ _ _ _ (loop_forget l ts) (λ lp. forget_bind _ _ _ _ (finish_forget lp.1) (λ f. forget_bind _ _ _ _ (same (InFor ∷ path) (at seen f.1)) (λ b.
        forget_bind _ _ _ _ (else_in_forget (InForElse ∷ path) b.1.seen b.1.tokens (front_of b.1.tokens)) (λ o. forget_bind _ _ _ _ (closed_tag_forget AtEndFor o.1.tokens) (λ e. refl)))))

    if_forget : (path : Path) (start : Edge) (first : Span) (seen : Seen) (ts : Items) → forget (full_if_of l self path start first seen ts) ≡ plain_if_of l other path start first seen ts
    unfolding full_if_of plain_if_of
    if_forget path start first seen ts =
        forget_bind _ _ _ _ (expression_forget l (in_loop path) ts) (λ c. forget_bind _ _ _ _ (finish_forget c.1) (λ f. forget_bind _ _ _ _ (same (InIf ∷ path) (at seen f.1)) (λ b.
        forget_bind _ _ _ _ (branches_forget (InIf ∷ path) b.1) (λ bs. forget_bind _ _ _ _ (closed_tag_forget AtEndIf bs.1.tokens) (λ e. refl)))))

    tag_forget : (path : Path) (o : Opener) (start : Edge) (first : Span) (seen : Seen) (ts : Items) → forget (full_tag_of l self path o start first seen ts) ≡ plain_tag_of l other path o start first seen ts
    tag_forget path (OpensSet global) start first seen ts = set_forget path global start first seen ts
    tag_forget path OpensInclude start first seen ts = include_forget start first seen ts
    tag_forget path OpensExtends start first seen ts = extends_forget path start first seen ts
    tag_forget path OpensBlock start first seen ts = block_forget path start first seen ts
    tag_forget path OpensFor start first seen ts = for_forget path start first seen ts
    tag_forget path OpensIf start first seen ts = if_forget path start first seen ts
    tag_forget path OpensFilter start first seen ts = section_forget path start first seen ts
    tag_forget path OpensComponent start first seen ts = definition_forget path start first seen ts
    tag_forget path OpensBreak start first seen ts = break_forget path Break start first seen ts
    tag_forget path OpensContinue start first seen ts = break_forget path Continue start first seen ts
    tag_forget path OpensCall start first seen ts = call_forget path start first seen ts

    -- items
    module _ (again : Place → full_Reads Body) (more : Place → plain_Reads Body) (goes : (p : Place) → forget (again p) ≡ more p) where
      item_forget : (p : Place) (o : full_Reads Item) (q : plain_Reads Item) → forget o ≡ q
          → forget {A = Body × Place} (bind {A = Option Item × Place} (bind o (λ x. found (Some x.0, x.1))) (λ x. full_go_on again x.0 x.1)) ≡ ((q >>= λ x. Some (Some x)) >>= plain_go_on more p)
      item_forget p (stopped z) q is = ap (λ q. (q >>= λ x. Some (Some x)) >>= plain_go_on more p) is
      item_forget p (found x) q is = forget_bind _ _ _ _ (goes x.1) (λ b. refl) ∙ ap (λ q. (q >>= λ x. Some (Some x)) >>= plain_go_on more p) is

      step_forget : (path : Path) (seen : Seen) (ts : Items) (fr : Front)
          → forget (bind (full_step l self path seen ts fr) (λ x. full_go_on again x.0 x.1)) ≡ (plain_step l other path seen fr >>= plain_go_on more (at seen ts))
      unfolding full_step plain_step
      step_forget path seen ts Ends = refl
      step_forget path seen ts (Closes c start first us) = refl
      step_forget path seen ts (Holds text s us) = forget_bind _ _ _ _ (goes (at seen us)) (λ b. refl)
      step_forget path seen ts (Shows start us) = item_forget (at seen ts) _ _ (shown_forget path start seen us)
      step_forget path seen ts (Opens o start first us) = item_forget (at seen ts) _ _ (tag_forget path o start first seen us)
      step_forget path seen ts Wrong = refl

    items_by_forget : (n : ℕ) (path : Path) (p : Place) → forget (full_items_by n l self path p) ≡ plain_items_by n l other path p
    unfolding full_items_by plain_items_by
    items_by_forget zero path p = refl
    items_by_forget (suc n) path p =
        step_forget (full_items_by n l self path) (plain_items_by n l other path) (items_by_forget n path) path p.seen p.tokens (front_of p.tokens)

    items_forget : (path : Path) (p : Place) → forget (full_items l self path p) ≡ plain_items l other path p
    unfolding full_items plain_items
    items_forget path p = items_by_forget (suc (size p.tokens)) path p

    -- the top level
    extends_at_forget : (phase : Phase) (start : Edge) (first : Span) (seen : Seen) (ts : Items) → forget (full_extends_at phase start first seen ts) ≡ plain_extends_at phase start first seen ts
    extends_at_forget Starting start first seen ts = extends_forget [] start first seen ts
    extends_at_forget Standalone start first seen ts = forget_bind _ _ _ _ (quote_forget ts) (λ q. refl)
    extends_at_forget Extending start first seen ts = forget_bind _ _ _ _ (quote_forget ts) (λ q. refl)

    module _ (again : Phase → Place → full_Reads Body) (more : Phase → Place → plain_Reads Body) (goes : (phase : Phase) (p : Place) → forget (again phase p) ≡ more phase p) (phase : Phase) where
      top_item_forget : (p : Place) (o : full_Reads Item) (q : plain_Reads Item) → forget o ≡ q
          → forget {A = Body × Place} (bind {A = Option Item × Place} (bind o (λ x. found (Some x.0, x.1))) (λ x. full_top_on again phase x.0 x.1)) ≡ ((q >>= λ x. Some (Some x)) >>= plain_top_on more phase p)
      top_item_forget p (stopped z) q is = ap (λ q. (q >>= λ x. Some (Some x)) >>= plain_top_on more phase p) is
      top_item_forget p (found x) q is =
          forget_bind _ _ _ _ (forget_given x.1.tokens (next_phase phase x.0)) (λ f. forget_bind _ _ _ _ (goes f x.1) (λ b. refl))
          ∙ ap (λ q. (q >>= λ x. Some (Some x)) >>= plain_top_on more phase p) is

      top_step_forget : (seen : Seen) (ts : Items) (fr : Front)
          → forget (bind (full_top_step l self phase seen ts fr) (λ x. full_top_on again phase x.0 x.1)) ≡ (plain_top_step l other phase seen fr >>= plain_top_on more phase (at seen ts))
      unfolding full_top_step plain_top_step full_step plain_step
      top_step_forget seen ts Ends = refl
      top_step_forget seen ts (Closes c start first us) = refl
      top_step_forget seen ts (Holds text s us) = top_item_forget (at seen ts) (found (Single (Text text s), at seen us)) (Some (Single (Text text s), at seen us)) refl
      top_step_forget seen ts (Shows start us) = top_item_forget (at seen ts) _ _ (shown_forget [] start seen us)
      top_step_forget seen ts (Opens OpensExtends start first us) = top_item_forget (at seen ts) _ _ (extends_at_forget phase start first seen us)
      top_step_forget seen ts (Opens o start first us) = top_item_forget (at seen ts) _ _ (tag_forget [] o start first seen us)
      top_step_forget seen ts Wrong = refl

    top_by_forget : (n : ℕ) (phase : Phase) (p : Place) → forget (full_top_by n l self phase p) ≡ plain_top_by n l other phase p
    unfolding full_top_by plain_top_by
    top_by_forget zero phase p = refl
    top_by_forget (suc n) phase p = top_step_forget (full_top_by n l self) (plain_top_by n l other) (top_by_forget n) phase p.seen p.tokens (front_of p.tokens)

  body_forget : (d : ℕ) (path : Path) (p : Place) → forget (full_body d l path p) ≡ plain_body d l path p
  unfolding full_body plain_body
  body_forget zero path p = refl
  body_forget (suc d) path p = items_forget (full_body d l) (plain_body d l) (body_forget d) path p

  -- an item that the top level finds
  abbrev back : Read (Option Item × Place) → Option (Option (Item × Place))
  back (found (Some i, p)) = Some (Some (i, p))
  back (found (None, p)) = Some None
  back (stopped z) = None

  none_some : (x : Item × Place) → None ≡ Some (Some x) → ⊥
  none_some x e = cc

  some_none : (x : Item × Place) → Some None ≡ Some (Some x) → ⊥
  some_none x e = cc

  back_found : (o : full_Reads Item) (q : plain_Reads Item) (x : Item × Place) → forget o ≡ q → bind {A = Item × Place} {B = Option Item × Place} o (λ y. found (Some y.0, y.1)) ≡ found (Some x.0, x.1)
      → (q >>= λ y. Some (Some y)) ≡ Some (Some x)
  back_found (found y) q x is h = ap (λ q. q >>= λ y. Some (Some y)) (sym is) ∙ ap back h
  back_found (stopped z) q x is h = absurd (none_some x (ap back h))

  late_found : (o : Takes (Quote × Span)) (x : Item × Place) → bind {A = Item × Place} {B = Option Item × Place} (bind o (λ q. stopped q.1)) (λ y. found (Some y.0, y.1)) ≡ found (Some x.0, x.1) → ⊥
  late_found (found q) x h = cc
  late_found (stopped z) x h = cc

  pub top_found : (d : ℕ) (phase : Phase) (seen : Seen) (ts : Items) (fr : Front) (x : Item × Place) → full_top_step l (full_body d l) phase seen ts fr ≡ found (Some x.0, x.1)
      → plain_step l (plain_body d l) [] seen fr ≡ Some (Some x)
  unfolding full_top_step full_step plain_step
  top_found d phase seen ts Ends x h = absurd (some_none x (ap back h))
  top_found d phase seen ts (Closes c start first us) x h = absurd (some_none x (ap back h))
  top_found d phase seen ts (Holds text s us) x h = ap back h
  top_found d phase seen ts (Shows start us) x h = back_found _ _ x (shown_forget [] start seen us) h
  top_found d Starting seen ts (Opens OpensExtends start first us) x h = back_found _ _ x (extends_forget [] start first seen us) h
  top_found d Standalone seen ts (Opens OpensExtends start first us) x h = absurd (late_found _ x h)
  top_found d Extending seen ts (Opens OpensExtends start first us) x h = absurd (late_found _ x h)
  top_found d phase seen ts (Opens o start first us) x h = back_found _ _ x (tag_forget (full_body d l) (plain_body d l) (body_forget d) [] o start first seen us) h
  top_found d phase seen ts Wrong x h = cc

  pub top_forget : (d : ℕ) (p : Place) → forget (full_top d l p) ≡ plain_top d l p
  unfolding full_top plain_top
  top_forget zero p = refl
  top_forget (suc d) p = top_by_forget (full_body d l) (plain_body d l) (body_forget d) (suc (size p.tokens)) Starting p

  ended_forget : (ts : Items) (b : Body) → forget (bind (ended ts) (λ u. found b)) ≡ (guard (is_end ts) >>= λ u. Some b)
  ended_forget Ended b = refl
  ended_forget (Failed text there) b = refl
  ended_forget (Token t s us) b = refl

  pub template_forget : (ts : Items) → forget (full_template l ts) ≡ plain_template l ts
  unfolding full_template plain_template
  template_forget ts = forget_bind _ _ _ _ (top_forget l.bodies (at nothing_seen ts)) (λ b. ended_forget b.1.tokens b.0)

  found_if : {A : Type 0} (o : Read A) (x : A) → forget o ≡ Some x → o ≡ found x
  found_if (found y) x is = ap found (same_Some _ _ is)
  found_if (stopped z) x is = absurd (apart x is)
    where
      apart : {A : Type 0} (x : A) → None ≡ Some x → ⊥
      apart x e = cc

  -- each template is read
  pub each_read : ((ts : Items) (b : Body) → IsTemplate l ts b → plain_template l ts ≡ Some b) → (ts : Items) (b : Body) → IsTemplate l ts b → full_template l ts ≡ found b
  each_read complete ts b is = found_if (full_template l ts) b (template_forget ts ∙ complete ts b is)
