-- The numbers that bound the loops have no say, so the loops obey equations without them.
use Rattle.std.proofs.Common.{◌≡◌, ℕ, zero, suc, ◌<◌, ◌≤◌, Option, Some, None, refl, sym, ap, subst, ◌∙◌, arith, le_refl}
use Rattle.tera_lexer.specs.code.Cursors.{size}
use Rattle.tera_lexer.specs.grammar.Tokens as toks
use Rattle.tera_lexer.specs.grammar.Tokens.{Items, Token}
use Rattle.tera_lexer.specs.declared.lexer.delimiters.Kind.TheVariants as kind
use Rattle.tera_grammar.specs.expressions.Operators.{GreaterThan}
use Rattle.tera_grammar.specs.expressions.Marks.{mark, Operation}
use Rattle.tera_grammar.specs.Options.{◌>>=◌}
use Rattle.tera_grammar.specs.statements.TagParts.{Name, AtElif, AtEndBlock, AtEndFor, AtEndIf, closer_token, start_yield, closing, finish, if_any, name_yield}
use Rattle.tera_grammar.specs.statements.Expressions.{Limits, expression_yield, attributes_yield}
use Rattle.tera_grammar.specs.statements.Components.{ending_yield}
use Rattle.tera_grammar.specs.statements.Heads.{filters_yield, Capture, SetBody, Section, CallBody, capture_yield, capture_end}
use Rattle.tera_grammar.specs.statements.Grammar.{Plain, Text, Shown, Set, Include, Extends, Break, Continue, plain_yield, Body, Done, Then, Item, Single, Block, Define, Capturing, For, If, Branches, Elif, Last, Else, NoElse, Otherwise, yield, item_yield, branches_yield, else_yield, Path, in_loop}
use Rattle.tera_grammar.specs.statements.Reading.{Place, at}
use Rattle.tera_grammar.proofs.plain.statements.Reading.{Reads, Reader, branch_in, branches_by, branches, step, go_on, items_by, items, body}
use Rattle.tera_grammar.specs.statements.Reading.TagParts.{Front, Closes, front, tag}
use Rattle.tera_grammar.specs.statements.Reading.Meeting.{Seen}
use Rattle.tera_grammar.proofs.Options.{bind_both}
use Rattle.tera_grammar.proofs.statements.Expressions.{expression_sound, expression_size, filter_size, attributes_size, component_size}
use Rattle.tera_grammar.proofs.statements.TagParts.{finish_sound, FrontOf, front_is}
use Rattle.tera_grammar.proofs.statements.Heads.{filters_size, loop_size}
use Rattle.tera_grammar.proofs.statements.Components.{opened_part, opened_size, ending_size}
use Rattle.tera_grammar.proofs.statements.Found.{Sound, step_found, body_sound}

plain_size : (p : Plain) (r : Items) → size r < size (plain_yield p r)
plain_size (Text text span) r = omega arith
plain_size (Shown a e b) r = omega (arith, expression_size e (Token (toks.Finish kind.Variable b.dash) b.span r))
plain_size (Set global t n sign e) r = omega (arith, expression_size e (finish t r))
plain_size (Include t q span) r = omega arith
plain_size (Extends t q span) r = omega arith
plain_size (Break t) r = omega arith
plain_size (Continue t) r = omega arith

capture_size : (c : Capture) (r : Items) → size r < size (capture_yield c r)
capture_size (SetBody global t n fs e) r = omega (arith, filters_size fs (finish t r))
capture_size (Section t f fs e) r = omega (arith, filters_size fs (finish t r), filter_size f (filters_yield fs (finish t r)))
capture_size (CallBody t n a last e m end) r =
    let tail = mark (Operation GreaterThan) last (finish t r) in
    omega (arith, attributes_size a tail, component_size n (attributes_yield a tail))

capture_end_size : (c : Capture) (r : Items) → size r ≤ size (capture_end c r)
capture_end_size (SetBody global t n fs e) r = omega arith
capture_end_size (Section t f fs e) r = omega arith
capture_end_size (CallBody t n a last e m end) r = omega (arith, component_size m (mark (Operation GreaterThan) end (finish e r)))

name_if_any_size : (m : Option Name) (r : Items) → size r ≤ size (if_any name_yield m r)
name_if_any_size None r = le_refl _
name_if_any_size (Some n) r = omega arith

mutual
  pub body_size : (b : Body) (r : Items) → size r ≤ size (yield b r)
  body_size Done r = le_refl _
  body_size (Then i b) r = omega (arith, body_size b r, item_size i (yield b r))

  pub item_size : (i : Item) (r : Items) → size r < size (item_yield i r)
  item_size (Single p) r = plain_size p r
  item_size (Block t n b e m) r =
      let end = closing AtEndBlock e (if_any name_yield m (finish e r)) in omega (arith, body_size b end, name_if_any_size m (finish e r))
  item_size (Define h b) r = omega (arith, body_size b (ending_yield h r), ending_size h r, opened_size (opened_part h) (yield b (ending_yield h r)))
  item_size (Capturing c b) r = omega (arith, body_size b (capture_end c r), capture_end_size c r, capture_size c (yield b (capture_end c r)))
  item_size (For t lp b o e) r =
      let end = closing AtEndFor e (finish e r) in
      omega (arith, body_size b (else_yield o end), else_size o end, loop_size lp (finish t (yield b (else_yield o end))))
  item_size (If t c b bs e) r =
      let end = closing AtEndIf e (finish e r) in
      omega (arith, body_size b (branches_yield bs end), branches_size bs end, expression_size c (finish t (yield b (branches_yield bs end))))

  branches_size : (bs : Branches) (r : Items) → size r ≤ size (branches_yield bs r)
  branches_size (Elif t c b bs) r = omega (arith, body_size b (branches_yield bs r), branches_size bs r, expression_size c (finish t (yield b (branches_yield bs r))))
  branches_size (Last o) r = else_size o r

  else_size : (o : Else) (r : Items) → size r ≤ size (else_yield o r)
  else_size NoElse r = le_refl _
  else_size (Otherwise t b) r = omega (arith, body_size b r)

module _ (l : Limits) (d : ℕ) (f : Reader) (sound : Sound l d f) (path : Path) where
  go_on_agree : (again other : Place → Reads Body) (p : Place) → ((q : Place) → size q.tokens < size p.tokens → again q ≡ other q) →
      (o : Option (Item × Place)) → step l f path p.seen (front p.tokens) ≡ Some o → go_on again p o ≡ go_on other p o
  go_on_agree again other p goes None read = refl
  go_on_agree again other p goes (Some i) read =
      let found = step_found l d f sound path p.seen p.tokens (front p.tokens) i (front_is p.tokens) read in
      ap (λ r. r >>= λ b. Some (Then i.0 b.0, b.1)) (goes i.1 (subst (λ v. size i.1.tokens < size v) (sym found.tokens) (item_size i.0 i.1.tokens)))

  items_agree : (n k : ℕ) (p : Place) → size p.tokens < n → size p.tokens < k → items_by n l f path p ≡ items_by k l f path p
  unfolding items_by
  items_agree zero k p hn hk = absurd (omega arith)
  items_agree (suc n) zero p hn hk = absurd (omega arith)
  items_agree (suc n) (suc k) p hn hk =
      bind_both _ _ _ (go_on_agree (items_by n l f path) (items_by k l f path) p (λ q lt. items_agree n k q (omega arith) (omega arith)))

  pub items_steps : (p : Place) → items l f path p ≡ (step l f path p.seen (front p.tokens) >>= go_on (items l f path) p)
  unfolding items items_by
  items_steps p =
      bind_both _ _ _ (go_on_agree (items_by (size p.tokens) l f path) (items l f path) p (λ q lt. items_agree (size p.tokens) (suc (size q.tokens)) q lt (omega arith)))

  branch_agree : (again other : Place → Reads Branches) (seen : Seen) (ts : Items) → ((q : Place) → size q.tokens < size ts → again q ≡ other q) →
      (fr : Front) → FrontOf ts fr → branch_in l f path again seen ts fr ≡ branch_in l f path other seen ts fr
  unfolding branch_in
  branch_agree again other seen ts goes (Closes AtElif start first us) is =
      bind_both _ _ _ (λ c read. bind_both _ _ _ (λ e ended. bind_both _ _ _ (λ b inside.
      let condition = expression_sound l (in_loop path) us c read in
      let tail = finish (tag start first e.0) (yield b.0 b.1.tokens) in
      let shorter : size b.1.tokens < size ts =
      subst (λ v. size b.1.tokens < size v) (sym (is ∙ ap (λ v. start_yield start (Token (closer_token AtElif) first v)) (condition.1 ∙ ap (expression_yield c.0) (finish_sound c.1 e ended
      ∙ ap (finish (tag start first e.0)) (sound path (at seen e.1) b inside).tokens))))
      (omega (arith, expression_size c.0 tail, body_size b.0 b.1.tokens)) in
      ap (λ r. r >>= λ bs. Some (Elif (tag start first e.0) c.0 b.0 bs.0, bs.1)) (goes b.1 shorter))))
  branch_agree again other seen ts goes fr is = refl

  branches_agree : (n k : ℕ) (p : Place) → size p.tokens < n → size p.tokens < k → branches_by n l f path p ≡ branches_by k l f path p
  unfolding branches_by
  branches_agree zero k p hn hk = absurd (omega arith)
  branches_agree (suc n) zero p hn hk = absurd (omega arith)
  branches_agree (suc n) (suc k) p hn hk =
      branch_agree (branches_by n l f path) (branches_by k l f path) p.seen p.tokens (λ q lt. branches_agree n k q (omega arith) (omega arith)) (front p.tokens) (front_is p.tokens)

  pub branches_steps : (p : Place) → branches l f path p ≡ branch_in l f path (branches l f path) p.seen p.tokens (front p.tokens)
  unfolding branches branches_by
  branches_steps p =
      branch_agree (branches_by (size p.tokens) l f path) (branches l f path) p.seen p.tokens (λ q lt. branches_agree (size p.tokens) (suc (size q.tokens)) q lt (omega arith)) (front p.tokens) (front_is p.tokens)

-- a body, by what comes next in it
pub body_steps : (l : Limits) (d : ℕ) (path : Path) (p : Place) → body (suc d) l path p ≡ (step l (body d l) path p.seen (front p.tokens) >>= go_on (body (suc d) l path) p)
unfolding body
body_steps l d path p = items_steps l d (body d l) (body_sound l d) path p
