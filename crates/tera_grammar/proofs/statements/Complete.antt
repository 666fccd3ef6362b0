-- Each template that meets its conditions is read from its tokens, so no other has the same tokens.
use Rattle.std.proofs.Common.{◌≡◌, ℕ, zero, suc, ◌≤◌, true, false, ◌∷◌, Option, Some, None, refl, ap, ◌∙◌, arith}
use Rattle.tera_lexer.specs.grammar.Tokens as toks
use Rattle.tera_lexer.specs.grammar.Tokens.{Items, Token}
use Rattle.tera_lexer.specs.declared.lexer.delimiters.Kind.TheVariants as kind
use Rattle.tera_grammar.proofs.plain.expressions.Reading.Front.{takes}
use Rattle.tera_grammar.specs.expressions.Operators.{GreaterThan}
use Rattle.tera_grammar.specs.expressions.Concrete.{Simple, Escaped, quote_token}
use Rattle.tera_grammar.specs.expressions.Marks.{mark, Assign, Operation}
use Rattle.tera_grammar.specs.Options.{◌>>=◌}
use Rattle.tera_grammar.specs.statements.Names.{agrees}
use Rattle.tera_grammar.specs.statements.Places.{block_placed, component_placed, places, item_places, branch_places, else_places}
use Rattle.tera_grammar.specs.statements.Reading.Meeting.{Seen, met, ◌having◌}
use Rattle.tera_grammar.specs.statements.TagParts.{Name, name_yield, Tag, Opener, OpensSet, OpensInclude, OpensExtends, OpensBlock, OpensFor, OpensIf, OpensFilter, OpensComponent, OpensBreak, OpensContinue, OpensCall, AtElif, AtEndBlock, AtEndFor, AtEndIf, opening, closing, finish, if_any}
use Rattle.tera_grammar.specs.statements.Expressions.{Limits, Expression, IsExpression, expression_yield, attributes_yield, component_text}
use Rattle.tera_grammar.specs.statements.Components.{Head, ending_yield, FitsHead}
use Rattle.tera_grammar.specs.statements.Heads.{Loop, loop_yield, FitsLoop, Filters, NoFilters, Piped, filters_yield, Capture, SetBody, Section, CallBody, capture_end, FitsCapture}
use Rattle.tera_grammar.specs.statements.Grammar.{Plain, Text, Shown, Set, Include, Extends, Break, Continue, plain_yield, FitsPlain, Body, Done, Then, Item, Single, Block, Define, Capturing, For, If, Branches, Elif, Last, Else, NoElse, Otherwise, yield, item_yield, branches_yield, else_yield, InFor, InForElse, InBlock, InIf, InComponent, InCapture, Path, may_block, in_loop, is_outermost, text_if_any, Fits, FitsItem, FitsBranches, FitsElse, height, item_height, branch_height, else_height}
use Rattle.tera_grammar.specs.statements.Reading.{Place, at}
use Rattle.tera_grammar.proofs.plain.statements.Reading.{Reads, Reader, else_in, branch_in, branches, set_after, set_of, include_of, extends_of, break_of, block_end, block_of, component_def_of, section_of, call_end, call_of, for_of, if_of, tag_of, shown_of, step, go_on, body}
use Rattle.tera_grammar.specs.statements.Reading.TagParts.{Front, Ends, Closes, Opens, front}
use Rattle.tera_grammar.proofs.statements.Names.{NamesAreNew, first_names, having_both, then_names}
use Rattle.tera_grammar.proofs.statements.Expressions.{expression_found, filter_found, attributes_found, attributes_begin, component_found}
use Rattle.tera_grammar.proofs.statements.Heads.{loop_found, filters_end, filters_found}
use Rattle.tera_grammar.proofs.statements.Components.{opened_part, opened_found, ending_found}
use Rattle.tera_grammar.proofs.statements.Found.{body_sound}
use Rattle.tera_grammar.proofs.statements.Unrolled.{body_steps, branches_steps}

-- a body ends before these tokens
abbrev pub EndsAt : Front → Type 0
EndsAt Ends = Unit {0}
EndsAt (Closes c start first us) = Unit {0}
EndsAt fr = ⊥

abbrev pub EndsBefore : Items → Type 0
EndsBefore ts = EndsAt (front ts)

-- the tags are found at the front
pub front_opening : (o : Opener) (t : Tag) (r : Items) → front (opening o t r) ≡ Opens o t.start t.first r
front_opening (OpensSet false) t r = refl
front_opening (OpensSet true) t r = refl
front_opening OpensInclude t r = refl
front_opening OpensExtends t r = refl
front_opening OpensBlock t r = refl
front_opening OpensFor t r = refl
front_opening OpensIf t r = refl
front_opening OpensFilter t r = refl
front_opening OpensComponent t r = refl
front_opening OpensBreak t r = refl
front_opening OpensContinue t r = refl
front_opening OpensCall t r = refl

step_ends : (l : Limits) (f : Reader) (path : Path) (seen : Seen) (fr : Front) → EndsAt fr → step l f path seen fr ≡ Some None
unfolding step
step_ends l f path seen Ends h = refl
step_ends l f path seen (Closes c start first us) h = refl
step_ends l f path seen _ h = absurd h

module _ (l : Limits) (f : Reader) (path : Path) (seen : Seen) where
  -- an item is what its tag is read as
  step_opens : (o : Opener) (t : Tag) (r : Items) (x : Item × Place) → tag_of l f path o t.start t.first seen r ≡ Some x → step l f path seen (front (opening o t r)) ≡ Some (Some x)
  unfolding step
  step_opens o t r x h = ap (step l f path seen) (front_opening o t r) ∙ ap (λ y. y >>= λ z. Some (Some z)) h

  plain_found : (p : Plain) (r : Items) → FitsPlain l path p → step l f path seen (front (plain_yield p r)) ≡ Some (Some (Single p, at seen r))
  unfolding step shown_of set_of set_after include_of extends_of break_of
  plain_found (Text text span) r fits = refl
  plain_found (Shown a e b) r fits = rw (expression_found l (in_loop path) e (Token (toks.Finish kind.Variable b.dash) b.span r) fits refl) refl
  plain_found (Set global t n sign e) r fits =
      step_opens (OpensSet global) t (name_yield n (mark Assign sign (expression_yield e (finish t r)))) (Single (Set global t n sign e), at seen r)
      (rw (fits.0, expression_found l (in_loop path) e (finish t r) fits.1 refl) refl)
  plain_found (Include t (Simple text) span) r fits = step_opens OpensInclude t (Token (quote_token (Simple text)) span (finish t r)) _ refl
  plain_found (Include t (Escaped text) span) r fits = step_opens OpensInclude t (Token (quote_token (Escaped text)) span (finish t r)) _ refl
  plain_found (Extends t (Simple text) span) r fits = step_opens OpensExtends t (Token (quote_token (Simple text)) span (finish t r)) (Single (Extends t (Simple text) span), at seen r) (rw fits refl)
  plain_found (Extends t (Escaped text) span) r fits = step_opens OpensExtends t (Token (quote_token (Escaped text)) span (finish t r)) (Single (Extends t (Escaped text) span), at seen r) (rw fits refl)
  plain_found (Break t) r fits = step_opens OpensBreak t (finish t r) (Single (Break t), at seen r) (rw fits refl)
  plain_found (Continue t) r fits = step_opens OpensContinue t (finish t r) (Single (Continue t), at seen r) (rw fits refl)

  block_end_found : (n : Name) (m : Option Name) (e : Tag) (r : Items) → agrees n.text (text_if_any m) ≡ true → block_end n (closing AtEndBlock e (if_any name_yield m (finish e r))) ≡ Some ((e, m), r)
  unfolding block_end
  block_end_found n None e r agreed = refl
  block_end_found n (Some m) e r agreed = rw agreed refl

  block_found : (new : Seen) (t : Tag) (n : Name) (b : Body) (e : Tag) (m : Option Name) (r : Items) → may_block path ≡ true → met seen.blocks n.text ≡ false → agrees n.text (text_if_any m) ≡ true →
      f (InBlock ∷ path) (at (seen having block_placed n) (yield b (closing AtEndBlock e (if_any name_yield m (finish e r))))) ≡ Some (b, at new (closing AtEndBlock e (if_any name_yield m (finish e r)))) →
      step l f path seen (front (item_yield (Block t n b e m) r)) ≡ Some (Some (Block t n b e m, at new r))
  unfolding block_of
  block_found new t n b e m r may fresh agreed read = step_opens OpensBlock t _ _ (rw (may, fresh, read, block_end_found n m e r agreed) refl)

  define_found : (new : Seen) (h : Head) (b : Body) (r : Items) → is_outermost path ≡ true → met seen.components (component_text h.name) ≡ false → FitsHead l h →
      f (InComponent ∷ path) (at (seen having component_placed h.name h.parameters) (yield b (ending_yield h r))) ≡ Some (b, at new (ending_yield h r)) →
      step l f path seen (front (item_yield (Define h b) r)) ≡ Some (Some (Define h b, at new r))
  unfolding component_def_of
  define_found new h b r may fresh fits read =
      step_opens OpensComponent h.tag _ _ (rw (may, opened_found l (met seen.components) (opened_part h) (yield b (ending_yield h r)) fresh fits.0 fits.1, read, ending_found l h r fits.2) refl)

  no_sign : (fs : Filters) (t : Tag) (r : Items) → takes Assign (filters_yield fs (finish t r)) ≡ None
  no_sign NoFilters t r = refl
  no_sign (Piped bar g fs) t r = refl

  capture_found : (new : Seen) (c : Capture) (b : Body) (r : Items) → FitsCapture l (in_loop path) c →
      f (InCapture ∷ path) (at seen (yield b (capture_end c r))) ≡ Some (b, at new (capture_end c r)) →
      step l f path seen (front (item_yield (Capturing c b) r)) ≡ Some (Some (Capturing c b, at new r))
  unfolding set_of set_after section_of call_of call_end
  capture_found new (SetBody global t n fs e) b r fits read =
      let tail = finish t (yield b (capture_end (SetBody global t n fs e) r)) in
      step_opens (OpensSet global) t _ _ (rw (fits.0, no_sign fs t (yield b (capture_end (SetBody global t n fs e) r)), filters_found l (in_loop path) fs tail fits.1 refl refl, read) refl)
  capture_found new (Section t g fs e) b r fits read =
      let tail = finish t (yield b (capture_end (Section t g fs e) r)) in
      step_opens OpensFilter t _ _ (rw (filter_found l (in_loop path) g (filters_yield fs tail) fits.0 (filters_end l (in_loop path) fs tail refl), filters_found l (in_loop path) fs tail fits.1 refl refl, read) refl)
  capture_found new (CallBody t n a last e m end) b r fits read =
      let tail = mark (Operation GreaterThan) last (finish t (yield b (capture_end (CallBody t n a last e m end) r))) in
      step_opens OpensCall t _ _ (rw (component_found n (attributes_yield a tail) (attributes_begin a tail refl), attributes_found l (in_loop path) a tail fits.0 refl, read, component_found m (mark (Operation GreaterThan) end (finish e r)) refl, fits.1) refl)

  for_found : (mid new : Seen) (t : Tag) (lp : Loop) (b : Body) (o : Else) (e : Tag) (r ts : Items) → FitsLoop l lp →
      f (InFor ∷ path) (at seen (yield b ts)) ≡ Some (b, at mid ts) → else_in f (InForElse ∷ path) mid ts (front ts) ≡ Some (o, at new (closing AtEndFor e (finish e r))) →
      step l f path seen (front (opening OpensFor t (loop_yield lp (finish t (yield b ts))))) ≡ Some (Some (For t lp b o e, at new r))
  unfolding for_of
  for_found mid new t lp b o e r ts fits read others =
      step_opens OpensFor t _ _ (rw (loop_found l lp (finish t (yield b ts)) fits refl, read, others) refl)

  if_found : (mid new : Seen) (t : Tag) (c : Expression) (b : Body) (bs : Branches) (e : Tag) (r ts : Items) → IsExpression l (in_loop path) c →
      f (InIf ∷ path) (at seen (yield b ts)) ≡ Some (b, at mid ts) → branches l f (InIf ∷ path) (at mid ts) ≡ Some (bs, at new (closing AtEndIf e (finish e r))) →
      step l f path seen (front (opening OpensIf t (expression_yield c (finish t (yield b ts))))) ≡ Some (Some (If t c b bs e, at new r))
  unfolding if_of
  if_found mid new t c b bs e r ts fits read others =
      step_opens OpensIf t _ _ (rw (expression_found l (in_loop path) c (finish t (yield b ts)) fits refl, read, others) refl)

  otherwise_found : (new : Seen) (t : Tag) (b : Body) (r : Items) → f path (at seen (yield b r)) ≡ Some (b, at new r) →
      else_in f path seen (else_yield (Otherwise t b) r) (front (else_yield (Otherwise t b) r)) ≡ Some (Otherwise t b, at new r)
  unfolding else_in
  otherwise_found new t b r read = rw read refl

  elif_found : (again : Place → Reads Branches) (mid new : Seen) (t : Tag) (c : Expression) (b : Body) (bs : Branches) (ts r : Items) → IsExpression l (in_loop path) c →
      f path (at seen (yield b ts)) ≡ Some (b, at mid ts) → again (at mid ts) ≡ Some (bs, at new r) →
      branch_in l f path again seen (closing AtElif t (expression_yield c (finish t (yield b ts)))) (front (closing AtElif t (expression_yield c (finish t (yield b ts))))) ≡ Some (Elif t c b bs, at new r)
  unfolding branch_in
  elif_found again mid new t c b bs ts r fits read others = rw (expression_found l (in_loop path) c (finish t (yield b ts)) fits refl, read, others) refl

  last_found : (again : Place → Reads Branches) (new : Seen) (o : Else) (t : Tag) (r : Items) →
      else_in f path seen (else_yield o (closing AtEndIf t r)) (front (else_yield o (closing AtEndIf t r))) ≡ Some (o, at new (closing AtEndIf t r)) →
      branch_in l f path again seen (else_yield o (closing AtEndIf t r)) (front (else_yield o (closing AtEndIf t r))) ≡ Some (Last o, at new (closing AtEndIf t r))
  unfolding branch_in
  last_found again new NoElse t r read = rw read refl
  last_found again new (Otherwise s b) t r read = rw read refl

-- no `else` is there
abbrev Lacks : Items → Type 0
Lacks r = (f : Reader) (path : Path) (seen : Seen) → else_in f path seen r (front r) ≡ Some (NoElse, at seen r)

lacks_endif : (t : Tag) (r : Items) → Lacks (closing AtEndIf t r)
unfolding else_in
lacks_endif t r f path seen = refl

lacks_endfor : (t : Tag) (r : Items) → Lacks (closing AtEndFor t r)
unfolding else_in
lacks_endfor t r f path seen = refl

else_ends : (o : Else) (r : Items) → EndsBefore r → EndsBefore (else_yield o r)
else_ends NoElse r h = h
else_ends (Otherwise t b) r h = tt

branches_end : (bs : Branches) (r : Items) → EndsBefore r → EndsBefore (branches_yield bs r)
branches_end (Elif t c b bs) r h = tt
branches_end (Last o) r h = else_ends o r h

capture_ends : (c : Capture) (r : Items) → EndsBefore (capture_end c r)
capture_ends (SetBody global t n fs e) r = tt
capture_ends (Section t g fs e) r = tt
capture_ends (CallBody t n a last e m end) r = tt

mutual
  pub whole : (b : Body) (l : Limits) (d : ℕ) (path : Path) (seen : Seen) (r : Items) → Fits l path b → height b ≤ d → NamesAreNew seen (places b) → EndsBefore r →
      body d l path (at seen (yield b r)) ≡ Some (b, at (seen having places b) r)
  whole Done l zero path seen r fits low apart stop = absurd (omega arith)
  whole Done l (suc d) path seen r fits low apart stop =
      body_steps l d path (at seen r) ∙ ap (λ o. o >>= go_on (body (suc d) l path) (at seen r)) (step_ends l (body d l) path seen (front r) stop)
  whole (Then i b) l zero path seen r fits low apart stop = absurd (omega arith)
  whole (Then i b) l (suc d) path seen r fits low apart stop =
      body_steps l d path (at seen (item_yield i (yield b r)))
      ∙ ap (λ o. o >>= go_on (body (suc d) l path) (at seen (item_yield i (yield b r))))
      (item_found i l d path seen (yield b r) fits.0 (omega arith) (first_names seen (item_places i) (places b) apart))
      ∙ ap (λ o. o >>= λ x. Some (Then i x.0, x.1)) (whole b l (suc d) path (seen having item_places i) r fits.1 (omega arith) (then_names seen (item_places i) (places b) apart) stop)
      ∙ ap (λ s. Some (Then i b, at s r)) (having_both seen (item_places i) (places b))

  pub item_found : (i : Item) (l : Limits) (d : ℕ) (path : Path) (seen : Seen) (r : Items) → FitsItem l path i → item_height i ≤ d → NamesAreNew seen (item_places i) →
      step l (body d l) path seen (front (item_yield i r)) ≡ Some (Some (i, at (seen having item_places i) r))
  item_found (Single p) l d path seen r fits low apart =
      plain_found l (body d l) path seen p r fits
  item_found (Block t n b e m) l d path seen r fits low apart =
      block_found l (body d l) path seen ((seen having block_placed n) having places b) t n b e m r fits.0 apart.0.0 fits.1
      (whole b l d (InBlock ∷ path) (seen having block_placed n) (closing AtEndBlock e (if_any name_yield m (finish e r))) fits.2 low (then_names seen (block_placed n) (places b) apart) tt)
      ∙ ap (λ s. Some (Some (Block t n b e m, at s r))) (having_both seen (block_placed n) (places b))
  item_found (Define h b) l d path seen r fits low apart =
      define_found l (body d l) path seen ((seen having component_placed h.name h.parameters) having places b) h b r fits.0 apart.1.0 fits.1
      (whole b l d (InComponent ∷ path) (seen having component_placed h.name h.parameters) (ending_yield h r) fits.2 low (then_names seen (component_placed h.name h.parameters) (places b) apart) tt)
      ∙ ap (λ s. Some (Some (Define h b, at s r))) (having_both seen (component_placed h.name h.parameters) (places b))
  item_found (Capturing c b) l d path seen r fits low apart =
      capture_found l (body d l) path seen (seen having places b) c b r fits.0 (whole b l d (InCapture ∷ path) seen (capture_end c r) fits.1 low apart (capture_ends c r))
  item_found (For t lp b o e) l d path seen r fits low apart =
      let end = closing AtEndFor e (finish e r) in
      for_found l (body d l) path seen (seen having places b) ((seen having places b) having else_places o) t lp b o e r (else_yield o end) fits.0
      (whole b l d (InFor ∷ path) seen (else_yield o end) fits.1 (omega arith) (first_names seen (places b) (else_places o) apart) (else_ends o end tt))
      (else_found o l d (InForElse ∷ path) (seen having places b) end (lacks_endfor e (finish e r)) tt fits.2 (omega arith) (then_names seen (places b) (else_places o) apart))
      ∙ ap (λ s. Some (Some (For t lp b o e, at s r))) (having_both seen (places b) (else_places o))
  item_found (If t c b bs e) l d path seen r fits low apart =
      let end = closing AtEndIf e (finish e r) in
      if_found l (body d l) path seen (seen having places b) ((seen having places b) having branch_places bs) t c b bs e r (branches_yield bs end) fits.0
      (whole b l d (InIf ∷ path) seen (branches_yield bs end) fits.1 (omega arith) (first_names seen (places b) (branch_places bs) apart) (branches_end bs end tt))
      (branches_found bs l d (InIf ∷ path) (seen having places b) e (finish e r) fits.2 (omega arith) (then_names seen (places b) (branch_places bs) apart))
      ∙ ap (λ s. Some (Some (If t c b bs e, at s r))) (having_both seen (places b) (branch_places bs))

  branches_found : (bs : Branches) (l : Limits) (d : ℕ) (path : Path) (seen : Seen) (e : Tag) (r : Items) → FitsBranches l path bs → branch_height bs ≤ d → NamesAreNew seen (branch_places bs) →
      branches l (body d l) path (at seen (branches_yield bs (closing AtEndIf e r))) ≡ Some (bs, at (seen having branch_places bs) (closing AtEndIf e r))
  branches_found (Elif t c b bs) l d path seen e r fits low apart =
      let end = closing AtEndIf e r in
      branches_steps l d (body d l) (body_sound l d) path (at seen (branches_yield (Elif t c b bs) end))
      ∙ elif_found l (body d l) path seen (branches l (body d l) path) (seen having places b) ((seen having places b) having branch_places bs) t c b bs (branches_yield bs end) end fits.0
      (whole b l d path seen (branches_yield bs end) fits.1 (omega arith) (first_names seen (places b) (branch_places bs) apart) (branches_end bs end tt))
      (branches_found bs l d path (seen having places b) e r fits.2 (omega arith) (then_names seen (places b) (branch_places bs) apart))
      ∙ ap (λ s. Some (Elif t c b bs, at s end)) (having_both seen (places b) (branch_places bs))
  branches_found (Last o) l d path seen e r fits low apart =
      branches_steps l d (body d l) (body_sound l d) path (at seen (else_yield o (closing AtEndIf e r)))
      ∙ last_found l (body d l) path seen (branches l (body d l) path) (seen having else_places o) o e r (else_found o l d path seen (closing AtEndIf e r) (lacks_endif e r) tt fits low apart)

  else_found : (o : Else) (l : Limits) (d : ℕ) (path : Path) (seen : Seen) (r : Items) → Lacks r → EndsBefore r → FitsElse l path o → else_height o ≤ d → NamesAreNew seen (else_places o) →
      else_in (body d l) path seen (else_yield o r) (front (else_yield o r)) ≡ Some (o, at (seen having else_places o) r)
  else_found NoElse l d path seen r lacks stop fits low apart = lacks (body d l) path seen
  else_found (Otherwise t b) l d path seen r lacks stop fits low apart =
      otherwise_found l (body d l) path seen (seen having places b) t b r (whole b l d path seen r fits low apart stop)
