-- The definition of a component, except its body: what is read of it is its tokens, and those are read as it.
use Rattle.std.proofs.Common.{◌≡◌, ◌<◌, ◌≤◌, ℕ, zero, suc, Bool, true, false, Option, Some, None, refl, sym, ap, subst, ◌∙◌, arith, le_refl}
use Rattle.std.proofs.lemmas.Option.{same_Some}
use Rattle.tera_base.specs.declared.utils.Span.{Span}
use Rattle.tera_lexer.specs.code.Cursors.{size}
use Rattle.tera_lexer.specs.grammar.Tokens as toks
use Rattle.tera_lexer.specs.grammar.Tokens.{Tok, Items, Token, Ident, Integer, Symbol}
use Rattle.tera_grammar.proofs.expressions.Fronts.{takes_ok, taken_name_ok, among_is}
use Rattle.tera_grammar.specs.expressions.Reading.Front.{begins, among}
use Rattle.tera_grammar.proofs.plain.expressions.Reading.Front.{takes, Takes}
use Rattle.tera_grammar.specs.expressions.Operators.{Minus}
use Rattle.tera_grammar.specs.expressions.Marks.{mark, Mark, LeftParen, RightParen, LeftBracket, LeftBrace, Comma, Colon, Spread, Assign, At, Operation}
use Rattle.tera_grammar.specs.Options.{◌>>=◌}
use Rattle.tera_grammar.specs.expressions.Concrete.{Number, Quoted, Truth, Simple, Escaped}
use Rattle.tera_grammar.specs.statements.Names.{agrees}
use Rattle.tera_grammar.specs.statements.TagParts.{Edge, Name, name_yield, OpensComponent, opener_token, AtEndComponent, closer_token, start_yield, finish_yield, if_any}
use Rattle.tera_grammar.specs.statements.Expressions.{Limits, ComponentName, component_yield, component_text, LiteralMap, map_yield}
use Rattle.tera_grammar.proofs.plain.statements.Reading.Expressions.{array_of, map_of}
use Rattle.tera_grammar.specs.statements.Components.{Default, LiteralDefault, MinusDefault, NothingDefault, ArrayDefault, MapDefault, FitsDefault, default_yield, Annotation, Assigned, Parameter, annotation_yield, assigned_yield, parameter_yield, is_known, is_body, FitsAssigned, FitsParameter, Parameters, Closed, Rest, Final, More, parameters_yield, parameter_names, FitEach, FitParameters, Head, head_yield, ending_yield, component_texts, FitsMetadata, FitsHead}
use Rattle.tera_grammar.specs.statements.Reading.Components.{default_marks, parameter, Opened, is_name, head}
use Rattle.tera_grammar.proofs.plain.statements.Reading.Components.{minus_of, default_by, default_at, default_of, at_in, annotation_in, assigned_in, fresh_name, parameter_after, parameter_of, parameters_after, parameters_at, parameters_in, parameters_by, parameters_of, metadata_in, opened_of, end_name_in, ending_of}
use Rattle.tera_grammar.specs.statements.Reading.Meeting.{Met, meet, nothing_met}
use Rattle.tera_grammar.proofs.Options.{bound, bind_both, guard_ok, guard_not}
use Rattle.tera_grammar.proofs.statements.Names.{AreNew, all_new, new_distinct}
use Rattle.tera_grammar.proofs.statements.Expressions.{component_sound, component_found, component_size, component_begins, array_sound, array_found, array_size, array_begins, map_sound, map_found, map_size, map_begins}
use Rattle.tera_grammar.proofs.statements.TagParts.{finish_sound, closed_sound}

-- no tokens are lost
default_size : (d : Default) (rest : Items) → size rest ≤ size (default_yield d rest)
default_size (LiteralDefault x span) rest = omega arith
default_size (MinusDefault minus n span) rest = omega arith
default_size (NothingDefault n) rest = omega arith
default_size (ArrayDefault a) rest = array_size a rest
default_size (MapDefault m) rest = map_size m rest

assigned_size : (d : Option Assigned) (rest : Items) → size rest ≤ size (if_any assigned_yield d rest)
assigned_size None rest = le_refl _
assigned_size (Some d) rest = omega (arith, default_size d.value rest)

annotation_size : (t : Option Annotation) (rest : Items) → size rest ≤ size (if_any annotation_yield t rest)
annotation_size None rest = le_refl _
annotation_size (Some a) rest = omega arith

at_size : (at : Option Span) (rest : Items) → size rest ≤ size (if_any (mark At) at rest)
at_size None rest = le_refl _
at_size (Some span) rest = omega arith

parameter_size : (p : Parameter) (rest : Items) → size rest ≤ size (parameter_yield p rest)
parameter_size p rest =
    omega (arith, assigned_size p.default rest, annotation_size p.type (if_any assigned_yield p.default rest), at_size p.at (name_yield p.name (if_any annotation_yield p.type (if_any assigned_yield p.default rest))))

pub parameters_size : (ps : Parameters) (rest : Items) → size rest ≤ size (parameters_yield ps rest)
parameters_size (Closed end) rest = omega arith
parameters_size (Rest dots n end) rest = omega arith
parameters_size (Final p end) rest = omega (arith, parameter_size p (mark RightParen end rest))
parameters_size (More p comma ps) rest = omega (arith, parameters_size ps rest, parameter_size p (mark Comma comma (parameters_yield ps rest)))

pub metadata_size : (m : Option LiteralMap) (rest : Items) → size rest ≤ size (if_any map_yield m rest)
metadata_size None rest = le_refl _
metadata_size (Some m) rest = map_size m rest

-- the tokens of an opening tag, after its first word
abbrev pub opened_yield : Opened → Items → Items
opened_yield o items = component_yield o.name (mark LeftParen o.paren (parameters_yield o.parameters (if_any map_yield o.metadata (finish_yield o.finish items))))

pub opened_size : (o : Opened) (rest : Items) → size rest ≤ size (opened_yield o rest)
opened_size o rest =
    let end = finish_yield o.finish rest in
    let metadata = if_any map_yield o.metadata end in
    let parameters = mark LeftParen o.paren (parameters_yield o.parameters metadata) in
    omega (arith, metadata_size o.metadata end, parameters_size o.parameters metadata, component_size o.name parameters)

-- the opening tag of a definition
abbrev pub opened_part : Head → Opened
opened_part h = record { name = h.name; paren = h.paren; parameters = h.parameters; metadata = h.metadata; finish = h.tag.finish }

pub ending_size : (h : Head) (rest : Items) → size rest ≤ size (ending_yield h rest)
ending_size h rest = omega (arith, name_size h.end_name (finish_yield h.ending.finish rest))
  where
    name_size : (n : Option ComponentName) (items : Items) → size items ≤ size (if_any component_yield n items)
    name_size None items = le_refl _
    name_size (Some n) items = component_size n items

module _ (l : Limits) where
  -- defaults
  abbrev DefaultStands : Items → Default × Items → Type 0
  DefaultStands ts x = FitsDefault l x.0 × (ts ≡ default_yield x.0 x.1)

  minus_sound : (minus : Span) (ts : Items) (x : Default × Items) → minus_of minus ts ≡ Some x → DefaultStands (mark (Operation Minus) minus ts) x
  minus_sound minus (Token (Integer n) span items) x h = subst (DefaultStands (mark (Operation Minus) minus (Token (Integer n) span items))) (same_Some (MinusDefault minus n span, items) x h) (tt, refl)
  minus_sound minus _ x h = cc

  default_by_sound : (m : Mark) (t : Tok) → among default_marks t ≡ m → (span : Span) (items : Items) (x : Default × Items)
      → default_by l m span items ≡ Some x → DefaultStands (Token t span items) x
  unfolding default_by
  default_by_sound (Operation Minus) t is span items x h =
      subst (λ v. DefaultStands (Token v span items) x) (sym (among_is default_marks t (Operation Minus) is (λ c. cc))) (minus_sound span items x h)
  default_by_sound LeftBracket t is span items x h =
      subst (λ v. DefaultStands (Token v span items) x) (sym (among_is default_marks t LeftBracket is (λ c. cc)))
      (bound _ _ _ h (λ a read made.
      let found = array_sound l (mark LeftBracket span items) a read in
      subst (DefaultStands (mark LeftBracket span items)) (same_Some (ArrayDefault a.0, a.1) x made) (found.0, found.1)))
  default_by_sound LeftBrace t is span items x h =
      subst (λ v. DefaultStands (Token v span items) x) (sym (among_is default_marks t LeftBrace is (λ c. cc)))
      (bound _ _ _ h (λ m read made.
      let found = map_sound l (mark LeftBrace span items) m read in
      subst (DefaultStands (mark LeftBrace span items)) (same_Some (MapDefault m.0, m.1) x made) (found.0, found.1)))
  default_by_sound _ t is span items x h = cc

  default_sound : (ts : Items) (x : Default × Items) → default_of l ts ≡ Some x → DefaultStands ts x
  unfolding default_of default_at
  default_sound (Token (toks.Truth b) span items) x h = subst (DefaultStands (Token (toks.Truth b) span items)) (same_Some (LiteralDefault (Truth b) span, items) x h) (tt, refl)
  default_sound (Token (toks.Str text) span items) x h = subst (DefaultStands (Token (toks.Str text) span items)) (same_Some (LiteralDefault (Quoted (Simple text)) span, items) x h) (tt, refl)
  default_sound (Token (toks.Escaped text) span items) x h = subst (DefaultStands (Token (toks.Escaped text) span items)) (same_Some (LiteralDefault (Quoted (Escaped text)) span, items) x h) (tt, refl)
  default_sound (Token (Integer n) span items) x h = subst (DefaultStands (Token (Integer n) span items)) (same_Some (LiteralDefault (Number n) span, items) x h) (tt, refl)
  default_sound (Token (Ident text) span items) x h =
      bound _ _ _ h (λ u none made.
      subst (DefaultStands (Token (Ident text) span items)) (same_Some (NothingDefault (record { text = text; span = span }), items) x made) (guard_ok _ u none, refl))
  default_sound (Token (Symbol op) span items) x h = default_by_sound (among default_marks (Symbol op)) (Symbol op) refl span items x h
  default_sound _ x h = cc

  begun_array : (ts : Items) (span : Span) (items : Items) → ts ≡ mark LeftBracket span items → default_of l ts ≡ (array_of l ts >>= λ a. Some (ArrayDefault a.0, a.1))
  unfolding default_of default_at default_by
  begun_array ts span items is = subst (λ v. default_of l v ≡ (array_of l v >>= λ a. Some (ArrayDefault a.0, a.1))) (sym is) refl

  begun_map : (ts : Items) (span : Span) (items : Items) → ts ≡ mark LeftBrace span items → default_of l ts ≡ (map_of l ts >>= λ m. Some (MapDefault m.0, m.1))
  unfolding default_of default_at default_by
  begun_map ts span items is = subst (λ v. default_of l v ≡ (map_of l v >>= λ m. Some (MapDefault m.0, m.1))) (sym is) refl

  default_found : (d : Default) (rest : Items) → FitsDefault l d → default_of l (default_yield d rest) ≡ Some (d, rest)
  unfolding default_of default_at default_by
  default_found (LiteralDefault (Number n) span) rest fits = refl
  default_found (LiteralDefault (Quoted (Simple text)) span) rest fits = refl
  default_found (LiteralDefault (Quoted (Escaped text)) span) rest fits = refl
  default_found (LiteralDefault (Truth b) span) rest fits = refl
  default_found (MinusDefault minus n span) rest fits = refl
  default_found (NothingDefault n) rest fits = rw fits refl
  default_found (ArrayDefault a) rest fits =
      let (span, items, is) = array_begins a rest in
      begun_array _ span items is ∙ ap (λ o. o >>= λ b. Some (ArrayDefault b.0, b.1)) (array_found l a rest fits)
  default_found (MapDefault m) rest fits =
      let (span, items, is) = map_begins m rest in
      begun_map _ span items is ∙ ap (λ o. o >>= λ b. Some (MapDefault b.0, b.1)) (map_found l m rest fits)

  -- the parts of a parameter
  at_sound : (ts : Items) (o : Option (Span × Items)) → takes At ts ≡ o → ts ≡ if_any (mark At) (at_in ts o).0 (at_in ts o).1
  at_sound ts None is = refl
  at_sound ts (Some x) is = takes_ok At ts x is

  annotation_sound : (ts : Items) (o : Option (Span × Items)) (x : Option Annotation × Items) → takes Colon ts ≡ o → annotation_in ts o ≡ Some x
      → (is_known x.0 ≡ true) × (ts ≡ if_any annotation_yield x.0 x.1)
  unfolding annotation_in
  annotation_sound ts None x is h = subst (λ (y : Option Annotation × Items). (is_known y.0 ≡ true) × (ts ≡ if_any annotation_yield y.0 y.1)) (same_Some (None, ts) x h) (refl, refl)
  annotation_sound ts (Some colon) x is h =
      bound _ _ _ h (λ n read more. bound _ _ _ more (λ u known made.
      subst (λ (y : Option Annotation × Items). (is_known y.0 ≡ true) × (ts ≡ if_any annotation_yield y.0 y.1)) (same_Some (Some (record { colon = colon.0; name = n.0 }), n.1) x made)
      (guard_ok _ u known, takes_ok Colon ts colon is ∙ ap (mark Colon colon.0) (taken_name_ok colon.1 n read))))

  annotation_found : (t : Option Annotation) (rest : Items) → is_known t ≡ true → takes Colon rest ≡ None → annotation_in (if_any annotation_yield t rest) (takes Colon (if_any annotation_yield t rest)) ≡ Some (t, rest)
  unfolding annotation_in
  annotation_found None rest known none = ap (annotation_in rest) none
  annotation_found (Some a) rest known none = rw known refl

  assigned_sound : (ts : Items) (o : Option (Span × Items)) (x : Option Assigned × Items) → takes Assign ts ≡ o → assigned_in l ts o ≡ Some x
      → FitsAssigned l x.0 × (ts ≡ if_any assigned_yield x.0 x.1)
  unfolding assigned_in
  assigned_sound ts None x is h = subst (λ (y : Option Assigned × Items). FitsAssigned l y.0 × (ts ≡ if_any assigned_yield y.0 y.1)) (same_Some (None, ts) x h) (tt, refl)
  assigned_sound ts (Some sign) x is h =
      bound _ _ _ h (λ d read made.
      let found = default_sound sign.1 d read in
      subst (λ (y : Option Assigned × Items). FitsAssigned l y.0 × (ts ≡ if_any assigned_yield y.0 y.1)) (same_Some (Some (record { sign = sign.0; value = d.0 }), d.1) x made)
      (found.0, takes_ok Assign ts sign is ∙ ap (mark Assign sign.0) found.1))

  assigned_found : (d : Option Assigned) (rest : Items) → FitsAssigned l d → takes Assign rest ≡ None → assigned_in l (if_any assigned_yield d rest) (takes Assign (if_any assigned_yield d rest)) ≡ Some (d, rest)
  unfolding assigned_in
  assigned_found None rest fits none = ap (assigned_in l rest) none
  assigned_found (Some d) rest fits none = rw (default_found d.value rest fits) refl

  fresh_name_sound : (seen : Met) (ts : Items) (x : Name × Items) → fresh_name seen ts ≡ Some x → (is_body x.0.text ≡ false) × (seen x.0.text ≡ false) × (ts ≡ name_yield x.0 x.1)
  fresh_name_sound seen ts x h =
      bound _ _ _ h (λ n read rest. bound _ _ _ rest (λ u other more. bound _ _ _ more (λ v fresh made.
      subst (λ (y : Name × Items). (is_body y.0.text ≡ false) × (seen y.0.text ≡ false) × (ts ≡ name_yield y.0 y.1)) (same_Some n x made)
      (guard_not _ u other, guard_not _ v fresh, taken_name_ok ts n read))))

  -- a parameter
  abbrev ParameterStands : Met → Items → Parameter × Items → Type 0
  ParameterStands seen ts x = FitsParameter l x.0 × (seen x.0.name.text ≡ false) × (ts ≡ parameter_yield x.0 x.1)

  parameter_after_sound : (seen : Met) (at : Option Span) (ts : Items) (x : Parameter × Items) → parameter_after l seen at ts ≡ Some x → ParameterStands seen (if_any (mark At) at ts) x
  unfolding parameter_after
  parameter_after_sound seen at ts x h =
      bound _ _ _ h (λ n named rest. bound _ _ _ rest (λ t typed rest'. bound _ _ _ rest' (λ d defaulted more. bound _ _ _ more (λ u fits made.
      let name = fresh_name_sound seen ts n named in
      let type = annotation_sound n.1 (takes Colon n.1) t refl typed in
      let value = assigned_sound t.1 (takes Assign t.1) d refl defaulted in
      subst (ParameterStands seen (if_any (mark At) at ts)) (same_Some (parameter at n.0 t.0 d.0, d.1) x made)
      ((name.0, type.0, value.0, guard_ok _ u fits), name.1, ap (if_any (mark At) at) (name.2 ∙ ap (name_yield n.0) (type.1 ∙ ap (if_any annotation_yield t.0) value.1)))))))

  parameter_sound : (seen : Met) (ts : Items) (x : Parameter × Items) → parameter_of l seen ts ≡ Some x → ParameterStands seen ts x
  parameter_sound seen ts x h =
      let found = parameter_after_sound seen (at_in ts (takes At ts)).0 (at_in ts (takes At ts)).1 x h in
      (found.0, found.1, at_sound ts (takes At ts) refl ∙ found.2)

  at_found : (at : Option Span) (n : Name) (rest : Items) → at_in (if_any (mark At) at (name_yield n rest)) (takes At (if_any (mark At) at (name_yield n rest))) ≡ (at, name_yield n rest)
  at_found None n rest = refl
  at_found (Some span) n rest = refl

  no_colon : (d : Option Assigned) (rest : Items) → takes Colon rest ≡ None → takes Colon (if_any assigned_yield d rest) ≡ None
  no_colon None rest none = none
  no_colon (Some d) rest none = refl

  parameter_found : (seen : Met) (p : Parameter) (rest : Items) → FitsParameter l p → seen p.name.text ≡ false → takes Colon rest ≡ None → takes Assign rest ≡ None
      → parameter_of l seen (parameter_yield p rest) ≡ Some (p, rest)
  unfolding parameter_after
  parameter_found seen p rest fits fresh colon sign =
      ap (λ (y : Option Span × Items). parameter_after l seen y.0 y.1) (at_found p.at p.name (if_any annotation_yield p.type (if_any assigned_yield p.default rest)))
      ∙ rw (fits.0, fresh, annotation_found p.type (if_any assigned_yield p.default rest) fits.1 (no_colon p.default rest colon), assigned_found p.default rest fits.2 sign, fits.3) refl

  -- parameters
  abbrev ParametersStand : Met → Items → Parameters × Items → Type 0
  ParametersStand seen ts x = FitEach l x.0 × AreNew seen (parameter_names x.0) × (ts ≡ parameters_yield x.0 x.1)

  abbrev AllStand : (Met → Items → Takes Parameters) → Type 0
  AllStand again = (seen : Met) (ts : Items) (x : Parameters × Items) → again seen ts ≡ Some x → ParametersStand seen ts x

  parameters_after_sound : (again : Met → Items → Takes Parameters) → AllStand again → (seen : Met) (p : Parameter) (ts us : Items) (o : Option (Span × Items)) (x : Parameters × Items)
      → ParameterStands seen ts (p, us) → takes RightParen us ≡ o → parameters_after again seen p us o ≡ Some x → ParametersStand seen ts x
  unfolding parameters_after
  parameters_after_sound again goes seen p ts us (Some end) x sound is h =
      subst (ParametersStand seen ts) (same_Some (Final p end.0, end.1) x h)
      (sound.0, (sound.1, tt), sound.2 ∙ ap (parameter_yield p) (takes_ok RightParen us end is))
  parameters_after_sound again goes seen p ts us None x sound is h =
      bound _ _ _ h (λ comma read more. bound _ _ _ more (λ ps others made.
      let then = goes (meet p.name.text seen) comma.1 ps others in
      subst (ParametersStand seen ts) (same_Some (More p comma.0 ps.0, ps.1) x made) (
        (sound.0, then.0),
        (sound.1, then.1),
        sound.2 ∙ ap (parameter_yield p) (takes_ok Comma us comma read ∙ ap (mark Comma comma.0) then.2),
      )))

  parameters_at_sound : (again : Met → Items → Takes Parameters) → AllStand again → (seen : Met) (ts : Items) (o : Option (Span × Items)) (x : Parameters × Items)
      → takes Spread ts ≡ o → parameters_at again l seen ts o ≡ Some x → ParametersStand seen ts x
  unfolding parameters_at
  parameters_at_sound again goes seen ts (Some dots) x is h =
      bound _ _ _ h (λ n named more. bound _ _ _ more (λ end ended made.
      let name = fresh_name_sound seen dots.1 n named in
      subst (ParametersStand seen ts) (same_Some (Rest dots.0 n.0 end.0, end.1) x made) (
        name.0,
        (name.1, tt),
        takes_ok Spread ts dots is ∙ ap (mark Spread dots.0) (name.2 ∙ ap (name_yield n.0) (takes_ok RightParen n.1 end ended)),
      )))
  parameters_at_sound again goes seen ts None x is h =
      bound _ _ _ h (λ p read more.
      parameters_after_sound again goes seen p.0 ts p.1 (takes RightParen p.1) x (parameter_sound seen ts p read) refl more)

  parameters_in_sound : (again : Met → Items → Takes Parameters) → AllStand again → (seen : Met) (ts : Items) (o : Option (Span × Items)) (x : Parameters × Items)
      → takes RightParen ts ≡ o → parameters_in again l seen ts o ≡ Some x → ParametersStand seen ts x
  unfolding parameters_in
  parameters_in_sound again goes seen ts (Some end) x is h =
      subst (ParametersStand seen ts) (same_Some (Closed end.0, end.1) x h) (tt, tt, takes_ok RightParen ts end is)
  parameters_in_sound again goes seen ts None x is h = parameters_at_sound again goes seen ts (takes Spread ts) x refl h

  parameters_by_sound : (n : ℕ) → AllStand (parameters_by n l)
  unfolding parameters_by
  parameters_by_sound zero seen ts x h = cc
  parameters_by_sound (suc n) seen ts x h = parameters_in_sound (parameters_by n l) (parameters_by_sound n) seen ts (takes RightParen ts) x refl h

  parameters_sound : AllStand (parameters_of l)
  unfolding parameters_of
  parameters_sound seen ts x h = parameters_by_sound (suc (size ts)) seen ts x h

  -- the number that bounds them has no say
  abbrev Agree : (Met → Items → Takes Parameters) → (Met → Items → Takes Parameters) → Items → Type 0
  Agree again other ts = (seen : Met) (us : Items) → size us < size ts → again seen us ≡ other seen us

  after_agree : (again other : Met → Items → Takes Parameters) (seen : Met) (p : Parameter) (ts us : Items) → ts ≡ parameter_yield p us → Agree again other ts
      → (o : Option (Span × Items)) → parameters_after again seen p us o ≡ parameters_after other seen p us o
  unfolding parameters_after
  after_agree again other seen p ts us is goes (Some end) = refl
  after_agree again other seen p ts us is goes None =
      bind_both _ _ _ (λ comma read.
      let shorter : size comma.1 < size ts =
      subst (λ v. size comma.1 < size v) (sym (is ∙ ap (parameter_yield p) (takes_ok Comma us comma read))) (omega (arith, parameter_size p (mark Comma comma.0 comma.1))) in
      ap (λ r. r >>= λ ps. Some (More p comma.0 ps.0, ps.1)) (goes (meet p.name.text seen) comma.1 shorter))

  at_agree : (again other : Met → Items → Takes Parameters) (seen : Met) (ts : Items) → Agree again other ts
      → (o : Option (Span × Items)) → parameters_at again l seen ts o ≡ parameters_at other l seen ts o
  unfolding parameters_at
  at_agree again other seen ts goes (Some dots) = refl
  at_agree again other seen ts goes None =
      bind_both _ _ _ (λ p read. after_agree again other seen p.0 ts p.1 (parameter_sound seen ts p read).2 goes (takes RightParen p.1))

  in_agree : (again other : Met → Items → Takes Parameters) (seen : Met) (ts : Items) → Agree again other ts
      → (o : Option (Span × Items)) → parameters_in again l seen ts o ≡ parameters_in other l seen ts o
  unfolding parameters_in
  in_agree again other seen ts goes (Some end) = refl
  in_agree again other seen ts goes None = at_agree again other seen ts goes (takes Spread ts)

  parameters_agree : (n k : ℕ) (seen : Met) (ts : Items) → size ts < n → size ts < k → parameters_by n l seen ts ≡ parameters_by k l seen ts
  unfolding parameters_by
  parameters_agree zero k seen ts hn hk = absurd (omega arith)
  parameters_agree (suc n) zero seen ts hn hk = absurd (omega arith)
  parameters_agree (suc n) (suc k) seen ts hn hk =
      in_agree (parameters_by n l) (parameters_by k l) seen ts (λ s us lt. parameters_agree n k s us (omega arith) (omega arith)) (takes RightParen ts)

  -- parameters, by what comes next
  pub parameters_steps : (seen : Met) (ts : Items) → parameters_of l seen ts ≡ parameters_in (parameters_of l) l seen ts (takes RightParen ts)
  unfolding parameters_of parameters_by
  parameters_steps seen ts =
      in_agree (parameters_by (size ts) l) (parameters_of l) seen ts (λ s us lt. parameters_agree (size ts) (suc (size us)) s us lt (omega arith)) (takes RightParen ts)

  no_end : (at : Option Span) (n : Name) (rest : Items) → takes RightParen (if_any (mark At) at (name_yield n rest)) ≡ None
  no_end None n rest = refl
  no_end (Some span) n rest = refl

  no_dots : (at : Option Span) (n : Name) (rest : Items) → takes Spread (if_any (mark At) at (name_yield n rest)) ≡ None
  no_dots None n rest = refl
  no_dots (Some span) n rest = refl

  -- what is read at a parameter
  read_after : (seen : Met) (p : Parameter) (us : Items) → FitsParameter l p → seen p.name.text ≡ false → takes Colon us ≡ None → takes Assign us ≡ None
      → parameters_of l seen (parameter_yield p us) ≡ parameters_after (parameters_of l) seen p us (takes RightParen us)
  unfolding parameters_in parameters_at
  read_after seen p us fits fresh colon sign =
      let following = if_any annotation_yield p.type (if_any assigned_yield p.default us) in
      parameters_steps seen (parameter_yield p us)
      ∙ ap (parameters_in (parameters_of l) l seen (parameter_yield p us)) (no_end p.at p.name following)
      ∙ ap (parameters_at (parameters_of l) l seen (parameter_yield p us)) (no_dots p.at p.name following)
      ∙ ap (λ o. o >>= λ q. parameters_after (parameters_of l) seen q.0 q.1 (takes RightParen q.1)) (parameter_found seen p us fits fresh colon sign)

  parameters_found : (ps : Parameters) (seen : Met) (rest : Items) → FitEach l ps → AreNew seen (parameter_names ps) → parameters_of l seen (parameters_yield ps rest) ≡ Some (ps, rest)
  unfolding parameters_in parameters_at parameters_after
  parameters_found (Closed end) seen rest fits new = parameters_steps seen _
  parameters_found (Rest dots n end) seen rest fits new =
      parameters_steps seen (parameters_yield (Rest dots n end) rest) ∙ rw (fits, new.0) refl
  parameters_found (Final p end) seen rest fits new =
      read_after seen p (mark RightParen end rest) fits new.0 refl refl
  parameters_found (More p comma ps) seen rest fits new =
      read_after seen p (mark Comma comma (parameters_yield ps rest)) fits.0 new.0 refl refl
      ∙ ap (λ o. o >>= λ qs. Some (More p comma qs.0, qs.1))
      (parameters_found ps (meet p.name.text seen) rest fits.1 new.1)

  -- metadata
  metadata_sound : (ts : Items) (b : Bool) (x : Option LiteralMap × Items) → metadata_in l ts b ≡ Some x → FitsMetadata l x.0 × (ts ≡ if_any map_yield x.0 x.1)
  unfolding metadata_in
  metadata_sound ts false x h = subst (λ (y : Option LiteralMap × Items). FitsMetadata l y.0 × (ts ≡ if_any map_yield y.0 y.1)) (same_Some (None, ts) x h) (tt, refl)
  metadata_sound ts true x h =
      bound _ _ _ h (λ m read made.
      let found = map_sound l ts m read in
      subst (λ (y : Option LiteralMap × Items). FitsMetadata l y.0 × (ts ≡ if_any map_yield y.0 y.1)) (same_Some (Some m.0, m.1) x made) (found.0, found.1))

  metadata_found : (m : Option LiteralMap) (rest : Items) → FitsMetadata l m → begins LeftBrace rest ≡ false → metadata_in l (if_any map_yield m rest) (begins LeftBrace (if_any map_yield m rest)) ≡ Some (m, rest)
  unfolding metadata_in
  metadata_found None rest fits none = ap (metadata_in l rest) none
  metadata_found (Some m) rest fits none =
      let (span, items, is) = map_begins m rest in
      let begins : begins LeftBrace (map_yield m rest) ≡ true = ap (begins LeftBrace) is in
      ap (metadata_in l (map_yield m rest)) begins ∙ ap (λ o. o >>= λ n. Some (Some n.0, n.1)) (map_found l m rest fits)

  pub record OpenedStands (seen : Met) (ts : Items) (x : Opened × Items) : Type 0 where
    pub fresh : seen (component_text x.0.name) ≡ false
    pub parameters : FitParameters l x.0.parameters
    pub metadata : FitsMetadata l x.0.metadata
    pub tokens : ts ≡ opened_yield x.0 x.1

  pub opened_sound : (seen : Met) (ts : Items) (x : Opened × Items) → opened_of l seen ts ≡ Some x → OpenedStands seen ts x
  unfolding opened_of
  opened_sound seen ts x h =
      bound _ _ _ h (λ n named rest1. bound _ _ _ rest1 (λ u fresh rest2. bound _ _ _ rest2 (λ paren opened rest3. bound _ _ _ rest3 (λ ps listed rest4. bound _ _ _ rest4 (λ m meant more. bound _ _ _ more (λ f ended made.
      let parameters = parameters_sound nothing_met paren.1 ps listed in
      let metadata = metadata_sound ps.1 (begins LeftBrace ps.1) m meant in
      subst (OpenedStands seen ts) (same_Some (record { name = n.0; paren = paren.0; parameters = ps.0; metadata = m.0; finish = f.0 }, f.1) x made) (record {
        fresh = guard_not _ u fresh;
        parameters = (parameters.0, new_distinct nothing_met (parameter_names ps.0) parameters.1);
        metadata = metadata.0;
        tokens = component_sound ts n named ∙ ap (component_yield n.0) (takes_ok LeftParen n.1 paren opened ∙ ap (mark LeftParen paren.0)
            (parameters.2 ∙ ap (parameters_yield ps.0) (metadata.1 ∙ ap (if_any map_yield m.0) (finish_sound m.1 f ended))));
      })))))))

  pub opened_found : (seen : Met) (o : Opened) (rest : Items) → seen (component_text o.name) ≡ false → FitParameters l o.parameters → FitsMetadata l o.metadata
      → opened_of l seen (opened_yield o rest) ≡ Some (o, rest)
  unfolding opened_of
  opened_found seen o rest fresh parameters metadata =
      rw (
        component_found o.name (mark LeftParen o.paren (parameters_yield o.parameters (if_any map_yield o.metadata (finish_yield o.finish rest)))) refl,
        fresh,
        parameters_found o.parameters nothing_met (if_any map_yield o.metadata (finish_yield o.finish rest)) parameters.0 (all_new (parameter_names o.parameters) parameters.1),
        metadata_found o.metadata (finish_yield o.finish rest) metadata refl,
      ) refl

  -- the closing tag
  end_name_sound : (ts : Items) (b : Bool) (x : Option ComponentName × Items) → end_name_in ts b ≡ Some x → ts ≡ if_any component_yield x.0 x.1
  unfolding end_name_in
  end_name_sound ts false x h = subst (λ (y : Option ComponentName × Items). ts ≡ if_any component_yield y.0 y.1) (same_Some (None, ts) x h) refl
  end_name_sound ts true x h =
      bound _ _ _ h (λ n read made.
      subst (λ (y : Option ComponentName × Items). ts ≡ if_any component_yield y.0 y.1) (same_Some (Some n.0, n.1) x made) (component_sound ts n read))

  end_name_found : (n : Option ComponentName) (e : Edge) (rest : Items) →
      end_name_in (if_any component_yield n (finish_yield e rest)) (is_name (if_any component_yield n (finish_yield e rest))) ≡ Some (n, finish_yield e rest)
  unfolding end_name_in
  end_name_found None e rest = refl
  end_name_found (Some n) e rest =
      let (text, span, items, is) = component_begins n (finish_yield e rest) in
      let begins : is_name (component_yield n (finish_yield e rest)) ≡ true = ap is_name is in
      ap (end_name_in (component_yield n (finish_yield e rest))) begins ∙ ap (λ o. o >>= λ m. Some (Some m.0, m.1)) (component_found n (finish_yield e rest) refl)

  pub record EndingStands (start : Edge) (first : Span) (o : Opened) (ts : Items) (x : Head × Items) : Type 0 where
    pub tokens : ts ≡ ending_yield x.0 x.1
    pub opened : (items : Items) → start_yield start (Token (opener_token OpensComponent) first (opened_yield o items)) ≡ head_yield x.0 items
    pub fits : FitParameters l o.parameters → FitsMetadata l o.metadata → FitsHead l x.0
    pub name : x.0.name ≡ o.name
    pub parameters : x.0.parameters ≡ o.parameters

  pub ending_sound : (start : Edge) (first : Span) (o : Opened) (ts : Items) (x : Head × Items) → ending_of start first o ts ≡ Some x → EndingStands start first o ts x
  unfolding ending_of
  ending_sound start first o ts x h =
      bound _ _ _ h (λ e sound rest1. bound _ _ _ rest1 (λ n named rest2. bound _ _ _ rest2 (λ u agreed more. bound _ _ _ more (λ f ended made.
      subst (EndingStands start first o ts) (same_Some (head start first o e.0.0 e.0.1 n.0 f.0, f.1) x made) (record {
        tokens = closed_sound AtEndComponent ts e sound
            ∙ ap (λ v. start_yield e.0.0 (Token (closer_token AtEndComponent) e.0.1 v)) (end_name_sound e.1 (is_name e.1) n named ∙ ap (if_any component_yield n.0) (finish_sound n.1 f ended));
        opened = λ items. refl;
        fits = λ parameters metadata. (parameters, metadata, guard_ok _ u agreed);
        name = refl;
        parameters = refl;
      })))))

  pub ending_found : (h : Head) (rest : Items) → agrees (component_text h.name) (component_texts h.end_name) ≡ true → ending_of h.tag.start h.tag.first (opened_part h) (ending_yield h rest) ≡ Some (h, rest)
  unfolding ending_of
  ending_found h rest agreed = rw (end_name_found h.end_name h.ending.finish rest, agreed) refl
