-- The parts of tags are read locally: heads of statements, and tags of definitions.
use Rattle.std.proofs.Common.{◌≡◌, ℕ, zero, suc, ◌<◌, ◌≤◌, arith, Bool, true, false, not, cond, Option, Some, None, refl, sym, ap}
use Rattle.tera_base.specs.declared.utils.Span.{Span}
use Rattle.tera_lexer.specs.code.Cursors.{size}
use Rattle.tera_lexer.specs.grammar.Tokens.{Tok, Items, Ended, Failed, Token, Ident, Symbol}
use Rattle.tera_grammar.specs.Words.{is_none, is_reserved}
use Rattle.tera_grammar.specs.expressions.Operators.{Minus, In}
use Rattle.tera_grammar.specs.expressions.Marks.{Mark, mark_token, LeftParen, RightParen, LeftBracket, LeftBrace, Comma, Colon, Bar, Spread, Assign, At, Operation}
use Rattle.tera_grammar.specs.expressions.Reading.Front.{at, same_token, begins, among, literal_of, mark_kind, name_kind, takes, taken_name}
use Rattle.tera_grammar.specs.statements.Expressions.{Limits, component_text}
use Rattle.tera_grammar.specs.statements.Heads.{Filters, NoFilters, Piped}
use Rattle.tera_grammar.specs.statements.Components.{LiteralDefault, NothingDefault, ArrayDefault, MapDefault, Parameter, is_known, is_body, Parameters, Closed, Rest, Final, More}
use Rattle.tera_grammar.specs.statements.Reading.Components.{default_marks, parameter, is_name, minus_kind, default_by, default_at, default_of, annotation_in, assigned_in, fresh_name, typed_well, parameter_after, parameter_by, parameter_of, parameters_after, parameters_at, parameters_in, parameters_by, parameters_of, metadata_in, opened_of, end_name_in}
use Rattle.tera_grammar.specs.statements.Reading.Meeting.{Met, meet, nothing_met}
use Rattle.tera_grammar.specs.Reads.{found, stopped, ◌>>=◌, given, holds, Takes}
use Rattle.tera_grammar.specs.expressions.Reading.Atoms.{variables_of}
use Rattle.tera_grammar.specs.expressions.Reading.Whole.{left_over, expression_of, filter_of, path_of, array_after, map_after, literal_map_of}
use Rattle.tera_grammar.specs.statements.Reading.TagParts.{name_if_found, name_if_any, finish_kind, finish_of}
use Rattle.tera_grammar.specs.statements.Reading.Heads.{free_name, loop_of, filters_in, filters_by, filters_of}
use Rattle.tera_grammar.proofs.stops.Local.{SameHead, at_token, items_after, local_stop, local_near, local_past, local_enough, bind_both, first_local}
use Rattle.tera_grammar.proofs.stops.Atoms.{variables_local}
use Rattle.tera_grammar.proofs.stops.Whole.{IsTaken, done, follow, taken_size, local_holds, ask_first, left_local, expression_local, filter_local, path_local, array_after_local, map_after_local, literal_map_local, takes_local, takes_less, taken_name_local}

pub finish_local : (ts : Items) → IsTaken finish_of ts
finish_local ts = first_local finish_kind ts

halt : {A : Type 0} (ts : Items) → IsTaken {A = A} (λ us. stopped us) ts
halt ts = local_stop items_after at_token ts

either : {A : Type 0} (b : Bool) (f g : Items → Takes A) (ts : Items) → IsTaken f ts → IsTaken g ts → IsTaken (λ us. cond b (f us) (g us)) ts
either true f g ts one two = one
either false f g ts one two = two

checked : {A : Type 0} (c : Bool) (g : Items → Takes A) (ts : Items) → IsTaken g ts → IsTaken (λ us. holds us c >>= λ u. g us) ts
checked c g ts one = local_holds items_after at_token c g ts one

known : {A B : Type 0} (o : Option A) (g : A → Items → Takes B) (ts : Items) → ((x : A) → IsTaken (g x) ts) → IsTaken (λ us. given us o >>= λ x. g x us) ts
known None g ts goes = halt ts
known (Some x) g ts goes = goes x

pub name_if_any_local : (ts : Items) → IsTaken name_if_any ts
name_if_any_local ts =
    ask_first items_after at_token name_kind name_if_found (λ n us. found (Some n, us)) (λ us. found (None, us)) (λ us x. refl) (λ us z. refl) ts
    (λ t s us x is. done us (Some x)) (done ts None)

-- heads
pub free_name_local : (ts : Items) → IsTaken free_name ts
free_name_local ts =
    follow taken_name (λ n us. cond (is_reserved n.text) (stopped us) (found (n, us))) ts (taken_name_local ts)
    (λ n us read. either (is_reserved n.text) (λ vs. stopped vs) (λ vs. found (n, vs)) us (halt us) (done us n))

pub loop_head_local : (l : Limits) (ts : Items) → IsTaken (loop_of l) ts
unfolding loop_of
loop_head_local l ts =
    follow (λ us. left_over (variables_of (at 0 us)))
    (λ v us. takes (Operation In) us >>= λ w. expression_of l true w.1 >>= λ e. found (record { first = v.0; second = v.1; word = w.0; target = e.0 }, e.1)) ts
    (left_local (λ us. variables_of (at 0 us)) ts (variables_local 0 ts))
    (λ v us named. follow (takes (Operation In)) (λ w vs. expression_of l true vs >>= λ e. found (record { first = v.0; second = v.1; word = w; target = e.0 }, e.1)) us (takes_local (Operation In) us)
    (λ w vs word. follow (expression_of l true) (λ e xs. found (record { first = v.0; second = v.1; word = w; target = e }, xs)) vs (expression_local l true vs)
    (λ e xs read. done xs (record { first = v.0; second = v.1; word = w; target = e }))))

piped : Limits → Bool → (Items → Takes Filters) → Span → Items → Takes Filters
piped l b again s us = filter_of l b us >>= λ f. again f.1 >>= λ fs. found (Piped s f.0 fs.0, fs.1)

filters_by_local : (n : ℕ) (l : Limits) (b : Bool) (ts : Items) → IsTaken (filters_by n l b) ts
unfolding filters_by filters_in
filters_by_local zero l b ts = halt ts
filters_by_local (suc n) l b ts =
    ask_first items_after at_token (mark_kind Bar) (filters_in (filters_by n l b) l b) (λ s us. filter_of l b us >>= λ f. filters_by n l b f.1 >>= λ fs. found (Piped s f.0 fs.0, fs.1)) (λ us. found (NoFilters, us))
    (λ us x. refl) (λ us z. refl) ts
    (λ t r us s is. follow (filter_of l b) (λ f vs. filters_by n l b vs >>= λ fs. found (Piped s f fs.0, fs.1)) us (filter_local l b us)
    (λ f vs read. follow (filters_by n l b) (λ fs xs. found (Piped s f fs, xs)) vs (filters_by_local n l b vs) (λ fs xs rest. done xs (Piped s f fs))))
    (done ts NoFilters)

filters_stable : (l : Limits) (b : Bool) (n m : ℕ) (ts : Items) → size ts < n → size ts < m → filters_by n l b ts ≡ filters_by m l b ts
unfolding filters_by filters_in
filters_stable l b zero m ts x y = absurd (omega (arith, x))
filters_stable l b (suc n) zero ts x y = absurd (omega (arith, y))
filters_stable l b (suc n) (suc m) ts x y = by (takes Bar ts) refl (filters_stable l b n m)
  where
    by : (o : Takes Span) → takes Bar ts ≡ o → ((us : Items) → size us < n → size us < m → filters_by n l b us ≡ filters_by m l b us)
        → filters_in (filters_by n l b) l b ts o ≡ filters_in (filters_by m l b) l b ts o
    by (stopped z) is again = refl
    by (found s) is again =
        let one = takes_less Bar ts s is in
        bind_both (filter_of l b s.1) _ _ (λ f read.
        let two = taken_size (filter_of l b) s.1 f (filter_local l b s.1) read in
        ap (λ o. o >>= λ fs. found (Piped s.0 f.0 fs.0, fs.1)) (again f.1 (omega (arith, x, one, two)) (omega (arith, y, one, two))))

pub filters_steps : (l : Limits) (b : Bool) (ts : Items) → filters_of l b ts ≡ filters_in (filters_of l b) l b ts (takes Bar ts)
unfolding filters_of filters_by filters_in
filters_steps l b ts = by (takes Bar ts) refl
  where
    by : (o : Takes Span) → takes Bar ts ≡ o → filters_in (filters_by (size ts) l b) l b ts o ≡ filters_in (filters_of l b) l b ts o
    by (stopped z) is = refl
    by (found s) is =
        let one = takes_less Bar ts s is in
        bind_both (filter_of l b s.1) _ _ (λ f read.
        let two = taken_size (filter_of l b) s.1 f (filter_local l b s.1) read in
        ap (λ o. o >>= λ fs. found (Piped s.0 f.0 fs.0, fs.1)) (filters_stable l b (size ts) (suc (size f.1)) f.1 (omega (arith, one, two)) (omega arith)))

pub filters_local : (l : Limits) (b : Bool) (ts : Items) → IsTaken (filters_of l b) ts
unfolding filters_of
filters_local l b ts = local_enough items_after at_token at_token (λ n us. filters_by n l b us) (filters_stable l b) (λ n us. filters_by_local n l b us) ts

-- defaults
default_by_local : (l : Limits) (m : Mark) (s : Span) (ts : Items) → IsTaken (default_by l m s) ts
unfolding default_by
default_by_local l (Operation Minus) s ts = first_local (minus_kind s) ts
default_by_local l LeftBracket s ts = follow (array_after l s) (λ a us. found (ArrayDefault a, us)) ts (array_after_local l s ts) (λ a us read. done us (ArrayDefault a))
default_by_local l LeftBrace s ts = follow (map_after l s) (λ m us. found (MapDefault m, us)) ts (map_after_local l s ts) (λ m us read. done us (MapDefault m))
default_by_local l _ s ts = halt ts

default_at_local : (l : Limits) (t : Tok) (s : Span) (ts : Items) → IsTaken (default_at l t s) ts
unfolding default_at
default_at_local l (Ident text) s ts = checked (is_none text) (λ us. found (NothingDefault (record { text = text; span = s }), us)) ts (done ts (NothingDefault (record { text = text; span = s })))
default_at_local l (Symbol op) s ts = default_by_local l (among default_marks (Symbol op)) s ts
default_at_local l t s ts = known (literal_of t) (λ x us. found (LiteralDefault x s, us)) ts (λ x. done ts (LiteralDefault x s))

default_local : (l : Limits) (ts : Items) → IsTaken (default_of l) ts
unfolding default_of
default_local l (Token t s us) = local_past items_after at_token at_token (default_of l) (default_at l t s) t s us (λ vs. refl) (default_at_local l t s us)
default_local l Ended = local_near items_after at_token at_token (default_of l) stopped Ended refl (λ vs h. rw h refl) (halt Ended)
default_local l (Failed text there) = local_near items_after at_token at_token (default_of l) stopped (Failed text there) refl (λ vs h. rw h refl) (halt (Failed text there))

-- parameters
annotation_local : (ts : Items) → IsTaken (λ us. annotation_in us (takes Colon us)) ts
unfolding annotation_in
annotation_local ts =
    ask_first items_after at_token (mark_kind Colon) annotation_in
    (λ s us. taken_name us >>= λ n. holds n.1 (is_known (Some (record { colon = s; name = n.0 }))) >>= λ u. found (Some (record { colon = s; name = n.0 }), n.1)) (λ us. found (None, us))
    (λ us x. refl) (λ us z. refl) ts
    (λ t r us s is. follow taken_name (λ n vs. holds vs (is_known (Some (record { colon = s; name = n }))) >>= λ u. found (Some (record { colon = s; name = n }), vs)) us (taken_name_local us)
    (λ n vs read. checked (is_known (Some (record { colon = s; name = n }))) (λ xs. found (Some (record { colon = s; name = n }), xs)) vs (done vs (Some (record { colon = s; name = n })))))
    (done ts None)

assigned_local : (l : Limits) (ts : Items) → IsTaken (λ us. assigned_in l us (takes Assign us)) ts
unfolding assigned_in
assigned_local l ts =
    ask_first items_after at_token (mark_kind Assign) (assigned_in l) (λ s us. default_of l us >>= λ d. found (Some (record { sign = s; value = d.0 }), d.1)) (λ us. found (None, us))
    (λ us x. refl) (λ us z. refl) ts
    (λ t r us s is. follow (default_of l) (λ d vs. found (Some (record { sign = s; value = d }), vs)) us (default_local l us) (λ d vs read. done vs (Some (record { sign = s; value = d }))))
    (done ts None)

fresh_local : (seen : Met) (ts : Items) → IsTaken (fresh_name seen) ts
fresh_local seen ts =
    follow taken_name (λ n us. holds us (not (is_body n.text)) >>= λ u. holds us (not (seen n.text)) >>= λ v. found (n, us)) ts (taken_name_local ts)
    (λ n us read. checked (not (is_body n.text)) (λ vs. holds vs (not (seen n.text)) >>= λ v. found (n, vs)) us
    (checked (not (seen n.text)) (λ vs. found (n, vs)) us (done us n)))

after_local : (l : Limits) (seen : Met) (p : Option Span) (ts : Items) → IsTaken (parameter_after l seen p) ts
unfolding parameter_after
after_local l seen p ts =
    follow (fresh_name seen)
    (λ n us. annotation_in us (takes Colon us) >>= λ t. assigned_in l t.1 (takes Assign t.1) >>= λ d. holds d.1 (typed_well p n t.0 d.0) >>= λ u. found (parameter p n t.0 d.0, d.1)) ts (fresh_local seen ts)
    (λ n us named. follow (λ vs. annotation_in vs (takes Colon vs)) (λ t vs. assigned_in l vs (takes Assign vs) >>= λ d. holds d.1 (typed_well p n t d.0) >>= λ u. found (parameter p n t d.0, d.1)) us (annotation_local us)
    (λ t vs typed. follow (λ xs. assigned_in l xs (takes Assign xs)) (λ d xs. holds xs (typed_well p n t d) >>= λ u. found (parameter p n t d, xs)) vs (assigned_local l vs)
    (λ d xs default. checked (typed_well p n t d) (λ ys. found (parameter p n t d, ys)) xs (done xs (parameter p n t d)))))

parameter_local : (l : Limits) (seen : Met) (ts : Items) → IsTaken (parameter_of l seen) ts
parameter_local l seen ts =
    ask_first items_after at_token (mark_kind At) (parameter_by l seen) (λ s us. parameter_after l seen (Some s) us) (λ us. parameter_after l seen None us) (λ us x. refl) (λ us z. refl) ts
    (λ t r us s is. after_local l seen (Some s) us) (after_local l seen None ts)

module _ (again : Met → Items → Takes Parameters) (goes : (seen : Met) (ts : Items) → IsTaken (again seen) ts) (l : Limits) (seen : Met) where
  more_local : (p : Parameter) (ts : Items) → IsTaken (λ us. parameters_after again seen p us (takes RightParen us)) ts
  unfolding parameters_after
  more_local p ts =
      ask_first items_after at_token (mark_kind RightParen) (parameters_after again seen p) (λ s us. found (Final p s, us))
      (λ us. takes Comma us >>= λ c. again (meet p.name.text seen) c.1 >>= λ ps. found (More p c.0 ps.0, ps.1)) (λ us x. refl) (λ us z. refl) ts
      (λ t r us s is. done us (Final p s))
      (follow (takes Comma) (λ c us. again (meet p.name.text seen) us >>= λ ps. found (More p c ps.0, ps.1)) ts (takes_local Comma ts)
      (λ c us comma. follow (again (meet p.name.text seen)) (λ ps vs. found (More p c ps, vs)) us (goes (meet p.name.text seen) us) (λ ps vs rest. done vs (More p c ps))))

  at_local : (ts : Items) → IsTaken (λ us. parameters_at again l seen us (takes Spread us)) ts
  unfolding parameters_at
  at_local ts =
      ask_first items_after at_token (mark_kind Spread) (parameters_at again l seen)
      (λ s us. fresh_name seen us >>= λ n. takes RightParen n.1 >>= λ e. found (Rest s n.0 e.0, e.1))
      (λ us. parameter_of l seen us >>= λ p. parameters_after again seen p.0 p.1 (takes RightParen p.1)) (λ us x. refl) (λ us z. refl) ts
      (λ t r us s is. follow (fresh_name seen) (λ n vs. takes RightParen vs >>= λ e. found (Rest s n e.0, e.1)) us (fresh_local seen us)
      (λ n vs named. follow (takes RightParen) (λ e xs. found (Rest s n e, xs)) vs (takes_local RightParen vs) (λ e xs closed. done xs (Rest s n e))))
      (follow (parameter_of l seen) (λ p us. parameters_after again seen p us (takes RightParen us)) ts (parameter_local l seen ts) (λ p us read. more_local p us))

  in_local : (ts : Items) → IsTaken (λ us. parameters_in again l seen us (takes RightParen us)) ts
  unfolding parameters_in
  in_local ts =
      ask_first items_after at_token (mark_kind RightParen) (parameters_in again l seen) (λ s us. found (Closed s, us)) (λ us. parameters_at again l seen us (takes Spread us)) (λ us x. refl) (λ us z. refl) ts
      (λ t r us s is. done us (Closed s)) (at_local ts)

parameters_by_local : (n : ℕ) (l : Limits) (seen : Met) (ts : Items) → IsTaken (parameters_by n l seen) ts
unfolding parameters_by
parameters_by_local zero l seen ts = halt ts
parameters_by_local (suc n) l seen ts = in_local (parameters_by n l) (parameters_by_local n l) l seen ts

-- more turns than tokens are as good as any other number of them
module _ (l : Limits) (again other : Met → Items → Takes Parameters) (seen : Met) (ts : Items) (same : (seen : Met) (us : Items) → size us < size ts → again seen us ≡ other seen us) where
  more_same : (p : Parameter) (us : Items) → size us ≤ size ts → (o : Takes Span) → takes RightParen us ≡ o → parameters_after again seen p us o ≡ parameters_after other seen p us o
  unfolding parameters_after
  more_same p us le (found s) is = refl
  more_same p us le (stopped z) is =
      bind_both (takes Comma us) _ _ (λ c read.
      let less = takes_less Comma us c read in
      ap (λ o. o >>= λ ps. found (More p c.0 ps.0, ps.1)) (same (meet p.name.text seen) c.1 (omega (arith, less, le))))

  at_same : (o : Takes Span) → parameters_at again l seen ts o ≡ parameters_at other l seen ts o
  unfolding parameters_at
  at_same (found s) = refl
  at_same (stopped z) =
      bind_both (parameter_of l seen ts) _ _ (λ p read.
      more_same p.0 p.1 (taken_size (parameter_of l seen) ts p (parameter_local l seen ts) read) (takes RightParen p.1) refl)

  in_same : (o : Takes Span) → parameters_in again l seen ts o ≡ parameters_in other l seen ts o
  unfolding parameters_in
  in_same (found s) = refl
  in_same (stopped z) = at_same (takes Spread ts)

parameters_stable : (l : Limits) (seen : Met) (n m : ℕ) (ts : Items) → size ts < n → size ts < m → parameters_by n l seen ts ≡ parameters_by m l seen ts
unfolding parameters_by
parameters_stable l seen zero m ts x y = absurd (omega (arith, x))
parameters_stable l seen (suc n) zero ts x y = absurd (omega (arith, y))
parameters_stable l seen (suc n) (suc m) ts x y =
    in_same l (parameters_by n l) (parameters_by m l) seen ts (λ met us lt. parameters_stable l met n m us (omega (arith, x, lt)) (omega (arith, y, lt))) (takes RightParen ts)

pub parameters_steps : (l : Limits) (seen : Met) (ts : Items) → parameters_of l seen ts ≡ parameters_in (parameters_of l) l seen ts (takes RightParen ts)
unfolding parameters_of parameters_by
parameters_steps l seen ts =
    in_same l (parameters_by (size ts) l) (parameters_of l) seen ts (λ met us lt. parameters_stable l met (size ts) (suc (size us)) us lt (omega arith)) (takes RightParen ts)

parameters_local : (l : Limits) (seen : Met) (ts : Items) → IsTaken (parameters_of l seen) ts
unfolding parameters_of
parameters_local l seen ts = local_enough items_after at_token at_token (λ n us. parameters_by n l seen us) (parameters_stable l seen) (λ n us. parameters_by_local n l seen us) ts

-- whether a mark, and a name, comes next
begins_same : (m : Mark) (ts us : Items) → SameHead ts us → begins m ts ≡ begins m us
begins_same m (Token t s us) (Token u r vs) h = ap (λ w. same_token w (mark_token m)) h.0
begins_same m (Token t s us) Ended h = absurd h
begins_same m (Token t s us) (Failed text there) h = absurd h
begins_same m Ended us h = rw h refl
begins_same m (Failed text there) us h = rw h refl

is_name_same : (ts us : Items) → SameHead ts us → is_name ts ≡ is_name us
is_name_same (Token t s us) (Token u r vs) h = ap (λ w. is_name (Token w s us)) h.0
is_name_same (Token t s us) Ended h = absurd h
is_name_same (Token t s us) (Failed text there) h = absurd h
is_name_same Ended us h = rw h refl
is_name_same (Failed text there) us h = rw h refl

head_self : (us : Items) → SameHead us us
head_self (Token t s us) = (refl, refl)
head_self (Failed text there) = refl
head_self Ended = refl

chosen : {A : Type 0} (f : Items → Bool → Takes A) (test : Items → Bool) → ((ts us : Items) → SameHead ts us → test ts ≡ test us) → (ts : Items)
    → IsTaken (λ us. f us (test ts)) ts → IsTaken (λ us. f us (test us)) ts
chosen f test same ts one = local_near items_after at_token at_token (λ us. f us (test us)) (λ us. f us (test ts)) ts (head_self ts) (λ us h. ap (f us) (sym (same ts us h))) one

metadata_local : (l : Limits) (ts : Items) → IsTaken (λ us. metadata_in l us (begins LeftBrace us)) ts
unfolding metadata_in
metadata_local l ts = chosen (metadata_in l) (begins LeftBrace) (begins_same LeftBrace) ts (by (begins LeftBrace ts))
  where
    by : (b : Bool) → IsTaken (λ us. metadata_in l us b) ts
    by false = done ts None
    by true = follow (literal_map_of l) (λ m us. found (Some m, us)) ts (literal_map_local l ts) (λ m us read. done us (Some m))

pub end_name_local : (ts : Items) → IsTaken (λ us. end_name_in us (is_name us)) ts
unfolding end_name_in
end_name_local ts = chosen end_name_in is_name is_name_same ts (by (is_name ts))
  where
    by : (b : Bool) → IsTaken (λ us. end_name_in us b) ts
    by false = done ts None
    by true = follow path_of (λ n us. found (Some n, us)) ts (path_local ts) (λ n us read. done us (Some n))

pub opened_local : (l : Limits) (seen : Met) (ts : Items) → IsTaken (opened_of l seen) ts
unfolding opened_of
opened_local l seen ts =
    follow path_of
    (λ n us. holds us (not (seen (component_text n))) >>= λ u. takes LeftParen us >>= λ paren. parameters_of l nothing_met paren.1 >>= λ ps. metadata_in l ps.1 (begins LeftBrace ps.1) >>= λ m. finish_of m.1 >>= λ f.
    found (record { name = n; paren = paren.0; parameters = ps.0; metadata = m.0; finish = f.0 }, f.1)) ts (path_local ts)
    (λ n us named. checked (not (seen (component_text n)))
    (λ vs. takes LeftParen vs >>= λ paren. parameters_of l nothing_met paren.1 >>= λ ps. metadata_in l ps.1 (begins LeftBrace ps.1) >>= λ m. finish_of m.1 >>= λ f.
    found (record { name = n; paren = paren.0; parameters = ps.0; metadata = m.0; finish = f.0 }, f.1)) us
    (follow (takes LeftParen)
    (λ paren vs. parameters_of l nothing_met vs >>= λ ps. metadata_in l ps.1 (begins LeftBrace ps.1) >>= λ m. finish_of m.1 >>= λ f.
    found (record { name = n; paren = paren; parameters = ps.0; metadata = m.0; finish = f.0 }, f.1)) us (takes_local LeftParen us)
    (λ paren vs begun. follow (parameters_of l nothing_met)
    (λ ps xs. metadata_in l xs (begins LeftBrace xs) >>= λ m. finish_of m.1 >>= λ f. found (record { name = n; paren = paren; parameters = ps; metadata = m.0; finish = f.0 }, f.1)) vs (parameters_local l nothing_met vs)
    (λ ps xs read. follow (λ ys. metadata_in l ys (begins LeftBrace ys))
    (λ m ys. finish_of ys >>= λ f. found (record { name = n; paren = paren; parameters = ps; metadata = m; finish = f.0 }, f.1)) xs (metadata_local l xs)
    (λ m ys reported. follow finish_of (λ f zs. found (record { name = n; paren = paren; parameters = ps; metadata = m; finish = f }, zs)) ys (finish_local ys)
    (λ f zs ended. done zs (record { name = n; paren = paren; parameters = ps; metadata = m; finish = f })))))))
