-- Steps of the reading over a stack, as the code takes them.
use Rattle.std.proofs.Common.{◌≡◌, ◌⊎◌, inl, inr, ⊎_elim, ℕ, Bool, true, false, cond, List, [], ◌∷◌, ◌++◌, ◌+◌, length, Some, None, Ok, Err, refl, sym, ap, subst, ◌∙◌}
use Rattle.std.specs.Borrow.{Bor}
use Rattle.std.proofs.lemmas.List.{length-append}
use Rattle.tera_lexer.specs.code.Seen.{seen}
use Rattle.tera_lexer.specs.declared.lexer.tokens.Token.{Token as Lexed}
use Rattle.tera_lexer.specs.declared.lexer.tokens.Token.TheVariants as lexed
use Rattle.tera_base.specs.Errors.{IsMemory}
use Rattle.tera_base.specs.Values as values
use Rattle.tera_base.specs.declared.utils.Span.{Span}
use Rattle.tera_base.specs.declared.errors.Error.{Error}
use Rattle.tera_lexer.specs.grammar.Tokens as toks
use Rattle.tera_lexer.specs.grammar.Tokens.{Tok, Items, Ended, Failed, Token, Ident, Symbol}
use Rattle.tera_ast.specs.Tree as tree
use Rattle.tera_grammar.specs.Words.{is_none, is_not}
use Rattle.tera_grammar.specs.Reads.{Read, found, stopped, ◌>>=◌, given, Fails}
use Rattle.tera_grammar.specs.expressions.Operators.{BinaryOperator, Minus}
use Rattle.tera_grammar.specs.expressions.Marks.{mark, Not, RightParen, Else, Operation, Other}
use Rattle.tera_grammar.specs.expressions.Concrete.{Negative, Negates, Single, NotIn, Tree, Op}
use Rattle.tera_grammar.specs.expressions.Powers.{right_of}
use Rattle.tera_grammar.specs.expressions.Spans.{spanning}
use Rattle.tera_grammar.specs.expressions.Reading.Front.{Place, at, Reads, takes, lowered, literal_of, head_mark, begins, begins_sign, Front, nothing, joins, closes, misplaced, leads_binary, leads_condition, Ending, ends_test, ends_filter, ends_subscript, front}
use Rattle.tera_grammar.specs.expressions.Reading.Rooms.{Room}
use Rattle.tera_grammar.specs.expressions.Reading.Atoms.{head_of, word_head, chain_of}
use Rattle.tera_grammar.specs.expressions.Reading.Loop.{before, expr, suffix_in}
use Rattle.tera_grammar.specs.expressions.Stack.{Operand, Level, Shows, outcome, going, coming, heading, prefixing, joining, choosing, suffix_of, resume, in_paren, in_binary, in_condition, in_last, stops, refuses, operator_in, is_negated, HeadGives, SuffixGives}
use Rattle.tera_grammar.proofs.expressions.Stack.{ends, ends_badly, joins_on, chooses_on, suffix_fails, suffix_given, suffix_missed, encloses, unclosed, goes_otherwise, lacks_else, heads_minus, minus_refused, heads_no_mark, refuses_right, heads_nothing, heads_not, not_refused, heads_name, head_given, head_missed}
use Rattle.tera_lexer.specs.code.Cursors.{Position}
use Rattle.tera_expr_parts.specs.declared.front.Front as fronts
use Rattle.tera_expr_parts.specs.declared.front.Front.TheVariants as shapes
use Rattle.tera_expr_reader.specs.declared.frames.State.{State}
use Rattle.tera_expr_reader.specs.declared.frames.State.TheVariants as states
use Rattle.tera_expr_reader.specs.Frames.{Went}
use Rattle.tera_expect.specs.Taking.{GoesOn, Took, TookFirst}
use Rattle.tera_expr_parts.specs.declared.front.Ending as own
use Rattle.tera_expr_parts.specs.declared.front.Ending.TheVariants as endings
use Rattle.tera_expr_parts.specs.Fronts.{Kind, joined_by, tested, filtered, subscripted, misplaced as stray, kind_of, ending_kind, front_kind, keeps_off, IsOperatorBefore}
use Rattle.tera_grammar.proofs.Readings.{fails_as}
use Rattle.tera_expr_parts.proofs.FrontsLemmas.{stops_alike}
use Rattle.tera_expr_parts.proofs.RefusedLemmas.{not_in_begins, stray_begins, stray_left}
use Rattle.tera_expect.proofs.TakingLemmas.{took_goes}

-- a token that is not a constant, no name and no mark at which an operand begins
abbrev pub BeginsNone : Tok → Type 0
BeginsNone (Ident n) = ⊥
BeginsNone (Symbol o) = head_mark (Symbol o) ≡ Other
BeginsNone _ = Unit {0}

-- a prefix and a word at the start of an operand
module _ (w : Room) (v : Level) (p : Place) where
  pub minus_opens : (s : Span) (us : Items) → p.tokens ≡ mark (Operation Minus) s us
      → heading w v p ≡ cond (begins_sign us) (stopped us) (prefixing w v (Negative s) (at p.links us))
  minus_opens s us is = by (begins_sign us) refl
    where
      by : (b : Bool) → begins_sign us ≡ b → heading w v p ≡ cond (begins_sign us) (stopped us) (prefixing w v (Negative s) (at p.links us))
      by true h = minus_refused w v p s us is h ∙ sym (ap (λ c. cond c (stopped us) (prefixing w v (Negative s) (at p.links us))) h)
      by false h = heads_minus w v p s us is h ∙ sym (ap (λ c. cond c (stopped us) (prefixing w v (Negative s) (at p.links us))) h)

  pub nothing_opens : (t : Tok) (s : Span) (us : Items) → p.tokens ≡ Token t s us → literal_of t ≡ None → BeginsNone t → heading w v p ≡ stopped us
  nothing_opens t s us is none no_mark = ap (λ ts. heading w v (at p.links ts)) is ∙ by t none no_mark
    where
      by : (t : Tok) → literal_of t ≡ None → BeginsNone t → heading w v (at p.links (Token t s us)) ≡ stopped us
      by (Ident n) none no_mark = absurd no_mark
      by (Symbol o) none no_mark = heads_no_mark w v (at p.links (Token (Symbol o) s us)) o s us refl no_mark
      by (toks.Integer n) none no_mark = cc
      by (toks.Str text) none no_mark = cc
      by (toks.Escaped text) none no_mark = cc
      by (toks.Truth b) none no_mark = cc
      by _ none no_mark = refl

-- one turn
module _ (w : Room) (v : Level) (a : Operand) (p : Place) where
  pub closes_up : true ≡ keeps_off v.least (kind_of (front p.tokens)) → going w v a p ≡ found (a, p)
  closes_up h = ends w v a p (stops_alike v.least (front p.tokens) ∙ sym h)

  goes : false ≡ keeps_off v.least (kind_of (front p.tokens)) → stops v.least (front p.tokens) ≡ false
  goes h = stops_alike v.least (front p.tokens) ∙ sym h

  pub goes_astray : stray ≡ kind_of (front p.tokens) → false ≡ keeps_off v.least (kind_of (front p.tokens)) → (z : Items) × (front p.tokens ≡ misplaced z) × (going w v a p ≡ stopped z)
  goes_astray is h = let (z, there) = by (front p.tokens) is in (z, there, ends_badly w v a p z there (goes h))
    where
      by : (f : Front) → stray ≡ kind_of f → (z : Items) × (f ≡ misplaced z)
      by nothing is = cc
      by (joins (leads_binary (Single o s)) us) is = cc
      by (joins (leads_binary (NotIn s t)) us) is = cc
      by (joins (leads_condition s) us) is = cc
      by (closes e us) is = other e is
        where
          other : (e : Ending) → stray ≡ kind_of (closes e us) → (z : Items) × (closes e us ≡ misplaced z)
          other (ends_test s) is = cc
          other (ends_filter s) is = cc
          other (ends_subscript s) is = cc
      by (misplaced z) is = (z, refl)

  -- an operator, whose link is counted
  pub joins_more : (o : BinaryOperator) (n : Bool) (us : Items) (j : ℕ) → IsOperatorBefore (front p.tokens) o n us
      → false ≡ keeps_off v.least (kind_of (front p.tokens)) → lowered p.links ≡ Some j
      → (coming v.depth w (right_of o) (at j us) >>= resume w (in_binary v o n a)) ≡ going w v a p
  joins_more o n us j (op, is, one, two) h counted =
      sym (joins_on w v a p op us is (goes h)
      ∙ ap (λ x. joining w v x (is_negated op) a (before p.tokens (leads_binary op)) (at p.links us)) one ∙ ap (λ x. joining w v o x a (before p.tokens (leads_binary op)) (at p.links us)) two
      ∙ ap (λ r. (given (before p.tokens (leads_binary op)) r >>= λ k. found (at k us)) >>= λ q. coming v.depth w (right_of o) q >>= resume w (in_binary v o n a)) counted)

  pub joins_no_more : (o : Op) (us : Items) → front p.tokens ≡ joins (leads_binary o) us
      → false ≡ keeps_off v.least (kind_of (front p.tokens)) → lowered p.links ≡ None → going w v a p ≡ stopped (before p.tokens (leads_binary o))
  joins_no_more o us is h counted =
      joins_on w v a p o us is (goes h)
      ∙ ap (λ r. (given (before p.tokens (leads_binary o)) r >>= λ k. found (at k us)) >>= λ q. coming v.depth w (right_of (operator_in o)) q >>= resume w (in_binary v (operator_in o) (is_negated o) a)) counted

  pub chooses_more : (s : Span) (us : Items) → front p.tokens ≡ joins (leads_condition s) us
      → false ≡ keeps_off v.least (kind_of (front p.tokens)) → choosing w v a (at p.links us) ≡ going w v a p
  chooses_more s us is h = sym (chooses_on w v a p s us is (goes h))

  -- a suffix, whose link is counted
  module _ (k : Ending) (us : Items) (is : front p.tokens ≡ closes k us) (h : false ≡ keeps_off v.least (kind_of (front p.tokens))) where
    counted_suffix : (j : ℕ) → lowered p.links ≡ Some j → suffix_of w v k p.tokens (at p.links us) ≡ suffix_in (expr v.depth) w k (at j us)
    counted_suffix j counted =
        ap (λ r. (given p.tokens r >>= λ i. found (at i us)) >>= λ q. suffix_in (expr v.depth) w k q) counted

    pub grows_by : {E : Type 0} (view : E → tree.Expr) (e : E) (here : Span) (j : ℕ) (q : Place) → lowered p.links ≡ Some j
        → SuffixGives view w.in_loop a (Ok e) here q (suffix_in (expr v.depth) w k (at j us))
        → going w v (view e, spanning a.1 here) q ≡ going w v a p
    grows_by view e here j q counted gives =
        suffix_given w v a p k us is (goes h) view e here q
        (subst (SuffixGives view w.in_loop a (Ok e) here q) (sym (counted_suffix j counted)) gives)

    pub grows_not : {E : Type 0} (view : E → tree.Expr) (e : Error) (here : Span) (j : ℕ) (q : Place) → lowered p.links ≡ Some j
        → SuffixGives view w.in_loop a (Err e) here q (suffix_in (expr v.depth) w k (at j us))
        → Fails (going w v a p) q.tokens e
    grows_not view e here j q counted gives =
        suffix_missed w v a p k us is (goes h) view e here q
        (subst (SuffixGives view w.in_loop a (Err e) here q) (sym (counted_suffix j counted)) gives)

    pub grows_no_more : lowered p.links ≡ None → going w v a p ≡ stopped p.tokens
    grows_no_more counted = suffix_fails w v a p k us is (goes h) p.tokens (ap (λ r. (given p.tokens r >>= λ i. found (at i us)) >>= λ q. suffix_in (expr v.depth) w k q) counted)

-- a mark that has to follow and does not
module _ (w : Room) (v : Level) (x : Operand) (k : ℕ) (ts left : Items) (e : Error) where
  pub stays_open : (s : Span) → Fails (takes RightParen ts) left e → Fails (resume w (in_paren v s) (x, at k ts)) left e
  stays_open s h = fails_as (takes RightParen ts) (resume w (in_paren v s) (x, at k ts)) left e (λ z none. unclosed w v x (at k ts) s z none) h

  pub misses_else : (a : Operand) → Fails (takes Else ts) left e → Fails (resume w (in_condition v a) (x, at k ts)) left e
  misses_else a h = fails_as (takes Else ts) (resume w (in_condition v a) (x, at k ts)) left e (λ z none. lacks_else w v x (at k ts) a z none) h

-- `~` before what became a prefix
pub tilde_refused : (w : Room) (v : Level) (x : Operand) (p : Place) (o : BinaryOperator) (n : Bool) (a : Operand) (e : Error) → IsMemory e ⊎ (refuses o x.0 ≡ true)
    → Fails (resume w (in_binary v o n a) (x, p)) p.tokens e
tilde_refused w v x p o n a e (inl memory) = inl memory
tilde_refused w v x p o n a e (inr h) = inr (inl (refuses_right w v x p o n a h))

-- after `)` and after `else`
pub encloses_all : (w : Room) (v : Level) (x : Operand) (k : ℕ) (ts us : Items) (s t : Span) → takes RightParen ts ≡ found (t, us)
    → going w v (x.0, spanning s t) (at k us) ≡ resume w (in_paren v s) (x, at k ts)
encloses_all w v x k ts us s t h = sym (encloses w v x (at k ts) s t us h)

pub chooses_last : (w : Room) (v : Level) (x : Operand) (k : ℕ) (ts us : Items) (a : Operand) (t : Span) → takes Else ts ≡ found (t, us)
    → (coming v.depth w 0 (at k us) >>= resume w (in_last v a x.0)) ≡ resume w (in_condition v a) (x, at k ts)
chooses_last w v x k ts us a t h = sym (goes_otherwise w v x (at k ts) a t us h)

-- where no link may come, and no operator or suffix is taken
joined_front : (o : BinaryOperator) (n : Bool) (f : Front) → joined_by o n ≡ kind_of f → (op : Op) × (us : Items) × (f ≡ joins (leads_binary op) us) × (is_negated op ≡ n)
joined_front o n nothing is = cc
joined_front o n (joins (leads_binary op) us) is = (op, us, refl, (let e : n ≡ is_negated op = cc in sym e))
joined_front o n (joins (leads_condition s) us) is = cc
joined_front o n (closes (ends_test s) us) is = cc
joined_front o n (closes (ends_filter s) us) is = cc
joined_front o n (closes (ends_subscript s) us) is = cc
joined_front o n (misplaced z) is = cc

abbrev IsEnding : Kind → Type 0
IsEnding tested = Unit {0}
IsEnding filtered = Unit {0}
IsEnding subscripted = Unit {0}
IsEnding _ = ⊥

ended_front : (k : Kind) (f : Front) → IsEnding k → k ≡ kind_of f → (e : Ending) × (us : Items) × (f ≡ closes e us)
ended_front k nothing ends is = absurd (subst IsEnding is ends)
ended_front k (joins (leads_binary op) us) ends is = absurd (subst IsEnding is ends)
ended_front k (joins (leads_condition s) us) ends is = absurd (subst IsEnding is ends)
ended_front k (closes e us) ends is = (e, us, refl)
ended_front k (misplaced z) ends is = absurd (subst IsEnding is ends)

is_ending : (e : own.Ending) → IsEnding (ending_kind e)
is_ending endings.Test = tt
is_ending endings.Filter = tt
is_ending endings.Subscript = tt

-- where reading stops before an operator
before_single : (ts : Items) (o : BinaryOperator) (s : Span) → before ts (leads_binary (Single o s)) ≡ ts
before_single (Token t r us) o s = refl
before_single Ended o s = refl
before_single (Failed text here) o s = refl

before_in : (ts left : Items) (s t : Span) → TookFirst ts left → before ts (leads_binary (NotIn s t)) ≡ left
before_in ts left s t (u, r, is) = ap (λ ts. before ts (leads_binary (NotIn s t))) is

module _ (w : Room) (v : Level) (a : Operand) (p : Place) (e : Error) where
  pub no_link_joins : (o : BinaryOperator) (n : Bool) → joined_by o n ≡ kind_of (front p.tokens) → false ≡ keeps_off v.least (kind_of (front p.tokens))
      → (left : Items) → (n ≡ false → left ≡ p.tokens) → (n ≡ true → begins Not p.tokens ≡ true → IsMemory e ⊎ TookFirst p.tokens left)
      → IsMemory e ⊎ (lowered p.links ≡ None) → Fails (going w v a p) left e
  no_link_joins o n is h left stays takes (inl memory) = inl memory
  no_link_joins o n is h left stays takes (inr none) =
      let (op, us, there, negated) = joined_front o n (front p.tokens) is in by op us there negated
    where
      by : (op : Op) (us : Items) → front p.tokens ≡ joins (leads_binary op) us → is_negated op ≡ n → Fails (going w v a p) left e
      by (Single q s) us there negated =
          inr (inl (joins_no_more w v a p (Single q s) us there h none ∙ ap stopped (before_single p.tokens q s ∙ sym (stays (sym negated)))))
      by (NotIn s t) us there negated =
          ⊎_elim (λ memory. inl memory) (λ taken. inr (inl (joins_no_more w v a p (NotIn s t) us there h none ∙ ap stopped (before_in p.tokens left s t taken))))
          (takes (sym negated) (not_in_begins p.tokens us s t there))

  pub no_link_closes : (k : own.Ending) → ending_kind k ≡ kind_of (front p.tokens) → false ≡ keeps_off v.least (kind_of (front p.tokens))
      → IsMemory e ⊎ (lowered p.links ≡ None) → Fails (going w v a p) p.tokens e
  no_link_closes k is h (inl memory) = inl memory
  no_link_closes k is h (inr none) =
      let (end, us, there) = ended_front (ending_kind k) (front p.tokens) (is_ending k) is in inr (inl (grows_no_more w v a p end us there h none))

-- a word at the start of an operand
module _ (w : Room) (v : Level) (k : ℕ) (n : List ℕ) (s : Span) (us : Items) where
  abbrev there : Place
  there = at k (Token (Ident n) s us)

  abbrev pub worded : Shows
  worded = outcome w.in_loop (word_head (expr v.depth) w (record { text = n; span = s }) (at k us)) >>= λ h. going w v h.0 h.1

  pub word_none : is_none n ≡ true → (e : tree.Expr) → e ≡ tree.Const values.Nothing s → (h : Span) → h ≡ s
      → going w v (e, spanning s h) (at k us) ≡ worded
  word_none none e shows h same = rw (shows, same) (sym (heads_nothing w v there n s us refl none))

  pub word_negates : is_none n ≡ false → is_not n ≡ true → worded ≡ cond (begins_sign us) (stopped us) (prefixing w v (Negates s) (at k us))
  word_negates none other = by (begins_sign us) refl
    where
      by : (b : Bool) → begins_sign us ≡ b → worded ≡ cond (begins_sign us) (stopped us) (prefixing w v (Negates s) (at k us))
      by true h = not_refused w v there n s us refl none other h ∙ sym (ap (λ c. cond c (stopped us) (prefixing w v (Negates s) (at k us))) h)
      by false h = heads_not w v there n s us refl none other h ∙ sym (ap (λ c. cond c (stopped us) (prefixing w v (Negates s) (at k us))) h)

  module _ {E : Type 0} (view : E → tree.Expr) (here : Span) (q : Place) (none : is_none n ≡ false) (other : is_not n ≡ false) where
    pub word_given : (e : E) → HeadGives view w.in_loop (Ok e) here q (chain_of (expr v.depth) w (record { text = n; span = s }) (at k us))
        → going w v (view e, spanning s here) q ≡ worded
    word_given e gives =
        head_given w v there view e here q (Ident n) s us refl
        (subst (HeadGives view w.in_loop (Ok e) here q) (sym (heads_name w v there n s us refl none other)) gives)

    pub word_missed : (e : Error) → HeadGives view w.in_loop (Err e) here q (chain_of (expr v.depth) w (record { text = n; span = s }) (at k us))
        → Fails worded q.tokens e
    word_missed e gives =
        head_missed w v there view e here q
        (subst (HeadGives view w.in_loop (Err e) here q) (sym (heads_name w v there n s us refl none other)) gives)

-- an operand that begins with a mark, or is a constant
module _ (w : Room) (v : Level) (p : Place) (t : Tok) (s : Span) (us : Items) (is : p.tokens ≡ Token t s us) where
  pub literal_missed : (e : Error) → BeginsNone t → IsMemory e ⊎ (literal_of t ≡ None) → Fails (heading w v p) us e
  literal_missed e none (inl memory) = inl memory
  literal_missed e none (inr no_literal) = inr (inl (nothing_opens w v p t s us is no_literal none))

  module _ {E : Type 0} (view : E → tree.Expr) (here : Span) (q : Place) (r : Reads Tree) (same : head_of (expr v.depth) w p ≡ r) where
    pub given_as : (e : E) → HeadGives view w.in_loop (Ok e) here q r → going w v (view e, spanning s here) q ≡ heading w v p
    given_as e gives = head_given w v p view e here q t s us is (subst (HeadGives view w.in_loop (Ok e) here q) (sym same) gives)

    pub missed_as : (e : Error) → HeadGives view w.in_loop (Err e) here q r → Fails (heading w v p) q.tokens e
    missed_as e gives = head_missed w v p view e here q (subst (HeadGives view w.in_loop (Err e) here q) (sym same) gives)

-- what goes on with no operand
pub goes_no_further : (w : Room) (v : Level) (a : Operand) (p : Place) (f : fronts.Front) → (f ≡ shapes.Nothing) ⊎ (f ≡ shapes.Misplaced)
    → front_kind f ≡ kind_of (front p.tokens) → false ≡ keeps_off v.least (kind_of (front p.tokens)) → (z : Items) × (front p.tokens ≡ misplaced z) × (going w v a p ≡ stopped z)
goes_no_further w v a p f (inl is) kind h =
    let off : false ≡ true = h ∙ ap (keeps_off v.least) (sym kind ∙ ap front_kind is) in cc
goes_no_further w v a p f (inr is) kind h = goes_astray w v a p (ap front_kind (sym is) ∙ kind) h

-- a `not` that was taken after the operand, and a prefix that was taken after a prefix
pub astray : (w : Room) (v : Level) (a : Operand) (p : Place) (f : fronts.Front) (left : Items) (e : Error) → (f ≡ shapes.Nothing) ⊎ (f ≡ shapes.Misplaced)
    → front_kind f ≡ kind_of (front p.tokens) → false ≡ keeps_off v.least (kind_of (front p.tokens)) → (begins Not p.tokens ≡ true → IsMemory e ⊎ TookFirst p.tokens left)
    → Fails (going w v a p) left e
astray w v a p f left e is kind h takes =
    let (z, there, stops) = goes_no_further w v a p f is kind h in
    ⊎_elim (λ memory. inl memory) (λ taken. inr (inl (stops ∙ ap stopped (stray_left p.tokens left z there taken)))) (takes (stray_begins p.tokens z there))

pub signs_twice : {A : Type 0} (read : Read A) (b : Bool) (o : Read A) (old left : Items) (e : Error) → b ≡ true → read ≡ cond b (stopped old) o → IsMemory e ⊎ TookFirst old left → Fails read left e
signs_twice read b o old left e h is (inl memory) = inl memory
signs_twice read b o old left e h is (inr (t, s, taken)) = inr (inr (inl (t, s, is ∙ ap (λ b. cond b (stopped old) o) h ∙ ap stopped taken)))

-- how the cursor goes on from state to state
pub went_goes : (s : State) (old new : Position) → Went s old new → GoesOn old new
went_goes (states.Needs d m) old new h = h
went_goes (states.Holds v a) old new h = took_goes old new h
went_goes (states.Done a) old new h = took_goes old new h

pub took_went : (s : State) (old new : Position) → Took old new → Went s old new
took_went (states.Needs d m) old new h = took_goes old new h
took_went (states.Holds v a) old new h = h
took_went (states.Done a) old new h = h

pub one_more : {A : Type 0} (new old : List A) (x : A) → new ≡ old ++ x ∷ [] → length new ≡ length old + 1
one_more new old x h = ap length h ∙ length-append old (x ∷ [])

-- a token at which no operand begins, but a constant
pub begins_none : (t : Lexed) → ((x : Bor (List ℕ)) → t ≡ lexed.Ident x → ⊥) → (t ≡ lexed.Minus → ⊥) → (t ≡ lexed.LessThan → ⊥) → (t ≡ lexed.LeftBracket → ⊥)
    → (t ≡ lexed.LeftParen → ⊥) → (t ≡ lexed.LeftBrace → ⊥) → BeginsNone (seen t)
unfolding head_mark
begins_none lexed.Mul a b c d e f = refl
begins_none lexed.Div a b c d e f = refl
begins_none lexed.FloorDiv a b c d e f = refl
begins_none lexed.Mod a b c d e f = refl
begins_none lexed.Plus a b c d e f = refl
begins_none lexed.Power a b c d e f = refl
begins_none lexed.ClosingTagStart a b c d e f = refl
begins_none lexed.GreaterThan a b c d e f = refl
begins_none lexed.LessThanOrEqual a b c d e f = refl
begins_none lexed.GreaterThanOrEqual a b c d e f = refl
begins_none lexed.Equal a b c d e f = refl
begins_none lexed.NotEqual a b c d e f = refl
begins_none lexed.Tilde a b c d e f = refl
begins_none lexed.Pipe a b c d e f = refl
begins_none lexed.Assign a b c d e f = refl
begins_none lexed.Dot a b c d e f = refl
begins_none lexed.QuestionMarkDot a b c d e f = refl
begins_none lexed.QuestionMarkLeftBracket a b c d e f = refl
begins_none lexed.Comma a b c d e f = refl
begins_none lexed.Colon a b c d e f = refl
begins_none lexed.Bang a b c d e f = refl
begins_none lexed.RightBracket a b c d e f = refl
begins_none lexed.RightParen a b c d e f = refl
begins_none lexed.RightBrace a b c d e f = refl
begins_none lexed.Spread a b c d e f = refl
begins_none lexed.At a b c d e f = refl
begins_none (lexed.Content x) a b c d e f = tt
begins_none (lexed.RawContent x y z) a b c d e f = tt
begins_none (lexed.Comment x y) a b c d e f = tt
begins_none (lexed.VariableStart x) a b c d e f = tt
begins_none (lexed.VariableEnd x) a b c d e f = tt
begins_none (lexed.TagStart x) a b c d e f = tt
begins_none (lexed.TagEnd x) a b c d e f = tt
begins_none (lexed.String x) a b c d e f = tt
begins_none (lexed.Str x) a b c d e f = tt
begins_none (lexed.Integer x) a b c d e f = tt
begins_none (lexed.Bool x) a b c d e f = tt
begins_none (lexed.Ident x) a b c d e f = absurd (a x refl)
begins_none lexed.Minus a b c d e f = absurd (b refl)
begins_none lexed.LessThan a b c d e f = absurd (c refl)
begins_none lexed.LeftBracket a b c d e f = absurd (d refl)
begins_none lexed.LeftParen a b c d e f = absurd (e refl)
begins_none lexed.LeftBrace a b c d e f = absurd (f refl)
