-- Where a string closes, one byte after another.
use Rattle.std.proofs.Common.{◌≡◌, ◌≢◌, ℕ, zero, suc, ◌+◌, ◌<◌, ◌≤◌, Bool, true, false, not, subst, List, [], ◌∷◌, ◌++◌, length, take, drop, get_or, Option, Some, None, ⊎_elim, sym, ap, ◌∙◌, refl, arith, add-zero}
use Rattle.std.specs.Prelude.{◌==◌, ◌||◌, if◌then◌else◌}
use Rattle.std.specs.List.{AllByRecursion, list_any, prefix_len}
use Rattle.std.proofs.lemmas.Bool.{cases_Bool, eqb-true}
use Rattle.std.proofs.lemmas.Bool.Decides.{Decides-eqb, nat_tests}
use Rattle.std.proofs.lemmas.List.{drop_more, drop_all}
use Rattle.tera_lexer.specs.grammar.Lexeme.{is_quote, Inner, Plain, Escape, IsInner, written, has_escape}
use Rattle.tera_lexer.specs.reading.Front.{string_at, with_inner, closing_at, more}
use Rattle.std.proofs.lemmas.List.Sums.{prefix_len_is}
use Rattle.memchr.specs.Find.{Nowhere, Passes, is_byte2}
use Rattle.tera_lexer.specs.code.Found.{goes_on_string, IsClosing}
use Rattle.tera_lexer.proofs.Runs.{run_grows, run_ends}
use Rattle.tera_lexer.proofs.Strings.{IsStringAt, string_sound}

-- so many bytes further
unfoldable pub further : ℕ → Option ℕ → Option ℕ
further i None = None
further i (Some n) = Some (i + n)

pub further_more : (i : ℕ) (o : Option ℕ) → further i (more o) ≡ further (i + 1) o
unfolding further
further_more i None = refl
further_more i (Some n) = ap Some (omega arith)

pub further_none : (o : Option ℕ) → o ≡ further 0 o
unfolding further
further_none None = refl
further_none (Some n) = ap Some (omega arith)

pub not_equal : (a b : ℕ) → a ≢ b → (a == b) ≡ false
not_equal a b other = ⊎_elim (λ same. absurd (other (eqb-true a b same))) (λ no. no) (cases_Bool (a == b))

module _ (quote : ℕ) (bytes : List ℕ) (i : ℕ) (lt : i < length bytes) where
  here : (escaped : Bool) → closing_at quote escaped (drop i bytes) ≡ closing_at quote escaped (get_or bytes i 0 ∷ drop (i + 1) bytes)
  here escaped = ap (closing_at quote escaped) (drop_more bytes i 0 lt)

  pub closing_escaped : closing_at quote false bytes ≡ further i (closing_at quote true (drop i bytes)) → closing_at quote false bytes ≡ further (i + 1) (closing_at quote false (drop (i + 1) bytes))
  closing_escaped e = e ∙ ap (further i) (here true) ∙ further_more i (closing_at quote false (drop (i + 1) bytes))

  pub closing_escape : get_or bytes i 0 ≡ 92 → closing_at quote false bytes ≡ further i (closing_at quote false (drop i bytes)) → closing_at quote false bytes ≡ further (i + 1) (closing_at quote true (drop (i + 1) bytes))
  closing_escape escape e =
      let at : closing_at quote false (get_or bytes i 0 ∷ drop (i + 1) bytes) ≡ more (closing_at quote true (drop (i + 1) bytes)) = rw ((Decides-eqb (get_or bytes i 0) 92).1 escape) refl in
      e ∙ ap (further i) (here false ∙ at) ∙ further_more i (closing_at quote true (drop (i + 1) bytes))

  pub closing_plain : get_or bytes i 0 ≢ 92 → get_or bytes i 0 ≢ quote → closing_at quote false bytes ≡ further i (closing_at quote false (drop i bytes)) → closing_at quote false bytes ≡ further (i + 1) (closing_at quote false (drop (i + 1) bytes))
  closing_plain no_escape no_quote e =
      let at : closing_at quote false (get_or bytes i 0 ∷ drop (i + 1) bytes) ≡ more (closing_at quote false (drop (i + 1) bytes)) = rw (not_equal (get_or bytes i 0) 92 no_escape, not_equal (get_or bytes i 0) quote no_quote) refl in
      e ∙ ap (further i) (here false ∙ at) ∙ further_more i (closing_at quote false (drop (i + 1) bytes))

  pub closing_here : get_or bytes i 0 ≢ 92 → get_or bytes i 0 ≡ quote → closing_at quote false bytes ≡ further i (closing_at quote false (drop i bytes)) → Some i ≡ closing_at quote false bytes
  unfolding further
  closing_here no_escape is_quote e =
      let at : closing_at quote false (get_or bytes i 0 ∷ drop (i + 1) bytes) ≡ Some 0 = rw (not_equal (get_or bytes i 0) 92 no_escape, (Decides-eqb (get_or bytes i 0) quote).1 is_quote) refl in
      sym (e ∙ ap (further i) (here false ∙ at) ∙ ap Some (add-zero i))

pub closing_nowhere : (quote : ℕ) (escaped : Bool) (bytes : List ℕ) (i : ℕ) → length bytes ≤ i → closing_at quote false bytes ≡ further i (closing_at quote escaped (drop i bytes)) → None ≡ closing_at quote false bytes
unfolding further
closing_nowhere quote true bytes i le e = sym (e ∙ ap (λ l. further i (closing_at quote true l)) (drop_all i bytes le))
closing_nowhere quote false bytes i le e = sym (e ∙ ap (λ l. further i (closing_at quote false l)) (drop_all i bytes le))

-- where a string closes is how long its inside is
lengths : Option (List Inner × List ℕ) → Option ℕ
lengths None = None
lengths (Some p) = Some (length (written p.0))

plain_longer : (b : ℕ) (o : Option (List Inner × List ℕ)) → more (lengths o) ≡ lengths (with_inner (Plain b) o)
unfolding lengths
plain_longer b None = refl
plain_longer b (Some p) = refl

escape_longer : (b : ℕ) (o : Option (List Inner × List ℕ)) → more (more (lengths o)) ≡ lengths (with_inner (Escape b) o)
unfolding lengths
escape_longer b None = refl
escape_longer b (Some p) = refl

closing_length : (quote : ℕ) (bytes : List ℕ) → quote ≢ 92 → closing_at quote false bytes ≡ lengths (string_at quote bytes)
unfolding lengths
closing_length quote [] other = refl
closing_length quote (b ∷ []) other =
    ⊎_elim
    (λ closes. rw (not_equal b 92 (λ e. other (sym (eqb-true b quote closes) ∙ e)), closes) refl)
    (λ open_still. rw open_still (⊎_elim (λ escape. rw escape refl) (λ plain. rw plain refl) (cases_Bool (b == 92))))
    (cases_Bool (b == quote))
closing_length quote (b ∷ c ∷ cs) other =
    ⊎_elim
    (λ closes. rw (not_equal b 92 (λ e. other (sym (eqb-true b quote closes) ∙ e)), closes) refl)
    (λ open_still. rw open_still (⊎_elim
    (λ escape. rw escape (ap (λ o. more (more o)) (closing_length quote cs other) ∙ escape_longer c (string_at quote cs)))
    (λ plain. rw plain (ap more (closing_length quote (c ∷ cs) other) ∙ plain_longer b (string_at quote (c ∷ cs))))
    (cases_Bool (b == 92))))
    (cases_Bool (b == quote))

-- the inside that was found, and what is after it
pub record IsInsideOf (quote n : ℕ) (bytes : List ℕ) : Type 0 where
  pub inner : List Inner
  pub rest : List ℕ
  pub found : string_at quote bytes ≡ Some (inner, rest)
  pub splits : bytes ≡ written inner ++ quote ∷ rest
  pub all : AllByRecursion (IsInner quote) inner
  pub len : n ≡ length (written inner)

inside_by : (quote n : ℕ) (bytes : List ℕ) (o : Option (List Inner × List ℕ)) → string_at quote bytes ≡ o → IsStringAt quote bytes o → Some n ≡ lengths o → IsInsideOf quote n bytes
unfolding lengths
inside_by quote n bytes None e sound is = cc
inside_by quote n bytes (Some p) e (splits, all) is = record { inner = p.0; rest = p.1; found = e; splits = splits; all = all; len = cc }

pub inside_closes : (quote n : ℕ) (bytes : List ℕ) → quote ≢ 92 → Some n ≡ closing_at quote false bytes → IsInsideOf quote n bytes
inside_closes quote n bytes other e =
    inside_by quote n bytes (string_at quote bytes) refl (string_sound quote bytes) (e ∙ closing_length quote bytes other)

none_by : (o : Option (List Inner × List ℕ)) → None ≡ lengths o → o ≡ None
unfolding lengths
none_by None e = refl
none_by (Some p) e = cc

pub nothing_closes : (quote : ℕ) (bytes : List ℕ) → quote ≢ 92 → None ≡ closing_at quote false bytes → string_at quote bytes ≡ None
nothing_closes quote bytes other e = none_by (string_at quote bytes) (e ∙ closing_length quote bytes other)

-- a backslash is in it where it has an escape
pub escape_written : (quote : ℕ) (is : List Inner) → AllByRecursion (IsInner quote) is → list_any (λ b. b == 92) (written is) ≡ has_escape is
escape_written quote [] all = refl
escape_written quote (Plain b ∷ is) all = rw (not_equal b 92 all.0.1) (escape_written quote is all.1)
escape_written quote (Escape b ∷ is) all = refl

-- a string closes where no byte goes on any more, unless that is a backslash
goes_by : (q e : Bool) → (if q then false else not e) ≡ true → (q ≡ false) × (e ≡ false)
goes_by true e is = cc
goes_by false true is = cc
goes_by false false is = (refl, refl)

stops_by : (q e : Bool) → (if q then false else not e) ≡ false → q ≡ false → e ≡ true
stops_by true e is differs = cc
stops_by false true is differs = refl
stops_by false false is differs = cc

more_some : (n : ℕ) (o : Option ℕ) → Some n ≡ more o → (k : ℕ) × (n ≡ suc k) × (Some k ≡ o)
more_some n None is = cc
more_some n (Some k) is = (k, cc, refl)

has_here : (b : ℕ) (bs : List ℕ) (k : ℕ) → (b == 92) ≡ true → list_any (λ x. x == 92) (take (suc k) (b ∷ bs)) ≡ true
has_here b bs k escape = rw escape refl

has_further : (b : ℕ) (bs : List ℕ) (k : ℕ) → (b == 92) ≡ false → list_any (λ x. x == 92) (take k bs) ≡ true → list_any (λ x. x == 92) (take (suc k) (b ∷ bs)) ≡ true
has_further b bs k plain has = rw plain has

module _ (quote : ℕ) (other : quote ≢ 92) where
  plain_end : (bytes : List ℕ) (n : ℕ) → n ≡ prefix_len (goes_on_string quote) bytes → n < length bytes → get_or bytes n 0 ≡ quote → IsClosing (closing_at quote false bytes) bytes (Some (n, false))
  plain_end [] n is lt at = absurd (omega arith)
  plain_end (b ∷ bs) zero is lt at = rw (not_equal b 92 (λ e. other (sym at ∙ e)), (Decides-eqb b quote).1 at) (refl, refl)
  plain_end (b ∷ bs) (suc n) is lt at =
      ⊎_elim
      (λ goes.
      let (no_quote, plain) = goes_by (b == quote) (b == 92) goes in
      let rec = plain_end bs n (omega (arith, is, run_grows (goes_on_string quote) b bs goes)) (omega arith) at in
      rw (plain, no_quote) (ap more rec.0, rec.1))
      (λ stops. absurd (omega (arith, is, run_ends (goes_on_string quote) b bs stops)))
      (cases_Bool (goes_on_string quote b))

  escape_before : (bytes : List ℕ) (m : ℕ) → (prefix_len (goes_on_string quote) bytes < length bytes → get_or bytes (prefix_len (goes_on_string quote) bytes) 0 ≢ quote)
      → Some m ≡ closing_at quote false bytes → list_any (λ b. b == 92) (take m bytes) ≡ true
  escape_before [] m differs closes = cc
  escape_before (b ∷ bs) m differs closes =
      ⊎_elim
      (λ goes.
      let (no_quote, plain) = goes_by (b == quote) (b == 92) goes in
      let (k, m_is, there) = more_some m (closing_at quote false bs) (rw (plain, no_quote) at closes) in
      let further : prefix_len (goes_on_string quote) bs < length bs → get_or bs (prefix_len (goes_on_string quote) bs) 0 ≢ quote
      = λ lt. subst (λ i. i < suc (length bs) → get_or (b ∷ bs) i 0 ≢ quote) (run_grows (goes_on_string quote) b bs goes) differs (omega arith) in
      let rec = escape_before bs k further there in
      subst (λ i. list_any (λ x. x == 92) (take i (b ∷ bs)) ≡ true) (sym m_is) (has_further b bs k plain rec))
      (λ stops.
      let no_quote : (b == quote) ≡ false = not_equal b quote (subst (λ i. i < suc (length bs) → get_or (b ∷ bs) i 0 ≢ quote) (run_ends (goes_on_string quote) b bs stops) differs (omega arith)) in
      let escape : (b == 92) ≡ true = stops_by (b == quote) (b == 92) stops no_quote in
      let (k, m_is, there) = more_some m (closing_at quote true bs) (rw escape at closes) in
      subst (λ i. list_any (λ x. x == 92) (take i (b ∷ bs)) ≡ true) (sym m_is) (has_here b bs k escape))
      (cases_Bool (goes_on_string quote b))

quote_differs : (b : ℕ) → is_quote b ≡ true → b ≢ 92
quote_differs b h e = grind (arith, nat_tests)

pub closes_plain : (quote : ℕ) (bytes : List ℕ) (n : ℕ) → is_quote quote ≡ true → n ≡ prefix_len (goes_on_string quote) bytes → n < length bytes → get_or bytes n 0 ≡ quote
    → IsClosing (closing_at quote false bytes) bytes (Some (n, false))
closes_plain quote bytes n is len lt at = plain_end quote (quote_differs quote is) bytes n len lt at

pub hidden_by_escape : (quote : ℕ) (bytes : List ℕ) (n m : ℕ) → is_quote quote ≡ true → n ≡ prefix_len (goes_on_string quote) bytes → (n < length bytes → get_or bytes n 0 ≢ quote)
    → Some m ≡ closing_at quote false bytes → IsClosing (closing_at quote false bytes) bytes (Some (m, true))
hidden_by_escape quote bytes n m is len differs closes =
    (closes, escape_before quote (quote_differs quote is) bytes m (subst (λ i. i < length bytes → get_or bytes i 0 ≢ quote) len differs) closes)

-- the first byte that ends a run or escapes is where no byte goes on any more
goes_where : (q e : Bool) → ¬ ((q || e) ≡ true) → (if q then false else not e) ≡ true
goes_where true e neither = absurd (neither refl)
goes_where false true neither = absurd (neither refl)
goes_where false false neither = refl

stops_where : (q e : Bool) → (q || e) ≡ true → (if q then false else not e) ≡ false
stops_where true e either = refl
stops_where false true either = refl
stops_where false false either = cc

module _ (quote : ℕ) (bytes : List ℕ) where
  goes_before : (n : ℕ) → Nowhere (Passes (is_byte2 quote 92) bytes) 0 n → (k : ℕ) → k < n → goes_on_string quote (get_or bytes k 0) ≡ true
  goes_before n before k lt = goes_where (get_or bytes k 0 == quote) (get_or bytes k 0 == 92) (before k (omega arith) lt)

  pub len_to_stop : (n : ℕ) → n < length bytes → Nowhere (Passes (is_byte2 quote 92) bytes) 0 n → Passes (is_byte2 quote 92) bytes n → n ≡ prefix_len (goes_on_string quote) bytes
  len_to_stop n lt before here =
      sym (prefix_len_is (goes_on_string quote) bytes n 0 (omega arith) (goes_before n before) (λ _. stops_where (get_or bytes n 0 == quote) (get_or bytes n 0 == 92) here))

  pub len_of_all : Nowhere (Passes (is_byte2 quote 92) bytes) 0 (length bytes) → length bytes ≡ prefix_len (goes_on_string quote) bytes
  len_of_all nowhere =
      sym (prefix_len_is (goes_on_string quote) bytes (length bytes) 0 (omega arith) (goes_before (length bytes) nowhere) (λ lt. absurd (omega arith)))
