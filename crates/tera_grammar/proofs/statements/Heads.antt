-- The heads of statements: what is read of them is their tokens, and those are read as them.
use Rattle.std.proofs.Common.{◌≡◌, ◌<◌, ◌≤◌, ℕ, zero, suc, Bool, true, false, Option, Some, None, refl, sym, ap, subst, ◌∙◌, arith, le_refl}
use Rattle.std.proofs.lemmas.Option.{same_Some}
use Rattle.tera_base.specs.declared.utils.Span.{Span}
use Rattle.tera_lexer.specs.code.Cursors.{size}
use Rattle.tera_lexer.specs.grammar.Tokens.{Items}
use Rattle.tera_grammar.proofs.expressions.Fronts.{takes_ok, taken_name_ok}
use Rattle.tera_grammar.proofs.plain.expressions.Reading.Front.{takes, Takes}
use Rattle.tera_grammar.specs.expressions.Operators.{In}
use Rattle.tera_grammar.specs.expressions.Marks.{mark, Bar, Operation}
use Rattle.tera_grammar.specs.Options.{◌>>=◌}
use Rattle.tera_grammar.specs.Words.{is_reserved}
use Rattle.tera_grammar.specs.statements.TagParts.{Name, name_yield}
use Rattle.tera_grammar.specs.statements.Expressions.{Limits, filter_yield, expression_yield}
use Rattle.tera_grammar.specs.statements.Heads.{Loop, loop_yield, FitsLoop, Filters, NoFilters, Piped, filters_yield, AreFilters}
use Rattle.tera_grammar.proofs.plain.statements.Reading.Heads.{free_name, loop_of, filters_in, filters_by, filters_of}
use Rattle.tera_grammar.proofs.Options.{bound, bind_both, guard_not}
use Rattle.tera_grammar.specs.expressions.Concrete.{Second, second_yield}
use Rattle.tera_grammar.specs.expressions.Conditions.{AreVariables}
use Rattle.tera_grammar.specs.expressions.Reading.Front.{at}
use Rattle.tera_grammar.proofs.plain.expressions.Reading.Atoms.{variables_of}
use Rattle.tera_grammar.proofs.plain.expressions.Reading.Loop.{expr}
use Rattle.tera_grammar.proofs.expressions.Complete.{expr_bars}
use Rattle.tera_grammar.proofs.expressions.FoundAtoms.{variables_found}
use Rattle.tera_grammar.proofs.expressions.Longer.{longer_second}
use Rattle.tera_grammar.proofs.expressions.ReadParts.{second_read}
use Rattle.tera_grammar.proofs.expressions.Wholes.{left_over_ok}
use Rattle.tera_grammar.proofs.statements.Expressions.{expression_sound, expression_found, expression_size, filter_sound, filter_found, filter_size, ends_expression, ends_filter}

pub free_name_sound : (ts : Items) (x : Name × Items) → free_name ts ≡ Some x → (is_reserved x.0.text ≡ false) × (ts ≡ name_yield x.0 x.1)
free_name_sound ts x h =
    bound _ _ _ h (λ n read more. bound _ _ _ more (λ u free made.
    subst (λ (y : Name × Items). (is_reserved y.0.text ≡ false) × (ts ≡ name_yield y.0 y.1)) (same_Some n x made) (guard_not _ u free, taken_name_ok ts n read)))

module _ (l : Limits) where
  -- what is read as the head of a loop
  abbrev LoopStands : Items → Loop × Items → Type 0
  LoopStands ts x = FitsLoop l x.0 × (ts ≡ loop_yield x.0 x.1)

  pub loop_sound : (ts : Items) (x : Loop × Items) → loop_of l ts ≡ Some x → FitsLoop l x.0 × (ts ≡ loop_yield x.0 x.1)
  unfolding loop_of
  loop_sound ts x h =
      bound _ _ _ h (λ v read rest. bound _ _ _ rest (λ w sound more. bound _ _ _ more (λ e target_read made.
      let (y, named, is) = left_over_ok (variables_of (at 0 ts)) v read in
      let variables = variables_found (at 0 ts) y named in
      let target = expression_sound l true w.1 e target_read in
      subst (LoopStands ts) (same_Some (record { first = v.0.0; second = v.0.1; word = w.0; target = e.0 }, e.1) x made) (
        (subst (λ (z : (Name × Second) × Items). AreVariables z.0.0 z.0.1) is variables.2, target.0),
        variables.0 ∙ ap (λ (z : (Name × Second) × Items). name_yield z.0.0 (second_yield z.0.1 z.1)) is
            ∙ ap (λ u. name_yield v.0.0 (second_yield v.0.1 u)) (takes_ok (Operation In) v.1 w sound ∙ ap (mark (Operation In) w.0) target.1),
      ))))

  pub loop_found : (lp : Loop) (rest : Items) → FitsLoop l lp → ends_expression rest ≡ true → loop_of l (loop_yield lp rest) ≡ Some (lp, rest)
  unfolding loop_of
  loop_found lp rest fits ends =
      rw (
        second_read (expr 0) (expr_bars 0) lp.first lp.second 0 lp.word (expression_yield lp.target rest) fits.0,
        expression_found l true lp.target rest fits.1 ends,
      ) refl

  -- filters
  abbrev FiltersStand : Bool → Items → Filters × Items → Type 0
  FiltersStand in_loop ts x = AreFilters l in_loop x.0 × (ts ≡ filters_yield x.0 x.1)

  module _ (in_loop : Bool) where
    filters_in_sound : (again : Items → Takes Filters) → ((ts : Items) (x : Filters × Items) → again ts ≡ Some x → FiltersStand in_loop ts x)
        → (ts : Items) (bar : Option (Span × Items)) (x : Filters × Items) → takes Bar ts ≡ bar → filters_in again l in_loop ts bar ≡ Some x → FiltersStand in_loop ts x
    unfolding filters_in
    filters_in_sound again goes ts None x is h = subst (FiltersStand in_loop ts) (same_Some (NoFilters, ts) x h) (tt, refl)
    filters_in_sound again goes ts (Some bar) x is h =
        bound _ _ _ h (λ f read more. bound _ _ _ more (λ fs others made.
        let first = filter_sound l in_loop bar.1 f read in
        let then = goes f.1 fs others in
        subst (FiltersStand in_loop ts) (same_Some (Piped bar.0 f.0 fs.0, fs.1) x made)
        ((first.0, then.0), takes_ok Bar ts bar is ∙ ap (mark Bar bar.0) (first.1 ∙ ap (filter_yield f.0) then.1))))

    filters_by_sound : (n : ℕ) (ts : Items) (x : Filters × Items) → filters_by n l in_loop ts ≡ Some x → FiltersStand in_loop ts x
    unfolding filters_by
    filters_by_sound zero ts x h = cc
    filters_by_sound (suc n) ts x h = filters_in_sound (filters_by n l in_loop) (filters_by_sound n) ts (takes Bar ts) x refl h

    pub filters_sound : (ts : Items) (x : Filters × Items) → filters_of l in_loop ts ≡ Some x → AreFilters l in_loop x.0 × (ts ≡ filters_yield x.0 x.1)
    unfolding filters_of
    filters_sound ts x h = filters_by_sound (suc (size ts)) ts x h

    -- the number that bounds them has no say
    filters_in_agree : (again other : Items → Takes Filters) (ts : Items) → ((us : Items) → size us < size ts → again us ≡ other us)
        → (bar : Option (Span × Items)) → takes Bar ts ≡ bar → filters_in again l in_loop ts bar ≡ filters_in other l in_loop ts bar
    unfolding filters_in
    filters_in_agree again other ts goes None is = refl
    filters_in_agree again other ts goes (Some bar) is =
        bind_both _ _ _ (λ f read.
        let shorter : size f.1 < size ts =
        subst (λ v. size f.1 < size v) (sym (takes_ok Bar ts bar is ∙ ap (mark Bar bar.0) (filter_sound l in_loop bar.1 f read).1)) (omega (arith, filter_size f.0 f.1)) in
        ap (λ r. r >>= λ fs. Some (Piped bar.0 f.0 fs.0, fs.1)) (goes f.1 shorter))

    filters_agree : (n k : ℕ) (ts : Items) → size ts < n → size ts < k → filters_by n l in_loop ts ≡ filters_by k l in_loop ts
    unfolding filters_by
    filters_agree zero k ts hn hk = absurd (omega arith)
    filters_agree (suc n) zero ts hn hk = absurd (omega arith)
    filters_agree (suc n) (suc k) ts hn hk =
        filters_in_agree (filters_by n l in_loop) (filters_by k l in_loop) ts (λ us lt. filters_agree n k us (omega arith) (omega arith)) (takes Bar ts) refl

    -- filters, by what comes next
    pub filters_steps : (ts : Items) → filters_of l in_loop ts ≡ filters_in (filters_of l in_loop) l in_loop ts (takes Bar ts)
    unfolding filters_of filters_by
    filters_steps ts =
        filters_in_agree (filters_by (size ts) l in_loop) (filters_of l in_loop) ts (λ us lt. filters_agree (size ts) (suc (size us)) us lt (omega arith)) (takes Bar ts) refl

    pub filters_end : (fs : Filters) (rest : Items) → ends_filter rest ≡ true → ends_filter (filters_yield fs rest) ≡ true
    filters_end NoFilters rest ends = ends
    filters_end (Piped bar f fs) rest ends = refl

    pub filters_found : (fs : Filters) (rest : Items) → AreFilters l in_loop fs → takes Bar rest ≡ None → ends_filter rest ≡ true → filters_of l in_loop (filters_yield fs rest) ≡ Some (fs, rest)
    unfolding filters_in
    filters_found NoFilters rest fits no_bar ends = filters_steps rest ∙ ap (filters_in (filters_of l in_loop) l in_loop rest) no_bar
    filters_found (Piped bar f fs) rest fits no_bar ends =
        filters_steps (filters_yield (Piped bar f fs) rest)
        ∙ rw (filter_found l in_loop f (filters_yield fs rest) fits.0 (filters_end fs rest ends), filters_found fs rest fits.1 no_bar ends) refl

pub filters_size : (fs : Filters) (rest : Items) → size rest ≤ size (filters_yield fs rest)
filters_size NoFilters rest = le_refl _
filters_size (Piped bar f fs) rest = omega (arith, filters_size fs rest, filter_size f (filters_yield fs rest))

pub loop_size : (lp : Loop) (rest : Items) → size rest ≤ size (loop_yield lp rest)
loop_size lp rest = omega (arith, expression_size lp.target rest, longer_second lp.second (mark (Operation In) lp.word (expression_yield lp.target rest)))
