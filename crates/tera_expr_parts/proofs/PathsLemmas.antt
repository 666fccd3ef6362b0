-- Reading the names of a component, one after another.
use Rattle.std.proofs.Common.{◌≡◌, ℕ, List, ◌++◌, refl, sym, ap, ◌∙◌, codes, append_assoc, append-nil}
use Rattle.tera_base.specs.declared.utils.Span.{Span}
use Rattle.tera_base.specs.declared.errors.Error.{Error}
use Rattle.tera_lexer.specs.grammar.Tokens.{Items}
use Rattle.tera_grammar.specs.expressions.Marks.{mark, Dot}
use Rattle.tera_grammar.specs.expressions.Concrete.{Name, Dotted, no_dots, dots}
use Rattle.tera_grammar.specs.expressions.Output.{dotted_text}
use Rattle.tera_grammar.specs.expressions.Companions.{Path, path_output}
use Rattle.tera_grammar.specs.Reads.{Read, found, stopped, ◌>>=◌, Fails}
use Rattle.tera_grammar.specs.expressions.Reading.Front.{at, takes, taken_name, name_of}
use Rattle.tera_grammar.specs.expressions.Reading.Bracketed.{dotted_of, dotted_at}
use Rattle.tera_grammar.specs.expressions.Reading.Whole.{left_over, path_of}
use Rattle.tera_grammar.proofs.Readings.{fails_as}
use Rattle.tera_grammar.proofs.stops.Fronts.{takes_ok, skip_mark, none_skip, name_taken, none_named}
use Rattle.tera_grammar.proofs.stops.Bracketed.{dotted_steps}

-- the names so far and their text, and the tokens after them
pub record Joining (old : Items) (text : List ℕ) (now : Items) : Type 0 where
  pub rest : Dotted → Path
  pub reads : path_of old ≡ left_over (dotted_of (at 0 now) >>= λ ds. found (rest ds.0, ds.1))
  pub shows : (ds : Dotted) → path_output (rest ds) ≡ text ++ dotted_text ds

pub begun : (old now : Items) (n : Name) → taken_name old ≡ found (n, now) → Joining old n.text now
unfolding path_of name_of
begun old now n h = record {
  rest = λ ds. record { name = n; further = ds };
  reads = rw h;
  shows = λ ds. refl;
}

pub start_failed : (old left : Items) (e : Error) → Fails (taken_name old) left e → Fails (path_of old) left e
unfolding path_of name_of
start_failed old left e h = fails_as (taken_name old) (path_of old) left e (λ z none. rw none refl) h

dot_step : (s : Span) (us : Items) → dotted_of (at 0 (mark Dot s us)) ≡ (name_of (at 0 us) >>= λ n. dotted_of n.1 >>= λ ds. found (dots s n.0 ds.0, ds.1))
dot_step s us = dotted_steps (at 0 (mark Dot s us)) ∙ ap (dotted_at dotted_of (at 0 (mark Dot s us))) (skip_mark Dot refl 0 s us)

bind_assoc : {A B C : Type 0} (o : Read A) (f : A → Read B) (g : B → Read C) → ((o >>= f) >>= g) ≡ (o >>= λ x. f x >>= g)
bind_assoc (stopped z) f g = refl
bind_assoc (found x) f g = refl

pub more : (old now us next : Items) (text : List ℕ) (s : Span) (n : Name) → Joining old text now → takes Dot now ≡ found (s, us) → taken_name us ≡ found (n, next) → Joining old ((text ++ codes ".") ++ n.text) next
more old now us next text s n j taken h = let is = takes_ok Dot now (s, us) taken in record {
  rest = λ ds. j.rest (dots s n ds);
  reads = j.reads ∙ ap (λ v. left_over (dotted_of (at 0 v) >>= λ ds. found (j.rest ds.0, ds.1))) is
      ∙ ap (λ o. left_over (o >>= λ ds. found (j.rest ds.0, ds.1))) (dot_step s us ∙ ap (λ o. o >>= λ n. dotted_of n.1 >>= λ ds. found (dots s n.0 ds.0, ds.1)) (name_taken 0 us next n h))
      ∙ ap left_over (bind_assoc (dotted_of (at 0 next)) (λ ds. found (dots s n ds.0, ds.1)) (λ ds. found (j.rest ds.0, ds.1)));
  shows = λ ds. j.shows (dots s n ds) ∙ sym (append_assoc text (codes ".") (n.text ++ dotted_text ds)) ∙ sym (append_assoc (text ++ codes ".") n.text (dotted_text ds));
}

pub failed : (old now us : Items) (text : List ℕ) (s : Span) → Joining old text now → takes Dot now ≡ found (s, us) → (left : Items) (e : Error) → Fails (taken_name us) left e → Fails (path_of old) left e
failed old now us text s j taken left e h = fails_as (taken_name us) (path_of old) left e (λ z none.
    j.reads ∙ ap (λ v. left_over (dotted_of (at 0 v) >>= λ ds. found (j.rest ds.0, ds.1))) (takes_ok Dot now (s, us) taken)
    ∙ ap (λ o. left_over (o >>= λ ds. found (j.rest ds.0, ds.1))) (dot_step s us ∙ ap (λ o. o >>= λ n. dotted_of n.1 >>= λ ds. found (dots s n.0 ds.0, ds.1)) (none_named 0 us z none))) h

pub ended : (old now : Items) (text : List ℕ) → Joining old text now → takes Dot now ≡ stopped now → (x : Path) × (path_of old ≡ found (x, now)) × (text ≡ path_output x)
ended old now text j h =
    let none : dotted_of (at 0 now) ≡ found (no_dots, at 0 now) = dotted_steps (at 0 now) ∙ ap (dotted_at dotted_of (at 0 now)) (none_skip Dot 0 now now h) in
    (j.rest no_dots, j.reads ∙ ap (λ o. left_over (o >>= λ ds. found (j.rest ds.0, ds.1))) none, sym (j.shows no_dots ∙ append-nil text))
