-- The heads of loops.
use Rattle.std.proofs.Common.{◌≡◌, refl, sym, ap, ◌∙◌, true}
use Rattle.tera_base.specs.declared.utils.Span.{Span}
use Rattle.tera_lexer.specs.grammar.Tokens.{Items}
use Rattle.tera_grammar.specs.Reads.{found, stopped, ◌>>=◌, Takes}
use Rattle.tera_grammar.specs.expressions.Concrete.{Name, Second}
use Rattle.tera_grammar.specs.expressions.Marks.{Operation}
use Rattle.tera_grammar.specs.expressions.Operators.{In}
use Rattle.tera_grammar.specs.expressions.Reading.Atoms.{variables_of}
use Rattle.tera_grammar.specs.expressions.Reading.Front.{at, takes}
use Rattle.tera_grammar.specs.expressions.Reading.Whole.{left_over}
use Rattle.tera_grammar.specs.statements.Expressions.{Expression, Limits}
use Rattle.tera_grammar.specs.statements.Reading.Expressions.{expression_of}
use Rattle.tera_grammar.specs.statements.Heads.{Loop}
use Rattle.tera_grammar.specs.statements.TagParts.{Edge}
use Rattle.tera_grammar.specs.statements.Reading.Heads.{loop_of}
use Rattle.tera_grammar.specs.statements.Reading.TagParts.{finish_of}
use Rattle.tera_tags.specs.Heads.{expression_to_end, loop_to_end}
use Rattle.tera_tags.proofs.HeadsLemmas.{ended_one}

-- a head
module _ (l : Limits) (ts : Items) where
  pub head_unnamed : (z : Items) → left_over (variables_of (at 0 ts)) ≡ stopped z → loop_to_end l ts ≡ stopped z
  unfolding loop_of loop_to_end
  head_unnamed z h = rw h refl

  module _ (v : Name × Second) (us : Items) (named : left_over (variables_of (at 0 ts)) ≡ found (v, us)) where
    pub head_without : (z : Items) → takes (Operation In) us ≡ stopped z → loop_to_end l ts ≡ stopped z
    unfolding loop_of loop_to_end
    head_without z h = rw (named, h) refl

    module _ (word : Span) (vs : Items) (there : takes (Operation In) us ≡ found (word, vs)) where
      abbrev pub head : Expression → Loop
      head e = record { first = v.0; second = v.1; word = word; target = e }

      abbrev whole : (Expression × Edge) × Items → Takes (Loop × Edge)
      whole x = found ((head x.0.0, x.0.1), x.1)

      abbrev headed : Expression × Items → Takes Loop
      headed e = found (head e.0, e.1)

      by_target : (o : Takes Expression)
          → ((o >>= headed) >>= λ lp. finish_of lp.1 >>= λ f. found ((lp.0, f.0), f.1)) ≡ ((o >>= λ e. finish_of e.1 >>= λ f. found ((e.0, f.0), f.1)) >>= whole)
      by_target (stopped z) = refl
      by_target (found e) = sym (ended_one e.0 (finish_of e.1) whole)

      head_is : loop_to_end l ts ≡ (expression_to_end l true vs >>= whole)
      unfolding loop_of loop_to_end expression_to_end
      head_is = rw (named, there) (by_target (expression_of l true vs))

      pub head_aimless : (z : Items) → expression_to_end l true vs ≡ stopped z → loop_to_end l ts ≡ stopped z
      head_aimless z h = head_is ∙ ap (λ o. o >>= whole) h

      pub head_given : (x : Expression × Edge) (ws : Items) → expression_to_end l true vs ≡ found (x, ws) → loop_to_end l ts ≡ found ((head x.0, x.1), ws)
      head_given x ws h = head_is ∙ ap (λ o. o >>= whole) h
