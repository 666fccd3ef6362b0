-- What tags hold, and their end.
use Rattle.std.proofs.Common.{◌≡◌, Bool, List, [], ◌∷◌, ◌++◌, map, Result, Ok, Err, Global, Vec, refl, sym, ap, ◌∙◌}
use Rattle.tera_base.specs.declared.errors.Error.{Error}
use Rattle.tera_base.specs.declared.utils.Span.{Span}
use Rattle.tera_lexer.specs.grammar.Tokens.{Items}
use Rattle.tera_ast.specs.View.{expression_view}
use Rattle.tera_ast.specs.declared.ast.Expression as code
use Rattle.tera_grammar.specs.Reads.{Read, found, stopped, ◌>>=◌, Takes}
use Rattle.tera_grammar.specs.expressions.Marks.{Operation}
use Rattle.tera_grammar.specs.expressions.Operators.{GreaterThan}
use Rattle.tera_grammar.specs.expressions.Reading.Front.{takes}
use Rattle.tera_grammar.specs.statements.Expressions.{Attributes, Expression, Filtering, Limits}
use Rattle.tera_grammar.specs.statements.Reading.Expressions.{attributes_of, expression_of, filter_of}
use Rattle.tera_grammar.specs.statements.Heads.{Filters, filters_output}
use Rattle.tera_grammar.specs.statements.TagParts.{Edge}
use Rattle.tera_grammar.specs.statements.Reading.Heads.{filters_of}
use Rattle.tera_grammar.specs.statements.Reading.TagParts.{finish_of}
use Rattle.tera_tags.specs.Heads.{AreAllFilters, AreFilters, attributes_to_end, expression_to_end, filters_to_end, section_to_end}
use Rattle.tera_tags.specs.Reading.{IsFilter}
use Rattle.tera_expect.specs.Taking.{GivesBy}
use Rattle.tera_expect.proofs.Steps.{failed_as}

-- one reading and the end of the tag, taken together
pub ended_one : {A B : Type 0} (x : A) (f : Takes Edge) (k : (A × Edge) × Items → Read B) → ((f >>= λ f. found ((x, f.0), f.1)) >>= k) ≡ (f >>= λ f. k ((x, f.0), f.1))
ended_one x (stopped z) k = refl
ended_one x (found f) k = refl

pub one_to_end : {A B : Type 0} (o : Takes A) (k : (A × Edge) × Items → Read B)
    → ((o >>= λ x. finish_of x.1 >>= λ f. found ((x.0, f.0), f.1)) >>= k) ≡ (o >>= λ x. finish_of x.1 >>= λ f. k ((x.0, f.0), f.1))
one_to_end (stopped z) k = refl
one_to_end (found x) k = ended_one x.0 (finish_of x.1) k

-- two readings and the end of the tag, taken together
ended_two : {A B C : Type 0} (x : A) (y : B) (f : Takes Edge) (k : (A × B × Edge) × Items → Read C) → ((f >>= λ f. found ((x, y, f.0), f.1)) >>= k) ≡ (f >>= λ f. k ((x, y, f.0), f.1))
ended_two x y (stopped z) k = refl
ended_two x y (found f) k = refl

after_first : {A B C : Type 0} (x : A) (o : Takes B) (k : (A × B × Edge) × Items → Read C)
    → ((o >>= λ y. finish_of y.1 >>= λ f. found ((x, y.0, f.0), f.1)) >>= k) ≡ (o >>= λ y. finish_of y.1 >>= λ f. k ((x, y.0, f.0), f.1))
after_first x (stopped z) k = refl
after_first x (found y) k = ended_two x y.0 (finish_of y.1) k

pub two_to_end : {A B C : Type 0} (o : Takes A) (next : Items → Takes B) (k : (A × B × Edge) × Items → Read C)
    → ((o >>= λ x. next x.1 >>= λ y. finish_of y.1 >>= λ f. found ((x.0, y.0, f.0), f.1)) >>= k) ≡ (o >>= λ x. next x.1 >>= λ y. finish_of y.1 >>= λ f. k ((x.0, y.0, f.0), f.1))
two_to_end (stopped z) next k = refl
two_to_end (found x) next k = after_first x.0 (next x.1) k

module _ (l : Limits) (in_loop : Bool) (ts : Items) where
  -- an expression
  pub no_expression : (z : Items) → expression_of l in_loop ts ≡ stopped z → expression_to_end l in_loop ts ≡ stopped z
  unfolding expression_to_end
  no_expression z h = rw h refl

  module _ (e : Expression) (us : Items) (read : expression_of l in_loop ts ≡ found (e, us)) where
    pub expression_unended : (z : Items) → finish_of us ≡ stopped z → expression_to_end l in_loop ts ≡ stopped z
    unfolding expression_to_end
    expression_unended z h = rw (read, h) refl

    pub expression_ended : (f : Edge) (vs : Items) → finish_of us ≡ found (f, vs) → expression_to_end l in_loop ts ≡ found ((e, f), vs)
    unfolding expression_to_end
    expression_ended f vs h = rw (read, h) refl

  -- filters
  pub no_filters : (z : Items) → filters_of l in_loop ts ≡ stopped z → filters_to_end l in_loop ts ≡ stopped z
  unfolding filters_to_end
  no_filters z h = rw h refl

  module _ (fs : Filters) (us : Items) (read : filters_of l in_loop ts ≡ found (fs, us)) where
    pub filters_unended : (z : Items) → finish_of us ≡ stopped z → filters_to_end l in_loop ts ≡ stopped z
    unfolding filters_to_end
    filters_unended z h = rw (read, h) refl

    pub filters_ended : (f : Edge) (vs : Items) → finish_of us ≡ found (f, vs) → filters_to_end l in_loop ts ≡ found ((fs, f), vs)
    unfolding filters_to_end
    filters_ended f vs h = rw (read, h) refl

  -- a filter and others
  pub no_filter : (z : Items) → filter_of l in_loop ts ≡ stopped z → section_to_end l in_loop ts ≡ stopped z
  unfolding section_to_end
  no_filter z h = rw h refl

  module _ (g : Filtering) (us : Items) (read : filter_of l in_loop ts ≡ found (g, us)) where
    abbrev following : (Filters × Edge) × Items → Takes (Filtering × Filters × Edge)
    following x = found ((g, x.0.0, x.0.1), x.1)

    others_are : section_to_end l in_loop ts ≡ (filters_to_end l in_loop us >>= following)
    unfolding section_to_end filters_to_end
    others_are = rw read (sym (one_to_end (filters_of l in_loop us) following))

    no_others : (z : Items) → filters_to_end l in_loop us ≡ stopped z → section_to_end l in_loop ts ≡ stopped z
    no_others z h = others_are ∙ ap (λ o. o >>= following) h

    -- the first one is before the others
    pub with_others : (span : Span) (one : code.Expression) (before : List code.Expression) → IsFilter in_loop span one g → before ≡ one ∷ []
        → (r : Result (Vec code.Expression Global) Error) (rest : Items) → GivesBy (λ es x. AreFilters in_loop before es.items x.0) r rest (filters_to_end l in_loop us)
        → GivesBy (λ es x. AreAllFilters in_loop span es.items x.0 x.1) r rest (section_to_end l in_loop ts)
    with_others span one before is alone (Ok es) rest (x, others, are) =
        let all = are ∙ ap (λ (v : List code.Expression). map expression_view v ++ filters_output in_loop x.0) alone ∙ ap (λ e. e ∷ filters_output in_loop x.0) is in
        ((g, x.0, x.1), others_are ∙ ap (λ o. o >>= following) others, all)
    with_others span one before is alone (Err e) rest h = failed_as (filters_to_end l in_loop us) (section_to_end l in_loop ts) rest e no_others h

  -- attributes
  pub no_attributes : (z : Items) → attributes_of l in_loop ts ≡ stopped z → attributes_to_end l in_loop ts ≡ stopped z
  unfolding attributes_to_end
  no_attributes z h = rw h refl

  module _ (a : Attributes) (us : Items) (read : attributes_of l in_loop ts ≡ found (a, us)) where
    pub attributes_without : (z : Items) → takes (Operation GreaterThan) us ≡ stopped z → attributes_to_end l in_loop ts ≡ stopped z
    unfolding attributes_to_end
    attributes_without z h = rw (read, h) refl

    module _ (last : Span) (vs : Items) (greater : takes (Operation GreaterThan) us ≡ found (last, vs)) where
      pub attributes_unended : (z : Items) → finish_of vs ≡ stopped z → attributes_to_end l in_loop ts ≡ stopped z
      unfolding attributes_to_end
      attributes_unended z h = rw (read, greater, h) refl

      pub attributes_ended : (f : Edge) (ws : Items) → finish_of vs ≡ found (f, ws) → attributes_to_end l in_loop ts ≡ found ((a, last, f), ws)
      unfolding attributes_to_end
      attributes_ended f ws h = rw (read, greater, h) refl
