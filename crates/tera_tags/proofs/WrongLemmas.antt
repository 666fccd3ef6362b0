-- Where reading stops at tokens that begin no text, no variable and no known tag.
use Rattle.std.proofs.Common.{◌≡◌, Bool, IfErr, IfOk, Result, Ok, Err, inl, inr, refl, ap, ◌∙◌}
use Rattle.tera_base.specs.declared.errors.Error.{Error}
use Rattle.tera_base.specs.declared.utils.Span.{Span}
use Rattle.tera_lexer.specs.code.Cursors.{Position, TakesOne}
use Rattle.tera_lexer.specs.code.Seen.{seen}
use Rattle.tera_lexer.specs.declared.lexer.tokens.Token.{Token as Lexed}
use Rattle.tera_lexer.specs.declared.lexer.tokens.Token.TheVariants as lexed
use Rattle.tera_lexer.specs.grammar.Tokens.{Items, Token}
use Rattle.tera_grammar.specs.Reads.{stopped, StopsAt, Fails}
use Rattle.tera_grammar.specs.statements.Reading.TagParts.{wrong_after, wrong_at}
use Rattle.tera_expect.proofs.Steps.{untaken}
use Rattle.tera_tags.specs.Reading.{PassesOne}

-- where no token is taken
pub wrong_untaken : (old new : Position) (e : Error) → TakesOne old (Err e) new → Fails {A = Unit {0}} (stopped (wrong_at old.left)) new.left e
wrong_untaken old new e takes = untaken {A = Unit {0}} (λ ts. stopped (wrong_at ts)) old new e refl (λ text s. refl) takes

-- after the start of a tag
module _ (old mid new : Position) (t : Lexed) (dash : Bool) (s : Span) (first : old.left ≡ Token (seen t) s mid.left) (starts : t ≡ lexed.TagStart dash) where
  here : wrong_at old.left ≡ mid.left
  here = ap wrong_at (first ∙ ap (λ u. Token (seen u) s mid.left) starts)

  pub tag_stops : (r : Result (Unit {0}) Error) → PassesOne mid r new → IfErr r (Fails {A = Unit {0}} (stopped (wrong_at old.left)) new.left)
  tag_stops (Ok u) passes = tt
  tag_stops (Err e) passes = rw here (untaken {A = Unit {0}} (λ ts. stopped ts) mid new e refl (λ text s. refl) passes)

  pub tag_wrong : (r : Result (Unit {0}) Error) → PassesOne mid r new → IfOk r (λ u. StopsAt {A = Unit {0}} (stopped (wrong_at old.left)) new.left)
  tag_wrong (Ok u) (p, takes) = inr (inl (seen p.0, p.1, ap stopped (here ∙ takes.1)))
  tag_wrong (Err e) passes = tt

-- at a token that starts no tag
no_start : (t : Lexed) → ((dash : Bool) → t ≡ lexed.TagStart dash → ⊥) → (s : Span) (us : Items) → wrong_after (seen t) s us ≡ Token (seen t) s us
no_start (lexed.TagStart dash) none s us = absurd (none dash refl)
no_start _ none s us = refl

pub token_wrong : (old left : Items) (t : Lexed) (s : Span) → ((dash : Bool) → t ≡ lexed.TagStart dash → ⊥) → old ≡ Token (seen t) s left
    → StopsAt {A = Unit {0}} (stopped (wrong_at old)) left
token_wrong old left t s none is = inr (inl (seen t, s, ap stopped (ap wrong_at is ∙ no_start t none s left)))
