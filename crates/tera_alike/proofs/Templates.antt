-- Tokens that are the same apart from places are those of templates that are the same apart from places.
use Rattle.std.proofs.Common.{◌≡◌, Bool, false, [], Some, refl, sym, ap, subst}
use Rattle.tera_lexer.specs.grammar.Lexed.{IsClosed}
use Rattle.tera_lexer.specs.grammar.Tiling.{in_tag_after}
use Rattle.tera_lexer.specs.grammar.Tokens.{Tok, Items, Ended, Failed, Token, Content}
use Rattle.tera_spelling.specs.Sources.{AreReadAs}
use Rattle.tera_source.proofs.Places.{placed}
use Rattle.tera_grammar.specs.Limits.{Limits}
use Rattle.tera_grammar.specs.statements.Grammar.{Body}
use Rattle.tera_grammar.proofs.plain.statements.Reading.{template}
use Rattle.tera_grammar.specs.statements.Top.{IsTemplate}
use Rattle.tera_grammar.proofs.statements.Closed.{body_closed}
use Rattle.tera_grammar.proofs.statements.Tops.{template_sound, template_complete}
use Rattle.tera_layout.specs.Alike.{AreAlike}
use Rattle.tera_alike.specs.Outputs.{IsAlike}
use Rattle.tera_alike.proofs.BodyPlaces.{body_at}
use Rattle.tera_alike.proofs.BodyOutput.{template_same}
use Rattle.tera_alike.proofs.BodyConditions.{template_moved}

-- the first token, and those after it
abbrev first_token : Items → Tok
first_token (Token t span items) = t
first_token items = Content []

abbrev after_first : Items → Items
after_first (Token t span items) = items
after_first items = items

-- tokens that end in no fault, and others that are the same
alike_read : (inside : Bool) (a b : Items) → IsClosed inside a → AreAlike a b → AreReadAs a Ended b
alike_read inside Ended Ended closed h = refl
alike_read inside Ended (Failed text span) closed h = cc
alike_read inside Ended (Token t span b) closed h = cc
alike_read inside (Failed text span) b closed h = absurd closed
alike_read inside (Token t span a) Ended closed h = cc
alike_read inside (Token t span a) (Failed text s) closed h = cc
alike_read inside (Token t span a) (Token u here b) closed h =
    (here, b, ap (λ x. Token x here b) (sym (ap first_token h)), alike_read (in_tag_after inside t) a b closed (ap after_first h))

module _ (l : Limits) (a b : Items) (alike : AreAlike a b) where
  -- a template over the one is one over the other
  pub alike_template : (x : Body) → IsTemplate l a x → (y : Body) × IsTemplate l b y × IsAlike x y
  alike_template x is =
      let closed : IsClosed false a = subst (IsClosed false) (sym is.tokens) (body_closed x Ended refl) in
      let p = placed a Ended b (alike_read false a b closed alike) in
      (body_at p.at x Ended, subst (λ ts. IsTemplate l ts (body_at p.at x Ended)) (sym p.is) (template_moved p.at l a x is), sym (template_same p.at x Ended))

  -- so where the one is read, the other is
  pub alike_read_some : (x : Body) → template l a ≡ Some x → (y : Body) × (template l b ≡ Some y) × IsAlike x y
  alike_read_some x h = let (y, is, same) = alike_template x (template_sound l a x h) in (y, template_complete l b y is, same)
