-- The front of the tokens that are left, from the next two of them.
use Rattle.std.proofs.Common.{◌≡◌, Bool, refl, sym, ap, ◌∙◌}
use Rattle.tera_base.specs.declared.utils.Span.{Span}
use Rattle.tera_lexer.specs.grammar.Tokens.{Tok, Items, Token, Start}
use Rattle.tera_lexer.specs.code.Cursors.{FirstIs, SecondIs}
use Rattle.tera_lexer.specs.declared.lexer.delimiters.Kind.TheVariants as kind
use Rattle.tera_grammar.specs.statements.TagParts.{Edge}
use Rattle.tera_grammar.specs.statements.Reading.TagParts.{Role, Opening, Closing, Neither, role, front_by, front}
use Rattle.tera_tags.specs.Kinds.{role_kind, kind_of}

kind_by : (r : Role) (start : Edge) (span : Span) (items : Items) → role_kind r ≡ kind_of (front_by r start span items)
kind_by (Opening o) start span items = refl
kind_by (Closing c) start span items = refl
kind_by Neither start span items = refl

pub tag_front : (left : Items) (t : Tok) (dash : Bool) → FirstIs left (Start kind.Block dash) → SecondIs left t → role_kind (role t) ≡ kind_of (front left)
tag_front left t dash (span, rest, one) (first, here, there, following, two) =
    let same : first ≡ Start kind.Block dash = cc in
    kind_by (role t) (record { dash = dash; span = here }) there following
    ∙ ap (λ v. kind_of (front (Token v here (Token t there following)))) (sym same) ∙ ap (λ v. kind_of (front v)) (sym two)
