use Rattle.std.proofs.Common.{◌≡◌, ◌∙◌, true, false, ap, sym, subst}
use Rattle.std.proofs.lemmas.Result.{IfOk-weaker}
use Rattle.std.proofs.lemmas.Str.Pattern.{contains_text}
use Rattle.std.specs.Str.Iter.{HasSubslice}
use Rattle.tera_lexer.specs.grammar.Marks.{IsValid, marks_of}
use Rattle.tera_lexer.specs.grammar.Tokens.{AreTokensOf, Items}
use Rattle.tera_templates.specs.Ignores.{ignore_word, ignores_in, ignores_view}
use Rattle.tera_templates.proofs.IgnoreLemmas.{no_ignores}
use Rattle.tera_templates.proofs.ignores.ignores_of.Goals as goal

pub tokenize-tokens-requires : goal.tokenize-tokens-requires
tokenize-tokens-requires c = subst IsValid (sym c.in_ok-clone.ensures.cases) c.requires

pub returns-then-not-contains : goal.returns-then-not-contains
returns-then-not-contains c =
    let m = marks_of c.args.markers.now in
    let text = c.args.text.now in
    let items : Items = c.tokenize-tokens.result.left in
    let read : AreTokensOf m text items = subst (λ m. AreTokensOf m text items) c.in_ok-clone.ensures.cases c.tokenize-tokens.ensures.tokens in
    let none : HasSubslice text ignore_word → ⊥ =
    λ has. let no : false ≡ true = sym c.if-not-contains.true ∙ (contains_text c.contains.result ignore_word text c.contains.ensures.cases).1 has in cc
    in
    (items, read, ap ignores_view c.new.ensures.items ∙ no_ignores m.comment_start m.comment_end text items none)

pub returns : goal.returns
returns c =
    let m = marks_of c.args.markers.now in
    let text = c.args.text.now in
    let items : Items = c.tokenize-tokens.result.left in
    let read : AreTokensOf m text items = subst (λ m. AreTokensOf m text items) c.in_ok-clone.ensures.cases c.tokenize-tokens.ensures.tokens in
    IfOk-weaker c.ignores_in.result _ _ (λ v are. (items, read, are ∙ λ i. ignores_in (c.as_str.ensures.value i) (c.as_str-2.ensures.value i) text items)) c.ignores_in.ensures
