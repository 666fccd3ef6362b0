use Rattle.std.proofs.Common.{ap, ◌∙◌, subst}
use Rattle.tera_lexer.specs.code.Cursors.{Sight}
use Rattle.tera_lexer.specs.code.Seen.{seen}
use Rattle.tera_lexer.specs.grammar.Tokens.{Token}
use Rattle.tera_expr_parts.proofs.FrontsLemmas.{unseen_front, name_front}
use Rattle.tera_expr_parts.proofs.front.Front.at.Goals as goal

pub returns-in-None : goal.returns-in-None
returns-in-None c = unseen_front c.args.cursor.now.left (subst (Sight 2 c.args.cursor.now.left) c.in-None.ensures.shows c.in-None.ensures.sight)

pub returns-in-Some-Ident : goal.returns-in-Some-Ident
returns-in-Some-Ident c =
    let (sight, (s, us, is)) = c.in-Some-Ident.ensures.shows in
    let took = is ∙ ap (λ t. Token (seen t) s us) c.in-Some-Ident.field-0-is in
    rw c.in_is_second.ensures at c.word_front.ensures ∙ name_front c.args.cursor.now.left _ s us took
