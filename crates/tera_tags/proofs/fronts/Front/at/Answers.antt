use Rattle.std.proofs.Common.{◌∙◌, subst}
use Rattle.tera_lexer.specs.code.Cursors.{FirstIs}
use Rattle.tera_lexer.specs.code.Seen.{seen}
use Rattle.tera_tags.proofs.FrontsLemmas.{tag_front}
use Rattle.tera_tags.proofs.fronts.Front.at.Goals as goal

pub returns-in-Some-second : goal.returns-in-Some-second
returns-in-Some-second c =
    let first = subst (λ t. FirstIs c.args.cursor.now.left (seen t)) c.in-Some-TagStart.field-0-is c.in-Some-TagStart.ensures.shows.1 in
    c.role.ensures ∙ tag_front c.args.cursor.now.left _ _ first c.in-Some-second.ensures.shows.1
