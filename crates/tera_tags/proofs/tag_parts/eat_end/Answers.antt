use Rattle.std.proofs.Common.{refl, subst}
use Rattle.tera_lexer.specs.code.Cursors.{FirstIs}
use Rattle.tera_lexer.specs.code.Seen.{seen}
use Rattle.tera_lexer.specs.declared.lexer.delimiters.Kind.TheVariants as kind
use Rattle.tera_grammar.specs.statements.Reading.TagParts.{finish_of}
use Rattle.tera_tags.proofs.Tags.{end_eaten}
use Rattle.tera_tags.proofs.tag_parts.eat_end.Goals as goal

pub returns-in-Some-TagEnd : goal.returns-in-Some-TagEnd
returns-in-Some-TagEnd c =
    let first = subst (λ t. FirstIs c.args.cursor.now.left (seen t)) c.in-Some-TagEnd.field-0-is c.in-Some-TagEnd.ensures.shows.1 in
    end_eaten kind.Block finish_of (λ dash span us. refl) c.args.cursor.now c.skip.new.self c.skip.result _ first c.in-Some-TagEnd.ensures.shows.0 c.skip.ensures.skips
