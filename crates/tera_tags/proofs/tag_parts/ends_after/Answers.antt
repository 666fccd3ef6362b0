use Rattle.std.proofs.Common.{subst}
use Rattle.tera_lexer.specs.code.Cursors.{SecondIs}
use Rattle.tera_lexer.specs.code.Seen.{seen}
use Rattle.tera_lexer.specs.declared.lexer.delimiters.Kind.TheVariants as kind
use Rattle.tera_tags.proofs.tag_parts.ends_after.Goals as goal

pub returns-in-Some-VariableEnd : goal.returns-in-Some-VariableEnd
returns-in-Some-VariableEnd c =
    let second = subst (λ t. SecondIs c.args.cursor.now.left (seen t)) c.in-Some-VariableEnd.field-0-is c.in-Some-VariableEnd.ensures.shows.1 in
    (kind.Variable, _, second)

pub returns-in-Some-TagEnd : goal.returns-in-Some-TagEnd
returns-in-Some-TagEnd c =
    let second = subst (λ t. SecondIs c.args.cursor.now.left (seen t)) c.in-Some-TagEnd.field-0-is c.in-Some-TagEnd.ensures.shows.1 in
    (kind.Block, _, second)
