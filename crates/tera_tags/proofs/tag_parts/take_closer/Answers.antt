use Rattle.tera_tags.proofs.Tags.{closed_taken}
use Rattle.tera_tags.proofs.tag_parts.take_closer.Goals as goal

pub returns-clause-gives : goal.returns-clause-gives
returns-clause-gives c =
    closed_taken c.args.closer c.args.cursor.now.left c.pass.new.cursor.left c.pass-2.new.cursor.left _ _ _ _ c.requires c.in_ok-pass.ensures.passes.1.1 c.in_ok-pass-2.ensures.passes.1.1
