use Rattle.std.proofs.Common.{sym, ◌∙◌}
use Rattle.tera_tags.proofs.Tags.{stops_there, unclosed}
use Rattle.tera_tags.proofs.tag_parts.closed.Goals as goal

pub returns-then-not-closes-clause-gives : goal.returns-then-not-closes-clause-gives
returns-then-not-closes-clause-gives c =
    stops_there _ _ _ _ (unclosed c.args.closer c.args.cursor.now.left (sym c.closes.ensures ∙ c.if-not-closes.true)) c.unknown_tag.ensures.stops
