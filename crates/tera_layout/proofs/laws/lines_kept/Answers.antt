use Rattle.tera_layout.proofs.LineFeeds.{laid_feeds}
use Rattle.tera_layout.proofs.laws.lines_kept.Goals as goal

pub returns : goal.returns
returns c m one other h = laid_feeds m one other h
