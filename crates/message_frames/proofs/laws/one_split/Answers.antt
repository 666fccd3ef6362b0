use Rattle.message_frames.proofs.Splitting.{splits_once}
use Rattle.message_frames.proofs.laws.one_split.Goals as goal

pub returns : goal.returns
returns c = splits_once
