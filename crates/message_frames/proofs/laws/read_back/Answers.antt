use Rattle.message_frames.proofs.ReadBack.{read_back}
use Rattle.message_frames.proofs.Splitting.{nothing_partial}
use Rattle.message_frames.proofs.laws.read_back.Goals as goal

pub returns : goal.returns
returns c = λ messages small. record { whole = read_back messages small; partial = nothing_partial }
