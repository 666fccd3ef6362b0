use Rattle.std.proofs.lemmas.Str.{IsCharBoundary-start}
use Rattle.text_edits.proofs.Boundaries.{last_within, last_boundary, last_nearest}
use Rattle.text_edits.proofs.laws.last_boundary.Goals as goal

pub returns-clause-boundary : goal.returns-clause-boundary
returns-clause-boundary c text byte is = last_boundary text byte (IsCharBoundary-start text is)

pub returns-clause-within : goal.returns-clause-within
returns-clause-within c = last_within

pub returns-clause-nearest : goal.returns-clause-nearest
returns-clause-nearest c = last_nearest
