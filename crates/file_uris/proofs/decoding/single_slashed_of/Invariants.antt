use Rattle.std.proofs.Common.{◌≡◌, ◌++◌, length}
use Rattle.file_uris.specs.Decoding.{single_slashed}
use Rattle.file_uris.proofs.decoding.single_slashed_of.Given as goal

abbrev pub invariant-slashes : goal.invariant-slashes
invariant-slashes l = l.bytes.items ++ single_slashed l.rest ≡ single_slashed l.path

abbrev pub decreases-slashes : goal.decreases-slashes
decreases-slashes l = length l.rest
