use Rattle.tera_mend.proofs.PlacesLemmas.{place_step}
use Rattle.tera_mend.proofs.moved.Place.after.Goals as goal

pub loop-byte-preserved : goal.loop-byte-preserved
loop-byte-preserved c = λ front is.
    place_step front c.as_bytes-byte-items.result.now c.loop-byte.byte-index _ _ c.loop-byte-test.true (c.loop-byte.invariant front is) c.in_ok-place.ensures
