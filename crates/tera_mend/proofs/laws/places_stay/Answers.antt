use Rattle.tera_mend.proofs.PlacesLemmas.{place_sound}
use Rattle.tera_mend.proofs.laws.places_stay.Goals as goal

pub returns : goal.returns
returns c = λ old new are. place_sound old new are
