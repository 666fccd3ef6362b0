use Rattle.tera_tags.proofs.names.place_of.Goals as goal

pub returns : goal.returns
returns c = c.get.ensures.value
