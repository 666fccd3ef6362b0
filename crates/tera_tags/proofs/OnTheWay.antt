-- The way through a tag: after tokens that were taken are calls that may take none.
use Rattle.tera_expect.proofs.TakingLemmas.{took_all, took_further, goes_took, refused_after, refused_further, memory_refused}

pub ruleset through_tags = (took_all, took_further, goes_took, refused_after, refused_further, memory_refused)
