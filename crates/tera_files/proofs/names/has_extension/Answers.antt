use Rattle.std.proofs.Common.{Some, None}
use Rattle.std.proofs.lemmas.Bool.Decides.{Decides-eqb}
use Rattle.std.proofs.lemmas.Slice.Eq.{strip_suffix_is}
use Rattle.tera_files.proofs.NameLemmas.{pointed, unpointed}
use Rattle.tera_files.proofs.names.has_extension.Goals as goal

pub returns-in-Some : goal.returns-in-Some
returns-in-Some c =
    pointed c.args.name.now c.in-Some.front.now c.args.extension.now c.ends_with.result
    (strip_suffix_is Decides-eqb c.args.name.now c.args.extension.now (Some c.in-Some.front) c.in-Some.ensures.cases)
    c.ends_with.ensures.value

pub returns-in-None : goal.returns-in-None
returns-in-None c = (
  (λ is. cc),
  (λ has. absurd (unpointed c.args.name.now c.args.extension.now
      (strip_suffix_is Decides-eqb c.args.name.now c.args.extension.now None c.in-None.ensures.cases) has)),
)
