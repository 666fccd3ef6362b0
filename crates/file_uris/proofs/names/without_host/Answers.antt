use Rattle.std.proofs.Common.{rules, ◌≡◌, ◌++◌, codes, inr, refl}
use Rattle.file_uris.proofs.DecodingLemmas.{after_host}
use Rattle.file_uris.proofs.names.without_host.Goals as goal

pub returns-in-Some-clause-split : goal.returns-in-Some-clause-split
returns-in-Some-clause-split c =
    let is : c.args.rest.now ≡ codes "localhost" ++ c.in-Some.path.now = search rules in
    (codes "localhost", inr refl, is)

pub returns-in-Some-clause-only : goal.returns-in-Some-clause-only
returns-in-Some-clause-only c = λ host other here e rooted.
    let is : c.args.rest.now ≡ codes "localhost" ++ c.in-Some.path.now = search rules in
    after_host c.args.rest.now c.in-Some.path.now host other is here e rooted
