use Rattle.std.proofs.Common.{codes, [], sym, ◌∙◌}
use Rattle.std.proofs.lemmas.Slice.Eq.{bytes_eq-Decides}
use Rattle.tera_expect.proofs.NotesLemmas.{repeated}
use Rattle.tera_expect.proofs.TakingLemmas.{refused_further, repeated_refused}
use Rattle.tera_expr_parts.proofs.KeptLemmas.{kept_at}
use Rattle.tera_expr_parts.proofs.faults.repeated_argument.Goals as goal

pub returns-then-eq : goal.returns-then-eq
returns-then-eq c = λ start before goes kept comes.
    let same = (bytes_eq-Decides _ c.args.name.now).0 (sym c.eq.ensures ∙ c.if-eq.true) in
    let came = kept_at c.args.names.now c.loop-known.known-index _ c.args.name.now before start.left c.loop-known-test.true kept same in
    repeated_refused start c.args.cursor.now _ c.first_defined.result (codes "first defined here") [] _
    (repeated c.args.name.now _ c.args.cursor.now.span c.args.cursor.now.left before start.left came comes)
    c.loop-known.invariant.place c.first_defined.ensures.adds c.first_defined.ensures.reports (refused_further start _ _ _ goes c.loop-known.invariant.refuses)

pub returns : goal.returns
returns c = λ start before goes kept comes. refused_further start _ _ _ goes c.loop-known.invariant.refuses
