use Rattle.std.proofs.Common.{◌∙◌, map, refl, sym, string_bytes, take, arith}
use Rattle.std.specs.Prelude.{IsTrue}
use Rattle.std.proofs.lemmas.Bool.{false≢true}
use Rattle.tera_files.proofs.NameLemmas.{one_more}
use Rattle.tera_program_parts.specs.Excluded.{has_names}
use Rattle.tera_program_parts.proofs.ExcludedLemmas.{first_or_all, found}
use Rattle.tera_program_parts.proofs.excluded.begins_in.Goals as goal

pub loop-end-preserved : goal.loop-end-preserved
loop-end-preserved c =
    let paths = c.args.paths.now in
    let names = c.args.names.now in
    let here : ¬ IsTrue (has_names paths (map string_bytes (take c.loop-end.end names))) = λ has. false≢true (sym c.if-has_first.false ∙ c.has_first.ensures ∙ has) in
    one_more (λ k. IsTrue (has_names paths (map string_bytes (take k names)))) c.loop-end.end c.loop-end.invariant here

pub returns-then-has_first : goal.returns-then-has_first
returns-then-has_first c = (
  λ so. (c.loop-end.end, omega arith, sym c.has_first.ensures ∙ c.if-has_first.true),
  λ some. refl,
)

pub returns : goal.returns
returns c =
    first_or_all c.args.paths.now c.args.names.now c.loop-end.end c.contains.result (omega arith) c.loop-end.invariant (c.contains.ensures ∙ found c.args.names.now c.args.paths.now.keys)
