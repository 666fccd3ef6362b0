use Rattle.std.proofs.Common.{sym, ◌∙◌}
use Rattle.std.proofs.lemmas.Cmp.{nat_cmp_total}
use Rattle.std.proofs.lemmas.Map.Lookups.{exact_unsigned}
use Rattle.std.proofs.lemmas.Map.Views.{btree_set_contains_iff}
use Rattle.tera_check.proofs.silenced.is_in.Goals as goal

pub returns : goal.returns
returns c =
    let iff = btree_set_contains_iff nat_cmp_total exact_unsigned c.args.lines.now c.args.line in
    (λ yes. iff.0 (sym c.contains.ensures ∙ yes), λ has. c.contains.ensures ∙ iff.1 has)
