use Rattle.std.proofs.Common.{◌↔◌, ℕ, List, codes, subst}
use Rattle.std.specs.BTreeSet.{keys}
use Rattle.std.specs.List.{Contains}
use Rattle.tera_templates.specs.Lost.{IsLostAt, IsWordAt, places_under}
use Rattle.tera_rules.proofs.ConditionsLemmas.{not_none}
use Rattle.tera_templates.proofs.mended.read_mended.Goals as goal

pub returns : goal.returns
returns c = (
  record {
    is_source = c.in_ok-from_str.ensures.ok;
    some = not_none c.in_ok-found.found.faults c.if-is_empty.ensures;
    bound = c.in_ok-found.ensures.bound;
    reached = c.in_ok-found.ensures.mends.0;
    mends = c.in_ok-found.ensures.mends.1;
    ends = c.in_ok-found.ensures.mends.2;
    notes = c.in_ok-found.ensures.notes;
    lost = subst (λ t. (n : List ℕ) (at : ℕ) → Contains (places_under c.in_ok-lost.lost n) at ↔ IsLostAt c.args.source.now t n at) c.as_str.ensures.value c.in_ok-lost.ensures;
    ends_of = subst (λ t. (at : ℕ) → Contains (keys c.in_ok-ends.ends) at ↔ IsWordAt t (codes "endcomponent") at) c.as_str-2.ensures.value c.in_ok-ends.ensures;
  },
  c.in_ok-found.ensures.tree,
)
