use Rattle.std.proofs.Common.{◌∙◌, ap, Some}
use Rattle.std.specs.Option.{option_map}
use Rattle.std.proofs.lemmas.Map.Text.{btree_map_updates_str}
use Rattle.tera_rules.proofs.RepeatedLemmas.{span_by}
use Rattle.tera_rules.proofs.repeated.put_span.Goals as goal

pub returns-clause-following : goal.returns-clause-following
returns-clause-following c = λ n.
    ap (option_map (λ s. s.now)) (btree_map_updates_str c.args.name.now c.args.following.now c.insert.new.self (Some c.args.span) c.in_ok-insert.ensures.updates n)
    ∙ span_by _ c.args.span _
