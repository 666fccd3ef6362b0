use Rattle.std.proofs.Common.{◌≡◌, ◌∙◌, ap}
use Rattle.std.specs.List.{list_any}
use Rattle.std.specs.Str.{bytes_eq}
use Rattle.tera_check.proofs.levels.has_rule.Goals as goal

pub returns : goal.returns
returns c =
    c.contains.ensures.value ∙ ap (λ name. list_any (λ rule. bytes_eq rule.now name) c.args.rules.now) c.name.ensures
