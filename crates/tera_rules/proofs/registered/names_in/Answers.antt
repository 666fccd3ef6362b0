use Rattle.std.proofs.Common.{◌≡◌, ◌∙◌, ◌||◌, ap, get_or, map, rules, string_bytes}
use Rattle.std.specs.List.{list_any}
use Rattle.std.specs.Str.{bytes_eq}
use Rattle.std.proofs.lemmas.List.{take_all}
use Rattle.tera_rules.specs.Registered.{has_name}
use Rattle.tera_rules.proofs.RegisteredLemmas.{one_more}
use Rattle.tera_rules.proofs.registered.names_in.Goals as goal

pub loop-name-preserved : goal.loop-name-preserved
loop-name-preserved c = λ n.
    let list = c.args.list.now in
    let at = c.loop-name.name-index in
    let name = c.name-item.result in
    let item : get_or list at name ≡ name = search rules in
    one_more list at name n (has_name c.loop-name.names n) (has_name c.put_name.new.names n) c.loop-name-test.true item (c.loop-name.invariant n)
    (c.in_ok-put_name.ensures n ∙ ap (λ bytes. has_name c.loop-name.names n || bytes_eq bytes n) c.as_str.ensures.value)

pub returns : goal.returns
returns c = λ n.
    c.loop-name.invariant n
    ∙ ap (λ names. list_any (λ name. bytes_eq name n) (map string_bytes names)) (take_all c.loop-name.name-index c.args.list.now c.loop-name-test.false)
