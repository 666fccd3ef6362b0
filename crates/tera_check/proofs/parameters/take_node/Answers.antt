use Rattle.tera_check.specs.Named.{known_in, taken_in}
use Rattle.tera_check.specs.Scopes.{is_hidden, is_named, is_to_come}
use Rattle.tera_check.proofs.ParametersLemmas.{plain_node, put_ok}
use Rattle.tera_check.proofs.parameters.take_node.Goals as goal

pub returns-in-Content : goal.returns-in-Content
returns-in-Content c =
    let takes = taken_in (known_in c.args.catalogue.now) in
    put_ok takes (is_named c.args.naming.now) (λ n. is_to_come takes n c.args.scopes.now.items)
    (λ n. is_hidden c.args.hidden.now.items n) c.args.parts.now.items c.push_inside.new.parts.items _ _ c.push_inside.result c.push_inside.ensures
    (λ n. plain_node takes (is_hidden c.args.hidden.now.items n) n c.args.node.now c.in-Content.is)
