use Rattle.std.proofs.Common.{◌∙◌, [], map, string_bytes, ap, arith}
use Rattle.std.proofs.lemmas.List.{take_all}
use Rattle.tera_workspace.specs.Names.{is_among}
use Rattle.tera_server.proofs.PublishLemmas.{inserted, done_next}
use Rattle.tera_server.proofs.findings.set_of.Goals as goal

pub loop-name-preserved : goal.loop-name-preserved
loop-name-preserved c =
    let key = c.name-item.result in
    done_next [] c.args.names.now c.loop-name.name-index key c.loop-name.all c.insert.new.self c.loop-name-test.true c.name-item.is c.loop-name.invariant
    (inserted c.loop-name.all c.insert.new.self c.as_str.result (string_bytes key) c.as_str.ensures.value c.in_ok-insert.ensures.updates)

pub returns : goal.returns
returns c = λ n.
    c.loop-name.invariant n ∙ ap (λ ns. is_among n (map string_bytes ns)) (take_all c.loop-name.name-index c.args.names.now (omega arith))
