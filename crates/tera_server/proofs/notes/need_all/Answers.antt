use Rattle.std.proofs.Common.{◌∙◌, ◌++◌, take, map, string_bytes, sym, ap, arith, append_assoc}
use Rattle.std.proofs.lemmas.List.{append-nil, take_all}
use Rattle.tera_server.specs.States.{needed_view, needs}
use Rattle.tera_server.proofs.NeedLemmas.{needs_all, needs_next}
use Rattle.tera_server.proofs.notes.need_all.Goals as goal

pub loop-name-init : goal.loop-name-init
loop-name-init c = sym (append-nil (map needed_view c.args.needed.now.items))

pub loop-name-preserved : goal.loop-name-preserved
loop-name-preserved c =
    let kind = c.args.kind in
    let all = c.args.names.now in
    let item = c.name-item.result in
    let i = c.loop-name.name-index in
    let first = map needed_view c.args.needed.now.items in
    let old = map needed_view c.loop-name.needed.items in
    c.in_ok-need.ensures.needed
    ∙ (ap (λ n. old ++ needs kind n) c.as_str.ensures.value
    ∙ (ap (λ ws. ws ++ needs kind (string_bytes item)) c.loop-name.invariant
    ∙ (append_assoc first (needs_all kind (take i all)) (needs kind (string_bytes item))
    ∙ ap (λ ws. first ++ ws) (sym (needs_next kind all i item (omega arith) c.name-item.is)))))

pub returns-in_err-need-clause-grows : goal.returns-in_err-need-clause-grows
returns-in_err-need-clause-grows c =
    (needs_all c.args.kind (take c.loop-name.name-index c.args.names.now), ap (map needed_view) c.in_err-need.ensures.err ∙ c.loop-name.invariant)

pub returns-clause-needed : goal.returns-clause-needed
returns-clause-needed c =
    let first = map needed_view c.args.needed.now.items in
    c.loop-name.invariant ∙ ap (λ ns. first ++ needs_all c.args.kind ns) (take_all c.loop-name.name-index c.args.names.now (omega arith))

pub returns-clause-grows : goal.returns-clause-grows
returns-clause-grows c = (needs_all c.args.kind (take c.loop-name.name-index c.args.names.now), c.loop-name.invariant)
