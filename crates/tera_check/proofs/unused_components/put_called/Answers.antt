use Rattle.std.proofs.Common.{map}
use Rattle.tera_rules.specs.Pending.{seen}
use Rattle.tera_rules.specs.Registered.{has_name}
use Rattle.tera_check.specs.UnusedComponents.{is_called}
use Rattle.tera_check.proofs.UnusedLemmas.{with_calls, with_fault}
use Rattle.tera_check.proofs.unused_components.put_called.Goals as goal

pub returns-in_ok-put_names-in-Ok : goal.returns-in_ok-put_names-in-Ok
returns-in_ok-put_names-in-Ok c = λ n.
    let called = c.args.called.now in
    with_calls n c.args.template.now c.in-Ok.output (map seen c.in_ok-calls-in-Ok.calls.items) called.all (has_name called.names n) (has_name c.put_names.new.names n) c.in-Ok.is
    c.in_ok-calls-in-Ok.ensures (c.in_ok-put_names-in-Ok.ensures n)

pub returns-in-Err : goal.returns-in-Err
returns-in-Err c = λ n. with_fault n c.args.template.now c.in-Err.field-0 (is_called c.args.called.now n) c.in-Err.is
