use Rattle.std.proofs.Common.{string_bytes, true}
use Rattle.tera_editor.proofs.SiteLemmas.{nothing_known, put_known, put_other}
use Rattle.tera_editor.proofs.sites.add_new.Goals as goal

pub returns-clause-kept : goal.returns-clause-kept
returns-clause-kept c = λ q apart.
    put_other c.args.name.now (string_bytes c.in_ok-from_str.field-0) c.args.presences.now c.insert.new.self (record { is_there = true; is_due = true }) c.in_ok-from_str.ensures.ok
    c.in_ok-insert.ensures.updates q apart

pub returns-clause-known : goal.returns-clause-known
returns-clause-known c =
    put_known c.args.name.now (string_bytes c.in_ok-from_str.field-0) c.args.presences.now c.insert.new.self c.in_ok-from_str.ensures.ok
    (nothing_known _ c.if-contains_key.ensures) c.in_ok-insert.ensures.updates
