use Rattle.std.proofs.Common.{codes, refl, sym}
use Rattle.json.proofs.Numbered.{HasNumbers-get}
use Rattle.json.specs.Json.{number}
use Rattle.json.specs.Value.{value_view}
use Rattle.json_rpc.proofs.Documents.{json_of-some, json_of-none}
use Rattle.json_rpc.proofs.incoming.Incoming.read.Goals as goal

pub invariant_of-result : goal.invariant_of-result
invariant_of-result c = record {
  number = λ s is.
      HasNumbers-get (codes "id") (value_view c.in-Ok.tree) (number s) c.in-Ok.ensures.writable (sym is);
}

pub returns-in-Ok : goal.returns-in-Ok
returns-in-Ok c =
    sym (json_of-some c.args.bytes.now (value_view c.in-Ok.tree) c.in-Ok.ensures.ok.0 c.in-Ok.ensures.ok.1)

pub returns-in-Err-Invalid : goal.returns-in-Err-Invalid
returns-in-Err-Invalid c = sym (json_of-none c.args.bytes.now (rw c.in-Err-Invalid.field-0-is at c.in-Err-Invalid.ensures.invalid refl))
