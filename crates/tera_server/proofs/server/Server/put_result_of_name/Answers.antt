use Rattle.std.proofs.Common.{option_map, refl, sym, subst}
use Rattle.json.specs.Json.{null}
use Rattle.protocol_values.specs.Members.{seen}
use Rattle.tera_outline.specs.Names.{name_view}
use Rattle.tera_answers.specs.References.{declares}
use Rattle.tera_server.specs.Requests.{AreListed, IsResultOfName}
use Rattle.tera_answers.proofs.Tails.{and_so}
use Rattle.tera_server.proofs.server.Server.put_result_of_name.Goals as goal

pub returns-in-None-clause-tokens : goal.returns-in-None-clause-tokens
returns-in-None-clause-tokens c =
    let s = c.args.self.now in
    let params = seen c.args.params in
    and_so c.null.result c.null.ensures.ok
    (λ h. (
      null,
      subst (λ request. IsResultOfName request params c.args.file.now (option_map name_view c.args.name.now) s null) (sym c.in-References.is)
          (subst (λ n. AreListed (declares params) (option_map name_view n) s null) (sym c.in-None.is) refl),
      h,
    ))
