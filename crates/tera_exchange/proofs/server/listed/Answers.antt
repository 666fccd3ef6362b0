use Rattle.std.proofs.Common.{◌∙◌, ap, subst}
use Rattle.tera_files.specs.Finding.{IsFound}
use Rattle.tera_files.specs.Names.{texts}
use Rattle.tera_exchange.specs.Serving.{extensions_in}
use Rattle.tera_exchange.proofs.ListedLemmas.{listed_all, listed_but}
use Rattle.tera_exchange.proofs.server.listed.Goals as goal

pub returns-in-Some : goal.returns-in-Some
returns-in-Some g c =
    let extensions = extensions_in c.args.server.now c.args.folder.now in
    let paths = texts c.args.paths.now in
    let found = c.in_ok-found.found in
    let is : IsFound extensions paths found = subst (λ es. IsFound es paths found) (ap texts c.as_slice.ensures.value ∙ c.in_ok-extensions.ensures) c.in_ok-found.ensures in
    listed_but _ _ c.leave_out_paths.result extensions paths found is c.leave_out_paths.ensures

pub returns : goal.returns
returns g c =
    let extensions = extensions_in c.args.server.now c.args.folder.now in
    let paths = texts c.args.paths.now in
    let found = c.in_ok-found.found in
    let is : IsFound extensions paths found = subst (λ es. IsFound es paths found) (ap texts c.as_slice.ensures.value ∙ c.in_ok-extensions.ensures) c.in_ok-found.ensures in
    listed_all extensions paths found is
