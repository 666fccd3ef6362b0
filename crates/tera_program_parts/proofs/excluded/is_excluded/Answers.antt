use Rattle.std.proofs.Common.{Some, String, Option, Global, option_map, string_bytes, subst, sym}
use Rattle.tera_program_parts.proofs.KeptLemmas.{by_known}
use Rattle.tera_program_parts.proofs.excluded.is_excluded.Goals as goal

pub returns-in-Some : goal.returns-in-Some
returns-in-Some g c =
    let knows = g.R.KnownPaths.knows c.args.rt.now in
    let file = c.args.path.now in
    let known : knows file (Some (string_bytes c.in-Some.known)) = subst (λ (o : Option (String Global)). knows file (option_map string_bytes o)) c.in-Some.is c.in_ok-known.ensures in
    by_known c.is_below_one.result knows c.args.paths.now file c.as_str.result.now (subst (λ path. knows file (Some path)) (sym c.as_str.ensures.value) known) c.is_below_one.ensures
