use Rattle.std.proofs.Common.{rules, ◌≡◌, ◌∙◌, ◌++◌, true, string_bytes, ap}
use Rattle.std.proofs.lemmas.Str.{IsUtf8-string_bytes}
use Rattle.file_uris.specs.Decoding.{decoded, single_slashed}
use Rattle.file_uris.specs.Names.{scheme, is_rooted}
use Rattle.file_uris.proofs.names.path_of.Goals as goal

pub returns-in-Ok : goal.returns-in-Ok
returns-in-Ok c =
    let rest = c.without_host.result.now in
    let split = c.without_host.ensures.split in
    let file : c.args.uri.now ≡ scheme ++ c.in-Some.rest.now = search rules in
    let path_is : string_bytes c.in-Ok.path ≡ single_slashed (decoded rest) = search rules in
    let rooted : is_rooted (decoded rest) ≡ true = search rules in
    record {
      host = split.0;
      rest = rest;
      file = file ∙ ap (λ r. scheme ++ r) split.2;
      here = split.1;
      path_is = path_is;
      rooted = rooted;
      text = IsUtf8-string_bytes c.in-Ok.path;
    }
