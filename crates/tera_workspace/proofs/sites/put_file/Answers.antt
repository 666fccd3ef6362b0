use Rattle.std.proofs.Common.{◌≡◌, ◌∙◌, ◌∷◌, ◌++◌, [], map, string_bytes, rules, ap}
use Rattle.std.proofs.lemmas.List.{map_push}
use Rattle.tera_workspace.proofs.RenewsLemmas.{parts}
use Rattle.tera_workspace.proofs.sites.put_file.Goals as goal

pub returns : goal.returns
returns c =
    let d = c.index-documents-0.result in
    let file : string_bytes c.in_ok-clone.field-0 ≡ string_bytes d.file = search rules in (
      d,
      parts c.args.documents.now d c.requires c.index-documents-0.is,
      ap (map string_bytes) c.in_ok-push.ensures.items ∙ map_push string_bytes c.args.files.now.items c.in_ok-clone.field-0 ∙ ap (λ n. map string_bytes c.args.files.now.items ++ n ∷ []) file,
    )
