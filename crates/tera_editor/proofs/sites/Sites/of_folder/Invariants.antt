use Rattle.std.proofs.Common.{◌≡◌, drop}
use Rattle.tera_editor.specs.Sites.{site_in}
use Rattle.tera_editor.proofs.SiteLemmas.{site_found}
use Rattle.tera_editor.proofs.sites.Sites.of_folder.Given as goal

abbrev pub invariant-loop-one : goal.invariant-loop-one
invariant-loop-one l = site_in l.self l.folder ≡ site_found l.folder (drop l.one-index l.one-items)
