use Rattle.std.proofs.Common.{◌≡◌, ◌||◌, ℕ, List}
use Rattle.std.specs.List.{list_any}
use Rattle.tera_site.specs.Kept.{is_one_of, names_in}
use Rattle.tera_editor.specs.Sites.{is_there_as, may_be}
use Rattle.tera_editor.proofs.sites.FolderSite.others.Given as goal

abbrev pub invariant-loop-name : goal.invariant-loop-name
invariant-loop-name l = (n : List ℕ) → (is_one_of (names_in l.others) n || list_any (is_there_as n) l.name-iterator) ≡ may_be l.self n
