use Rattle.std.proofs.Common.{◌≡◌, ◌++◌, filter, map}
use Rattle.tera_editor.specs.Sites.{due_in, is_entry_due, used_of, used_view}
use Rattle.tera_editor.proofs.sites.FolderSite.push_due.Given as goal

abbrev pub invariant-loop-name : goal.invariant-loop-name
invariant-loop-name l =
    map used_view l.due.items ++ map (used_of l.self.site.root) (filter is_entry_due l.name-iterator) ≡ map used_view l.initial.due.items ++ due_in l.self
