use Rattle.std.proofs.Common.{◌≡◌, ◌++◌, take}
use Rattle.tera_site.specs.Sites.{numbers_by}
use Rattle.tera_site.specs.Views.{names_of, under_name}
use Rattle.tera_site.proofs.site.push_numbers.Given as goal

abbrev pub invariant-loop-name : goal.invariant-loop-name
invariant-loop-name l =
    l.links.items ≡ l.fn.links.items ++ numbers_by (under_name l.numbers) (names_of (take l.name-index l.name-items))
