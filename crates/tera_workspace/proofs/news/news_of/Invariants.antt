use Rattle.std.proofs.Common.{◌≡◌, length}
use Rattle.tera_workspace.specs.Kept.{AllWhole}
use Rattle.tera_workspace.proofs.NewsLemmas.{AreNewsSoFar}
use Rattle.tera_workspace.proofs.news.news_of.Given as goal

abbrev pub invariant-loop-number : goal.invariant-loop-number
invariant-loop-number l =
    (length l.news.items ≡ l.number) × (AllWhole l.all.items → AreNewsSoFar l.encoding l.all.items l.news.items)
