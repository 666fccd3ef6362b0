use Rattle.std.proofs.Common.{◌≡◌, List, ℕ, Bool, IfOk, false, subst}
use Rattle.tera_editor.specs.Sites.{AreAbsent}
use Rattle.tera_editor.proofs.SiteLemmas.{assumed_given, none_assumed}
use Rattle.tera_editor.proofs.sites.FolderSite.assume.Goals as goal

pub returns-clause-said : goal.returns-clause-said
returns-clause-said c =
    subst (λ (ns : List (List ℕ)). IfOk c.assume_each.result (λ (some : Bool). some ≡ false → AreAbsent ns c.assume_each.new.presences)) c.lacking.ensures c.assume_each.ensures.said

pub returns-clause-none : goal.returns-clause-none
returns-clause-none c = none_assumed c.assume_each.result c.args.self.now c.assume_each.new.presences c.assume_each.new.has_news c.assume_each.ensures.none

pub returns-clause-given : goal.returns-clause-given
returns-clause-given c = assumed_given c.args.self.now c.assume_each.new.presences c.assume_each.new.has_news c.assume_each.ensures.news
