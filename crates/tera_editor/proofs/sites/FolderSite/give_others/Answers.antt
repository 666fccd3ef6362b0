use Rattle.std.proofs.Common.{◌∙◌, ap}
use Rattle.tera_site.specs.Kept.{is_one_of}
use Rattle.tera_editor.proofs.sites.FolderSite.give_others.Goals as goal

pub returns-then-not-self-clause-others : goal.returns-then-not-self-clause-others
returns-then-not-self-clause-others c = λ g. g c.if-not-self.true

pub returns-clause-others : goal.returns-clause-others
returns-clause-others c = λ g n. ap (λ site. is_one_of site.others n) c.set_others.ensures ∙ c.in_ok-others.ensures n

pub returns-clause-given : goal.returns-clause-given
returns-clause-given c = λ g news n. ap (λ site. is_one_of site.others n) c.set_others.ensures ∙ c.in_ok-others.ensures n
