use Rattle.std.proofs.Common.{◌∙◌, ◌++◌, filter, map, inl, inr, refl, sym, ap}
use Rattle.tera_workspace.specs.Definitions.{texts_read}
use Rattle.tera_server.specs.Configuring.{is_due_inside}
use Rattle.tera_server.specs.Sending.{unpublished_of}
use Rattle.tera_answers.proofs.Tails.{and_so}
use Rattle.tera_server.proofs.ConfiguringLemmas.{grows_same, published_grows}
use Rattle.tera_server.proofs.server.Server.publish_inside.Goals as goal

pub returns-then-keeps_published-clause-published : goal.returns-then-keeps_published-clause-published
returns-then-keeps_published-clause-published c =
    let (none, same) = c.keeps_published.ensures c.if-keeps_published.true in
    inl (sym c.are_all_due-all.ensures ∙ none, same, refl)

pub returns-then-keeps_published-clause-grows : goal.returns-then-keeps_published-clause-grows
returns-then-keeps_published-clause-grows c = grows_same _

pub returns-else-keeps_published-clause-published : goal.returns-else-keeps_published-clause-published
returns-else-keeps_published-clause-published c =
    let s = c.args.self.now in
    and_so c.publish_again.result c.publish_again.ensures.published
    (λ h. inr (h ∙ ap (λ all. unpublished_of s ++ filter (is_due_inside s.workspace c.args.folder.now all) (map (λ d. d.name) (texts_read s.workspace))) c.are_all_due-all.ensures))

pub returns-else-keeps_published-clause-grows : goal.returns-else-keeps_published-clause-grows
returns-else-keeps_published-clause-grows c =
    published_grows c.publish_again.result c.args.self.now c.publish_again.new.self _ c.publish_again.ensures.published c.publish_again.ensures.err
