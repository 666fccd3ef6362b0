use Rattle.std.proofs.Common.{◌∙◌, ◌++◌, filter, map, ap}
use Rattle.tera_workspace.specs.Definitions.{texts_read}
use Rattle.tera_server.specs.Configuring.{is_due_by_library}
use Rattle.tera_server.specs.Sending.{unpublished_of}
use Rattle.tera_answers.proofs.Tails.{and_so}
use Rattle.tera_server.proofs.ConfiguringLemmas.{grows_on, published_grows}
use Rattle.tera_server.proofs.server.Server.publish_if_others.Goals as goal

pub returns-clause-published : goal.returns-clause-published
unfolding is_due_by_library
returns-clause-published c =
    let a = c.publish_inside.new.self in
    and_so c.publish_by_library.result c.publish_by_library.ensures.published
    (λ h. record {
      names = unpublished_of a;
      inside = c.in_ok-publish_inside.ensures.published;
      published = h ∙ ap (λ x. unpublished_of a ++ filter (is_due_by_library x c.args.folder.now c.args.found.now) (map (λ d. d.name) (texts_read x.workspace))) c.publish_inside.ensures.same;
    })

pub returns-clause-grows : goal.returns-clause-grows
returns-clause-grows c =
    grows_on _ _ _ c.publish_inside.ensures.grows
    (published_grows c.publish_by_library.result c.publish_inside.new.self c.publish_by_library.new.self _ c.publish_by_library.ensures.published c.publish_by_library.ensures.err)
