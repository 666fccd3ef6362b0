use Rattle.std.proofs.Common.{refl}
use Rattle.tera_server.proofs.ConfiguringLemmas.{configured, grows_same, unconfigured}
use Rattle.tera_server.proofs.PublishLemmas.{on_any_err}
use Rattle.tera_answers.proofs.Tails.{and_so}
use Rattle.tera_server.proofs.server.Server.configure.Goals as goal

pub returns-in_err-publish_if_others-clause-err : goal.returns-in_err-publish_if_others-clause-err
returns-in_err-publish_if_others-clause-err c =
    let s = c.args.self.now in
    let a = c.publish_if_others.new.self in
    on_any_err c.from_residual.result
    (unconfigured s a a a a c.publish_if_others.ensures.same refl refl refl c.publish_if_others.ensures.grows refl (λ g. g) (grows_same _) (grows_same _))

pub returns-in_err-set_site-clause-err : goal.returns-in_err-set_site-clause-err
returns-in_err-set_site-clause-err c =
    let s = c.args.self.now in
    let a = c.publish_if_others.new.self in
    let z = c.set_site.new.self in
    on_any_err c.from_residual-in_err-set_site.result
    (unconfigured s a z z z c.publish_if_others.ensures.same c.set_site.ensures.same refl refl c.publish_if_others.ensures.grows refl c.set_site.ensures.given (grows_same _) (grows_same _))

pub returns-in_err-forget_file-clause-err : goal.returns-in_err-forget_file-clause-err
returns-in_err-forget_file-clause-err c =
    let s = c.args.self.now in
    let a = c.publish_if_others.new.self in
    let z = c.set_site.new.self in
    let b = c.forget_file.new.self in
    on_any_err c.from_residual-in_err-forget_file.result
    (unconfigured s a z b b c.publish_if_others.ensures.same c.set_site.ensures.same c.forget_file.ensures.same refl c.publish_if_others.ensures.grows refl c.set_site.ensures.given c.forget_file.ensures.grows (grows_same _))

pub returns-clause-configured : goal.returns-clause-configured
returns-clause-configured c =
    let s = c.args.self.now in
    let a = c.publish_if_others.new.self in
    let z = c.set_site.new.self in
    let b = c.forget_file.new.self in
    let t = c.set_found.new.self in
    let first = c.publish_if_others.ensures.same in
    let sited = c.set_site.ensures.same in
    let second = c.forget_file.ensures.same in
    let third = c.set_found.ensures.same in
    and_so c.set_found.result c.set_found.ensures.set
    (λ set. configured s a z b t first sited second third c.args.folder.now c.args.found
    (unconfigured s a z b t first sited second third c.publish_if_others.ensures.grows c.set_found.ensures.markers c.set_site.ensures.given c.forget_file.ensures.grows c.set_found.ensures.grows)
    set c.in_ok-publish_if_others.ensures.published c.in_ok-set_site.ensures.set c.set_site.ensures.renewed)

pub returns-clause-err : goal.returns-clause-err
returns-clause-err c =
    on_any_err c.set_found.result
    (unconfigured c.args.self.now c.publish_if_others.new.self c.set_site.new.self c.forget_file.new.self c.set_found.new.self c.publish_if_others.ensures.same c.set_site.ensures.same
    c.forget_file.ensures.same c.set_found.ensures.same c.publish_if_others.ensures.grows c.set_found.ensures.markers c.set_site.ensures.given c.forget_file.ensures.grows c.set_found.ensures.grows)
