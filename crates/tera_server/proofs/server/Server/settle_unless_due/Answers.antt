use Rattle.std.proofs.Common.{rules, ◌≡◌}
use Rattle.tera_server.specs.declared.server.Phase.TheVariants.{Running}
use Rattle.tera_server.proofs.PublishLemmas.{on_any_err}
use Rattle.tera_server.proofs.SettlingLemmas.{keeps_sites, part_of_none, part_on, published_on, reports_names, reports_on, settling}
use Rattle.tera_server.proofs.server.Server.settle_unless_due.Goals as goal

pub publish-requires : goal.publish-requires
publish-requires c = c.in_ok-read_names.ensures.read.unpublished

pub returns-in_err-read_names-clause-unsettled : goal.returns-in_err-read_names-clause-unsettled
returns-in_err-read_names-clause-unsettled c =
    let m = c.read_names.new.self in
    on_any_err c.from_residual.result
    (part_on c.args.self.now m m c.args.out.now c.args.out.now c.read_names.ensures.only c.read_names.ensures.due (part_of_none m c.args.out.now))

pub returns-in_err-read_names-clause-stays : goal.returns-in_err-read_names-clause-stays
returns-in_err-read_names-clause-stays c = reports_names c.args.self.now c.read_names.new.self c.read_names.ensures.only

pub returns-in_err-due-clause-unsettled : goal.returns-in_err-due-clause-unsettled
returns-in_err-due-clause-unsettled c =
    let m = c.read_names.new.self in
    on_any_err c.from_residual-in_err-due.result
    (part_on c.args.self.now m m c.args.out.now c.args.out.now c.read_names.ensures.only c.read_names.ensures.due (part_of_none m c.args.out.now))

pub returns-in_err-due-clause-stays : goal.returns-in_err-due-clause-stays
returns-in_err-due-clause-stays c = reports_names c.args.self.now c.read_names.new.self c.read_names.ensures.only

pub returns-in_err-publish-clause-unsettled : goal.returns-in_err-publish-clause-unsettled
returns-in_err-publish-clause-unsettled c =
    on_any_err c.from_residual-in_err-publish.result
    (part_on c.args.self.now c.read_names.new.self c.publish.new.self c.args.out.now c.publish.new.out c.read_names.ensures.only c.read_names.ensures.due c.in_err-publish.ensures.in_part)

pub returns-in_err-publish-clause-stays : goal.returns-in_err-publish-clause-stays
returns-in_err-publish-clause-stays c =
    let s = c.args.self.now in
    let m = c.read_names.new.self in
    reports_on s m c.publish.new.self (reports_names s m c.read_names.ensures.only) c.publish.ensures.stays

pub returns-in_err-publish-clause-known : goal.returns-in_err-publish-clause-known
returns-in_err-publish-clause-known c = keeps_sites c.args.self.now.sites c.read_names.new.self.sites c.publish.new.self.sites c.publish.ensures.sites c.read_names.ensures.known

pub returns-clause-settled : goal.returns-clause-settled
returns-clause-settled c =
    let s = c.args.self.now in
    let running : s.phase ≡ Running = search rules in
    λ none. settling s c.publish.new.self c.args.out.now c.publish.new.out running
    (published_on s c.read_names.new.self c.publish.new.self c.args.out.now c.publish.new.out c.read_names.ensures.only c.in_ok-read_names.ensures.read c.publish.ensures.sites c.in_ok-publish.ensures.published)

pub returns-clause-stays : goal.returns-clause-stays
returns-clause-stays c =
    let s = c.args.self.now in
    let m = c.read_names.new.self in
    reports_on s m c.publish.new.self (reports_names s m c.read_names.ensures.only) c.publish.ensures.stays

pub returns-clause-known : goal.returns-clause-known
returns-clause-known c = keeps_sites c.args.self.now.sites c.read_names.new.self.sites c.publish.new.self.sites c.publish.ensures.sites c.read_names.ensures.known
