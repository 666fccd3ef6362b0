use Rattle.std.proofs.Common.{◌≡◌, ◌∙◌, [], ap, map, string_bytes}
use Rattle.tera_workspace.specs.Workspaces.{reported_of_name}
use Rattle.tera_server.specs.Between.{faults_in}
use Rattle.tera_server.specs.Sending.{with_all, messages_in, names_once, publisher_of}
use Rattle.tera_server.specs.declared.server.Server.{Server}
use Rattle.tera_workspace.specs.declared.workspace.Workspace.{Workspace}
use Rattle.tera_server.proofs.NamingLemmas.{names_of}
use Rattle.tera_server.proofs.PublishLemmas.{is_other, part_none, part_due, part_others, published_whole, reports_found, on_any_err}
use Rattle.tera_server.proofs.server.Server.publish.Goals as goal

pub returns-in_err-self-clause-in_part : goal.returns-in_err-self-clause-in_part
returns-in_err-self-clause-in_part c =
    let s = c.args.self.now in
    on_any_err c.from_residual.result
    (part_none s c.settle_read.new.self s.unpublished c.args.out.now c.requires (λ kept n differs. absurd (differs (ap (λ (v : Workspace). reported_of_name v n) c.in_err-self.ensures.err))))

pub returns-in_err-between-clause-in_part : goal.returns-in_err-between-clause-in_part
returns-in_err-between-clause-in_part c =
    let s = c.args.self.now in
    let w = c.settle_read.new.self in
    let others = c.in_ok-self.field-0 in
    on_any_err c.from_residual-in_err-between.result
    (part_none s w others c.args.out.now c.requires
    (λ kept n differs. is_other (reported_of_name s.workspace) (reported_of_name w) (names_of others) n ((c.in_ok-self.ensures.names kept).same n) differs))

pub returns-in_err-publish_each-clause-in_part : goal.returns-in_err-publish_each-clause-in_part
returns-in_err-publish_each-clause-in_part c =
    let between = rw (c.as_slice-folders.ensures.value, c.as_slice-unpublished.ensures.value, c.as_slice-edited.ensures.value) at c.in_ok-between.ensures in
    on_any_err c.from_residual-in_err-publish_each.result
    (part_due c.args.self.now c.settle_read.new.self c.in_ok-self.field-0 (faults_in c.in_ok-between.between) c.args.out.now c.publish_each.new.out c.requires between c.in_ok-self.ensures.names
    (rw (c.as_slice-folders.ensures.value, c.as_slice-unpublished.ensures.value, c.as_slice-edited.ensures.value) at c.in_err-publish_each.ensures.in_part))

pub returns-in_err-publish_each-2-clause-in_part : goal.returns-in_err-publish_each-2-clause-in_part
returns-in_err-publish_each-2-clause-in_part c =
    let between = rw (c.as_slice-folders.ensures.value, c.as_slice-unpublished.ensures.value, c.as_slice-edited.ensures.value) at c.in_ok-between.ensures in
    let more = rw (c.as_slice-folders.ensures.value, c.as_slice-unpublished.ensures.value, c.as_slice-edited.ensures.value) at c.in_ok-publish_each.ensures.published in
    let sent = rw (c.as_slice-folders.ensures.value, c.as_slice-unpublished.ensures.value) at c.in_err-publish_each-2.ensures.in_part in
    on_any_err c.from_residual-in_err-publish_each-2.result
    (part_others c.args.self.now c.settle_read.new.self c.in_ok-self.field-0 c.clear.new.self (faults_in c.in_ok-between.between) c.args.out.now c.publish_each.new.out c.publish_each-2.new.out c.requires
    between c.in_ok-self.ensures.names more sent)

pub returns-clause-published : goal.returns-clause-published
returns-clause-published c =
    let s = c.args.self.now in
    let w = c.settle_read.new.self in
    let others = c.in_ok-self.field-0 in
    let next = c.publish_each.new.out in
    let faults = faults_in c.in_ok-between.between in
    let between = rw (c.as_slice-folders.ensures.value, c.as_slice-unpublished.ensures.value, c.as_slice-edited.ensures.value) at c.in_ok-between.ensures in
    let more = rw (c.as_slice-folders.ensures.value, c.as_slice-unpublished.ensures.value, c.as_slice-edited.ensures.value) at c.in_ok-publish_each.ensures.published in
    let sent : c.publish_each-2.new.out ≡ with_all next (messages_in (publisher_of s faults) w (names_once [] (names_of others))) =
    (rw c.as_slice-folders.ensures.value at c.in_ok-publish_each-2.ensures.published)
    ∙ ap (λ names. with_all next (messages_in (publisher_of s faults) w (names_once [] (map string_bytes names)))) c.as_slice-unpublished.ensures.value in
    published_whole s w others c.clear-2.new.self c.clear.new.self faults c.args.out.now next c.publish_each-2.new.out between c.in_ok-self.ensures.settled c.in_ok-self.ensures.read c.in_ok-self.ensures.names
    c.settle_read.ensures.documents c.settle_read.ensures.templates more sent (ap (map string_bytes) c.clear-2.ensures.items) (ap (map string_bytes) c.clear.ensures.items)

pub returns-in_err-self-clause-stays : goal.returns-in_err-self-clause-stays
returns-in_err-self-clause-stays c =
    let checked = c.settle_read.ensures in
    reports_found c.args.self.now c.settle_read.new.self c.args.self.now.unpublished c.args.self.now.edited checked.documents checked.encoding checked.kept

pub returns-in_err-between-clause-stays : goal.returns-in_err-between-clause-stays
returns-in_err-between-clause-stays c =
    let checked = c.settle_read.ensures in
    reports_found c.args.self.now c.settle_read.new.self c.in_ok-self.field-0 c.args.self.now.edited checked.documents checked.encoding checked.kept

pub returns-in_err-publish_each-clause-stays : goal.returns-in_err-publish_each-clause-stays
returns-in_err-publish_each-clause-stays c =
    let checked = c.settle_read.ensures in
    reports_found c.args.self.now c.settle_read.new.self c.in_ok-self.field-0 c.args.self.now.edited checked.documents checked.encoding checked.kept

pub returns-in_err-publish_each-2-clause-stays : goal.returns-in_err-publish_each-2-clause-stays
returns-in_err-publish_each-2-clause-stays c =
    let checked = c.settle_read.ensures in
    reports_found c.args.self.now c.settle_read.new.self c.in_ok-self.field-0 c.clear.new.self checked.documents checked.encoding checked.kept

pub returns-clause-stays : goal.returns-clause-stays
returns-clause-stays c =
    let checked = c.settle_read.ensures in
    reports_found c.args.self.now c.settle_read.new.self c.clear-2.new.self c.clear.new.self checked.documents checked.encoding checked.kept
