use Rattle.std.proofs.Common.{◌≡◌, string_bytes, rules}
use Rattle.tera_editor.specs.Sites.{may_be}
use Rattle.tera_editor.proofs.SiteLemmas.{others_next}
use Rattle.tera_editor.proofs.sites.FolderSite.others.Goals as goal

pub loop-name-preserved-in_ok-insert : goal.loop-name-preserved-in_ok-insert
loop-name-preserved-in_ok-insert c = λ q.
    let same : string_bytes c.in_ok-clone.field-0 ≡ string_bytes c.in-Some.name.now = search rules in
    others_next q c.in-Some.name.now c.in_ok-clone.field-0 c.in-Some.presence.now c.loop-name.others c.insert.new.self c.loop-name.name-iterator c.next.new.self (may_be c.args.self.now q) same
    c.if-presence.true c.in-Some.ensures.steps c.in_ok-insert.ensures.updates (c.loop-name.invariant q)
