use Rattle.std.proofs.Common.{false, string_bytes, refl}
use Rattle.tera_editor.specs.declared.sites.FolderSite.{FolderSite}
use Rattle.tera_editor.specs.declared.sites.Presence.{Presence}
use Rattle.tera_editor.proofs.SiteLemmas.{put_at, said_given, unsaid_given}
use Rattle.tera_editor.proofs.sites.FolderSite.set_presence.Goals as goal

pub returns-clause-set : goal.returns-clause-set
returns-clause-set c = λ q.
    put_at c.args.name.now (string_bytes c.in_ok-from_str.field-0) c.args.self.now.presences c.insert.new.self (record { is_there = c.args.is_there; is_due = false }) c.in_ok-from_str.ensures.ok
    c.in_ok-insert.ensures.updates q

pub returns-clause-given : goal.returns-clause-given
returns-clause-given c =
    let x = c.args.self.now in
    let p : Presence = record { is_there = c.args.is_there; is_due = false } in
    let y : FolderSite = record x { presences = c.insert.new.self; has_news = c.is_news-self.result } in
    said_given c.args.name.now x y c.args.is_there c.in_ok-insert.ensures.was_ordered c.in_ok-insert.ensures.ordered refl
    (λ q. put_at c.args.name.now (string_bytes c.in_ok-from_str.field-0) x.presences c.insert.new.self p c.in_ok-from_str.ensures.ok c.in_ok-insert.ensures.updates q)
    c.is_news-self.ensures

pub returns-in_err-from_str-clause-given : goal.returns-in_err-from_str-clause-given
returns-in_err-from_str-clause-given c =
    let x = c.args.self.now in
    let y : FolderSite = record x { has_news = c.is_news-self.result } in
    unsaid_given x y refl refl (λ e. (c.is_news-self.ensures e).0)

pub returns-in_err-insert-clause-given : goal.returns-in_err-insert-clause-given
returns-in_err-insert-clause-given c =
    let x = c.args.self.now in
    let y : FolderSite = record x { presences = c.insert.new.self; has_news = c.is_news-self.result } in
    unsaid_given x y c.in_err-insert.ensures.err refl (λ e. (c.is_news-self.ensures e).0)
