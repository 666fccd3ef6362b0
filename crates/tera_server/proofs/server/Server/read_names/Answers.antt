use Rattle.std.proofs.Common.{◌≡◌, ◌∙◌, ◌++◌, [], map, string_bytes, refl, ap}
use Rattle.std.proofs.lemmas.List.{append-nil}
use Rattle.tera_server.specs.Naming.{AddsNamed}
use Rattle.tera_server.specs.States.{edited_of}
use Rattle.tera_server.specs.declared.server.Server.{Server}
use Rattle.tera_workspace.specs.declared.workspace.Workspace.{Workspace}
use Rattle.tera_server.proofs.NamingLemmas.{NameList, names_of, with_names, adds_more, adds_none, names_read, only_named, put_together}
use Rattle.tera_editor.proofs.SiteLemmas.{keeps_same}
use Rattle.tera_server.proofs.server.Server.read_names.Goals as goal

-- nothing is put together
adds_same : (s : Server) (unpublished edited : NameList) → edited.items ≡ s.edited.items → unpublished.items ≡ s.unpublished.items → AddsNamed s (with_names s s.workspace s.sites unpublished edited)
adds_same s unpublished edited one other =
    adds_none s s.workspace unpublished edited (ap (λ ns. map string_bytes ns ++ names_of unpublished) one ∙ ap (λ ns. edited_of s ++ map string_bytes ns) other)

-- .. or the documents are not read
adds_unread : (s : Server) (w : Workspace) (unpublished edited : NameList) → edited.items ≡ s.edited.items ++ s.unpublished.items → names_of unpublished ≡ [] → AddsNamed s (with_names s w s.sites unpublished edited)
adds_unread s w unpublished edited is none =
    adds_none s w unpublished edited (ap (λ ns. names_of edited ++ ns) none ∙ append-nil (names_of edited) ∙ put_together s.edited s.unpublished edited is)

pub returns-in_err-append-clause-only : goal.returns-in_err-append-clause-only
returns-in_err-append-clause-only c =
    let s = c.args.self.now in
    only_named s s.workspace s.sites c.append.new.other c.append.new.self (λ n. refl) refl (λ n. refl) (λ k. k) (λ g. g)
    (adds_same s c.append.new.other c.append.new.self c.in_err-append.ensures.items c.in_err-append.ensures.other_items)

pub returns-in_err-append-clause-due : goal.returns-in_err-append-clause-due
returns-in_err-append-clause-due c = adds_same c.args.self.now c.append.new.other c.append.new.self c.in_err-append.ensures.items c.in_err-append.ensures.other_items

pub returns-in_err-append-clause-known : goal.returns-in_err-append-clause-known
returns-in_err-append-clause-known c = keeps_same c.args.self.now.sites

pub returns-in_err-read-clause-only : goal.returns-in_err-read-clause-only
returns-in_err-read-clause-only c =
    let s = c.args.self.now in
    let read = c.read.ensures in
    only_named s c.read.new.self s.sites c.append.new.other c.append.new.self read.documents read.encoding read.reported read.kept (λ g. g)
    (adds_unread s c.read.new.self c.append.new.other c.append.new.self c.in_ok-append.ensures.items (ap (map string_bytes) c.in_ok-append.ensures.other_items))

pub returns-in_err-read-clause-due : goal.returns-in_err-read-clause-due
returns-in_err-read-clause-due c =
    adds_unread c.args.self.now c.read.new.self c.append.new.other c.append.new.self c.in_ok-append.ensures.items (ap (map string_bytes) c.in_ok-append.ensures.other_items)

pub returns-in_err-read-clause-known : goal.returns-in_err-read-clause-known
returns-in_err-read-clause-known c = keeps_same c.args.self.now.sites

pub returns-clause-only : goal.returns-clause-only
returns-clause-only c =
    let s = c.args.self.now in
    let read = c.read.ensures in
    only_named s c.read.new.self c.renew.new.self c.append.new.other c.renew.new.names read.documents read.encoding read.reported read.kept c.renew.ensures.given
    (adds_more s c.read.new.self c.renew.new.self c.append.new.self c.append.new.other c.renew.new.names (put_together s.edited s.unpublished c.append.new.self c.in_ok-append.ensures.items)
    (ap (map string_bytes) c.in_ok-append.ensures.other_items) c.renew.ensures.names)

pub returns-clause-due : goal.returns-clause-due
returns-clause-due c =
    let s = c.args.self.now in
    adds_more s c.read.new.self c.renew.new.self c.append.new.self c.append.new.other c.renew.new.names (put_together s.edited s.unpublished c.append.new.self c.in_ok-append.ensures.items)
    (ap (map string_bytes) c.in_ok-append.ensures.other_items) c.renew.ensures.names

pub returns-clause-read : goal.returns-clause-read
returns-clause-read c =
    let s = c.args.self.now in
    names_read c.renew.result s c.read.new.self c.renew.new.self c.append.new.self c.append.new.other c.renew.new.names c.read.ensures.kept c.in_ok-read.ensures.read
    c.renew.ensures.fits c.renew.ensures.said c.renew.ensures.others c.renew.ensures.renewed
    (put_together s.edited s.unpublished c.append.new.self c.in_ok-append.ensures.items) (ap (map string_bytes) c.in_ok-append.ensures.other_items) c.renew.ensures.names

pub returns-clause-known : goal.returns-clause-known
returns-clause-known c = c.renew.ensures.names.known
