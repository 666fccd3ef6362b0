-- A server that reads names, and then publishes.
use Rattle.std.proofs.Common.{◌≡◌, ◌∙◌, ◌⊎◌, ◌++◌, [], inl, inr, ℕ, List, map, string_bytes, true, refl, sym, ap, subst, append_assoc}
use Rattle.std.proofs.lemmas.List.{append-nil}
use Rattle.json_rpc.specs.Outgoing.{Outgoing}
use Rattle.tera_workspace.specs.Diagnostics.{DiagnosticVal}
use Rattle.tera_workspace.specs.Names.{is_among}
use Rattle.tera_workspace.specs.Workspaces.{reported_of_name, AreOthers}
use Rattle.tera_server.specs.Naming.{AddsNamed, AreNamesRead, OnlyNames}
use Rattle.tera_server.specs.Sending.{messages_of, names_once, with_all}
use Rattle.tera_server.specs.Settling.{due_of, AreBetween, ArePublished, ArePublishedAsRead, ArePublishedInPart, IsSettling, OnlyReports}
use Rattle.tera_server.specs.declared.server.Phase.TheVariants.{Running}
use Rattle.tera_server.specs.declared.server.Server.{Server}
use Rattle.tera_editor.specs.Sites.{AreAround, AreFitting, AreSaid, HaveOthers, KeepsKnown, renewed_of}
use Rattle.tera_editor.specs.declared.sites.Sites.{Sites}
use Rattle.tera_editor.proofs.SiteLemmas.{around_on, around_same}
use Rattle.tera_server.proofs.BetweenLemmas.{none_found}
use Rattle.tera_server.proofs.PublishLemmas.{with_none}

-- ---- only what is reported changes

pub reports_names : (s t : Server) → OnlyNames s t → OnlyReports s t
reports_names s t only = record {
  same = only.same;
  documents = only.documents;
  encoding = only.stays.encoding;
  kept = only.stays.kept;
  given = only.given;
}

pub reports_on : (s t u : Server) → OnlyReports s t → OnlyReports t u → OnlyReports s u
reports_on s t u one other = record {
  same = other.same ∙ ap (λ (x : Server). record x { workspace = u.workspace; sites = u.sites; unpublished = u.unpublished; edited = u.edited }) one.same;
  documents = λ n. other.documents n ∙ one.documents n;
  encoding = other.encoding ∙ one.encoding;
  kept = λ k. other.kept (one.kept k);
  given = λ g. other.given (one.given g);
}

-- ---- what is published

-- the names for which another list is reported, if what was reported is the same
others_on : (names : List (List ℕ)) (before mid now : List ℕ → List DiagnosticVal) → ((n : List ℕ) → mid n ≡ before n) → AreOthers names mid now → AreOthers names before now
others_on names before mid now same are = record {
  ordered = are.ordered;
  others = λ n is e. are.others n is (e ∙ sym (same n));
  same = λ n is. are.same n is ∙ same n;
}

-- after names were read, what is published is what is to be published
pub published_on : (s m t : Server) (old now : Outgoing) → OnlyNames s m → AreNamesRead s m → t.sites ≡ m.sites → ArePublishedAsRead m t old now → ArePublished s t old now
published_on s m t old now only names sites done = record {
  settled = λ k. done.settled (only.stays.kept k) (names.read k);
  read = λ k. done.read (only.stays.kept k) (names.read k);
  others = done.others;
  are = λ k. others_on done.others (reported_of_name s.workspace) (reported_of_name m.workspace) (reported_of_name t.workspace) only.stays.reported (done.are (only.stays.kept k));
  named = names.named;
  around = subst (AreAround names.named s.sites) (sym sites) names.around;
  fits = λ k. subst (AreFitting t.workspace) (sym sites) (done.fits (names.fits k));
  said = subst AreSaid (sym sites) names.said;
  given = λ g. subst HaveOthers (sym sites) (names.others g);
  faults = done.faults;
  between = subst (λ ns. AreBetween t (names_once done.others ns ++ names_once [] done.others) done.faults) names.edited done.between;
  sent = done.sent ∙ ap (λ ns. with_all old (messages_of t done.faults (names_once done.others ns ++ names_once [] done.others))) names.edited;
  unpublished = done.unpublished;
  edited = done.edited;
  renewed = ap renewed_of sites ∙ names.renewed;
}

-- .. or a part of it
pub part_on : (s m t : Server) (old now : Outgoing) → OnlyNames s m → AddsNamed s m → ArePublishedInPart m t old now → ArePublishedInPart s t old now
part_on s m t old now only adds part =
    let due : due_of m ++ part.named ≡ due_of s ++ (adds.named ++ part.named) = ap (λ ns. ns ++ part.named) adds.due ∙ append_assoc (due_of s) adds.named part.named in
    record {
      names = part.names;
      named = adds.named ++ part.named;
      around = around_on adds.named part.named s.sites m.sites t.sites adds.around part.around;
      faults = part.faults;
      between = part.between;
      sent = part.sent;
      others = λ k n differs. part.others (only.stays.kept k) n (λ e. differs (e ∙ only.stays.reported n));
      due = λ n h. part.due n (subst (λ ns. is_among n ns ≡ true) (sym due) h);
      only = λ n h. elim (part.only n h) [
        | inl e ↦ inl (subst (λ ns. is_among n ns ≡ true) due e)
        | inr e ↦ inr e
      ];
    }

-- .. which may be nothing
pub part_of_none : (s : Server) (old : Outgoing) → ArePublishedInPart s s old old
part_of_none s old = record {
  names = [];
  named = [];
  around = around_same s.sites;
  faults = λ n. [];
  between = none_found s.settings (map string_bytes s.folders.items) s.workspace (λ n. []) (λ n. refl);
  sent = sym (with_none old);
  others = λ kept n differs. absurd (differs refl);
  due = λ n h. inr (subst (λ ns. is_among n ns ≡ true) (append-nil (due_of s)) h);
  only = λ n h. absurd (cc);
}

-- .. while the exchange runs
pub settling : (s t : Server) (old now : Outgoing) → s.phase ≡ Running → ArePublished s t old now → IsSettling s.phase s t old now
settling s t old now running done = subst (λ phase. IsSettling phase s t old now) (sym running) done

-- what is known of names stays, if sites do
pub keeps_sites : (x y z : Sites) → z ≡ y → KeepsKnown x y → KeepsKnown x z
keeps_sites x y z same known = subst (KeepsKnown x) (sym same) known
