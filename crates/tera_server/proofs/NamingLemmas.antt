-- A server after steps by which names are found again.
use Rattle.std.proofs.Common.{◌≡◌, ◌∙◌, ◌++◌, [], ℕ, List, String, string_bytes, Vec, Result, Ok, Err, OnOk, map, refl, sym, ap, subst}
use Rattle.std.specs.declared.alloc.Global.{Global}
use Rattle.std.proofs.lemmas.List.{append-nil, map-append}
use Rattle.tera_workspace.specs.Definitions.{AreRead}
use Rattle.tera_workspace.specs.Workspaces.{IsKept, reported_of_name}
use Rattle.tera_workspace.specs.declared.workspace.Workspace.{Workspace}
use Rattle.text_edits.specs.Stored.{AreSame, document_of}
use Rattle.tera_server.specs.Naming.{AddsNamed, AreNamesRead, OnlyNames}
use Rattle.tera_server.specs.Sending.{unpublished_of}
use Rattle.tera_server.specs.Settling.{due_of}
use Rattle.tera_editor.specs.Sites.{AddsRenewed, AreFitting, AreGiven, AreSaid, HaveOthers, renewed_of}
use Rattle.tera_server.specs.States.{KeepsReported, edited_of}
use Rattle.tera_server.specs.declared.server.Server.{Server}
use Rattle.tera_editor.specs.declared.sites.Sites.{Sites}
use Rattle.tera_editor.proofs.SiteLemmas.{around_same}
use Rattle.tera_server.proofs.ConfiguringLemmas.{grows_on, grows_same}

pub stays_same : (s : Server) → KeepsReported s s
stays_same s = record { encoding = refl; reported = λ n. refl; kept = λ k. k }

pub stays_on : (s t u : Server) → KeepsReported s t → KeepsReported t u → KeepsReported s u
stays_on s t u one other = record {
  encoding = other.encoding ∙ one.encoding;
  reported = λ n. other.reported n ∙ one.reported n;
  kept = λ k. other.kept (one.kept k);
}

pub only_same : (s : Server) → OnlyNames s s
only_same s = record { same = refl; documents = λ n. refl; stays = stays_same s; given = λ g. g; due = grows_same (due_of s) }

pub only_on : (s t u : Server) → OnlyNames s t → OnlyNames t u → OnlyNames s u
only_on s t u one other = record {
  same = other.same ∙ ap (λ (x : Server). record x { workspace = u.workspace; sites = u.sites; unpublished = u.unpublished; edited = u.edited }) one.same;
  documents = λ n. other.documents n ∙ one.documents n;
  stays = stays_on s t u one.stays other.stays;
  given = λ g. other.given (one.given g);
  due = grows_on (due_of s) (due_of t) (due_of u) one.due other.due;
}

-- sites alone are others, and the same names are to be published
pub only_sites : (s t : Server) → t ≡ record s { sites = t.sites } → (AreGiven s.sites → AreGiven t.sites) → t.sites.renewed ≡ s.sites.renewed → OnlyNames s t
only_sites s t same given renewed =
    let workspace : t.workspace ≡ s.workspace = ap (λ (x : Server). x.workspace) same in
    let edited : t.edited ≡ s.edited = ap (λ (x : Server). x.edited) same in
    let unpublished : t.unpublished ≡ s.unpublished = ap (λ (x : Server). x.unpublished) same in
    record {
      same = same ∙ ap (λ w. record s { workspace = w; sites = t.sites }) (sym workspace)
          ∙ ap (λ us. record s { workspace = t.workspace; sites = t.sites; unpublished = us }) (sym unpublished)
          ∙ ap (λ es. record s { workspace = t.workspace; sites = t.sites; unpublished = t.unpublished; edited = es }) (sym edited);
      documents = λ n. ap (λ (x : Server). document_of x.workspace.documents n) same;
      stays = subst (λ (x : Server). KeepsReported s x) (sym same) (record { encoding = refl; reported = λ n. refl; kept = λ k. k });
      given = given;
      due = (
        [],
        ap (λ r. (edited_of t ++ unpublished_of t) ++ map string_bytes r.items) renewed
            ∙ ap (λ us. (edited_of t ++ map string_bytes us.items) ++ renewed_of s.sites) unpublished
            ∙ ap (λ es. (map string_bytes es.items ++ unpublished_of s) ++ renewed_of s.sites) edited ∙ sym (append-nil (due_of s)),
      );
    }

-- ---- documents are read, and sites are found again

abbrev pub NameList : Type 0
NameList = Vec (String Global) Global

abbrev pub names_of : NameList → List (List ℕ)
names_of v = map string_bytes v.items

abbrev pub with_names : Server → Workspace → Sites → NameList → NameList → Server
with_names s w sites unpublished edited = record s { workspace = w; sites = sites; unpublished = unpublished; edited = edited }

-- the names that were to be published are put together
pub put_together : (edited unpublished now : NameList) → now.items ≡ edited.items ++ unpublished.items → names_of now ≡ names_of edited ++ names_of unpublished
put_together edited unpublished now is = ap (map string_bytes) is ∙ map-append string_bytes edited.items unpublished.items

-- no sites were found
pub adds_none : (s : Server) (w : Workspace) (unpublished edited : NameList) → names_of edited ++ names_of unpublished ≡ edited_of s ++ unpublished_of s
    → AddsNamed s (with_names s w s.sites unpublished edited)
adds_none s w unpublished edited is = record {
  named = [];
  due = ap (λ ns. ns ++ renewed_of s.sites) is ∙ sym (append-nil (due_of s));
  around = around_same s.sites;
}

-- .. sites were found, after what was to be published was put together
pub adds_more : (s : Server) (w : Workspace) (sites : Sites) (due unpublished edited : NameList) → names_of due ≡ edited_of s ++ unpublished_of s → names_of unpublished ≡ []
    → AddsRenewed (names_of due) (names_of edited) s.sites sites → AddsNamed s (with_names s w sites unpublished edited)
adds_more s w sites due unpublished edited is none adds = record {
  named = adds.more;
  due = ap (λ us. (names_of edited ++ us) ++ renewed_of sites) none ∙ ap (λ ns. ns ++ renewed_of sites) (append-nil (names_of edited))
      ∙ adds.added ∙ ap (λ ns. (ns ++ renewed_of s.sites) ++ adds.more) is;
  around = adds.around;
}

pub only_named : (s : Server) (w : Workspace) (sites : Sites) (unpublished edited : NameList) → AreSame s.workspace.documents w.documents → w.encoding ≡ s.workspace.encoding
    → ((n : List ℕ) → reported_of_name w n ≡ reported_of_name s.workspace n) → (IsKept s.workspace → IsKept w) → (AreGiven s.sites → AreGiven sites)
    → AddsNamed s (with_names s w sites unpublished edited) → OnlyNames s (with_names s w sites unpublished edited)
only_named s w sites unpublished edited documents encoding reported kept given adds = record {
  same = refl;
  documents = documents;
  stays = record { encoding = encoding; reported = reported; kept = kept };
  given = given;
  due = (adds.named, adds.due);
}

pub names_read : {T E : Type 0} (r : Result T E) (s : Server) (w : Workspace) (sites : Sites) (due unpublished edited : NameList) → (IsKept s.workspace → IsKept w) → (IsKept s.workspace → AreRead w)
    → (IsKept w → AreRead w → OnOk r (AreFitting w sites)) → OnOk r (AreSaid sites) → (AreGiven s.sites → OnOk r (HaveOthers sites)) → OnOk r (renewed_of sites ≡ [])
    → names_of due ≡ edited_of s ++ unpublished_of s → names_of unpublished ≡ []
    → AddsRenewed (names_of due) (names_of edited) s.sites sites → OnOk r (AreNamesRead s (with_names s w sites unpublished edited))
names_read (Ok x) s w sites due unpublished edited kept read fits said others renewed is none adds = record {
  read = read;
  fits = λ k. fits (kept k) (read k);
  said = said;
  others = others;
  named = adds.more;
  around = adds.around;
  edited = sym (append-nil (names_of edited)) ∙ ap (λ ns. names_of edited ++ ns) (sym renewed) ∙ adds.added ∙ ap (λ ns. (ns ++ renewed_of s.sites) ++ adds.more) is;
  unpublished = none;
  renewed = renewed;
}
names_read (Err e) s w sites due unpublished edited kept read fits said others renewed is none adds = tt
