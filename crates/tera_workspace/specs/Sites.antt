-- The templates of a site among the documents, what is kept of them, and what is found of names by that.
use Rattle.std.specs.Prelude.{◌≡◌, ◌≢◌, ◌&&◌, ◌||◌, ℕ, nat_eq, if◌then◌else◌, Bool, true, false, not, List, [], ◌∷◌, codes, map, string_bytes, filter, slice_get, is_some, Option, None, Some, option_map}
use Rattle.std.specs.List.{find, flat_map, list_any}
use Rattle.std.specs.Option.{option_and_then, option_map_or}
use Rattle.std.specs.Str.{bytes_eq}
use Rattle.tera_templates.specs.declared.templates.Template.{Template}
use Rattle.tera_site.specs.Kept.{KeptVal, around_by, is_one_of, on_page}
use Rattle.tera_site.specs.Named.{due_names}
use Rattle.tera_site.specs.Pages.{PageVal, page_of}
use Rattle.tera_site.specs.Sites.{AroundVal, IsSite, IsSiteOf, number_from, used_names}
use Rattle.text_edits.specs.Documents.{text_of}
use Rattle.text_edits.specs.Stored.{document_of}
use Rattle.text_edits.specs.declared.documents.Documents.{Documents}
use Rattle.text_edits.specs.declared.positions.Encoding.{Encoding}
use Rattle.tera_workspace.specs.Diagnostics.{DiagnosticVal, diagnostic_of}
use Rattle.tera_workspace.specs.Kept.{sources_of, templates_of}
use Rattle.tera_workspace.specs.Names.{is_among}
use Rattle.tera_workspace.specs.SiteValues.{AroundFile, KeptSiteVal}
use Rattle.tera_workspace.specs.Sources.{AreInOrder, Source, text_named}
use Rattle.tera_workspace.specs.Unregistered.{is_of_file}
use Rattle.tera_workspace.specs.declared.workspace.Workspace.{Workspace}

-- ---- the templates of a site

-- what comes after the front of a text
abbrev pub following : List ℕ → List ℕ → Option (List ℕ)
following [] text = Some text
following (f ∷ fs) [] = None
following (f ∷ fs) (b ∷ bs) = if nat_eq f b then following fs bs else None

-- the name of a template: the path of its file below the root of the site
abbrev pub name_below : List ℕ → List ℕ → Option (List ℕ)
name_below root file = option_and_then (following (codes "/")) (following root file)

abbrev pub file_of : Template → List ℕ
file_of t = string_bytes t.file

-- those whose files are there, below the root
abbrev pub is_of_site : List ℕ → Documents → Template → Bool
is_of_site root ds t = is_some (name_below root (file_of t)) && is_some (text_of (document_of ds (file_of t)))

abbrev pub templates_below : List ℕ → Documents → List Template → List Template
templates_below root ds ts = filter (is_of_site root ds) ts

abbrev pub names_below : List ℕ → List Template → List (Option (List ℕ))
names_below root ts = map (λ t. name_below root (file_of t)) ts

-- ---- what is kept of them

-- a template: its file, and what it says
pub record Said : Type 0 where
  pub file : List ℕ
  pub page : PageVal

abbrev pub said_by : Template → Said
said_by t = record { file = file_of t; page = page_of t }

abbrev pub names_said : List ℕ → List Said → List (Option (List ℕ))
names_said root saids = map (λ s. name_below root s.file) saids

-- the names that are used, and that neither a template nor one of the others has
abbrev pub is_lacking : List (Option (List ℕ)) → List (List ℕ) → List ℕ → Bool
is_lacking names others n = not (is_some (number_from 0 names n) || is_one_of others n)

abbrev pub names_lacking : List (Option (List ℕ)) → List (List ℕ) → List PageVal → List (List ℕ)
names_lacking names others pages = filter (is_lacking names others) (flat_map used_names pages)

-- What is kept is what is around each of these, as far as that is under the names of its page, in the site that they are with
-- the others.
pub record IsKeptOf (s : KeptSiteVal) (saids : List Said) : Type 0 where
  pub around : ℕ → AroundVal
  pub site : IsSiteOf (names_said s.root saids) (is_one_of s.others) (map (λ x. x.page) saids) around
  pub files : map (λ d. d.file) s.documents ≡ map (λ x. x.file) saids
  pub each : (number : ℕ) (x : Said) (d : AroundFile) → slice_get saids number ≡ Some x → slice_get s.documents number ≡ Some d
      → around_by d.around ≡ on_page x.page (around number)
  pub lacking : s.lacking ≡ names_lacking (names_said s.root saids) s.others (map (λ x. x.page) saids)

-- .. of the documents, as they were read
abbrev pub FitsTemplates : KeptSiteVal → Documents → List Template → Type 0
FitsTemplates s ds ts = IsKeptOf s (map said_by (templates_below s.root ds ts))

abbrev pub FitsWorkspace : KeptSiteVal → Workspace → Type 0
FitsWorkspace s w = FitsTemplates s w.documents (templates_of w.judged.items)

-- what is kept under the name of a file; and in their order, the files under which there is something else than before
abbrev pub is_in : List ℕ → AroundFile → Bool
is_in n d = bytes_eq d.file n

abbrev pub around_named : List ℕ → List AroundFile → Option KeptVal
around_named n ds = option_map (λ d. d.around) (find (is_in n) ds)

pub record AreRenewed (names : List (List ℕ)) (before now : List AroundFile) : Type 0 where
  pub ordered : AreInOrder names
  pub others : (n : List ℕ) → is_among n names ≡ true → around_named n now ≢ around_named n before
  pub same : (n : List ℕ) → is_among n names ≡ false → around_named n now ≡ around_named n before

-- ---- what is found of names

-- in a template with this around it, in its text
abbrev pub named_in : Encoding → List Source → AroundVal → List ℕ → Template → List DiagnosticVal
named_in e sources a text t = map (diagnostic_of e sources text) (due_names a t)

-- in the template in the file of a name, by what is kept of it; nothing where nothing is kept
abbrev pub named_at : Encoding → List Source → List Template → List ℕ → Option KeptVal → List DiagnosticVal
named_at e sources ts n None = []
named_at e sources ts n (Some k) = option_map_or (named_in e sources (around_by k) (text_named n sources)) (find (is_of_file n) ts) []

abbrev pub named_by : Encoding → List Source → List Template → KeptSiteVal → List ℕ → List DiagnosticVal
named_by e sources ts s n = named_at e sources ts n (around_named n s.documents)

-- what is found by the documents that were read
abbrev pub named_of_name : Workspace → KeptSiteVal → List ℕ → List DiagnosticVal
named_of_name w s n = named_by w.encoding (sources_of w.judged.items) (templates_of w.judged.items) s n

-- Of each template of a site there is found what is due of its names by what is around it in the site of these templates and the
-- others, and of all other files nothing.
pub record AreNamed (e : Encoding) (sources : List Source) (ts : List Template) (root : List ℕ) (others : List (List ℕ)) (found : List ℕ → List DiagnosticVal) : Type 0 where
  pub around : ℕ → AroundVal
  pub site : IsSite (names_below root ts) (is_one_of others) ts around
  pub each : (number : ℕ) (t : Template) → slice_get ts number ≡ Some t
      → found (file_of t) ≡ named_in e sources (around number) (text_named (file_of t) sources) t
  pub rest : (n : List ℕ) → list_any (is_of_file n) ts ≡ false → found n ≡ []
