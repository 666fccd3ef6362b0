-- What the code keeps of a site.
use Rattle.std.specs.Prelude.{◌≡◌, ◌≢◌, ◌&&◌, ◌||◌, ℕ, List, [], ◌∷◌, Bool, false, not, is_some, map, String, string_bytes, filter, length, Option, unwrap_or, ◌==◌}
use Rattle.std.specs.BTreeSet.{BTreeSet}
use Rattle.std.specs.Cmp.Lexicographic.{slice_cmp}
use Rattle.std.specs.Ordering.{nat_cmp}
use Rattle.std.specs.declared.cmp.Ordering.{Ordering}
use Rattle.std.specs.declared.cmp.Ordering.TheVariants.{Less, Equal, Greater}
use Rattle.std.specs.declared.alloc.Global.{Global}
use Rattle.text_edits.specs.Documents.{text_of}
use Rattle.text_edits.specs.Stored.{document_of}
use Rattle.text_edits.specs.declared.documents.Documents.{Documents}
use Rattle.tera_site.specs.Kept.{kept_page, kept_view, names_in}
use Rattle.tera_site.specs.Views.{around_in}
use Rattle.tera_site.specs.declared.site.Site.{Site}
use Rattle.tera_workspace.specs.Kept.{name_of}
use Rattle.tera_workspace.specs.SiteValues.{AroundFile, KeptSiteVal}
use Rattle.tera_workspace.specs.Sites.{IsKeptOf, Said, name_below}
use Rattle.tera_workspace.specs.Sources.{AreInOrder}
use Rattle.tera_workspace.specs.declared.judged.Judged.{Judged}
use Rattle.tera_workspace.specs.declared.sites.KeptDocument.{KeptDocument}
use Rattle.tera_workspace.specs.declared.sites.KeptSite.TheInside.{Inside}

-- what is kept around the template of a document, and what this says
abbrev pub around_file : KeptDocument → AroundFile
around_file d = record { file = string_bytes d.file; around = kept_view d.around }

abbrev pub said_of : KeptDocument → Said
said_of d = record { file = string_bytes d.file; page = kept_page d.page }

abbrev pub said_in : Judged → Said
said_in j = record { file = name_of j; page = kept_page j.page }

-- documents that are there, below the root: one with a text is there, as one that is gone has the empty text
abbrev pub is_empty : List ℕ → Bool
is_empty text = length text == 0

abbrev pub is_there : Documents → Judged → Bool
is_there ds j = not (is_empty j.text) || is_some (text_of (document_of ds (name_of j)))

abbrev pub is_below : List ℕ → Documents → Judged → Bool
is_below root ds j = is_some (name_below root (name_of j)) && is_there ds j

abbrev pub documents_below : List ℕ → Documents → List Judged → List Judged
documents_below root ds js = filter (is_below root ds) js

-- no template of a site has a name
abbrev pub lacks_name : Site → List ℕ → Bool
lacks_name s n = not ((around_in s 0).has n)

-- a site as it is kept
abbrev pub site_view : Inside → KeptSiteVal
site_view s = record {
  root = string_bytes s.root;
  others = names_in s.others;
  lacking = map string_bytes s.lacking.items;
  documents = map around_file s.documents.items;
}

-- the other names before, if they were others than these
abbrev pub names_before : Option (BTreeSet (String Global)) → BTreeSet (String Global) → List (List ℕ)
names_before before others = names_in (unwrap_or before others)

-- what is kept is by what the templates said, with the other names before
pub record IsKeptSite (s : Inside) : Type 0 where
  pub ordered : AreInOrder (map (λ d. d.file) (map around_file s.documents.items))
  pub kept : s.stale ≡ false → IsKeptOf (record (site_view s) { others = names_before s.before s.others }) (map said_of s.documents.items)

-- ---- what is kept before and now, both in the order of the files

-- which has the first file
abbrev pub order_of : List AroundFile → List AroundFile → Ordering
order_of [] [] = Equal
order_of (d ∷ ds) [] = Less
order_of [] (e ∷ es) = Greater
order_of (d ∷ ds) (e ∷ es) = slice_cmp nat_cmp d.file e.file

-- the files that only one has, or both with other things around their templates
pub data Renews : List AroundFile → List AroundFile → List (List ℕ) → Type 0 where
  Ended : Renews [] [] []
  Gone : (d : AroundFile) (ds es : List AroundFile) (names : List (List ℕ)) → order_of (d ∷ ds) es ≡ Less → Renews ds es names → Renews (d ∷ ds) es (d.file ∷ names)
  Came : (e : AroundFile) (ds es : List AroundFile) (names : List (List ℕ)) → order_of ds (e ∷ es) ≡ Greater → Renews ds es names → Renews ds (e ∷ es) (e.file ∷ names)
  Other : (d e : AroundFile) (ds es : List AroundFile) (names : List (List ℕ)) → order_of (d ∷ ds) (e ∷ es) ≡ Equal → d.around ≢ e.around → Renews ds es names → Renews (d ∷ ds) (e ∷ es) (e.file ∷ names)
  Same : (d e : AroundFile) (ds es : List AroundFile) (names : List (List ℕ)) → order_of (d ∷ ds) (e ∷ es) ≡ Equal → d.around ≡ e.around → Renews ds es names → Renews (d ∷ ds) (e ∷ es) names
