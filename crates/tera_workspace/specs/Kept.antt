-- What checked documents represent, and what holds of them.
use Rattle.std.specs.Prelude.{◌≡◌, ◌||◌, if◌then◌else◌, Option, None, Some, ℕ, ◌<◌, ◌≤◌, List, [], ◌∷◌, Bool, true, false, cond, length, map, string_bytes, slice_index_or, MatchOption}
use Rattle.std.specs.BTreeSet.{BTreeSet}
use Rattle.std.specs.Borrow.{Bor}
use Rattle.std.specs.Cmp.Lexicographic.{slice_cmp}
use Rattle.std.specs.List.{AllByRecursion, list_any}
use Rattle.std.specs.Ordering.{nat_cmp, is_gt}
use Rattle.std.specs.Str.{bytes_eq}
use Rattle.tera_tree.specs.Outputs.{output_view}
use Rattle.tera_check.specs.Alike.{names_in}
use Rattle.tera_templates.specs.Lost.{are_open}
use Rattle.tera_templates.specs.Templates.{tree_of}
use Rattle.tera_templates.specs.declared.templates.Template.{Template}
use Rattle.tera_site.specs.Kept.{kept_page}
use Rattle.tera_site.specs.Pages.{page_of}
use Rattle.text_edits.specs.declared.positions.Encoding.{Encoding}
use Rattle.tera_workspace.specs.Diagnostics.{DiagnosticVal, diagnostic_view}
use Rattle.tera_workspace.specs.Fresh.{IsRead, IsReported}
use Rattle.tera_workspace.specs.Names.{is_among, contains_name}
use Rattle.tera_workspace.specs.Sources.{Source, AreAscending, text_named}
use Rattle.tera_workspace.specs.declared.diagnostics.Diagnostic.{Diagnostic}
use Rattle.tera_workspace.specs.declared.judged.Judged.{Judged}

abbrev pub name_of : Judged → List ℕ
name_of j = string_bytes j.template.file

abbrev pub source_of : Judged → Source
source_of j = record { name = string_bytes j.template.file; text = j.text }

abbrev pub sources_of : List Judged → List Source
sources_of js = map source_of js

abbrev pub templates_of : List Judged → List Template
templates_of js = map (λ j. j.template) js

abbrev pub reported_of : Judged → List DiagnosticVal
reported_of j = map diagnostic_view j.reported.items

-- what was reported under a name; nothing, if no document has it
abbrev pub reported_named : List ℕ → List Judged → List DiagnosticVal
reported_named n [] = []
reported_named n (j ∷ js) = cond (bytes_eq (string_bytes j.template.file) n) (reported_of j) (reported_named n js)

-- where the first of a name is
abbrev pub has_name : List ℕ → Judged → Bool
has_name n j = bytes_eq (string_bytes j.template.file) n

abbrev pub NoneBefore : List ℕ → List Judged → ℕ → Type 0
NoneBefore n js k = (m : ℕ) (d : Judged) → m < k → has_name n (slice_index_or js m d) ≡ false

pub record IsNumbered (n : List ℕ) (js : List Judged) (k : ℕ) : Type 0 where
  pub within : k < length js
  pub is : (d : Judged) → has_name n (slice_index_or js k d) ≡ true
  pub first : NoneBefore n js k

-- where a document would be in the order of the names, if none has its name
pub record IsNewPlace (n : List ℕ) (js : List Judged) (k : ℕ) : Type 0 where
  pub none : NoneBefore n js (length js)
  pub within : k ≤ length js
  pub before : (m : ℕ) (d : Judged) → m < k → is_gt (slice_cmp nat_cmp (string_bytes (slice_index_or js m d).template.file) n) ≡ false
  pub following : (d : Judged) → k < length js → is_gt (slice_cmp nat_cmp (string_bytes (slice_index_or js k d).template.file) n) ≡ true

-- these are the names of the components that the tree of the template defines and calls; without a tree nothing is
-- required
abbrev pub HasNames : List (List ℕ) → Template → Type 0
HasNames names t = MatchOption (tree_of t) (Unit {0}) (λ o. names ≡ names_in (output_view o))

-- a document was read
pub record IsWhole (j : Judged) : Type 0 where
  pub read : IsRead (source_of j) j.template
  pub names : HasNames j.names j.template
  pub page : kept_page j.page ≡ page_of j.template

-- a document of this name and text, for which nothing was reported yet
pub record IsNewlyRead (name text : List ℕ) (j : Judged) : Type 0 where
  pub named : string_bytes j.template.file ≡ name
  pub texted : j.text ≡ text
  pub whole : IsWhole j
  pub stale : j.stale ≡ true
  pub unreported : reported_of j ≡ []

-- what was reported for the document of a number is as it would be found now, unless it is stale
abbrev pub IsCurrent : Encoding → List Judged → ℕ → Judged → Type 0
IsCurrent e js number j =
    j.stale ≡ false → IsReported e (sources_of js) (templates_of js) number j.text j.template (reported_of j)

-- this holds of each
abbrev pub AllWhole : List Judged → Type 0
AllWhole js = AllByRecursion IsWhole js

abbrev pub AreCurrent : Encoding → List Judged → Type 0
AreCurrent e js = (k : ℕ) (d : Judged) → k < length js → IsCurrent e js k (slice_index_or js k d)

-- ---- what is marked when components of some names, or places in a file, change

-- a finding has a note in the file; and a finding that was reported for a document has one
abbrev pub is_about : List ℕ → Diagnostic → Bool
is_about file d = list_any (λ r. bytes_eq (string_bytes r.file) file) d.related.items

abbrev pub is_reported_in : List ℕ → Judged → Bool
is_reported_in file j = list_any (is_about file) j.reported.items

abbrev pub marked : List (List ℕ) → List ℕ → Judged → Judged
marked touched file j =
    record j { stale = if list_any (λ n. is_among n j.names) touched || is_reported_in file j then true else j.stale }

-- all are marked if these differ: whether one may define more components than its tree, before and now
abbrev pub made_stale : Judged → Judged
made_stale j = record j { stale = true }

abbrev pub marked_if : Bool → Bool → List Judged → List Judged
marked_if true true js = js
marked_if false false js = js
marked_if true false js = map made_stale js
marked_if false true js = map made_stale js

-- whether one may define more, nothing if it is said of one of them that it may before and after, or neither; and all are
-- marked if that is another now
abbrev pub open_if : Bool → Bool → List Judged → Option Bool
open_if true true js = None
open_if false false js = None
open_if true false js = Some (are_open (templates_of js))
open_if false true js = Some (are_open (templates_of js))

abbrev pub marked_since : Option Bool → List Judged → List Judged
marked_since None js = js
marked_since (Some was) js = marked_if was (are_open (templates_of js)) js

-- the names have all names of components in stale documents
abbrev pub NeedsAll : BTreeSet (Bor (List ℕ)) → List Judged → Type 0
NeedsAll needed js = AllByRecursion (λ j. j.stale ≡ true → (n : List ℕ) → is_among n j.names ≡ true → contains_name needed n ≡ true) js

-- ---- what stays true, whatever is read

pub record StayKept (old now : List Judged) : Type 0 where
  pub whole : AllWhole old → AllWhole now
  pub current : (e : Encoding) → AllWhole old → AreCurrent e old → AreCurrent e now
  pub ordered : AreAscending (sources_of old) → AreAscending (sources_of now)
  pub reported : (n : List ℕ) → reported_named n now ≡ reported_named n old

-- and the text of a name is this one
abbrev pub IsTextAt : List ℕ → List ℕ → List Judged → List Judged → Type 0
IsTextAt name text old now = (n : List ℕ) → text_named n (sources_of now) ≡ cond (bytes_eq name n) text (text_named n (sources_of old))
