-- The sites below the roots of folders, and what is known of the files whose names templates use.
use Rattle.std.specs.Prelude.{◌≡◌, ◌⊎◌, ◌++◌, ◌&&◌, ◌||◌, ℕ, ◌<◌, List, [], Bool, false, true, not, cond, length, map, String, string_bytes, slice_index_or, Option, None, Some}
use Rattle.std.specs.BTreeMap.{BTreeMap, get_by_text}
use Rattle.std.specs.List.{filter, find, flat_map, list_any}
use Rattle.std.specs.Option.{option_and_then, option_map, option_map_or}
use Rattle.std.specs.Str.{bytes_eq}
use Rattle.std.specs.declared.alloc.Global.{Global}
use Rattle.tera_site.specs.Kept.{is_one_of}
use Rattle.tera_workspace.specs.Names.{is_among}
use Rattle.tera_workspace.specs.SiteValues.{KeptSiteVal}
use Rattle.tera_workspace.specs.Sites.{FitsWorkspace, around_named}
use Rattle.tera_workspace.specs.declared.workspace.Workspace.{Workspace}
use Rattle.tera_editor.specs.Settings.{folder_of}
use Rattle.tera_editor.specs.declared.sites.FolderSite.{FolderSite}
use Rattle.tera_editor.specs.declared.sites.Presence.{Presence}
use Rattle.tera_editor.specs.declared.sites.Sites.{Sites}
use Rattle.tera_editor.specs.declared.sites.UsedName.{UsedName}

-- ---- the sites of folders

abbrev pub has_folder : List ℕ → FolderSite → Bool
has_folder folder x = bytes_eq (string_bytes x.folder) folder

abbrev pub site_in : Sites → List ℕ → Option KeptSiteVal
site_in s folder = option_map (λ x. x.site) (find (has_folder folder) s.all.items)

-- where the first of a folder is
abbrev pub NoneBefore : List ℕ → List FolderSite → ℕ → Type 0
NoneBefore folder xs k = (m : ℕ) (d : FolderSite) → m < k → has_folder folder (slice_index_or xs m d) ≡ false

pub record IsNumbered (folder : List ℕ) (xs : List FolderSite) (k : ℕ) : Type 0 where
  pub within : k < length xs
  pub is : (d : FolderSite) → has_folder folder (slice_index_or xs k d) ≡ true
  pub first : NoneBefore folder xs k

-- .. by which names are judged in a file: that of the first of the folders that is at its path, or has it in it
abbrev pub site_for : Sites → List (List ℕ) → List ℕ → Option KeptSiteVal
site_for s folders file = option_and_then (site_in s) (folder_of folders file)

-- the site of a folder, and what is known of the names there; nothing at first
pub record SitedVal : Type 0 where
  pub site : KeptSiteVal
  pub known : List (String Global × Presence)

abbrev pub sited : FolderSite → SitedVal
sited x = record { site = x.site; known = x.presences.entries }

abbrev pub sited_in : Sites → List ℕ → Option SitedVal
sited_in s folder = option_map sited (find (has_folder folder) s.all.items)

abbrev pub with_nothing_known : KeptSiteVal → SitedVal
with_nothing_known site = record { site = site; known = [] }

-- that of a folder is this one, or none, and the others are what they were
abbrev pub IsSiteAt : List ℕ → Option SitedVal → Sites → Sites → Type 0
IsSiteAt folder site old now = (f : List ℕ) → sited_in now f ≡ cond (bytes_eq folder f) site (sited_in old f)

-- ---- what is known of files

abbrev pub Presences : Type 0
Presences = BTreeMap (String Global) Presence

abbrev pub presence_in : FolderSite → List ℕ → Option Presence
presence_in x n = get_by_text x.presences n

-- it is known of a name that there is no file; and of each of these names
abbrev pub is_absent_in : Presences → List ℕ → Bool
is_absent_in presences n = option_map_or (λ p. not p.is_there) (get_by_text presences n) false

abbrev pub AreAbsent : List (List ℕ) → Presences → Type 0
AreAbsent names presences = (n : List ℕ) → is_among n names ≡ true → is_absent_in presences n ≡ true

-- there may be a file of it: templates use it, and it is not known that there is none
abbrev pub is_there_as : List ℕ → String Global × Presence → Bool
is_there_as n (name, presence) = presence.is_there && bytes_eq (string_bytes name) n

abbrev pub may_be : FolderSite → List ℕ → Bool
may_be x n = list_any (is_there_as n) x.presences.entries

-- that of a name is this one, and of the others it is what it was
abbrev pub IsPresenceAt : List ℕ → Option Presence → FolderSite → FolderSite → Type 0
IsPresenceAt name presence old now = (n : List ℕ) → presence_in now n ≡ cond (bytes_eq name n) presence (presence_in old n)

-- What is known of a name stays. If nothing was, there may be a file from now on, and the caller has to look for it.
abbrev pub new_presence : Presence
new_presence = record { is_there = true; is_due = true }

abbrev pub StaysKnown : Option Presence → Option Presence → Type 0
StaysKnown old now = (now ≡ old) ⊎ ((old ≡ None) × (now ≡ Some new_presence))

abbrev pub AreStillKnown : Presences → Presences → Type 0
AreStillKnown old now = (n : List ℕ) → StaysKnown (get_by_text old n) (get_by_text now n)

-- there may be a file, by that
abbrev pub is_there_in : Option Presence → Bool
is_there_in p = option_map_or (λ q. q.is_there) p false

abbrev pub asked_again : Presence → Presence
asked_again p = record p { is_due = true }

abbrev pub asked_if : Bool → Presence → Presence
asked_if true p = asked_again p
asked_if false p = p

-- a name whose file is looked for, and the root below which the file would be
pub record UsedVal : Type 0 where
  pub root : List ℕ
  pub name : List ℕ

abbrev pub used_view : UsedName → UsedVal
used_view u = record { root = string_bytes u.root; name = string_bytes u.name }

abbrev pub is_entry_due : String Global × Presence → Bool
is_entry_due (name, presence) = presence.is_due

abbrev pub used_of : List ℕ → String Global × Presence → UsedVal
used_of root (name, presence) = record { root = root; name = string_bytes name }

abbrev pub due_in : FolderSite → List UsedVal
due_in x = map (used_of x.site.root) (filter is_entry_due x.presences.entries)

abbrev pub due_of_sites : Sites → List UsedVal
due_of_sites s = flat_map due_in s.all.items

-- whether the caller has to look for the file of a name; and it has to look for none
abbrev pub is_due_in : Option Presence → Bool
is_due_in p = option_map_or (λ q. q.is_due) p false

abbrev pub NoneDue : Sites → Type 0
NoneDue s = (k : ℕ) (d : FolderSite) (n : List ℕ) → k < length s.all.items → is_due_in (presence_in (slice_index_or s.all.items k d) n) ≡ false

-- ---- what changes

-- each of some sites is what its documents say, as they were read
abbrev pub AreFittingBelow : ℕ → Workspace → List FolderSite → Type 0
AreFittingBelow end w xs = (k : ℕ) (d : FolderSite) → k < end → FitsWorkspace (slice_index_or xs k d).site w

abbrev pub AreFitting : Workspace → Sites → Type 0
AreFitting w s = AreFittingBelow (length s.all.items) w s.all.items

-- It is known of each lacking name that there is no file. These are the names that its templates use, and that neither a
-- template nor another file has.
abbrev pub IsSaid : FolderSite → Type 0
IsSaid x = AreAbsent x.site.lacking x.presences

abbrev pub AreSaid : Sites → Type 0
AreSaid s = (k : ℕ) (d : FolderSite) → k < length s.all.items → IsSaid (slice_index_or s.all.items k d)

-- A site was given the names of which there may be files, beside those of documents; unless there is news of them.
abbrev pub HasOthers : FolderSite → Type 0
HasOthers x = (n : List ℕ) → is_one_of x.site.others n ≡ may_be x n

abbrev pub IsGiven : FolderSite → Type 0
IsGiven x = x.has_news ≡ false → HasOthers x

abbrev pub AreGiven : Sites → Type 0
AreGiven s = (k : ℕ) (d : FolderSite) → k < length s.all.items → IsGiven (slice_index_or s.all.items k d)

abbrev pub HaveOthers : Sites → Type 0
HaveOthers s = (k : ℕ) (d : FolderSite) → k < length s.all.items → HasOthers (slice_index_or s.all.items k d)

-- the documents around which something else is than was published
abbrev pub renewed_of : Sites → List (List ℕ)
renewed_of s = map string_bytes s.renewed.items

-- The sites are of the same folders and roots, and around a document that is not among these is what there was.
pub record IsRenewed (names : List (List ℕ)) (old now : FolderSite) : Type 0 where
  pub folder : now.folder ≡ old.folder
  pub root : now.site.root ≡ old.site.root
  pub same : (n : List ℕ) → is_among n names ≡ false → around_named n now.site.documents ≡ around_named n old.site.documents

pub record AreAround (names : List (List ℕ)) (old now : Sites) : Type 0 where
  pub as_many : length now.all.items ≡ length old.all.items
  pub each : (k : ℕ) (d : FolderSite) → k < length old.all.items → IsRenewed names (slice_index_or old.all.items k d) (slice_index_or now.all.items k d)

-- in each site what is known of names stays
abbrev pub KeepsKnown : Sites → Sites → Type 0
KeepsKnown old now = (k : ℕ) (d : FolderSite) → k < length old.all.items → AreStillKnown (slice_index_or old.all.items k d).presences (slice_index_or now.all.items k d).presences

-- The names of the documents around which something else is are after the others that are to be published.
pub record AddsRenewed (names_old names_now : List (List ℕ)) (old now : Sites) : Type 0 where
  pub more : List (List ℕ)
  pub added : names_now ++ renewed_of now ≡ (names_old ++ renewed_of old) ++ more
  pub around : AreAround more old now
  pub known : KeepsKnown old now

-- it is set for a name below a root, for each site there
abbrev pub is_below : UsedVal → FolderSite → Bool
is_below u x = bytes_eq x.site.root u.root

abbrev pub IsPresenceIf : Bool → UsedVal → Bool → FolderSite → FolderSite → Type 0
IsPresenceIf true u there old now = IsPresenceAt u.name (Some (record { is_there = there; is_due = false })) old now
IsPresenceIf false u there old now = now ≡ old

abbrev pub IsPresenceOf : UsedVal → Bool → Sites → Sites → Type 0
IsPresenceOf u there old now =
    (k : ℕ) (d : FolderSite) → k < length old.all.items
    → IsPresenceIf (is_below u (slice_index_or old.all.items k d)) u there (slice_index_or old.all.items k d) (slice_index_or now.all.items k d)

-- the caller has to look again for a lacking name, and for one that may have a file; the others are forgotten
abbrev pub is_asked_again : FolderSite → List ℕ → Bool
is_asked_again x n = is_there_in (presence_in x n) || is_among n x.site.lacking

abbrev pub asked_again_in : FolderSite → List ℕ → Option Presence
asked_again_in x n = cond (is_asked_again x n) (option_map asked_again (presence_in x n)) None

-- .. in each site
abbrev pub AreDueAgain : Sites → Sites → Type 0
AreDueAgain old now =
    (k : ℕ) (d : FolderSite) (n : List ℕ) → k < length old.all.items
    → presence_in (slice_index_or now.all.items k d) n ≡ asked_again_in (slice_index_or old.all.items k d) n
