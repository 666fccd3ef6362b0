-- What settings of a folder change.
use Rattle.std.specs.Prelude.{◌≡◌, ◌⊎◌, ◌++◌, ◌&&◌, ◌||◌, ◌==◌, ℕ, List, [], Bool, false, cond, filter, length, map, not, is_some, option_map, string_bytes, Option, None, Some, IfSome}
use Rattle.std.specs.Bool.{beq}
use Rattle.std.specs.List.{flat_map, list_any}
use Rattle.std.specs.Option.{option_map_or}
use Rattle.std.specs.Str.{bytes_eq}
use Rattle.tera_workspace.specs.Definitions.{texts_read}
use Rattle.tera_workspace.specs.SiteValues.{no_site}
use Rattle.tera_workspace.specs.Workspaces.{reported_of_name}
use Rattle.tera_workspace.specs.declared.workspace.Workspace.{Workspace}
use Rattle.tera_server.specs.Sending.{unpublished_of}
use Rattle.tera_editor.specs.Editors.{seen_of}
use Rattle.tera_editor.specs.Settings.{SettingsVal, file_in, finds_more, finds_more_if_any, folder_of, is_in_library, libraries_in, reported_in, reports_others, settings_in, settings_view}
use Rattle.tera_editor.specs.Sites.{AreGiven, IsSiteAt, SitedVal, sited_in, with_nothing_known}
use Rattle.tera_server.specs.States.{Grows, edited_of, needed_of, needs}
use Rattle.tera_editor.specs.Templates.{is_inside}
use Rattle.tera_editor.specs.UnreadFiles.{ReasonVal, reason_view, why_of}
use Rattle.tera_server.specs.declared.configuring.FoundSettings.{FoundSettings}
use Rattle.tera_server.specs.declared.configuring.FoundSettings.TheVariants as found_as
use Rattle.tera_server.specs.declared.notes.NeededKind.TheVariants.{Folder}
use Rattle.tera_server.specs.declared.server.Server.{Server}

-- a document is in a folder and has findings; or any document in the folder
abbrev pub is_due_inside : Workspace → List ℕ → Bool → List ℕ → Bool
is_due_inside w folder all n = is_inside folder n && (all || not (length (reported_of_name w n) == 0))

-- the file in which settings are, and what is wrong in it
abbrev pub file_found : FoundSettings → Option (List ℕ)
file_found found_as.Nothing = None
file_found (found_as.Set file settings) = Some (string_bytes file)
file_found (found_as.Wrong file why) = Some (string_bytes file)

abbrev pub why_found : FoundSettings → Option ReasonVal
why_found found_as.Nothing = None
why_found (found_as.Set file settings) = None
why_found (found_as.Wrong file why) = Some (reason_view why)

-- whether something is known to be wrong in the file of settings of a folder, and in that of an open folder
abbrev pub is_wrong_in : Server → List ℕ → Bool
is_wrong_in s folder = option_map_or (λ file. is_some (why_of s.unread file)) (file_in s.settings folder) false

abbrev pub has_wrong_settings : Server → Bool
has_wrong_settings s = list_any (is_wrong_in s) (map string_bytes s.folders.items)

-- the settings after that, by those before: if the new ones are wrong, those stay
abbrev pub settings_by : FoundSettings → Option SettingsVal → Option SettingsVal
settings_by found_as.Nothing old = None
settings_by (found_as.Set file settings) old = Some (settings_view settings)
settings_by (found_as.Wrong file why) old = old

-- more is found by what was found than without settings, or was before; if what was found is wrong, nothing changes
abbrev pub finds_more_by : FoundSettings → Option SettingsVal → Bool
finds_more_by found_as.Nothing old = finds_more_if_any old
finds_more_by (found_as.Set file settings) old = finds_more (settings_view settings) || finds_more_if_any old
finds_more_by (found_as.Wrong file why) old = false

-- other findings are reported by the settings of another folder, which is in the folder or around it
abbrev pub reports_others_near : Server → List ℕ → List ℕ → Bool
reports_others_near s folder other = (is_inside folder other || is_inside other folder) && reports_others (settings_in s.settings other)

-- the folder is closed, and those of an open folder may count now in files for which its own did
abbrev pub is_left_to_others : Server → List ℕ → Bool
is_left_to_others s folder =
    let folders = map string_bytes s.folders.items in
    not (list_any (λ f. bytes_eq f folder) folders) && list_any (reports_others_near s folder) folders

-- all documents in the folder are to be published again
abbrev pub are_all_due : Server → List ℕ → FoundSettings → Bool
are_all_due s folder found = finds_more_by found (settings_in s.settings folder) || is_left_to_others s folder

-- a document is in the libraries of a folder
abbrev pub is_in_libraries : Option SettingsVal → List ℕ → Bool
is_in_libraries settings n = is_some (folder_of (libraries_in settings) n)

-- a document that the editor has or had open comes into the libraries of a folder, or leaves them
abbrev pub changes_library : Server → List ℕ → FoundSettings → List ℕ → Bool
changes_library s folder found n =
    let old = settings_in s.settings folder in
    is_some (seen_of s.editor n) && not (beq (is_in_libraries old n) (is_in_libraries (settings_by found old) n))

-- .. or is in a library, and in the folder, which may be opened or closed; and it has findings: outside of all folders
-- only faults are reported of a library
unfoldable pub is_due_by_library : Server → List ℕ → FoundSettings → List ℕ → Bool
is_due_by_library s folder found n =
    not (length (reported_of_name s.workspace n) == 0) && (changes_library s folder found n || (is_inside folder n && is_in_library s.settings n))

-- the site then, by that before; nothing is known of its documents and names yet
abbrev pub site_below : Option (List ℕ) → Option SitedVal
site_below root = option_map (λ r. with_nothing_known (no_site r [])) root

abbrev pub site_by : FoundSettings → Option SitedVal → Option SitedVal
site_by found_as.Nothing old = None
site_by (found_as.Set file settings) old = site_below (settings_view settings).root
site_by (found_as.Wrong file why) old = old

-- only settings, sites, what is known of files, and what is to be published change; nothing that was to be published is
-- dropped
pub record IsUnconfigured (s t : Server) : Type 0 where
  pub same : t ≡ record s { settings = t.settings; sites = t.sites; unread = t.unread; edited = t.edited; unpublished = t.unpublished }
  pub edited : Grows (edited_of s) (edited_of t)
  pub unpublished : Grows (unpublished_of s) (unpublished_of t)
  pub markers : t.settings.markers ≡ s.settings.markers
  pub given : AreGiven s.sites → AreGiven t.sites

-- The documents in a folder that have findings are to be published after the others, unless the same is reported there as
-- before. If more is found by the settings, or was, all its documents are; also if it is closed and left to other folders.
abbrev pub AreDueInside : List ℕ → FoundSettings → Server → List (List ℕ) → Type 0
AreDueInside folder found s names =
    let old = settings_in s.settings folder in
    let all = are_all_due s folder found in
    ((all ≡ false) × (reported_in (settings_by found old) ≡ reported_in old) × (names ≡ unpublished_of s))
    ⊎ (names ≡ unpublished_of s ++ filter (is_due_inside s.workspace folder all) (map (λ d. d.name) (texts_read s.workspace)))

-- .. and then those of libraries
pub record ArePublishedAgain (folder : List ℕ) (found : FoundSettings) (s t : Server) : Type 0 where
  pub names : List (List ℕ)
  pub inside : AreDueInside folder found s names
  pub published : unpublished_of t ≡ names ++ filter (is_due_by_library s folder found) (map (λ d. d.name) (texts_read s.workspace))

-- They are the settings of the folder, and other folders keep theirs; and what is wrong in their file is known.
pub record AreFoundSet (folder : List ℕ) (found : FoundSettings) (s t : Server) : Type 0 where
  pub settings : (f : List ℕ) → settings_in t.settings f ≡ cond (bytes_eq folder f) (settings_by found (settings_in s.settings f)) (settings_in s.settings f)
  pub file : file_in t.settings folder ≡ file_found found
  pub why : IfSome (file_found found) (λ file. why_of t.unread file ≡ why_found found)

-- These settings were found for a folder.
pub record IsConfiguredBy (folder : List ℕ) (found : FoundSettings) (s t : Server) : Type 0 where
  pub rest : IsUnconfigured s t
  pub set : AreFoundSet folder found s t
  pub site : IsSiteAt folder (site_by found (sited_in s.sites folder)) s.sites t.sites
  pub renewed : t.sites.renewed ≡ s.sites.renewed
  pub published : ArePublishedAgain folder found s t

-- the folders that are open are asked for again
pub record AreAsked (s t : Server) : Type 0 where
  pub same : t ≡ record s { needed = t.needed }
  pub asked : needed_of t ≡ needed_of s ++ flat_map (needs Folder) (map string_bytes s.folders.items)
