-- What `tera server` writes, by what comes.
use Rattle.std.specs.Prelude.{◌≡◌, ◌⊎◌, ⊤, ◌++◌, ℕ, Bool, true, false, List, [], ◌∷◌, All, Contains, filter, map, string_bytes, Option, None, Some, IfSome, unwrap_or}
use Rattle.std.specs.Io.KnownBytes.{Appends, Consumes, IsAtEnd}
use Rattle.std.specs.List.{flat_map, list_any}
use Rattle.std.specs.Option.{option_to_list}
use Rattle.std.specs.Str.{bytes_eq}
use Rattle.json_rpc.specs.Ids.{NullId}
use Rattle.json_rpc.specs.Messages.{message_of}
use Rattle.json_rpc.specs.Outgoing.{Outgoing, nothing}
use Rattle.json_rpc.specs.declared.code.Code.TheVariants.{InternalError, ParseError}
use Rattle.message_frames.specs.Held.{Held}
use Rattle.message_frames.specs.Representing.{Represents}
use Rattle.message_frames.specs.Shown.{Shown, Message, TooLong, Bad, Wait, frame_of}
use Rattle.message_frames.specs.Stream.{Item, Begins, IsPartial}
use Rattle.message_frames.specs.Writing.{frame}
use Rattle.tera_files.specs.Finding.{AreOfAll}
use Rattle.tera_lexer.specs.grammar.Marks.{IsValid, Marks}
use Rattle.tera_program_parts.specs.Markers.{AreOthersBy}
use Rattle.tera_program_parts.specs.declared.extensions.TheConstants.{EXTENSIONS}
use Rattle.tera_exchange.specs.declared.server.Left.{Left}
use Rattle.tera_exchange.specs.declared.server.Left.TheVariants as lefts
use Rattle.tera_server.specs.Configuring.{AreAsked, IsConfiguredBy, IsUnconfigured}
use Rattle.tera_server.specs.Naming.{IsPresenceSaid, OnlyNames}
use Rattle.tera_editor.specs.Settings.{SettingsVal, libraries_in, settings_for}
use Rattle.tera_server.specs.Settling.{due_of, IsSettling, ArePublishedInPart}
use Rattle.tera_server.specs.Sending.{unpublished_of}
use Rattle.tera_editor.specs.Sites.{AreAround, AreDueAgain, AreGiven as AreOthersGiven, NoneDue, UsedVal, renewed_of, site_in}
use Rattle.tera_server.specs.States.{known_of, text_on, why_on, IsLoadedAs, IsNotLoaded, NeededVal, NeedsFile, NeedsFolder, NeedsChanged, is_there, needed_of, edited_of, Grows, KeepsReported}
use Rattle.tera_server.specs.Steps.{ended_at, Step, IsRefused, IsUntaken}
use Rattle.tera_server.specs.declared.configuring.FoundSettings.{FoundSettings}
use Rattle.tera_server.specs.declared.server.Ended.{Ended}
use Rattle.tera_server.specs.declared.server.Ended.TheVariants.{Early, Orderly}
use Rattle.tera_server.specs.declared.server.Phase.TheVariants.{New, Running}
use Rattle.tera_editor.specs.KnownFiles.{is_known, known_names, IsKnownAs}
use Rattle.tera_editor.specs.Templates.{is_inside}
use Rattle.tera_editor.specs.UnreadFiles.{why_of}
use Rattle.tera_server.specs.declared.server.OnDisk.{OnDisk}
use Rattle.tera_server.specs.declared.server.Server.{Server}
use Rattle.tera_workspace.specs.Workspaces.{reported_of_name, IsKept}
use Rattle.text_edits.specs.Documents.{no_document}

-- nothing was sent to the server yet: it knows no document, sends nothing, asks for nothing, has nothing to publish,
-- and knows of no file on disk
pub record IsNew (s : Server) : Type 0 where
  pub phase : s.phase ≡ New
  pub known : (n : List ℕ) → known_of s n ≡ record { seen = None; texts = no_document }
  pub reported : (n : List ℕ) → reported_of_name s.workspace n ≡ []
  pub kept : IsKept s.workspace
  pub none : (needed_of s ≡ []) × (edited_of s ≡ []) × (unpublished_of s ≡ []) × ((n : List ℕ) → why_of s.unread n ≡ None)
      × ((n : List ℕ) → is_known s.known n ≡ false)
  pub sites : ((f : List ℕ) → site_in s.sites f ≡ None) × (renewed_of s.sites ≡ []) × AreOthersGiven s.sites

-- what a message does, and what is to be sent then; a message that is too long is missed, and bytes that are not a
-- message are answered by an error: each may have been a change
abbrev pub Takes : Server → Shown → Option Ended → Server → Outgoing → Type 0
Takes s (Message message) ended t out =
    Step s (message_of message) nothing ended t out ⊎ ((ended ≡ None) × IsUntaken s (message_of message) nothing t out)
Takes s (TooLong len) ended t out =
    (ended ≡ None) × IsRefused NullId InternalError s nothing t out
Takes s Bad ended t out =
    (ended ≡ None) × IsRefused NullId ParseError s nothing t out
Takes s Wait ended t out = (ended ≡ None) × (t ≡ s) × (out ≡ nothing)

-- what is published when no message waits: all of it or, if an allocation fails, a part
abbrev pub SettlesSo : Bool → Server → Server → Outgoing → Type 0
SettlesSo true s t out = IsSettling s.phase s t nothing out
SettlesSo false s t out = ArePublishedInPart s t nothing out

abbrev pub Settles : Server → Server → Outgoing → Type 0
Settles s t out = (all : Bool) × SettlesSo all s t out

-- what a server asks for next is taken, or nothing, if nothing is asked for; and nothing else changes
pub record IsAsked (next : Option NeededVal) (s t : Server) : Type 0 where
  pub needed : needed_of s ≡ needed_of t ++ option_to_list next
  pub none : next ≡ None → needed_of s ≡ []
  pub same : t ≡ record s { needed = t.needed }

-- a text is in the file of this path, or it cannot be read, or there is none
pub record IsLoaded (path : List ℕ) (s t : Server) : Type 0 where
  pub found : OnDisk
  pub loaded : IsLoadedAs path (text_on found) (why_on found) s t
  pub known : IsKnownAs path (is_there found) s.known t.known
  pub same : t ≡ record s { workspace = t.workspace; known = t.known; unread = t.unread; edited = t.edited }
  pub stays : KeepsReported s t

-- .. or an allocation failed for that, and the texts do not change
pub record IsUnloaded (path : List ℕ) (s t : Server) : Type 0 where
  pub not_loaded : IsNotLoaded path s t
  pub same : t ≡ record s { workspace = t.workspace; known = t.known; unread = t.unread; edited = t.edited }
  pub stays : KeepsReported s t

-- files of these paths were given, in order
pub data AreLoaded (s : Server) : List (List ℕ) → Server → Type 0 where
  LoadedNone : AreLoaded s [] s
  LoadedNext : (paths : List (List ℕ)) (path : List ℕ) (t u : Server) →
      AreLoaded s paths t → IsLoaded path t u → AreLoaded s (paths ++ path ∷ []) u

-- the extensions of templates: the usual ones, and those of a path by the settings for it
abbrev pub extensions : List (List ℕ)
extensions = map (λ e. e.now) EXTENSIONS

abbrev pub extensions_by : Option SettingsVal → List (List ℕ)
extensions_by None = extensions
extensions_by (Some settings) = unwrap_or settings.extensions extensions

abbrev pub extensions_in : Server → List ℕ → List (List ℕ)
extensions_in s path = extensions_by (settings_for s.settings (map string_bytes s.folders.items) path)

-- files in a folder that were known are given again, in order
abbrev pub AreKnownGiven : List ℕ → Server → Server → Type 0
AreKnownGiven folder s t = AreLoaded s (filter (is_inside folder) (known_names s.known)) t

-- .. and those that the path of a folder leads to, except those that are left out
abbrev pub AreListed : List (List ℕ) → List (List ℕ) → List (List ℕ) → Type 0
AreListed extensions paths files = (all : List (List ℕ)) × AreOfAll extensions paths all × All (Contains all) files

abbrev pub AreListedGiven : List ℕ → Server → Server → Type 0
AreListedGiven folder s t = (files : List (List ℕ)) × AreListed (extensions_in s folder) (folder ∷ []) files × AreLoaded s files t

-- a folder is open
abbrev pub is_open : List ℕ → Server → Bool
is_open folder s = list_any (λ f. bytes_eq f folder) (map string_bytes s.folders.items)

-- the known files in a folder are given, and the files that are there: always if the folder is open, and else if it is
-- in one that is
abbrev pub IsFolderGiven : List ℕ → Server → Server → Type 0
IsFolderGiven folder s t =
    (u : Server) × AreKnownGiven folder s u × (((is_open folder u ≡ false) × (t ≡ u)) ⊎ AreListedGiven folder u t)

-- the settings for a folder are given
abbrev pub IsConfigured : List ℕ → Server → Server → Type 0
IsConfigured folder s t = (found : FoundSettings) × IsConfiguredBy folder found s t

-- some files are given
abbrev pub AreSomeGiven : Server → Server → Type 0
AreSomeGiven s t = (files : List (List ℕ)) × AreLoaded s files t

-- the templates of the libraries of a folder are given, by its settings
abbrev pub libraries_for : Server → List ℕ → List (List ℕ)
libraries_for s path = libraries_in (settings_for s.settings (map string_bytes s.folders.items) path)

abbrev pub AreLibrariesGiven : List ℕ → Server → Server → Type 0
AreLibrariesGiven folder s t =
    (files : List (List ℕ)) × AreListed (extensions_in s folder) (libraries_for s folder) files × AreLoaded s files t

-- .. then what is in a folder, the files that were known and are in no folder and no library any more, and its
-- libraries
abbrev pub IsOpenGiven : List ℕ → Server → Server → Type 0
IsOpenGiven folder s t =
    (u v w : Server) × IsConfigured folder s u × IsFolderGiven folder u v × AreSomeGiven v w × AreLibrariesGiven folder w t

-- a file that was not known may not be a template, and is passed over then
abbrev pub IsPassedBy : List ℕ → Server → Server → Type 0
IsPassedBy path s t = (is_known s.known path ≡ false) × (t ≡ s)

-- what is asked for is given: the file of a path, or a folder with its settings; if it is not known what is under a
-- path, a file or a folder, or the known files below it; for a file of settings the folders are asked for again
abbrev pub AreGiven : NeededVal → Server → Server → Type 0
AreGiven (NeedsFile path) s t = IsLoaded path s t
AreGiven (NeedsFolder path) s t = IsOpenGiven path s t
AreGiven (NeedsChanged path) s t =
    IsPassedBy path s t ⊎ (IsLoaded path s t ⊎ (AreKnownGiven path s t ⊎ (IsFolderGiven path s t ⊎ AreAsked s t)))

-- .. in part, if an allocation failed: the first of some files, and perhaps none of them
abbrev pub AreLoadedInPart : List (List ℕ) → Server → Server → Type 0
AreLoadedInPart paths s t =
    (given rest : List (List ℕ)) × (given ++ rest ≡ paths) × (u : Server) × AreLoaded s given u
    × ((t ≡ u) ⊎ ((path : List ℕ) × IsUnloaded path u t))

abbrev pub AreKnownGivenInPart : List ℕ → Server → Server → Type 0
AreKnownGivenInPart folder s t = AreLoadedInPart (filter (is_inside folder) (known_names s.known)) s t

abbrev pub AreListedGivenInPart : List ℕ → Server → Server → Type 0
AreListedGivenInPart folder s t =
    (t ≡ s) ⊎ ((files : List (List ℕ)) × AreListed (extensions_in s folder) (folder ∷ []) files × AreLoadedInPart files s t)

abbrev pub IsFolderGivenInPart : List ℕ → Server → Server → Type 0
IsFolderGivenInPart folder s t =
    AreKnownGivenInPart folder s t ⊎ ((u : Server) × AreKnownGiven folder s u × AreListedGivenInPart folder u t)

abbrev pub AreSomeGivenInPart : Server → Server → Type 0
AreSomeGivenInPart s t = (files : List (List ℕ)) × AreLoadedInPart files s t

abbrev pub AreLibrariesGivenInPart : List ℕ → Server → Server → Type 0
AreLibrariesGivenInPart folder s t =
    (t ≡ s) ⊎ ((files : List (List ℕ)) × AreListed (extensions_in s folder) (libraries_for s folder) files × AreLoadedInPart files s t)

-- the settings, or what comes after them
abbrev pub AreFilesGivenInPart : List ℕ → Server → Server → Type 0
AreFilesGivenInPart folder s t =
    IsFolderGivenInPart folder s t
    ⊎ ((u : Server) × IsFolderGiven folder s u
    × (AreSomeGivenInPart u t ⊎ ((v : Server) × AreSomeGiven u v × AreLibrariesGivenInPart folder v t)))

abbrev pub IsOpenGivenInPart : List ℕ → Server → Server → Type 0
IsOpenGivenInPart folder s t = IsUnconfigured s t ⊎ ((u : Server) × IsConfigured folder s u × AreFilesGivenInPart folder u t)

pub record AreAskedInPart (s t : Server) : Type 0 where
  pub same : t ≡ record s { needed = t.needed }
  pub grows : Grows (needed_of s) (needed_of t)

abbrev pub AreGivenInPart : NeededVal → Server → Server → Type 0
AreGivenInPart (NeedsFile path) s t = IsUnloaded path s t
AreGivenInPart (NeedsFolder path) s t = IsOpenGivenInPart path s t
AreGivenInPart (NeedsChanged path) s t = IsUnloaded path s t ⊎ (IsFolderGivenInPart path s t ⊎ AreAskedInPart s t)

-- first each name that templates use and none has is due again
pub record IsLookedAgain (s t : Server) : Type 0 where
  pub only : OnlyNames s t
  pub due : AreDueAgain s.sites t.sites

abbrev pub AreGivenAnew : NeededVal → Server → Server → Type 0
AreGivenAnew needed s t = (u : Server) × IsLookedAgain s u × AreGiven needed u t

abbrev pub AreGivenAnewInPart : NeededVal → Server → Server → Type 0
AreGivenAnewInPart needed s t = (u : Server) × IsLookedAgain s u × AreGivenInPart needed u t

-- .. so it is asked for again, unless an allocation fails for that too
pub record IsGivenInPart (needed : NeededVal) (s t : Server) : Type 0 where
  pub mid : Server
  pub given : AreGivenAnewInPart needed s mid
  pub same : t ≡ record mid { needed = t.needed }
  pub again : (needed_of t ≡ needed_of mid ++ needed ∷ []) ⊎ (needed_of t ≡ needed_of mid)

-- documents may be read, and it may be set for names that templates use and none has whether there may be a file; what
-- is to be published stays so
abbrev pub AreNamesSaid : Server → Server → Type 0
AreNamesSaid s t = OnlyNames s t

-- for one of these names it is set whether there may be a file
abbrev pub IsNameSaid : UsedVal → Server → Server → Type 0
IsNameSaid u s t = (there : Bool) × AreAround [] s.sites t.sites × IsPresenceSaid u there s t

-- what a server asks for is taken, one by one, and given to it
pub data Gives (s : Server) : Server → Type 0 where
  GaveNone : Gives s s
  Gave : (needed : NeededVal) (t u v : Server) → Gives s t → IsAsked (Some needed) t u → AreGivenAnew needed u v → Gives s v
  GaveInPart : (needed : NeededVal) (t u v : Server) →
      Gives s t → IsAsked (Some needed) t u → IsGivenInPart needed u v → Gives s v
  GaveAll : (t u : Server) → Gives s t → IsAsked None t u → Gives s u
  GaveNames : (t u : Server) → Gives s t → AreNamesSaid t u → Gives s u

-- it may be set for names whether there are files, and then findings are published: all of them or, if an allocation
-- fails, a part
pub record Publishes (s t : Server) (sent : Outgoing) : Type 0 where
  pub mid : Server
  pub said : AreNamesSaid s mid
  pub settled : Settles mid t sent

-- .. all of them; and no name is due when they are published, or after that, if the exchange has begun
pub record PublishesAll (s t : Server) (sent : Outgoing) : Type 0 where
  pub mid : Server
  pub said : AreNamesSaid s mid
  pub all_said : s.phase ≡ Running → NoneDue mid.sites ⊎ NoneDue t.sites
  pub settled : SettlesSo true mid t sent

-- from a server on: what came, what was sent, in order, how the exchange ended, if it did, and the server then. After a
-- message that ends the exchange nothing comes
pub data Talks (s : Server) : List Shown → List (List ℕ) → Option Ended → Server → Type 0 where
  Silent : Talks s [] [] None s
  Took : (frames : List Shown) (sent : List (List ℕ)) (t u : Server) (next : Shown) (ended : Option Ended) (out : Outgoing) →
      Talks s frames sent None t → Takes t next ended u out → Talks s (frames ++ next ∷ []) (sent ++ out.sent) ended u
  Settled : (frames : List Shown) (sent : List (List ℕ)) (t u : Server) (out : Outgoing) →
      Talks s frames sent None t → Settles t u out → Talks s frames (sent ++ out.sent) None u
  Given : (frames : List Shown) (sent : List (List ℕ)) (t u : Server) →
      Talks s frames sent None t → Gives t u → Talks s frames sent None u

-- ---- a piece of the input after another

-- nothing is left to be done: what was asked for was given and, once the exchange has begun, findings were published
pub record IsAtRest (t : Server) : Type 0 where
  pub given : needed_of t ≡ []
  pub published : t.phase ≡ Running → due_of t ≡ []

-- the state of the exchange after messages, and the server
abbrev pub ended_of : Left → Option Ended
ended_of (lefts.Ended finished) = Some finished
ended_of lefts.AtRest = None
ended_of lefts.Short = None

abbrev pub IsLeft : Left → Server → Type 0
IsLeft (lefts.Ended finished) t = ⊤
IsLeft lefts.AtRest t = IsAtRest t
IsLeft lefts.Short t = ⊤

-- what happens with a piece of input: its messages are taken, with the one that earlier pieces began. After that
-- nothing is left to be done, unless an allocation failed
pub record Round (limit : ℕ) (left : Left) (s t : Server) (bytes rest : List ℕ) (sent : List (List ℕ)) : Type 0 where
  pub items : List Item
  pub begins : Begins bytes items rest
  pub talked : Talks s (map (frame_of limit) items) sent (ended_of left) t
  pub partial : ended_of left ≡ None → IsPartial rest
  pub done : IsLeft left t

-- whether an allocation failed in this round or before
abbrev pub or_short : Bool → Left → Bool
or_short short (lefts.Ended finished) = short
or_short short lefts.AtRest = short
or_short short lefts.Short = true

-- from a server on: whether an allocation failed, how the exchange ended, if it did, the bytes that came, those of them
-- that are not a whole message, what was sent, and the server then. Each piece is read when nothing of those before is
-- left to be done, unless an allocation failed
pub data Rounds (limit : ℕ) (s : Server) : Bool → Option Ended → List ℕ → List ℕ → List (List ℕ) → Server → Type 0 where
  NoRound : Rounds limit s false None [] [] [] s
  NextRound : (short : Bool) (bytes rest piece now : List ℕ) (sent more : List (List ℕ)) (t u : Server) (left : Left) →
      Rounds limit s short None bytes rest sent t → Round limit left t u (rest ++ piece) now more →
      Rounds limit s (or_short short left) (ended_of left) (bytes ++ piece) now (sent ++ more) u

-- an exchange that no message ended is over when nothing more comes, and no whole message is left
abbrev pub IsOver : Option Ended → Ended → Server → List ℕ → Option (List ℕ) → Type 0
IsOver (Some ended) finished t rest unread = finished ≡ ended
IsOver None finished t rest unread = (finished ≡ ended_at t.phase) × IsPartial rest × IsAtEnd unread

-- the bytes that came are messages in their order, which were given to a new server, and then the rest; what it sent,
-- each message after its header, was written in its order; and so the exchange ended. Whenever more was read, and when
-- nothing more came, what the server asked for was given, and findings were published, unless an allocation failed
pub record IsServed (limit : ℕ) (finished : Ended) (short : Bool) (read unread old new : Option (List ℕ)) : Type 0 where
  pub first : Server
  pub last : Server
  pub bytes : List ℕ
  pub items : List Item
  pub rest : List ℕ
  pub sent : List (List ℕ)
  pub ended : Option Ended
  pub fresh : IsNew first
  pub came : Consumes read unread bytes
  pub begins : Begins bytes items rest
  pub talked : Talks first (map (frame_of limit) items) sent ended last
  pub written : Appends old new (flat_map frame sent)
  pub over : IsOver ended finished last rest unread
  pub rounds : Rounds limit first short ended bytes rest sent last
  pub done : ended ≡ None → short ≡ false → IsAtRest last

-- .. by this server
abbrev pub IsServedBy : Server → ℕ → Ended → Bool → Option (List ℕ) → Option (List ℕ) → Option (List ℕ) → Option (List ℕ) → Type 0
IsServedBy s limit finished short read unread old new =
    (served : IsServed limit finished short read unread old new) × (served.first ≡ s)

-- ---- how the program ends

-- the markers in these words, if they are not the default ones; templates can be read between them
abbrev pub AreFit : Option (List ℕ) → Option Marks → Type 0
AreFit words others = AreOthersBy words others × IfSome others IsValid

-- .. these are the markers of all templates; without words, no markers are set for all
abbrev pub AreSet : Option (List ℕ) → Option (Option Marks) → Type 0
AreSet None set = set ≡ None
AreSet (Some text) None = ⊥
AreSet (Some text) (Some others) = AreFit (Some text) others

abbrev pub is_early : Ended → Bool
is_early Orderly = false
is_early Early = true

-- an exchange was served by a server with the markers in these words; something is found if it ended early
pub record EndsAsServed (words : Option (List ℕ)) (limit : ℕ) (found : Bool) (read unread old new : Option (List ℕ)) : Type 0 where
  pub finished : Ended
  pub short : Bool
  pub served : IsServed limit finished short read unread old new
  pub markers : AreSet words served.first.settings.markers
  pub early : found ≡ is_early finished

-- ---- the exchange so far

-- these bytes were taken except those that are held, and what was sent was written
pub record IsTalking (limit : ℕ) (ended : Option Ended) (s t : Server) (bytes : List ℕ) (held : Held) (old new : Option (List ℕ)) : Type 0 where
  pub items : List Item
  pub rest : List ℕ
  pub sent : List (List ℕ)
  pub begins : Begins bytes items rest
  pub represents : Represents held rest
  pub talked : Talks s (map (frame_of limit) items) sent ended t
  pub written : Appends old new (flat_map frame sent)

-- .. and no whole message is left, unless one ended the exchange; then nothing is left to be done, unless an allocation
-- failed for a part of it
pub record IsWaiting (limit : ℕ) (left : Left) (s t : Server) (bytes : List ℕ) (held : Held) (old new : Option (List ℕ)) : Type 0 where
  pub talking : IsTalking limit (ended_of left) s t bytes held old new
  pub partial : ended_of left ≡ None → IsPartial talking.rest
  pub done : IsLeft left t

-- what was still asked for was given, and findings were published and written
pub record Rests (left : Left) (s t : Server) (old new : Option (List ℕ)) : Type 0 where
  pub mid : Server
  pub sent : Outgoing
  pub given : Gives s mid
  pub settled : Settles mid t sent
  pub written : Appends old new (flat_map frame sent.sent)
  pub goes_on : ended_of left ≡ None
  pub done : IsLeft left t
