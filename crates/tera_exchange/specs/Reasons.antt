-- Files that cannot be read, and why.
use Rattle.std.specs.Prelude.{◌≡◌, ℕ, List, None, Some}
use Rattle.tera_server.specs.States.{text_on, why_on}
use Rattle.tera_editor.specs.UnreadFiles.{unread}
use Rattle.tera_server.specs.declared.server.OnDisk.{OnDisk}

-- a file that cannot be read, and why
abbrev pub IsUnread : List ℕ → OnDisk → Type 0
IsUnread why found = (text_on found ≡ None) × (why_on found ≡ Some (unread why))
