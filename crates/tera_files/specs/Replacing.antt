-- When the text of a file is overwritten in place, and what an error says of the file then.
use Rattle.std.specs.Prelude.{Bool, true, false, if◌then◌else◌, Result, Ok, Err}
use Rattle.std.specs.IoError.{error_kind}
use Rattle.std.specs.declared.io.Error.{Error}
use Rattle.std.specs.declared.io.ErrorKind.{ErrorKind}
use Rattle.std.specs.declared.io.ErrorKind.TheVariants.{PermissionDenied, ReadOnlyFilesystem, ResourceBusy, CrossesDevices, InvalidFilename}
use Rattle.tera_files.specs.declared.replacing.Unwritten.{Unwritten}
use Rattle.tera_files.specs.declared.replacing.Unwritten.TheVariants.{Failed, Incomplete}

-- the folder takes no new file, or not in the place of the old one
abbrev pub forbids : ErrorKind → Bool
forbids PermissionDenied = true
forbids ReadOnlyFilesystem = true
forbids ResourceBusy = true
forbids CrossesDevices = true
forbids InvalidFilename = true
forbids _ = false

-- where it is so, no new file took the place of the old one; any other error ends the replacing
abbrev pub taken_after : Error → Result Bool Unwritten
taken_after error = if forbids (error_kind error) then Ok false else Err (Failed error)

-- the file has its old text where that was put back
abbrev pub unwritten_after : Error → Bool → Unwritten
unwritten_after error restored = if restored then Failed error else Incomplete error
