-- Why a file was not read.
use Rattle.std.specs.IoError.{error_kind}
use Rattle.std.specs.declared.io.Error.{Error}
use Rattle.std.specs.declared.io.ErrorKind.{ErrorKind}
use Rattle.std.specs.declared.io.ErrorKind.TheVariants.{OutOfMemory}
use Rattle.tera_files.specs.declared.reading.Unread.{Unread}
use Rattle.tera_files.specs.declared.reading.Unread.TheVariants.{Memory, Failed}

-- as this kind of error says
abbrev pub unread_as : ErrorKind → Error → Unread
unread_as OutOfMemory error = Memory
unread_as _ error = Failed error

-- an allocation failure is reported as such
abbrev pub unread_of : Error → Unread
unread_of error = unread_as (error_kind error) error
