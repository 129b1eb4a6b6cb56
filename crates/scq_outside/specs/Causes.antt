-- What the system says of a call that failed.
use Rattle.std.specs.Prelude.{Option, Some, None, Result, Ok, Err, ℕ}
use Rattle.std.specs.IoError.{error_kind}
use Rattle.std.specs.declared.io.Error.{Error}
use Rattle.std.specs.declared.io.ErrorKind.{ErrorKind}
use Rattle.std.specs.declared.io.ErrorKind.TheVariants as kind
use Rattle.scq_outside.specs.declared.cause.Cause.{Cause}
use Rattle.scq_outside.specs.declared.cause.Cause.TheVariants.{NotFound, PermissionDenied}
use Rattle.scq_outside.specs.declared.cause.Cause.TheVariants.{NotADirectory, IsADirectory}
use Rattle.scq_outside.specs.declared.cause.Cause.TheVariants.{FilesystemLoop, InvalidFilename}
use Rattle.scq_outside.specs.declared.cause.Cause.TheVariants.{InvalidInput, StaleNetworkFileHandle}
use Rattle.scq_outside.specs.declared.cause.Cause.TheVariants.{WouldBlock, ConnectionReset}
use Rattle.scq_outside.specs.declared.cause.Cause.TheVariants.{TimedOut, BrokenPipe, StorageFull}
use Rattle.scq_outside.specs.declared.cause.Cause.TheVariants.{QuotaExceeded, FileTooLarge}
use Rattle.scq_outside.specs.declared.cause.Cause.TheVariants.{ReadOnlyFilesystem, ResourceBusy}
use Rattle.scq_outside.specs.declared.cause.Cause.TheVariants.{OutOfMemory}

-- the cause that a kind of error is, where it is one of these
abbrev pub cause_of : ErrorKind → Option Cause
cause_of kind.NotFound = Some NotFound
cause_of kind.PermissionDenied = Some PermissionDenied
cause_of kind.NotADirectory = Some NotADirectory
cause_of kind.IsADirectory = Some IsADirectory
cause_of kind.FilesystemLoop = Some FilesystemLoop
cause_of kind.InvalidFilename = Some InvalidFilename
cause_of kind.InvalidInput = Some InvalidInput
cause_of kind.StaleNetworkFileHandle = Some StaleNetworkFileHandle
cause_of kind.WouldBlock = Some WouldBlock
cause_of kind.ConnectionReset = Some ConnectionReset
cause_of kind.TimedOut = Some TimedOut
cause_of kind.BrokenPipe = Some BrokenPipe
cause_of kind.StorageFull = Some StorageFull
cause_of kind.QuotaExceeded = Some QuotaExceeded
cause_of kind.FileTooLarge = Some FileTooLarge
cause_of kind.ReadOnlyFilesystem = Some ReadOnlyFilesystem
cause_of kind.ResourceBusy = Some ResourceBusy
cause_of kind.OutOfMemory = Some OutOfMemory
cause_of _ = None

-- what is known of the last try that failed, once one more ended so
abbrev pub cause_after : Result ℕ Error → Option Cause → Option Cause
cause_after (Ok count) before = before
cause_after (Err error) before = cause_of (error_kind error)
