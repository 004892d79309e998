-- The words of a command line, and how the program ends where they can't be read (our profile).
use Rattle.std.specs.Prelude.{◌≡◌, ◌≢◌, ℕ, List, drop, map, Result, Ok, Err, string_bytes}
use Rattle.std.specs.declared.alloc.Global.{Global}
use Rattle.std.specs.declared.string.String.{String}
use Rattle.std.specs.declared.vec.IntoIter.{IntoIter}
use Rattle.std.specs.Vec.Iter.{into_iter_items}
use Rattle.std.specs.declared.io.Error.{Error}
use Rattle.std.specs.declared.io.ErrorKind.TheVariants.{OutOfMemory}
use Rattle.std.specs.IoError.{error_kind}
use Rattle.ots_program.specs.declared.status.Status.{Status}
use Rattle.ots_program.specs.declared.status.Status.TheVariants.{Usage, Memory}

-- the arguments of a program, whose first is its name
abbrev pub Arguments : Type 0
Arguments = Result (IntoIter (String Global) Global) Error

-- the words are those behind the program's name, as octets
abbrev pub AreBehindName : Arguments → List (List ℕ) → Type 0
AreBehindName (Ok arguments) words = words ≡ map string_bytes (drop 1 (into_iter_items arguments))
AreBehindName (Err error) words = ⊥

-- Memory ran out, here or where the arguments were read; or they can't be read for another reason, which is a usage error
abbrev pub AreUnread : Arguments → Status → Type 0
AreUnread (Ok arguments) status = status ≡ Memory
AreUnread (Err error) status = (error_kind error ≡ OutOfMemory → status ≡ Memory) × (error_kind error ≢ OutOfMemory → status ≡ Usage)
