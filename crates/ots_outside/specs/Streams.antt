-- What contracts see of the adapters over std::io and std::fs (our profile).
use Rattle.std.specs.Prelude.{ℕ, Bool, true, IsErr, IsTrue, Option, Some, None, Result}
use Rattle.std.specs.declared.fs.File.{File}
use Rattle.ots_outside.specs.declared.streams.StdSource.{StdSource}
use Rattle.ots_outside.specs.declared.streams.StdSink.{StdSink}
use Rattle.ots_outside.specs.declared.file_disk.FileDisk.{FileDisk}
use Rattle.ots_outside.specs.declared.locked_file.LockedFile.{LockedFile}

-- the reader that the source reads from
abbrev pub source_reader : {R : Type 0} → StdSource R → R
source_reader source = source.reader

-- how many reads have failed
abbrev pub source_faults : {R : Type 0} → StdSource R → ℕ
source_faults source = source.faults

-- the writer that the sink writes to
abbrev pub sink_writer : {W : Type 0} → StdSink W → W
sink_writer sink = sink.writer

-- how many writes have failed
abbrev pub sink_faults : {W : Type 0} → StdSink W → ℕ
sink_faults sink = sink.faults

-- the file
abbrev pub file_disk_file : FileDisk → File
file_disk_file disk = disk.file

-- the folder that is to be synced too, if one is
abbrev pub file_disk_folder : FileDisk → Option File
file_disk_folder disk = disk.folder

-- how many calls have failed
abbrev pub file_disk_faults : FileDisk → ℕ
file_disk_faults disk = disk.faults

-- a sync has failed
abbrev pub file_disk_lost : FileDisk → Bool
file_disk_lost disk = disk.lost

-- where a sync had failed, the call fails, and so will each later one
abbrev pub StaysLost : {T E : Type 0} → Result T E → Bool → Bool → Type 0
StaysLost result before after = IsTrue before → IsErr result × IsTrue after

-- how many calls have failed
abbrev pub locked_faults : LockedFile → ℕ
locked_faults disk = disk.faults

-- a disk over a file is lost, and so is what is no disk
abbrev pub is_lost : Option FileDisk → Bool
is_lost None = true
is_lost (Some disk) = file_disk_lost disk

-- each call fails: there is no file, or a sync has failed
abbrev pub locked_lost : LockedFile → Bool
locked_lost disk = is_lost disk.disk
