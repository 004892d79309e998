-- How the program ends, by its status (our profile).
use Rattle.std.specs.Prelude.{ℕ, List, [], ◌++◌, codes}
use Rattle.std.specs.Fmt.{decimal}
use Rattle.ots_program.specs.declared.status.Status.{Status}
use Rattle.ots_program.specs.declared.status.Status.TheVariants as statuses

-- the number with which the program ends
abbrev pub number_of : Status → ℕ
number_of statuses.Done = 0
number_of statuses.Usage = 2
number_of (statuses.Script line) = 3
number_of statuses.ReadFault = 4
number_of statuses.WriteFault = 5
number_of (statuses.Limit line number) = 6
number_of (statuses.BadMessage place fault) = 7
number_of statuses.DiskFault = 8
number_of statuses.DoorFault = 9
number_of (statuses.BadJournal place) = 10
number_of statuses.Memory = 11

-- what stands on standard error: one line, or nothing where all is done
abbrev pub complaint_of : Status → List ℕ
complaint_of statuses.Done = []
complaint_of statuses.Usage = codes "ots: usage\n"
complaint_of (statuses.Script line) = codes "ots: script line " ++ (decimal line ++ codes "\n")
complaint_of statuses.ReadFault = codes "ots: read fault\n"
complaint_of statuses.WriteFault = codes "ots: write fault\n"
complaint_of (statuses.Limit line number) =
    codes "ots: limit " ++ (decimal number ++ (codes " at line " ++ (decimal line ++ codes "\n")))
complaint_of (statuses.BadMessage place fault) = codes "ots: bad message at " ++ (decimal place ++ codes "\n")
complaint_of statuses.DiskFault = codes "ots: disk fault\n"
complaint_of statuses.DoorFault = codes "ots: door fault\n"
complaint_of (statuses.BadJournal place) = codes "ots: bad journal at " ++ (decimal place ++ codes "\n")
complaint_of statuses.Memory = codes "ots: out of memory\n"
