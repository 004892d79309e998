-- What is on the disk of a node at the end of a script (our profile).
use Rattle.std.specs.Prelude.{ℕ, List}
use Rattle.nodes_lives.specs.Loads.{StoresJournal}

-- it is the journal of some service
abbrev pub IsStored : List ℕ → Type 0
IsStored octets = (service : ℕ) × StoresJournal service octets
