-- What a call makes of a family that registers something, or makes a subtransaction.
use Rattle.std.specs.Prelude.{◌≡◌, ℕ, length, Option, Some, None, Result, Ok, Err}
use Rattle.txn_tree.specs.declared.row.TreeFault.{TreeFault}
use Rattle.resource_votes.specs.Ballots.{Ballots}
use Rattle.resource_votes.specs.declared.registration.VoteFault.{VoteFault}
use Rattle.coordinator.specs.Family.{Family}
use Rattle.coordinator.specs.Table.{with_sub}

-- a registration that this refuses, or else these are registered, the last with this number
abbrev pub Registers : Option VoteFault → ℕ → Ballots → Family → Family → Result ℕ VoteFault → Type 0
Registers None number later f g result = (result ≡ Ok number) × (g ≡ record f { ballots = later })
Registers (Some fault) number later f g result = (result ≡ Err fault) × (g ≡ f)

-- a subtransaction that this refuses, or else it is made
abbrev pub Creates : Option TreeFault → ℕ → Family → Family → Result ℕ TreeFault → Type 0
Creates None b f g result = (result ≡ Ok (length f.rows)) × (g ≡ with_sub b f)
Creates (Some fault) b f g result = (result ≡ Err fault) × (g ≡ f)
