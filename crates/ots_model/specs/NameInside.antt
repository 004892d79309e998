-- How the program keeps a name (our profile).
use Rattle.std.specs.Prelude.{◌≡◌, ℕ, ◌-◌, ◌≤◌, List, ◌++◌, length, take, replicate}
use Rattle.std.proofs.Common.{arith}
use Rattle.ots_model.specs.Limits.{name_limit}
use Rattle.ots_model.specs.Name.{IsName}
use Rattle.ots_model.specs.declared.name.Name.TheInside.{Inside}

-- the octets of the name
abbrev pub shown : Inside → List ℕ
shown n = take n.length n.octets

-- the octets are a name, and zeros fill the rest
pub record IsPadded (n : Inside) : Type 0 where
  pub is_name : IsName (take n.length n.octets)
  pub short : n.length ≤ name_limit
  pub zeros : n.octets ≡ take n.length n.octets ++ replicate (name_limit - n.length) 0
  pub whole : length (take n.length n.octets) ≡ n.length

-- a name's octets, and zeros behind them
abbrev pub padded : List ℕ → Inside
padded octets = record { octets = octets ++ replicate (name_limit - length octets) 0; length = length octets }

pub padded-shown : (n : Inside) → IsPadded n → padded (shown n) ≡ n
padded-shown n h = let zeros = h.zeros in let whole = h.whole in grind (arith, h.zeros, h.whole)
