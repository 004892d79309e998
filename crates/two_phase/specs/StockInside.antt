use Rattle.std.specs.Prelude.{◌≡◌, ℕ, ◌+◌, ◌*◌, ◌<◌, ◌≤◌, List, [], ◌∷◌, vec_len, vec_capacity}
use Rattle.two_phase.specs.Stages.{Room}
use Rattle.two_phase.specs.declared.stock.Stock.TheInside.{Inside}

abbrev pub shown : Inside → Room
shown s = record { places = s.size; octets = s.octets }

-- each of these buffers has room for so many octets
abbrev pub AreRoomy : ℕ → List ℕ → Type 0
AreRoomy octets [] = Unit {0}
AreRoomy octets (b ∷ bs) = (octets ≤ b) × AreRoomy octets bs

-- there is room for that many participants: buffers for three words to each, for one that is overtaken and for a copy of each
-- reference, each with room for so many octets
pub record IsStock (s : Inside) : Type 0 where
  pub blanks : 0 < s.size → 4 * s.size + 1 ≤ vec_len s.blanks
  pub roomy : AreRoomy s.octets s.blanks.items
  pub parties_empty : s.parties.items ≡ []
  pub parties_room : s.size ≤ vec_capacity s.parties
