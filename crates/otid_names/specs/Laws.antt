-- What the names and the numbers of otids tell (our profile).
use Rattle.std.specs.Prelude.{◌≡◌, ◌^◌, ◌<◌, ◌↔◌}
use Rattle.otid_names.specs.Otid.{OtidParts, IsOtid, global}
use Rattle.otid_names.specs.Own.{is_own, IsOwn, own, tid_of, numbers_in}
use Rattle.otid_names.specs.Name.{name}
use Rattle.otid_names.specs.declared.otid.OwnNumbers.{OwnNumbers}

-- numbers that fit their octets
pub record AreNumbers (n : OwnNumbers) : Type 0 where
  pub service : n.service < 2 ^ 64
  pub life : n.life < 2 ^ 32
  pub generation : n.generation < 2 ^ 64
  pub branch : n.branch < 2 ^ 32

-- the otid of four numbers is our own, and they are read back from it
abbrev pub NumbersReadBack : Type 0
NumbersReadBack = (n : OwnNumbers) → AreNumbers n → IsOwn (own n) × (numbers_in (tid_of n) ≡ n)

-- two of our own otids with the same numbers are the same
abbrev pub SameNumbersSameOtid : Type 0
SameNumbersSameOtid = (a b : OtidParts) → IsOtid a → IsOtid b → IsOwn a → IsOwn b
    → numbers_in a.tid ≡ numbers_in b.tid → a ≡ b

-- two otids with the same name have the same formatID and the same tid, and both are our own or both foreign
abbrev pub SameNameSameTid : Type 0
SameNameSameTid = (a b : OtidParts) → IsOtid a → IsOtid b → name a ≡ name b
    → (a.format ≡ b.format) × (a.tid ≡ b.tid) × (is_own a ≡ is_own b)

-- our own otids have the same global part exactly where they differ in the branch at most
abbrev pub GlobalTellsTransaction : Type 0
GlobalTellsTransaction = (m n : OwnNumbers) → AreNumbers m → AreNumbers n
    → (global (own m) ≡ global (own n))
    ↔ ((m.service ≡ n.service) × (m.life ≡ n.life) × (m.generation ≡ n.generation))
