use Rattle.std.proofs.Common.{◌≡◌, ℕ, ◌-◌, ◌≤◌, Bool, true, false, List, [], ◌∷◌, ◌++◌, length, drop, arith, refl}
use Rattle.std.specs.Prelude.{replicate, ◌&&◌, nat_lt}
use borrow.Author.Tests.{ltb-true}
use Rattle.std.proofs.Math.Seq.{take-append_seam}
use Rattle.std.proofs.lemmas.List.{drop-replicate}
use Rattle.std.specs.List.{list_all}
use Rattle.ots_model.specs.Name.{IsName, is_letter, is_name_octet}
use Rattle.ots_model.specs.NameInside.{IsPadded}

-- the last of two tests that both hold
last_of : (a b : Bool) → (a && b) ≡ true → b ≡ true
last_of true b h = h
last_of false b h = cc

-- a name has at most twelve octets
pub name_is_short : (octets : List ℕ) → IsName octets → length octets ≤ 12
name_is_short [] h = omega arith
name_is_short (b ∷ bs) h =
    let below : nat_lt (length bs) 12 ≡ true = last_of (is_letter b && list_all is_name_octet bs) (nat_lt (length bs) 12) h in
    omega (arith, ltb-true (length bs) 12 below)

zeros : List ℕ
zeros = 0 ∷ 0 ∷ 0 ∷ 0 ∷ 0 ∷ 0 ∷ 0 ∷ 0 ∷ 0 ∷ 0 ∷ 0 ∷ 0 ∷ []

-- octets with as many zeros behind them as a name lacks are padded
padded_by : (octets : List ℕ) (rest : List ℕ) → IsName octets → rest ≡ replicate (12 - length octets) 0
    → IsPadded (record { octets = octets ++ rest; length = length octets })
padded_by octets rest h e = record {
  is_name = rw (take-append_seam octets rest) h;
  short = name_is_short octets h;
  zeros = rw (take-append_seam octets rest, e) refl;
  whole = rw (take-append_seam octets rest) refl;
}

-- the octets of a name with zeros behind them are padded
pub padded_is_padded : (octets after : List ℕ) → IsName octets → after ≡ octets
    → IsPadded (record { octets = after ++ drop (length octets) (0 ∷ 0 ∷ 0 ∷ 0 ∷ 0 ∷ 0 ∷ 0 ∷ 0 ∷ 0 ∷ 0 ∷ 0 ∷ 0 ∷ []); length = length octets })
padded_is_padded octets after h same =
    rw same (padded_by octets _ h (drop-replicate (length octets) 12 0))
