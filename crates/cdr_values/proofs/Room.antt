-- What a writer has behind octets that are put at its end, and where it has room for them.
use Rattle.std.proofs.Common.{◌≡◌, ℕ, ◌≤◌, List, ◌++◌, length, None, refl, subst}
use Rattle.std.specs.Prelude.{replicate}
use Rattle.std.proofs.lemmas.Bool.{le-ltb}
use Rattle.cdr_values.specs.declared.order.Order.{Order}
use Rattle.cdr_values.specs.Value.{gap, padded}
use Rattle.cdr_values.specs.Writing.{Writing, no_room, place_of, with_octets}
use Rattle.cdr_values.specs.Limits.{output_limit}

-- so many octets fit
pub has_room : (w : Writing) (octets : List ℕ) → length (w.octets ++ octets) ≤ output_limit → no_room w octets ≡ None
has_room w octets few = rw (le-ltb _ _ few) refl

-- a writing of these parts
abbrev writing : Order → ℕ → List ℕ → Writing
writing order start octets = record { order = order; start = start; octets = octets }

-- octets behind padding
pub put_is : (order : Order) (start n : ℕ) (before padding octets after : List ℕ) (w : Writing) → writing order start before ≡ w → padding ≡ replicate (gap n (place_of w)) 0 → after ≡ before ++ (padding ++ octets) → writing order start after ≡ with_octets w (padded n (place_of w) octets)
put_is order start n before padding octets after w view zeros is =
    let P : Writing → Type 0 = λ v. padding ≡ replicate (gap n (place_of v)) 0 → writing order start after ≡ with_octets v (padded n (place_of v) octets) in
    subst P view (λ z. rw (is, z) refl) zeros
