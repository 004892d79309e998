-- Octets that are moved to the front of memory that is filled to its end.
use Rattle.std.proofs.Common.{◌≡◌, ◌≤◌, ◌+◌, ◌-◌, ◌++◌, ◌∙◌, ℕ, List, length, take, drop, ap, sym, append_assoc, arith}
use Rattle.std.proofs.lemmas.List.{drop-take, length-drop, length-take, take-take, take_at}

-- what is moved to the front
pub moved : (taken count size : ℕ) (all piece rest back last : List ℕ) → taken ≤ count → count ≤ length all → count ≤ size → piece ≡ take (count - taken) back → back ≡ drop taken all → take (count - taken) (take size (piece ++ rest ++ back ++ last)) ≡ drop taken (take count all)
moved taken count size all piece rest back last within few fits p b =
    let held : ℕ = count - taken in
    let n : taken + held ≡ count = omega (arith, within) in
    let is : piece ≡ take held (drop taken all) = p ∙ ap (take held) b in
    let sized : length piece ≡ held = ap (λ (x : List ℕ). length x) is ∙ omega (arith, length-take held (drop taken all), length-drop taken all, n, few) in
    let apart : piece ++ rest ++ back ++ last ≡ piece ++ (rest ++ (back ++ last)) = append_assoc (piece ++ rest) back last ∙ append_assoc piece rest (back ++ last) in
    take-take held size _ (omega (arith, fits, n)) ∙ ap (take held) apart ∙ take_at piece (rest ++ (back ++ last)) held sized ∙ is ∙ sym (drop-take taken held all) ∙ ap (λ (k : ℕ). drop taken (take k all)) n
