-- Octets that begin with others, and then have a gate that isn't open.
use Rattle.std.proofs.Common.{◌≡◌, ◌≢◌, ℕ, ◌<◌, List, [], ◌∷◌, length, get_or, take, drop, refl, ap, ◌∙◌, arith}
use Rattle.decision_journal.specs.Journal.{StandsAt}

pub stands_by : (before octets : List ℕ) → length before < length octets → take (length before) octets ≡ before → get_or octets (length before) 0 ≢ 1 → StandsAt before octets
stands_by [] [] lt same closed = absurd (omega arith)
stands_by [] (g ∷ octets) lt same closed = record { gate = g; behind = octets; octets_are = refl; closed = closed }
stands_by (x ∷ before) [] lt same closed = absurd (omega arith)
stands_by (x ∷ before) (y ∷ octets) lt same closed =
    let rest = stands_by before octets (omega arith) (ap (drop 1) same) closed in
    let head : y ≡ x = ap (λ (l : List ℕ). get_or l 0 0) same in
    record { gate = rest.gate; behind = rest.behind; octets_are = ap (λ (h : ℕ). h ∷ octets) head ∙ ap (λ (l : List ℕ). x ∷ l) rest.octets_are; closed = rest.closed }
