-- What a sink takes of octets (our profile).
use Rattle.std.specs.Prelude.{◌≡◌, ℕ, List, ◌++◌, take, Option, Some, IfSome}

-- where the sink tells what it has taken, it has taken these octets too
abbrev pub Takes : Option (List ℕ) → List ℕ → Option (List ℕ) → Type 0
Takes before octets after = IfSome before (λ taken. after ≡ Some (taken ++ octets))

-- where the sink tells what it has taken, it has taken some of these octets, from the front
abbrev pub TakesPart : Option (List ℕ) → List ℕ → Option (List ℕ) → Type 0
TakesPart before octets after = IfSome before (λ taken. (n : ℕ) × (after ≡ Some (taken ++ take n octets)))
