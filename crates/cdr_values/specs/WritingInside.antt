-- What the calls inside a writer do (our profile).
use Rattle.std.specs.Prelude.{◌≡◌, ℕ, List, ◌++◌, Some, None, Result, Ok, Err}
use Rattle.cdr_values.specs.declared.fault.CdrFault.{CdrFault}
use Rattle.cdr_values.specs.declared.fault.CdrFault.TheVariants.{Memory}
use Rattle.cdr_values.specs.Writing.{Writing, no_room, with_octets}

-- octets were written at the end, or there is no room for them
abbrev pub Puts : Writing → List ℕ → Result (Unit {0}) CdrFault → Writing → Type 0
Puts old octets (Ok nothing) new = (new ≡ with_octets old octets) × (no_room old octets ≡ None)
Puts old octets (Err Memory) new = (new ≡ old) × (no_room old octets ≡ None)
Puts old octets (Err fault) new = (new ≡ old) × (no_room old octets ≡ Some fault)

-- padding, a number, items and an end, one behind another
abbrev pub in_order : List ℕ → List ℕ → List ℕ → List ℕ → List ℕ
in_order padding number items end = padding ++ (number ++ (items ++ end))
