-- What the writer of a part of a line does to the lines (our profile).
use Rattle.std.specs.Prelude.{◌≡◌, ℕ, List, ◌++◌, length, take, Result, OnErr, OnOk}

-- success adds this text at the end
abbrev pub Adds : {E : Type 0} → Result (Unit {0}) E → List ℕ → List ℕ → List ℕ → Type 0
Adds result before after text = OnOk result (after ≡ before ++ text)

-- a failure keeps what stood in front
abbrev pub KeepsFront : {E : Type 0} → Result (Unit {0}) E → List ℕ → List ℕ → Type 0
KeepsFront result before after = OnErr result (take (length before) after ≡ before)
