-- Values one after another (CORBA, CDR Transfer Syntax: Alignment).
use Rattle.std.specs.Prelude.{◌≡◌, ℕ, ◌+◌, List, [], ◌∷◌, ◌++◌, length, Option, None}
use Rattle.std.specs.Option.{option_or}
use Rattle.cdr_values.specs.declared.order.Order.{Order}
use Rattle.cdr_values.specs.declared.fault.CdrFault.{CdrFault}
use Rattle.cdr_values.specs.Value.{Value, Spells, canonical}
use Rattle.cdr_values.specs.Reading.{Reading, Reads}
use Rattle.cdr_values.specs.Writing.{Writing, place_of, refusal, with_octets, with_value}

-- the octets spell the values, each where the one before ends
abbrev pub SpellsAll : Order → ℕ → List Value → List ℕ → Type 0
SpellsAll order at [] octets = octets ≡ []
SpellsAll order at (value ∷ values) octets =
    (front : List ℕ) × (rest : List ℕ) × (octets ≡ front ++ rest) × Spells order at value front
    × SpellsAll order (at + length front) values rest

-- the values stand at the place one after another, and the reader then stands behind them
abbrev pub ReadsAll : Reading → List Value → Reading → Type 0
ReadsAll old [] new = new ≡ old
ReadsAll old (value ∷ values) new = (behind : Reading) × Reads old value behind × ReadsAll behind values new

-- the canonical spellings, each where the one before ends
abbrev pub canonical_all : Order → ℕ → List Value → List ℕ
canonical_all order at [] = []
canonical_all order at (value ∷ values) =
    canonical order at value ++ canonical_all order (at + length (canonical order at value)) values

-- what a writer has with more values
abbrev pub with_values : Writing → List Value → Writing
with_values w [] = w
with_values w (value ∷ values) = with_values (with_value w value) values

-- why values are not written: the first of them that is refused, by a writer that has written those in front of it
abbrev pub refusal_of_all : Writing → List Value → Option CdrFault
refusal_of_all w [] = None
refusal_of_all w (value ∷ values) = option_or (refusal w value) (refusal_of_all (with_value w value) values)

-- values are written as their canonical spellings, behind what was there
abbrev pub ValuesAreWrittenCanonically : Type 0
ValuesAreWrittenCanonically = (w : Writing) (values : List Value)
    → with_values w values ≡ with_octets w (canonical_all w.order (place_of w) values)
