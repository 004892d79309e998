-- What was written is read again (CORBA, CDR Transfer Syntax; that each value has one canonical spelling is our profile).
use Rattle.std.specs.Prelude.{◌≡◌, ℕ, ◌+◌, List, [], ◌∷◌, ◌++◌, length, Ok}
use Rattle.cdr_values.specs.declared.order.Order.{Order}
use Rattle.cdr_values.specs.Value.{Value, Fits}
use Rattle.cdr_values.specs.Reading.{Reading}
use Rattle.cdr_values.specs.Writing.{with_octets}
use Rattle.cdr_values.specs.Values.{ReadsAll, canonical_all, with_values}
use Rattle.cdr_values.specs.Encapsulation.{inside, opened, begun}

-- each value is one that its type can have
abbrev pub AllFit : List Value → Type 0
AllFit [] = Unit {0}
AllFit (value ∷ values) = Fits value × AllFit values

-- in this order, from this offset on
abbrev pub standing : Order → ℕ → List ℕ → Reading
standing order at octets = record { order = order; place = at; rest = octets }

-- values that were written one after another are read again, whatever follows them
abbrev pub ValuesAreReadAgain : Type 0
ValuesAreReadAgain =
    (order : Order) (at : ℕ) (values : List Value) (more : List ℕ) → AllFit values
    → ReadsAll (standing order at (canonical_all order at values ++ more)) values
    (standing order (at + length (canonical_all order at values)) more)

-- values that were written into an encapsulation, and then octets as they stand, are read again in its writer's order:
-- a reader of it goes over the values, and then those octets are left
abbrev pub EncapsulationsAreReadAgain : Type 0
EncapsulationsAreReadAgain =
    (order : Order) (values : List Value) (tail : List ℕ) → AllFit values
    → (opened (with_octets (with_values (begun order) values) tail).octets
    ≡ Ok (inside order (canonical_all order 1 values ++ tail)))
    × ReadsAll (inside order (canonical_all order 1 values ++ tail)) values
    (standing order (1 + length (canonical_all order 1 values)) tail)
