-- Encapsulations (CORBA, CDR Transfer Syntax, Encapsulation): octets of which the first tells the byte order, and from
-- which offsets count.
use Rattle.std.specs.Prelude.{◌≡◌, ℕ, List, [], ◌∷◌, ◌==◌, Result, Ok, Err, if◌then◌else◌}
use Rattle.cdr_values.specs.declared.order.Order.{Order}
use Rattle.cdr_values.specs.declared.order.Order.TheVariants.{Big, Little}
use Rattle.cdr_values.specs.declared.fault.CdrFault.{CdrFault}
use Rattle.cdr_values.specs.declared.fault.CdrFault.TheVariants.{Short, BadOrder}
use Rattle.cdr_values.specs.Reading.{Reading}
use Rattle.cdr_values.specs.Writing.{Writing}

-- the octet that tells a byte order
abbrev pub order_octet : Order → ℕ
order_octet Big = 0
order_octet Little = 1

-- a reader of these octets in this order, behind the first octet of an encapsulation
abbrev pub inside : Order → List ℕ → Reading
inside order octets = record { order = order; place = 1; rest = octets }

-- the octets are an encapsulation, and the reader stands behind its first octet
pub record IsEncapsulation (octets : List ℕ) (reader : Reading) : Type 0 where
  pub parts : octets ≡ order_octet reader.order ∷ reader.rest
  pub place : reader.place ≡ 1

-- the reader of an encapsulation, behind its first octet
abbrev pub opened : List ℕ → Result Reading CdrFault
opened [] = Err (Short 0)
opened (first ∷ octets) =
    if first == 0 then Ok (inside Big octets) else (
    if first == 1 then Ok (inside Little octets) else Err (BadOrder 0))

-- a writer that has written the first octet of an encapsulation in this order
abbrev pub begun : Order → Writing
begun order = record { order = order; start = 0; octets = order_octet order ∷ [] }
