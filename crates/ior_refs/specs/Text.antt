-- Stringified references (CORBA, ORB Interoperability Architecture, Stringified Object References): "IOR:", and the
-- hexadecimal digits of an encapsulation. That the prefix is in capitals, that digits are written in lower case, and
-- the faults are our profile.
use Rattle.std.specs.Prelude.{◌≡◌, ℕ, ◌+◌, ◌==◌, List, ◌++◌, length, drop, codes, zip, take_while, IsTrue, Result, Ok, Err, IfErr, if◌then◌else◌}
use Rattle.hex.specs.declared.error.FromHexError.{FromHexError}
use Rattle.std.specs.Char.{is_ascii_hexdigit}
use Rattle.hex.specs.Hex.{decode_of, encode_lower}
use Rattle.cdr_values.specs.declared.order.Order.TheVariants.{Big}
use Rattle.cdr_values.specs.Reading.{Reading, ◌>>=◌}
use Rattle.cdr_values.specs.Sequence.{fault_as}
use Rattle.cdr_values.specs.Encapsulation.{IsEncapsulation, opened, begun}
use Rattle.cdr_values.specs.Values.{with_values}
use Rattle.cdr_values.specs.Tagged.{reference_values}
use Rattle.ior_refs.specs.Reference.{Reference, is_short}
use Rattle.ior_refs.specs.Fault.{fault_of}
use Rattle.ior_refs.specs.Reading.{IsWhole, short_reference_at, whole}
use Rattle.ior_refs.specs.declared.fault.IorFault.{IorFault}
use Rattle.ior_refs.specs.declared.fault.IorFault.TheVariants.{BadText}

-- what a stringified reference begins with
abbrev pub prefix : List ℕ
prefix = codes "IOR:"

-- how many octets two lists have in common in front
abbrev pub agreeing : List ℕ → List ℕ → ℕ
agreeing xs ys = length (take_while (λ pair. pair.0 == pair.1) (zip xs ys))

-- how many digits stand in front of the first octet that is none
abbrev pub digits_in_front : List ℕ → ℕ
digits_in_front octets = length (take_while is_ascii_hexdigit octets)

-- the octets of digits in pairs. Else an octet is no digit, or a digit is wanting, and its place in the text is told.
abbrev pub octets_of_digits : List ℕ → Result (List ℕ) FromHexError → Result (List ℕ) IorFault
octets_of_digits digits (Ok octets) = Ok octets
octets_of_digits digits (Err fault) = Err (BadText (4 + digits_in_front digits))

-- the octets of a text; else the place of the first octet of the text that has not its form
unfoldable pub octets_in_text : List ℕ → Result (List ℕ) IorFault
octets_in_text text =
    if agreeing prefix text == 4 then octets_of_digits (drop 4 text) (decode_of (drop 4 text))
    else Err (BadText (agreeing prefix text))

-- a call tells a text that has not the form for that, and never wants memory instead
abbrev pub TellsForm : {X : Type 0} → List ℕ → Result X IorFault → Type 0
TellsForm text result = IfErr (octets_in_text text) (λ fault. result ≡ Err fault)

-- the reference of an encapsulation, which is the whole of the octets
unfoldable pub reference_in_octets : List ℕ → Result Reference IorFault
reference_in_octets octets = do
  reader ← fault_as fault_of (opened octets)
  whole short_reference_at reader

-- the reference of a text: its form is judged first, and then its octets
unfoldable pub reference_in_text : List ℕ → Result Reference IorFault
reference_in_text text = do
  octets ← octets_in_text text
  reference_in_octets octets

-- a reference as a big endian encapsulation
unfoldable pub encapsulated : Reference → List ℕ
encapsulated reference = (with_values (begun Big) (reference_values reference)).octets

-- the text of a reference
abbrev pub text_of : Reference → List ℕ
text_of reference = prefix ++ encode_lower (encapsulated reference)

-- the text is a stringified form of the reference: the prefix, and digits of an encapsulation of its values
pub record IsTextOf (text : List ℕ) (reference : Reference) : Type 0 where
  pub digits : List ℕ
  pub octets : List ℕ
  pub reader : Reading
  pub parts : text ≡ prefix ++ digits
  pub decoded : decode_of digits ≡ Ok octets
  pub opened : IsEncapsulation octets reader
  pub whole : IsWhole (reference_values reference) reader
  pub short : IsTrue (is_short reference)
