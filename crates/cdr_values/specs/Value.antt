-- Which octets spell a value (CORBA, General Inter-ORB Protocol, CDR Transfer Syntax).
use Rattle.std.specs.Prelude.{◌≡◌, ℕ, ◌+◌, ◌-◌, ◌%◌, ◌^◌, ◌<◌, ◌≤◌, ◌⊎◌, ◌==◌, Bool, false, List, [], ◌∷◌, ◌++◌, length, replicate, if◌then◌else◌}
use Rattle.std.specs.List.{list_any}
use Rattle.byteorder.specs.Endian.{big_number, little_number, big_bytes, little_bytes}
use Rattle.cdr_values.specs.declared.order.Order.{Order}
use Rattle.cdr_values.specs.declared.order.Order.TheVariants.{Big, Little}
use Rattle.cdr_values.specs.Limits.{length_limit}

-- a value of one of the types that fields have. A string is its text, without the NUL; Aligned n is nothing at all, at
-- an offset that is a multiple of n.
pub data Value : Type 0 where
  Octet : ℕ → Value
  Boolean : Bool → Value
  UShort : ℕ → Value
  ULong : ℕ → Value
  ULongLong : ℕ → Value
  OctetSequence : List ℕ → Value
  Text : List ℕ → Value
  Aligned : ℕ → Value

-- a value stands at an offset that is a multiple of this
abbrev pub alignment : Value → ℕ
alignment (Octet n) = 1
alignment (Boolean b) = 1
alignment (UShort n) = 2
alignment (ULong n) = 4
alignment (ULongLong n) = 8
alignment (OctetSequence octets) = 4
alignment (Text text) = 4
alignment (Aligned n) = n

-- a size that a number has
abbrev pub IsSize : ℕ → Type 0
IsSize n = (n ≡ 1) ⊎ (n ≡ 2) ⊎ (n ≡ 4) ⊎ (n ≡ 8)

-- how many octets there are from an offset up to the next multiple of n
abbrev pub gap : ℕ → ℕ → ℕ
gap n at = (n - at % n) % n

-- the number that the first n octets stand for
abbrev pub number_in : Order → ℕ → List ℕ → ℕ
number_in Big n octets = big_number n octets
number_in Little n octets = little_number n octets

-- n octets that read as the number
pub record IsNumber (order : Order) (n number : ℕ) (octets : List ℕ) : Type 0 where
  pub size : length octets ≡ n
  pub value : number_in order n octets ≡ number

-- the count of the items, in four octets, and the items, whose number has a limit (our profile)
pub record IsCounted (order : Order) (items octets : List ℕ) : Type 0 where
  pub count : List ℕ
  pub parts : octets ≡ count ++ items
  pub counted : IsNumber order 4 (length items) count
  pub few : length items ≤ length_limit

-- some octet is 0
abbrev pub has_nul : List ℕ → Bool
has_nul text = list_any (λ octet. octet == 0) text

-- the octets of a value, behind the padding. A string has one NUL, its last octet, and its count counts it.
abbrev pub IsBare : Order → Value → List ℕ → Type 0
IsBare order (Octet n) octets = octets ≡ n ∷ []
IsBare order (Boolean b) octets = octets ≡ (if b then 1 else 0) ∷ []
IsBare order (UShort n) octets = IsNumber order 2 n octets
IsBare order (ULong n) octets = IsNumber order 4 n octets
IsBare order (ULongLong n) octets = IsNumber order 8 n octets
IsBare order (OctetSequence items) octets = IsCounted order items octets
IsBare order (Text text) octets = IsCounted order (text ++ 0 ∷ []) octets × (has_nul text ≡ false)
IsBare order (Aligned n) octets = octets ≡ []

-- the octets spell the value at this offset: padding, of any octets (our profile), and then the value
pub record Spells (order : Order) (at : ℕ) (value : Value) (octets : List ℕ) : Type 0 where
  pub padding : List ℕ
  pub bare : List ℕ
  pub parts : octets ≡ padding ++ bare
  pub aligned : length padding ≡ gap (alignment value) at
  pub is_bare : IsBare order value bare

-- the n octets of a number
abbrev pub octets_of : Order → ℕ → ℕ → List ℕ
octets_of Big n number = big_bytes n number
octets_of Little n number = little_bytes n number

-- the octets of a value, as they are written
abbrev pub bare_of : Order → Value → List ℕ
bare_of order (Octet n) = n ∷ []
bare_of order (Boolean b) = (if b then 1 else 0) ∷ []
bare_of order (UShort n) = octets_of order 2 n
bare_of order (ULong n) = octets_of order 4 n
bare_of order (ULongLong n) = octets_of order 8 n
bare_of order (OctetSequence items) = octets_of order 4 (length items) ++ items
bare_of order (Text text) = octets_of order 4 (length text + 1) ++ text ++ 0 ∷ []
bare_of order (Aligned n) = []

-- octets that stand at a multiple of n, behind padding 0
abbrev pub padded : ℕ → ℕ → List ℕ → List ℕ
padded n at octets = replicate (gap n at) 0 ++ octets

-- the canonical spelling at this offset: padding is 0 (our profile)
abbrev pub canonical : Order → ℕ → Value → List ℕ
canonical order at value = padded (alignment value) at (bare_of order value)

-- what a value of its type can be
abbrev pub Fits : Value → Type 0
Fits (Octet n) = n < 2 ^ 8
Fits (Boolean b) = Unit {0}
Fits (UShort n) = n < 2 ^ 16
Fits (ULong n) = n < 2 ^ 32
Fits (ULongLong n) = n < 2 ^ 64
Fits (OctetSequence items) = length items ≤ length_limit
Fits (Text text) = (length text < length_limit) × (has_nul text ≡ false)
Fits (Aligned n) = Unit {0}
