-- Sequences (CORBA, CDR Transfer Syntax, Sequence): the count of the elements, an unsigned long, and then the elements,
-- each where the one before ends. Of which values an element consists, and how one is read, the user says. What a user
-- allows, as a limit of the count, is that user's profile.
use Rattle.std.specs.Prelude.{◌≡◌, ℕ, zero, suc, ◌+◌, ◌-◌, ◌<◌, ◌≤◌, Bool, ◌&&◌, nat_le, nat_lt, IsTrue, List, [], ◌∷◌, ◌++◌, length, Result, Ok, Err, if◌then◌else◌}
use Rattle.std.specs.List.{flat_map, list_all}
use Rattle.cdr_values.specs.declared.order.Order.{Order}
use Rattle.cdr_values.specs.declared.fault.CdrFault.{CdrFault}
use Rattle.cdr_values.specs.Value.{Value, ULong}
use Rattle.cdr_values.specs.Values.{SpellsAll, ReadsAll}
use Rattle.cdr_values.specs.Reading.{Reading, ◌>>=◌, ulong_at}

-- the values of a sequence, whose elements have these values
abbrev pub sequence_values : {A : Type 0} → (A → List Value) → List A → List Value
sequence_values values xs = ULong (length xs) ∷ flat_map values xs

-- the count is within the limit, and each element is allowed
abbrev pub allows_sequence : {A : Type 0} → ℕ → (A → Bool) → List A → Bool
allows_sequence limit allows xs = nat_le (length xs) limit && list_all allows xs

-- what reads an A, and gives the reader behind it, or refuses
abbrev pub Read : Type 0 → Type 0 → Type 0
Read A F = Reading → Result (A × Reading) F

-- a fault of a value, as a fault of the user's
abbrev pub fault_as : {A F : Type 0} → (CdrFault → F) → Result A CdrFault → Result A F
fault_as as_fault (Ok x) = Ok x
fault_as as_fault (Err fault) = Err (as_fault fault)

-- so many elements, one after another
unfoldable pub each_at : {A F : Type 0} → Read A F → ℕ → Read (List A) F
each_at read zero r = Ok ([], r)
each_at read (suc n) r = do
  first ← read r
  others ← each_at read n first.1
  Ok (first.0 ∷ others.0, others.1)

-- a sequence: its count, and then so many elements. A count above the limit is refused with its place, before an
-- element is read.
unfoldable pub sequence_at : {A F : Type 0} → ℕ → (CdrFault → F) → (ℕ → ℕ → F) → Read A F → Read (List A) F
sequence_at limit as_fault too_many read r = do
  count ← fault_as as_fault (ulong_at r)
  if nat_lt limit count.0 then Err (too_many r.place count.0) else each_at read count.0 count.1

-- this read gives x exactly where the values of x stand, and x is allowed
pub record IsExact {A F : Type 0} (read : Read A F) (values : A → List Value) (allows : A → Bool) : Type 0 where
  pub found : (r : Reading) (x : A) (behind : Reading) → read r ≡ Ok (x, behind)
      → ReadsAll r (values x) behind × IsTrue (allows x)
  pub only : (r : Reading) (x : A) (behind : Reading) → ReadsAll r (values x) behind → IsTrue (allows x)
      → read r ≡ Ok (x, behind)

-- at one place and in one order, no octets of one begin octets of another, where both are allowed
abbrev pub NoneBeginsAnother : {A : Type 0} → (A → List Value) → (A → Bool) → Type 0
NoneBeginsAnother {A} values allows =
    (order : Order) (at : ℕ) (one other : A) (a b x y : List ℕ) → IsTrue (allows one) → IsTrue (allows other)
    → SpellsAll order at (values one) a → SpellsAll order at (values other) b → a ++ x ≡ b ++ y
    → (a ≡ b) × (one ≡ other)

-- where elements are read exactly, so are their sequences
abbrev pub SequencesAreExact : Type 0 → Type 0 → Type 0
SequencesAreExact A F =
    (values : A → List Value) (allows : A → Bool) (read : Read A F) (limit : ℕ) (as_fault : CdrFault → F)
    (too_many : ℕ → ℕ → F) → IsExact read values allows
    → IsExact (sequence_at limit as_fault too_many read) (sequence_values values) (allows_sequence limit allows)

-- where no element begins another, no sequence does
abbrev pub NoSequenceBeginsAnother : Type 0 → Type 0
NoSequenceBeginsAnother A =
    (values : A → List Value) (allows : A → Bool) (limit : ℕ) → NoneBeginsAnother values allows
    → NoneBeginsAnother (sequence_values values) (allows_sequence limit allows)

-- what is read exactly does not begin another
abbrev pub ReadIsNotBegun : Type 0 → Type 0 → Type 0
ReadIsNotBegun A F =
    (values : A → List Value) (allows : A → Bool) (read : Read A F) → IsExact read values allows
    → NoneBeginsAnother values allows

-- what was read before, and what is read yet
abbrev pub after_front : {A F : Type 0} → List A → Result (List A × Reading) F → Result (List A × Reading) F
after_front front read = read >>= λ others. Ok (front ++ others.0, others.1)

-- what a loop keeps that reads n elements and has read i of them: they and the others are those of the whole
pub record LoopLaws (A F : Type 0) : Type 0 where
  pub goes_on : (read : Read A F) (n i : ℕ) (front : List A) (x : A) (r behind : Reading)
      (whole : Result (List A × Reading) F) → i < n → read r ≡ Ok (x, behind)
      → after_front front (each_at read (n - i) r) ≡ whole
      → after_front (front ++ x ∷ []) (each_at read (n - (i + 1)) behind) ≡ whole
  pub fails : (read : Read A F) (n i : ℕ) (front : List A) (fault : F) (r : Reading)
      (whole : Result (List A × Reading) F) → i < n → read r ≡ Err fault
      → after_front front (each_at read (n - i) r) ≡ whole → whole ≡ Err fault
  pub ends : (read : Read A F) (n i : ℕ) (front : List A) (r : Reading) (whole : Result (List A × Reading) F)
      → n ≤ i → after_front front (each_at read (n - i) r) ≡ whole → whole ≡ Ok (front, r)
