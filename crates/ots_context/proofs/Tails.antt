-- Tails: what is left, and where a tail can stand.
use Rattle.std.proofs.Common.{◌≡◌, ℕ, ◌%◌, ◌<◌, ◌&&◌, Bool, true, false, cond, eqb, List, [], ◌∷◌, ◌++◌, length, Ok, Err, refl, sym, ap, subst, ◌∙◌, arith, not, Result}
use Rattle.std.proofs.lemmas.Bool.{and_parts}
use Rattle.std.proofs.lemmas.List.{append-nil}
use Rattle.cdr_values.specs.declared.order.Order.{Order}
use Rattle.cdr_values.specs.declared.order.Order.TheVariants.{Big, Little}
use Rattle.cdr_values.specs.declared.fault.CdrFault.{CdrFault}
use Rattle.cdr_values.specs.Again.{standing, ValuesAreReadAgain}
use Rattle.cdr_values.specs.Laws.{ReadingLaws}
use Rattle.cdr_values.specs.Reading.{Reading, ulong_at}
use Rattle.cdr_values.specs.Value.{ULong, canonical}
use Rattle.ots_context.specs.declared.context.AnyTail.{AnyTail}
use Rattle.ots_context.specs.declared.context.AnyTail.TheVariants.{Null, Kept}
use Rattle.ots_context.specs.Tail.{IsNull, IsTail, is_big, is_zero, reads_null, tail_at, octets_of_tail, can_stand}

-- the length of nothing
nothing_left : (xs : List ℕ) → (eqb (length xs) 0) ≡ true → xs ≡ []
nothing_left [] e = refl
nothing_left (x ∷ xs) e = absurd (grind arith)

zero_is : (n : ℕ) → eqb n 0 ≡ true → n ≡ 0
zero_is n e = grind arith

-- what is read as null is null
null_from : ReadingLaws → (r : Reading) (read : Result (ℕ × Reading) CdrFault) → ulong_at r ≡ read → is_zero read ≡ true → IsNull r
null_from laws r (Ok found) e h =
    let both = and_parts (eqb found.0 0) (eqb (length found.1.rest) 0) h in
    let at : ulong_at r ≡ Ok (0, found.1) = e ∙ ap (λ (n : ℕ). Ok (n, found.1)) (zero_is found.0 both.0) in
    record { behind = found.1; zero = laws.ulong.found r 0 found.1 at; nothing = nothing_left found.1.rest both.1 }
null_from laws r (Err fault) e h = absurd cc

pub null_found : ReadingLaws → (r : Reading) → reads_null r ≡ true → IsNull r
unfolding reads_null
null_found laws r h = null_from laws r (ulong_at r) refl h

-- what is null is read so
pub null_only : ReadingLaws → (r : Reading) → IsNull r → reads_null r ≡ true
unfolding reads_null
null_only laws r h = rw (laws.ulong.only r 0 h.behind h.zero, h.nothing) refl

-- the tail that is read is what is left
tail_found_if : ReadingLaws → (r : Reading) (b : Bool) → reads_null r ≡ b → IsTail (cond b Null (Kept r.order (r.place % 8) r.rest)) r
tail_found_if laws r true e = null_found laws r e
tail_found_if laws r false e = (refl, refl, refl, λ h. let k = null_only laws r h in cc)

pub tail_found : ReadingLaws → (r : Reading) → IsTail (tail_at r) r
unfolding tail_at
tail_found laws r = tail_found_if laws r (reads_null r) refl

-- what is left is the tail that is read
kept_only : ReadingLaws → (order : Order) (modulo : ℕ) (octets : List ℕ) (r : Reading) (b : Bool) → reads_null r ≡ b → IsTail (Kept order modulo octets) r → cond b Null (Kept r.order (r.place % 8) r.rest) ≡ Kept order modulo octets
kept_only laws order modulo octets r true e h = absurd (h.3 (null_found laws r e))
kept_only laws order modulo octets r false e h = rw (h.0, h.1, h.2) refl

pub tail_only : ReadingLaws → (tail : AnyTail) (r : Reading) → IsTail tail r → tail_at r ≡ tail
unfolding tail_at
tail_only laws Null r h = rw (null_only laws r h) refl
tail_only laws (Kept order modulo octets) r h = kept_only laws order modulo octets r (reads_null r) refl h

-- a null that is written is read as null
zero_again : ReadingLaws → ValuesAreReadAgain → (place : ℕ) → reads_null (standing Big place (canonical Big place (ULong 0))) ≡ true
zero_again laws again place =
    let h = again Big place (ULong 0 ∷ []) [] (lit, tt) in
    let octets = canonical Big place (ULong 0) in
    let r = standing Big place ((octets ++ []) ++ []) in
    let same : r ≡ standing Big place octets = ap (standing Big place) (append-nil (octets ++ []) ∙ append-nil octets) in
    let null : IsNull r = record { behind = h.0; zero = h.1; nothing = ap (λ (s : Reading). s.rest) (sym h.2) } in
    subst (λ (s : Reading). reads_null s ≡ true) same (null_only laws r null)
  where
    lit : 0 < 4294967296
    lit = omega arith

big_is : (order : Order) → is_big order ≡ true → order ≡ Big
big_is Big e = refl
big_is Little e = absurd cc

not_null : (b : Bool) → not b ≡ true → b ≡ false
not_null true e = absurd cc
not_null false e = refl

same_modulo : (m n : ℕ) → eqb m n ≡ true → m ≡ n
same_modulo m n e = grind arith

-- a tail that can stand is read again
pub stand_again : ReadingLaws → ValuesAreReadAgain → (place : ℕ) (tail : AnyTail) → can_stand place tail ≡ true → tail_at (standing Big place (octets_of_tail place tail)) ≡ tail
unfolding tail_at
stand_again laws again place Null e = rw (zero_again laws again place) refl
stand_again laws again place (Kept order modulo octets) e =
    let a = and_parts (is_big order) (eqb modulo (place % 8) && not (reads_null (standing Big place octets))) e in
    let b = and_parts (eqb modulo (place % 8)) (not (reads_null (standing Big place octets))) a.1 in
    rw (not_null (reads_null (standing Big place octets)) b.1, big_is order a.0, same_modulo modulo (place % 8) b.0) refl

-- what is read
read_is : (r : Reading) (order : Order) (modulo : ℕ) (octets : List ℕ) (b : Bool) → cond b Null (Kept r.order (r.place % 8) r.rest) ≡ Kept order modulo octets → (b ≡ false) × (order ≡ r.order) × (modulo ≡ r.place % 8)
read_is r order modulo octets true e = absurd cc
read_is r order modulo octets false e = (refl, cc, cc)

-- a tail that is read again can stand
pub again_stands : (place : ℕ) (tail : AnyTail) → tail_at (standing Big place (octets_of_tail place tail)) ≡ tail → can_stand place tail ≡ true
unfolding tail_at
again_stands place Null e = refl
again_stands place (Kept order modulo octets) e =
    let r = standing Big place octets in
    let h = read_is r order modulo octets (reads_null r) e in
    rw (h.0, h.1, h.2) (grind arith)
