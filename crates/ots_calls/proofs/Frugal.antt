-- Reading numbers, booleans, texts and the byte order of an encapsulation wants no memory.
use Rattle.std.proofs.Common.{◌≡◌, ℕ, ◌+◌, Bool, true, false, cond, eqb, ltb, List, [], ◌∷◌, length, take, drop, Result, Ok, Err, refl, ◌∙◌}
use Rattle.std.specs.Prelude.{slice_index}
use Rattle.cdr_values.specs.declared.fault.CdrFault.{CdrFault}
use Rattle.cdr_values.specs.declared.fault.CdrFault.TheVariants as cdr
use Rattle.cdr_values.specs.declared.order.Order.TheVariants.{Big, Little}
use Rattle.cdr_values.specs.Encapsulation.{inside, opened}
use Rattle.cdr_values.specs.Reading.{Reading, ◌>>=◌, boolean_at, further, is_string, number_at, octet_at, octets_at, sized_at, string_at, text_in, ulong_at, ulonglong_at}
use Rattle.cdr_values.specs.Value.{gap, number_in}
use Rattle.ots_calls.specs.Fault.{Fails, fault_of}
use Rattle.ots_calls.specs.Answering.{garbled}
use Rattle.ots_calls.specs.declared.fault.CallFault.{CallFault}
use Rattle.ots_calls.specs.declared.fault.CallFault.TheVariants.{Memory}
use Rattle.ots_calls.specs.declared.fault.CallFault.TheVariants as faults

-- a read wants no memory
abbrev IsFrugal : {A : Type 0} → Result A CdrFault → Type 0
IsFrugal read = (fault : CdrFault) → read ≡ Err fault → ¬ (fault ≡ cdr.Memory)

-- a read that is refused
abbrev refused : {A : Type 0} → CdrFault → Result A CdrFault
refused fault = Err fault

fault_is : {A : Type 0} (d fault : CdrFault) → refused {A = A} d ≡ refused fault → d ≡ fault
fault_is d fault e = cc

then_frugal : {A B : Type 0} (r : Result A CdrFault) (f : A → Result B CdrFault) → IsFrugal r → ((x : A) → IsFrugal (f x)) → IsFrugal (r >>= f)
then_frugal (Ok x) f h g = g x
then_frugal {B = B} (Err d) f h g = λ fault e memory. h d refl (fault_is {A = B} d fault e ∙ memory)

ok_frugal : {A : Type 0} (x : A) → IsFrugal (Ok x)
ok_frugal x fault e memory = absurd cc

unless_frugal : {A : Type 0} (b : Bool) (d : CdrFault) (r : Result A CdrFault) → ¬ (d ≡ cdr.Memory) → IsFrugal r → IsFrugal (cond b (Err d) r)
unless_frugal {A = A} true d r n h fault e memory = n (fault_is {A = A} d fault e ∙ memory)
unless_frugal false d r n h fault e memory = h fault e memory

if_frugal : {A : Type 0} (b : Bool) (d : CdrFault) (r : Result A CdrFault) → ¬ (d ≡ cdr.Memory) → IsFrugal r → IsFrugal (cond b r (Err d))
if_frugal {A = A} false d r n h fault e memory = n (fault_is {A = A} d fault e ∙ memory)
if_frugal true d r n h fault e memory = h fault e memory

no_short : (place : ℕ) → ¬ (cdr.Short place ≡ cdr.Memory)
no_short place e = cc

sized_frugal : (n : ℕ) (r : Reading) → IsFrugal (sized_at n r)
unfolding sized_at
sized_frugal n r =
    let found : List ℕ × Reading = (take n (drop (gap n r.place) r.rest), further r (gap n r.place + n)) in
    unless_frugal (ltb (length r.rest) (gap n r.place + n)) (cdr.Short r.place) (Ok found) (no_short r.place) (ok_frugal found)

number_frugal : (n : ℕ) (r : Reading) → IsFrugal (number_at n r)
unfolding number_at
number_frugal n r =
    then_frugal (sized_at n r) (λ octets. Ok (number_in r.order n octets.0, octets.1)) (sized_frugal n r) (λ octets. ok_frugal (number_in r.order n octets.0, octets.1))

octet_frugal : (r : Reading) → IsFrugal (octet_at r)
unfolding octet_at
octet_frugal r =
    then_frugal (sized_at 1 r) (λ octets. Ok (slice_index octets.0 0, octets.1)) (sized_frugal 1 r) (λ octets. ok_frugal (slice_index octets.0 0, octets.1))

one_or_zero_frugal : (r : Reading) → IsFrugal (boolean_at r)
unfolding boolean_at
one_or_zero_frugal r =
    then_frugal (octet_at r) (λ octet. cond (ltb 1 octet.0) (Err (cdr.BadBoolean r.place)) (Ok (eqb octet.0 1, octet.1))) (octet_frugal r)
    (λ octet. unless_frugal (ltb 1 octet.0) (cdr.BadBoolean r.place) (Ok (eqb octet.0 1, octet.1)) (λ e. cc) (ok_frugal (eqb octet.0 1, octet.1)))

counted_frugal : (r : Reading) → IsFrugal (octets_at r)
unfolding octets_at
counted_frugal r =
    then_frugal (ulong_at r) (λ count. cond (ltb 65536 count.0) (Err (cdr.TooLong r.place count.0)) (cond (ltb (length count.1.rest) count.0) (Err (cdr.Short r.place)) (Ok (take count.0 count.1.rest, further count.1 count.0)))) (number_frugal 4 r)
    (λ count. unless_frugal (ltb 65536 count.0) (cdr.TooLong r.place count.0) (cond (ltb (length count.1.rest) count.0) (Err (cdr.Short r.place)) (Ok (take count.0 count.1.rest, further count.1 count.0))) (λ e. cc)
    (unless_frugal (ltb (length count.1.rest) count.0) (cdr.Short r.place) (Ok (take count.0 count.1.rest, further count.1 count.0)) (no_short r.place) (ok_frugal (take count.0 count.1.rest, further count.1 count.0))))

text_frugal : (r : Reading) → IsFrugal (string_at r)
unfolding string_at
text_frugal r =
    then_frugal (octets_at r) (λ counted. cond (is_string counted.0) (Ok (text_in counted.0, counted.1)) (Err (cdr.BadString r.place))) (counted_frugal r)
    (λ counted. if_frugal (is_string counted.0) (cdr.BadString r.place) (Ok (text_in counted.0, counted.1)) (λ e. cc) (ok_frugal (text_in counted.0, counted.1)))

ordered : (big little : Bool) (octets : List ℕ) → IsFrugal (cond big (Ok (inside Big octets)) (cond little (Ok (inside Little octets)) (Err (cdr.BadOrder 0))))
ordered true little octets = ok_frugal (inside Big octets)
ordered false little octets = if_frugal little (cdr.BadOrder 0) (Ok (inside Little octets)) (λ e. cc) (ok_frugal (inside Little octets))

begun_frugal : (octets : List ℕ) → IsFrugal (opened octets)
begun_frugal [] = λ fault e memory. no_short 0 (fault_is {A = Reading} (cdr.Short 0) fault e ∙ memory)
begun_frugal (first ∷ octets) = ordered (eqb first 0) (eqb first 1) octets

-- told as a fault of a call
told : (fault : CdrFault) → ¬ (fault ≡ cdr.Memory) → ¬ (fault_of fault ≡ Memory)
told (cdr.Short place) n e = cc
told (cdr.BadBoolean place) n e = cc
told (cdr.BadString place) n e = cc
told (cdr.BadOrder place) n e = cc
told (cdr.TooLong place length) n e = cc
told cdr.Memory n e = n refl

pub ulong_frugal : (r : Reading) (fault : CdrFault) → ulong_at r ≡ Err fault → ¬ (fault_of fault ≡ Memory)
ulong_frugal r fault e = told fault (number_frugal 4 r fault e)

pub ulonglong_frugal : (r : Reading) (fault : CdrFault) → ulonglong_at r ≡ Err fault → ¬ (fault_of fault ≡ Memory)
ulonglong_frugal r fault e = told fault (number_frugal 8 r fault e)

pub boolean_frugal : (r : Reading) (fault : CdrFault) → boolean_at r ≡ Err fault → ¬ (fault_of fault ≡ Memory)
boolean_frugal r fault e = told fault (one_or_zero_frugal r fault e)

pub string_frugal : (r : Reading) (fault : CdrFault) → string_at r ≡ Err fault → ¬ (fault_of fault ≡ Memory)
string_frugal r fault e = told fault (text_frugal r fault e)

pub opened_frugal : (octets : List ℕ) (fault : CdrFault) → opened octets ≡ Err fault → ¬ (fault_of fault ≡ Memory)
opened_frugal octets fault e = told fault (begun_frugal octets fault e)

-- a reply is told as want of memory only where reading it was
pub garbled_memory : (fault : CallFault) → garbled fault ≡ Memory → fault ≡ Memory
garbled_memory faults.BadOperation e = absurd cc
garbled_memory (faults.Marshal place) e = absurd cc
garbled_memory faults.BadParam e = absurd cc
garbled_memory (faults.Garbled place) e = absurd cc
garbled_memory faults.BadTarget e = absurd cc
garbled_memory faults.BadKey e = absurd cc
garbled_memory Memory e = refl

-- a call answers the fault that reading gives
pub fails_with : {A : Type 0} (fault : CallFault) (read : Result A CallFault) → read ≡ Err fault → Fails fault read
fails_with faults.BadOperation read e = e
fails_with (faults.Marshal place) read e = e
fails_with faults.BadParam read e = e
fails_with (faults.Garbled place) read e = e
fails_with faults.BadTarget read e = e
fails_with faults.BadKey read e = e
fails_with Memory read e = tt

-- a call that was refused
abbrev refusal : {A : Type 0} → CallFault → Result A CallFault
refusal fault = Err fault

-- for want of memory
pub memory_told : {A : Type 0} (fault : CallFault) → refusal {A = A} fault ≡ Err Memory → fault ≡ Memory
memory_told fault e = cc
