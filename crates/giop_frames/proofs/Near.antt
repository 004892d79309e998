-- Where octets are wanting, the value that wants them is near.
use Rattle.std.proofs.Common.{◌≡◌, ℕ, ◌+◌, ◌<◌, ◌⊎◌, inl, inr, arith, Bool, true, false, cond, ltb, List, [], ◌∷◌, length, take, drop, None, Result, Ok, Err, refl, sym, subst, ap, ◌∙◌}
use Rattle.std.specs.Prelude.{IfErr, IfOk}
use Rattle.std.proofs.lemmas.List.{length-append}
use Rattle.cdr_values.specs.declared.order.Order.{Order}
use Rattle.cdr_values.specs.declared.fault.CdrFault.{CdrFault}
use Rattle.cdr_values.specs.declared.fault.CdrFault.TheVariants as cdr
use Rattle.cdr_values.specs.Limits.{length_limit}
use Rattle.cdr_values.specs.Value.{gap}
use Rattle.cdr_values.specs.Reading.{Reading, ◌>>=◌, further, octet_at, ushort_at, ulong_at, octets_at, string_at, sized_at, number_at, is_string, text_in}
use Rattle.cdr_values.specs.Sequence.{sequence_at}
use Rattle.cdr_values.specs.Tagged.{reference_at, tagged_at}
use Rattle.cdr_values.specs.Laws.{ReadingLaws}
use Rattle.giop_frames.specs.declared.fault.FrameFault.{FrameFault}
use Rattle.giop_frames.specs.declared.fault.FrameFault.TheVariants.{Body}
use Rattle.giop_frames.specs.declared.header.Kind.{Kind}
use Rattle.giop_frames.specs.declared.header.Kind.TheVariants as kinds
use Rattle.giop_frames.specs.declared.header.Header.{Header}
use Rattle.giop_frames.specs.declared.layout.Version.{Version}
use Rattle.giop_frames.specs.declared.layout.Version.TheVariants.{V1_2}
use Rattle.giop_frames.specs.declared.layout.Field.{Field}
use Rattle.giop_frames.specs.declared.layout.Field.TheVariants as fields
use Rattle.giop_frames.specs.declared.found.Found.{Found}
use Rattle.giop_frames.specs.declared.walk.Step.TheVariants as steps
use Rattle.giop_frames.specs.declared.walk.Walk.{Walk}
use Rattle.giop_frames.specs.Fault.{fault_of}
use Rattle.giop_frames.specs.Layout.{Fields, blank, layout}
use Rattle.giop_frames.specs.Content.{field_at, fields_at, front_of, indexed_at, key_at, target_at}
use Rattle.giop_frames.specs.Walk.{IsAsFar, IsDone, IsNear, IsWalked, MakesStep, ReadsTagged, fields_by, step_at}
use Rattle.giop_frames.proofs.Given.{err_is, failed}
use Rattle.giop_frames.proofs.Walking.{all_walked}

-- ---- the fault of a value

-- what holds of the faults of two steps holds of the fault of both
of_bind : {A B : Type 0} (P : CdrFault → Type 0) (r : Result A CdrFault) (f : A → Result B CdrFault) → ((d : CdrFault) → r ≡ Err d → P d) → ((x : A) (d : CdrFault) → f x ≡ Err d → P d) → (fault : CdrFault) → (r >>= f) ≡ Err fault → P fault
of_bind P (Ok x) f first later fault e = later x fault e
of_bind {A} {B} P (Err d) f first later fault e = subst P (err_is {A = B} d fault e) (first d refl)

-- and of a test
of_test : {A : Type 0} (P : CdrFault → Type 0) (b : Bool) (one other : Result A CdrFault) → ((d : CdrFault) → one ≡ Err d → P d) → ((d : CdrFault) → other ≡ Err d → P d) → (fault : CdrFault) → cond b one other ≡ Err fault → P fault
of_test P true one other first later fault e = first fault e
of_test P false one other first later fault e = later fault e

-- no result both failed and did not
abbrev done : {F A : Type 0} → A → Result A F
done x = Ok x

not_both : {A : Type 0} {P : Type 0} (x : A) (d : CdrFault) → done {F = CdrFault} x ≡ failed d → P
not_both x d e = absurd cc

-- this fault is never want of memory, and where it is want of octets, it is told of a value at this place
abbrev pub IsOf : ℕ → CdrFault → Type 0
IsOf place (cdr.Short at) = at ≡ place
IsOf place cdr.Memory = ⊥
IsOf place fault = Unit {0}

-- a fault is what it is
is_of : {A : Type 0} (place : ℕ) (given fault : CdrFault) → IsOf place given → failed {A = A} given ≡ failed fault → IsOf place fault
is_of {A} place given fault is e = subst (IsOf place) (err_is {A = A} given fault e) is

sized_of : (n : ℕ) (r : Reading) (fault : CdrFault) → sized_at n r ≡ Err fault → IsOf r.place fault
unfolding sized_at
sized_of n r fault e =
    of_test {A = List ℕ × Reading} (IsOf r.place) _ _ _ (λ d z. is_of {A = List ℕ × Reading} r.place (cdr.Short r.place) d refl z)
    (λ d z. not_both {A = List ℕ × Reading} (take n (drop (gap n r.place) r.rest), further r (gap n r.place + n)) d z) fault e

pub number_of : (n : ℕ) (r : Reading) (fault : CdrFault) → number_at n r ≡ Err fault → IsOf r.place fault
unfolding number_at
number_of n r fault e = of_bind (IsOf r.place) (sized_at n r) _ (sized_of n r) (λ x d z. absurd cc) fault e

pub octet_of : (r : Reading) (fault : CdrFault) → octet_at r ≡ Err fault → IsOf r.place fault
unfolding octet_at
octet_of r fault e = of_bind (IsOf r.place) (sized_at 1 r) _ (sized_of 1 r) (λ x d z. absurd cc) fault e

-- these octets were found, and the reader behind them
abbrev found : List ℕ → Reading → Result (List ℕ × Reading) CdrFault
found octets behind = Ok (octets, behind)

-- how many octets a sequence has, behind its count
counted_of : (r : Reading) (count : ℕ × Reading) (fault : CdrFault)
    → cond (ltb length_limit count.0) (Err (cdr.TooLong r.place count.0)) (cond (ltb (length count.1.rest) count.0) (Err (cdr.Short r.place)) (found (take count.0 count.1.rest) (further count.1 count.0))) ≡ Err fault
    → IsOf r.place fault
counted_of r count fault e =
    of_test {A = List ℕ × Reading} (IsOf r.place) _ _ _ (λ d z. is_of {A = List ℕ × Reading} r.place (cdr.TooLong r.place count.0) d tt z)
    (of_test {A = List ℕ × Reading} (IsOf r.place) _ _ _ (λ d z. is_of {A = List ℕ × Reading} r.place (cdr.Short r.place) d refl z)
    (λ d z. not_both {A = List ℕ × Reading} (take count.0 count.1.rest, further count.1 count.0) d z)) fault e

pub octets_of : (r : Reading) (fault : CdrFault) → octets_at r ≡ Err fault → IsOf r.place fault
unfolding octets_at
octets_of r fault e = of_bind (IsOf r.place) (ulong_at r) _ (number_of 4 r) (λ count d z. counted_of r count d z) fault e

-- whether they are a text, behind which a NUL stands
text_of : (r : Reading) (counted : List ℕ × Reading) (fault : CdrFault)
    → cond (is_string counted.0) (found (text_in counted.0) counted.1) (Err (cdr.BadString r.place)) ≡ Err fault → IsOf r.place fault
text_of r counted fault e =
    of_test {A = List ℕ × Reading} (IsOf r.place) _ _ _ (λ d z. not_both {A = List ℕ × Reading} (text_in counted.0, counted.1) d z)
    (λ d z. is_of {A = List ℕ × Reading} r.place (cdr.BadString r.place) d tt z) fault e

pub string_of : (r : Reading) (fault : CdrFault) → string_at r ≡ Err fault → IsOf r.place fault
unfolding string_at
string_of r fault e = of_bind (IsOf r.place) (octets_at r) _ (octets_of r) (λ counted d z. text_of r counted d z) fault e

-- ---- which is near

near : (place at : ℕ) (fault : CdrFault) → at < place + 8 → IsOf at fault → IsNear place (fault_of fault)
near place at (cdr.Short stood) few is = omega (arith, few, is)
near place at (cdr.BadBoolean stood) few is = tt
near place at (cdr.BadString stood) few is = tt
near place at (cdr.BadOrder stood) few is = tt
near place at (cdr.TooLong stood length) few is = tt
near place at cdr.Memory few is = is

-- a value at the place itself
pub near_here : (place : ℕ) (fault : CdrFault) → IsOf place fault → IsNear place (fault_of fault)
near_here place fault is = near place place fault (omega arith) is

-- octets behind a tag
pub near_behind : ReadingLaws → (r a : Reading) (tag : ℕ) (fault : CdrFault) → ulong_at r ≡ Ok (tag, a) → octets_at a ≡ Err fault → IsNear r.place (fault_of fault)
near_behind laws r a tag fault e bad =
    let h = laws.ulong.found r tag a e in
    let p = h.spelled in
    let few : a.place < r.place + 8 = omega (arith, h.place, ap length p.parts, length-append p.padding p.bare, p.aligned, p.is_bare.size) in
    near r.place a.place fault few (octets_of a fault bad)

-- ---- a step that is not made

pub id_stops : (old : Found) (r s : Reading) (fault : CdrFault) → ulong_at r ≡ Err fault → MakesStep (steps.Front fields.Id) old r (Err (fault_of fault)) old s
unfolding step_at field_at
id_stops old r s fault e = (λ told. rw e refl, refl, near_here r.place fault (number_of 4 r fault e))

pub flags_stop : (old : Found) (r s : Reading) (fault : CdrFault) → octet_at r ≡ Err fault → MakesStep (steps.Front fields.Flags) old r (Err (fault_of fault)) old s
unfolding step_at field_at
flags_stop old r s fault e = (λ told. rw e refl, refl, near_here r.place fault (octet_of r fault e))

pub reserved_stops : (old : Found) (r s : Reading) (fault : CdrFault) → octet_at r ≡ Err fault → MakesStep (steps.Front fields.Reserved) old r (Err (fault_of fault)) old s
unfolding step_at field_at
reserved_stops old r s fault e = (λ told. rw e refl, refl, near_here r.place fault (octet_of r fault e))

pub status_stops : (old : Found) (r s : Reading) (fault : CdrFault) → ulong_at r ≡ Err fault → MakesStep (steps.Front fields.Status) old r (Err (fault_of fault)) old s
unfolding step_at field_at
status_stops old r s fault e = (λ told. rw e refl, refl, near_here r.place fault (number_of 4 r fault e))

pub operation_stops : (old : Found) (r s : Reading) (fault : CdrFault) → string_at r ≡ Err fault → MakesStep (steps.Front fields.Operation) old r (Err (fault_of fault)) old s
unfolding step_at field_at
operation_stops old r s fault e = (λ told. rw e refl, refl, near_here r.place fault (string_of r fault e))

pub target_stops : (old : Found) (r s : Reading) (fault : CdrFault) → ushort_at r ≡ Err fault → MakesStep (steps.Front fields.Target) old r (Err (fault_of fault)) old s
unfolding step_at field_at target_at
target_stops old r s fault e = (λ told. rw e refl, refl, near_here r.place fault (number_of 2 r fault e))

pub contexts_stop : (old : Found) (r s : Reading) (fault : CdrFault) → ulong_at r ≡ Err fault → MakesStep (steps.Front fields.Contexts) old r (Err (fault_of fault)) old s
unfolding step_at field_at sequence_at
contexts_stop old r s fault e = (λ told. rw e refl, refl, near_here r.place fault (number_of 4 r fault e))

pub key_stops : (old : Found) (r s : Reading) (fault : CdrFault) → octets_at r ≡ Err fault → MakesStep steps.Key old r (Err (fault_of fault)) old s
unfolding step_at key_at
key_stops old r s fault e = (λ told. rw e refl, refl, near_here r.place fault (octets_of r fault e))

pub index_stops : (old : Found) (r s : Reading) (fault : CdrFault) → ulong_at r ≡ Err fault → MakesStep steps.Index old r (Err (fault_of fault)) old s
unfolding step_at indexed_at
index_stops old r s fault e = (λ told. rw e refl, refl, near_here r.place fault (number_of 4 r fault e))

pub type_id_stops : (old : Found) (r s : Reading) (fault : CdrFault) → string_at r ≡ Err fault → MakesStep steps.TypeId old r (Err (fault_of fault)) old s
unfolding step_at reference_at
type_id_stops old r s fault e = (λ told. rw e refl, refl, near_here r.place fault (string_of r fault e))

pub count_stops : (old : Found) (r s : Reading) (fault : CdrFault) → ulong_at r ≡ Err fault → MakesStep steps.Count old r (Err (fault_of fault)) old s
unfolding step_at sequence_at
count_stops old r s fault e = (λ told. rw e refl, refl, near_here r.place fault (number_of 4 r fault e))

-- the octets with a tag of a profile, or of a context
pub tag_stops : (r s : Reading) (fault : CdrFault) → ulong_at r ≡ Err fault → ReadsTagged r (Err (fault_of fault)) s
unfolding tagged_at
tag_stops r s fault e = (rw e refl, near_here r.place fault (number_of 4 r fault e))

pub tagged_stop : ReadingLaws → (r a s : Reading) (tag : ℕ) (fault : CdrFault) → ulong_at r ≡ Ok (tag, a) → octets_at a ≡ Err fault → ReadsTagged r (Err (fault_of fault)) s
unfolding tagged_at
tagged_stop laws r a s tag fault e bad = (rw (e, bad) refl, near_behind laws r a tag fault e bad)

-- ---- a walk that is as far as it can be

-- it found the fault
pub far_stuck : (header : Header) (content : List ℕ) (w : Walk) (fault : FrameFault) → fields_by header content ≡ Err fault → IsNear w.place fault → IsAsFar header content w
far_stuck header content w fault e is = rw e (is, tt)

-- it has no field left
pub far_done : (header : Header) (content : List ℕ) (w : Walk) → IsWalked header content w → IsDone w → IsAsFar header content w
far_done header content w walked done = rw (all_walked header content w walked done) (tt, done)

-- ---- a walk at the front

-- no octets have come
front_short : (order : Order) → ulong_at (front_of order []) ≡ Err (cdr.Short 12)
unfolding number_at sized_at
front_short order = refl

front_fails : (order : Order) (others : List Field) → fields_at (fields.Id ∷ others) blank (front_of order []) ≡ Err (Body 12 (cdr.Short 12))
unfolding field_at
front_fails order others = rw (front_short order) refl

front_far : (header : Header) (others : List Field) (w : Walk) → layout header.version header.kind ≡ fields.Id ∷ others → w.place ≡ 12 → IsAsFar header [] w
front_far header others w first place =
    far_stuck header [] w (Body 12 (cdr.Short 12)) (ap (λ (f : List Field). fields_at f blank (front_of header.order [])) first ∙ front_fails header.order others) (omega (arith, place))

-- and there is no field
front_done : (header : Header) (w : Walk) → layout header.version header.kind ≡ [] → IsDone w → IsAsFar header [] w
front_done header w none done =
    let read : List Field → Result (Fields × Reading) FrameFault = λ f. fields_at f blank (front_of header.order []) in
    subst (λ (f : List Field). IfErr (read f) (λ fault. IsNear w.place fault) × IfOk (read f) (λ found. IsDone w)) (sym none) (tt, done)

-- a message has no fields, or its first one is the request_id
first_field : (version : Version) (kind : Kind) → (layout version kind ≡ []) ⊎ ((others : List Field) × (layout version kind ≡ fields.Id ∷ others))
first_field V1_2 kinds.Request = inr (drop 1 (layout V1_2 kinds.Request), refl)
first_field V1_2 kinds.Reply = inr (drop 1 (layout V1_2 kinds.Reply), refl)
first_field V1_2 kinds.CancelRequest = inr ([], refl)
first_field V1_2 kinds.LocateRequest = inr (drop 1 (layout V1_2 kinds.LocateRequest), refl)
first_field V1_2 kinds.LocateReply = inr (drop 1 (layout V1_2 kinds.LocateReply), refl)
first_field V1_2 kinds.CloseConnection = inl refl
first_field V1_2 kinds.MessageError = inl refl
first_field V1_2 kinds.Fragment = inl refl

pub far_at_front : (header : Header) (w : Walk) → w.place ≡ 12 → w.step ≡ None → w.fields.now ≡ layout header.version header.kind → IsAsFar header [] w
far_at_front header w place step fields =
    elim (first_field header.version header.kind) [
      | inl none ↦ front_done header w none (record { step = step; fields = fields ∙ none })
      | inr first ↦ front_far header first.0 w first.1 place
    ]
