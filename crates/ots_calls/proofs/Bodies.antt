-- Bodies are read exactly where they are those of a call.
use Rattle.std.proofs.Common.{◌≡◌, ℕ, ◌≤◌, Bool, true, false, eqb, ltb, List, [], ◌∷◌, length, Some, Ok, refl, ap, subst, ◌∙◌, arith}
use Rattle.std.proofs.lemmas.Bool.{ltb-false, le-ltb, and_parts}
use Rattle.cdr_values.specs.Laws.{ReadingLaws}
use Rattle.cdr_values.specs.Reading.{Reading, ◌>>=◌, boolean_at, ulong_at, ulonglong_at, string_at}
use Rattle.cdr_values.specs.Value.{Value, Boolean, ULong, ULongLong, Text}
use Rattle.cdr_values.specs.Values.{ReadsAll}
use Rattle.ior_refs.specs.Laws.{ReferencesAreReadExactly}
use Rattle.ior_refs.specs.Reading.{short_reference_at}
use Rattle.ior_refs.specs.Reference.{Reference, Tagged, nil}
use Rattle.ots_model.specs.declared.service.Status.{Status}
use Rattle.ots_model.specs.declared.service.Status.TheVariants as status
use Rattle.ots_context.specs.Laws.{ContextsStandExactly}
use Rattle.ots_context.specs.Reading.{context_at}
use Rattle.ots_calls.specs.Call.{IsBody, operation_of, status_number}
use Rattle.ots_calls.specs.Fault.{fault_of, fault_of_context, fault_of_reference, told_as, or_refuse}
use Rattle.ots_calls.specs.Reading.{call_at, ended, is_nil, status_of, statuses, with_object}
use Rattle.ots_calls.specs.declared.fault.CallFault.{CallFault}
use Rattle.ots_calls.specs.declared.fault.CallFault.TheVariants.{Marshal, BadParam}
use Rattle.ots_calls.specs.declared.operation.Handing.{Handing}
use Rattle.ots_calls.specs.declared.operation.Operation.{Operation}
use Rattle.ots_calls.specs.declared.operation.Operation.TheVariants as operations
use Rattle.ots_calls.specs.declared.call.Call.{Call}
use Rattle.ots_calls.specs.declared.call.Call.TheVariants as calls
use Rattle.ots_calls.proofs.Steps.{ok_is, bind_ok, guard_ok, told_ok, there_ok, found}

-- few octets are left
pub ended_found : {A : Type 0} (x call : A) (r : Reading) → ended x r ≡ Ok call → (x ≡ call) × (length r.rest ≤ 7)
unfolding ended
ended_found x call r e =
    let g = guard_ok (ltb 7 (length r.rest)) (Marshal r.place) (Ok x) call e in
    (ok_is {F = CallFault} x call g.1, ltb-false _ _ g.0)

pub ended_only : {A : Type 0} (call : A) (r : Reading) → length r.rest ≤ 7 → ended call r ≡ Ok call
unfolding ended
ended_only call r few = rw (le-ltb 7 (length r.rest) few) refl

-- the body of a call that was read for an operation
abbrev IsFound : Operation → Reading → Call → Type 0
IsFound operation r call = (operation_of call ≡ operation) × IsBody call r

-- one that was read is that of the call
is_found : (operation : Operation) (r : Reading) (x call : Call) → x ≡ call → IsFound operation r x → IsFound operation r call
is_found operation r x call same h = subst (IsFound operation r) same h

-- ---- references

empty : {A : Type 0} (xs : List A) → eqb (length xs) 0 ≡ true → xs ≡ []
empty [] e = refl
empty (x ∷ xs) e = absurd (grind arith)

nil_is : (x : Reference) → is_nil x ≡ true → x ≡ nil
nil_is x e =
    let both = and_parts (eqb (length x.0) 0) (eqb (length x.1) 0) e in
    ap (λ (type_id : List ℕ). (type_id, x.1)) (empty x.0 both.0) ∙ ap (λ (profiles : List Tagged). ([], profiles)) (empty x.1 both.1)

not_nil : (x : Reference) → is_nil x ≡ false → ¬ (x ≡ nil)
not_nil x e = λ same. let k : is_nil x ≡ true = ap is_nil same in cc

object_if : (x : Reference) (b : Bool) → is_nil x ≡ b → ¬ (x ≡ nil) → b ≡ false
object_if x true e h = absurd (h (nil_is x e))
object_if x false e h = refl

object_found : (x : Reference) (one call : Call) → with_object x one ≡ Ok call → (one ≡ call) × ¬ (x ≡ nil)
unfolding with_object
object_found x one call e =
    let g = guard_ok (is_nil x) BadParam (Ok one) call e in
    (ok_is {F = CallFault} one call g.1, not_nil x g.0)

object_only : (x : Reference) (call : Call) → ¬ (x ≡ nil) → with_object x call ≡ Ok call
unfolding with_object
object_only x call h = rw (object_if x (is_nil x) refl h) refl

handing_found : ReferencesAreReadExactly → (handing : Handing) (r : Reading) (call : Call) → call_at (operations.Handing handing) r ≡ Ok call → IsFound (operations.Handing handing) r call
unfolding call_at
handing_found refs handing r call e =
    let a = bind_ok (told_as fault_of_reference (short_reference_at r)) (λ x. ended (calls.Handing handing x.0) x.1 >>= (λ one. with_object x.0 one)) call e in
    let b = bind_ok (ended (calls.Handing handing a.0.0) a.0.1) (λ one. with_object a.0.0 one) call a.2 in
    let last = object_found a.0.0 b.0 call b.2 in
    let d = ended_found (calls.Handing handing a.0.0) b.0 a.0.1 b.1 in
    let stands = refs.found r a.0.0 a.0.1 (told_ok fault_of_reference (short_reference_at r) a.0 a.1) in
    is_found (operations.Handing handing) r (calls.Handing handing a.0.0) call (d.0 ∙ last.0)
    (refl, (record { behind = a.0.1; stand = stands.0; few = d.1 }, stands.1, last.1))

-- ---- statuses

pub same_number : (n m : ℕ) → eqb n m ≡ true → n ≡ m
same_number n m e = grind arith

pub status_found : (n : ℕ) (s : Status) → status_of n ≡ Some s → n ≡ status_number s
unfolding status_of
status_found n s e = same_number n (status_number s) (found (λ (one : Status). eqb n (status_number one)) statuses s e)

pub status_only : (s : Status) → status_of (status_number s) ≡ Some s
unfolding status_of
status_only status.Active = refl
status_only status.MarkedRollback = refl
status_only status.Prepared = refl
status_only status.Committed = refl
status_only status.RolledBack = refl
status_only status.Unknown = refl
status_only status.NoTransaction = refl
status_only status.Preparing = refl
status_only status.Committing = refl
status_only status.RollingBack = refl

after_found : ReadingLaws → (r : Reading) (call : Call) → call_at operations.AfterCompletion r ≡ Ok call → IsFound operations.AfterCompletion r call
unfolding call_at
after_found laws r call e =
    let a = bind_ok (told_as fault_of (ulong_at r)) (λ n. or_refuse (Marshal r.place) (status_of n.0) >>= (λ s. ended (calls.AfterCompletion s) n.1)) call e in
    let b = bind_ok (or_refuse (Marshal r.place) (status_of a.0.0)) (λ s. ended (calls.AfterCompletion s) a.0.1) call a.2 in
    let d = ended_found (calls.AfterCompletion b.0) call a.0.1 b.2 in
    let number = status_found a.0.0 b.0 (there_ok (Marshal r.place) (status_of a.0.0) b.0 b.1) in
    let one = laws.ulong.found r a.0.0 a.0.1 (told_ok fault_of (ulong_at r) a.0 a.1) in
    let stand : ReadsAll r (ULong a.0.0 ∷ []) a.0.1 = (a.0.1, one, refl) in
    is_found operations.AfterCompletion r (calls.AfterCompletion b.0) call d.0
    (refl, record { behind = a.0.1; stand = subst (λ (n : ℕ). ReadsAll r (ULong n ∷ []) a.0.1) number stand; few = d.1 })

-- ---- each operation

put_found : ReadingLaws → (r : Reading) (call : Call) → call_at operations.Put r ≡ Ok call → IsFound operations.Put r call
unfolding call_at
put_found laws r call e =
    let a = bind_ok (told_as fault_of (ulonglong_at r)) (λ cell. told_as fault_of (ulonglong_at cell.1) >>= (λ value. ended (calls.Put cell.0 value.0) value.1)) call e in
    let b = bind_ok (told_as fault_of (ulonglong_at a.0.1)) (λ value. ended (calls.Put a.0.0 value.0) value.1) call a.2 in
    let d = ended_found (calls.Put a.0.0 b.0.0) call b.0.1 b.2 in
    let one = laws.ulonglong.found r a.0.0 a.0.1 (told_ok fault_of (ulonglong_at r) a.0 a.1) in
    let two = laws.ulonglong.found a.0.1 b.0.0 b.0.1 (told_ok fault_of (ulonglong_at a.0.1) b.0 b.1) in
    is_found operations.Put r (calls.Put a.0.0 b.0.0) call d.0
    (refl, record { behind = b.0.1; stand = (a.0.1, one, (b.0.1, two, refl)); few = d.1 })

pub body_found : ReferencesAreReadExactly → ContextsStandExactly → ReadingLaws → (operation : Operation) (r : Reading) (call : Call) → call_at operation r ≡ Ok call → IsFound operation r call
unfolding call_at
body_found refs contexts laws (operations.Bare bare) r call e =
    let d = ended_found (calls.Bare bare) call r e in
    is_found (operations.Bare bare) r (calls.Bare bare) call d.0 (refl, record { behind = r; stand = refl; few = d.1 })
body_found refs contexts laws (operations.Handing handing) r call e = handing_found refs handing r call e
body_found refs contexts laws operations.Create r call e =
    let a = bind_ok (told_as fault_of (ulong_at r)) (λ n. ended (calls.Create n.0) n.1) call e in
    let d = ended_found (calls.Create a.0.0) call a.0.1 a.2 in
    let one = laws.ulong.found r a.0.0 a.0.1 (told_ok fault_of (ulong_at r) a.0 a.1) in
    is_found operations.Create r (calls.Create a.0.0) call d.0 (refl, record { behind = a.0.1; stand = (a.0.1, one, refl); few = d.1 })
body_found refs contexts laws operations.Recreate r call e =
    let a = bind_ok (told_as fault_of_context (context_at r)) (λ c. Ok (calls.Recreate c)) call e in
    is_found operations.Recreate r (calls.Recreate a.0) call (ok_is {F = CallFault} (calls.Recreate a.0) call a.2) (refl, (contexts r a.0).0 (told_ok fault_of_context (context_at r) a.0 a.1))
body_found refs contexts laws operations.CommitTransaction r call e =
    let a = bind_ok (told_as fault_of (boolean_at r)) (λ b. ended (calls.CommitTransaction b.0) b.1) call e in
    let d = ended_found (calls.CommitTransaction a.0.0) call a.0.1 a.2 in
    let one = laws.boolean.found r a.0.0 a.0.1 (told_ok fault_of (boolean_at r) a.0 a.1) in
    is_found operations.CommitTransaction r (calls.CommitTransaction a.0.0) call d.0 (refl, record { behind = a.0.1; stand = (a.0.1, one, refl); few = d.1 })
body_found refs contexts laws operations.AfterCompletion r call e = after_found laws r call e
body_found refs contexts laws operations.Put r call e = put_found laws r call e
body_found refs contexts laws operations.Get r call e =
    let a = bind_ok (told_as fault_of (ulonglong_at r)) (λ n. ended (calls.Get n.0) n.1) call e in
    let d = ended_found (calls.Get a.0.0) call a.0.1 a.2 in
    let one = laws.ulonglong.found r a.0.0 a.0.1 (told_ok fault_of (ulonglong_at r) a.0 a.1) in
    is_found operations.Get r (calls.Get a.0.0) call d.0 (refl, record { behind = a.0.1; stand = (a.0.1, one, refl); few = d.1 })
body_found refs contexts laws operations.IsA r call e =
    let a = bind_ok (told_as fault_of (string_at r)) (λ t. ended (calls.IsA t.0) t.1) call e in
    let d = ended_found (calls.IsA a.0.0) call a.0.1 a.2 in
    let one = laws.string.found r a.0.0 a.0.1 (told_ok fault_of (string_at r) a.0 a.1) in
    is_found operations.IsA r (calls.IsA a.0.0) call d.0 (refl, record { behind = a.0.1; stand = (a.0.1, one, refl); few = d.1 })

-- where a value stands alone, so few octets are left behind it
pub few_left : (r behind : Reading) (value : Value) (h : ReadsAll r (value ∷ []) behind) → length behind.rest ≤ 7 → length h.0.rest ≤ 7
few_left r behind value h few = omega (arith, few, ap (λ (s : Reading). length s.rest) h.2)

pub body_only : ReferencesAreReadExactly → ContextsStandExactly → ReadingLaws → (call : Call) (r : Reading) → IsBody call r → call_at (operation_of call) r ≡ Ok call
unfolding call_at
body_only refs contexts laws (calls.Bare bare) r h = ended_only (calls.Bare bare) r (omega (arith, h.few, ap (λ (s : Reading). length s.rest) h.stand))
body_only refs contexts laws (calls.Handing handing x) r h =
    rw (refs.only r x h.0.behind h.0.stand h.1, ended_only (calls.Handing handing x) h.0.behind h.0.few) (object_only x (calls.Handing handing x) h.2)
body_only refs contexts laws (calls.Create n) r h =
    rw (laws.ulong.only r n h.stand.0 h.stand.1) (ended_only (calls.Create n) h.stand.0 (few_left r h.behind (ULong n) h.stand h.few))
body_only refs contexts laws (calls.Recreate c) r h = rw ((contexts r c).1 h) refl
body_only refs contexts laws (calls.CommitTransaction b) r h =
    rw (laws.boolean.only r b h.stand.0 h.stand.1) (ended_only (calls.CommitTransaction b) h.stand.0 (few_left r h.behind (Boolean b) h.stand h.few))
body_only refs contexts laws (calls.AfterCompletion s) r h =
    rw (laws.ulong.only r (status_number s) h.stand.0 h.stand.1, status_only s) (ended_only (calls.AfterCompletion s) h.stand.0 (few_left r h.behind (ULong (status_number s)) h.stand h.few))
body_only refs contexts laws (calls.Put cell value) r h =
    let s = h.stand in
    rw (laws.ulonglong.only r cell s.0 s.1, laws.ulonglong.only s.0 value s.2.0 s.2.1) (ended_only (calls.Put cell value) s.2.0 (few_left s.0 h.behind (ULongLong value) s.2 h.few))
body_only refs contexts laws (calls.Get n) r h =
    rw (laws.ulonglong.only r n h.stand.0 h.stand.1) (ended_only (calls.Get n) h.stand.0 (few_left r h.behind (ULongLong n) h.stand h.few))
body_only refs contexts laws (calls.IsA t) r h =
    rw (laws.string.only r t h.stand.0 h.stand.1) (ended_only (calls.IsA t) h.stand.0 (few_left r h.behind (Text t) h.stand h.few))
