-- Replies are read exactly where they are answers.
use Rattle.std.proofs.Common.{◌≡◌, ℕ, ◌<◌, Bool, true, false, cond, eqb, not, List, [], ◌∷◌, length, Some, None, Result, Ok, Err, refl, sym, ap, subst, arith}
use Rattle.cdr_values.specs.Again.{standing}
use Rattle.cdr_values.specs.Laws.{ReadingLaws}
use Rattle.cdr_values.specs.Reading.{Reading, ◌>>=◌, boolean_at, ulong_at, ulonglong_at, string_at}
use Rattle.cdr_values.specs.Value.{Value, Boolean, ULong, ULongLong, Text}
use Rattle.cdr_values.specs.Values.{ReadsAll}
use Rattle.giop_frames.specs.declared.message.Reply.{Reply}
use Rattle.ior_refs.specs.Laws.{ReferencesAreReadExactly}
use Rattle.ior_refs.specs.Reading.{short_reference_at}
use Rattle.ots_model.specs.declared.completion.Vote.{Vote}
use Rattle.ots_model.specs.declared.completion.Vote.TheVariants as votes
use Rattle.ots_context.specs.Laws.{ContextsStandExactly}
use Rattle.ots_context.specs.Reading.{context_at}
use Rattle.ots_calls.specs.Answer.{IsAnswer, IsGiven, IsOf, Says, completed_number, gives_of, raises, status_number, vote_number}
use Rattle.ots_calls.specs.Answering.{answer_at, answer_with, completed_of, found_value, garbled, given_at, raised_at, system_at, vote_of}
use Rattle.ots_calls.specs.Call.{AreLeft, operation_of, status_number as number_of_status}
use Rattle.ots_calls.specs.Exception.{system_id, system_named, user_id, user_named}
use Rattle.ots_calls.specs.Fault.{fault_of, fault_of_context, fault_of_reference, told_as, or_refuse}
use Rattle.ots_calls.specs.Laws.{AnswersAreReadExactly}
use Rattle.ots_calls.specs.Reading.{ended, status_of}
use Rattle.ots_calls.specs.Table.{row_of}
use Rattle.ots_calls.specs.declared.answer.Answer.{Answer}
use Rattle.ots_calls.specs.declared.answer.Answer.TheVariants as answers
use Rattle.ots_calls.specs.declared.answer.Completed.{Completed}
use Rattle.ots_calls.specs.declared.answer.Completed.TheVariants as completed
use Rattle.ots_calls.specs.declared.answer.Given.{Given}
use Rattle.ots_calls.specs.declared.answer.Given.TheVariants as given
use Rattle.ots_calls.specs.declared.call.Call.{Call}
use Rattle.ots_calls.specs.declared.fault.CallFault.{CallFault}
use Rattle.ots_calls.specs.declared.fault.CallFault.TheVariants.{Marshal, Garbled}
use Rattle.ots_calls.specs.declared.gives.Gives.{Gives}
use Rattle.ots_calls.specs.declared.gives.Gives.TheVariants as gives
use Rattle.ots_calls.specs.declared.operation.Operation.{Operation}
use Rattle.ots_calls.proofs.Steps.{ok_is, bind_ok, guard_ok, told_ok, there_ok, found}
use Rattle.ots_calls.proofs.Bodies.{ended_found, ended_only, few_left, same_number, status_found, status_only}
use Rattle.ots_calls.proofs.Exceptions.{system_found, system_only, user_found, user_only}

-- ---- votes and statuses of completion

vote_found : (n : ℕ) (v : Vote) → vote_of n ≡ Some v → n ≡ vote_number v
unfolding vote_of
vote_found n v e = same_number n (vote_number v) (found (λ (one : Vote). eqb n (vote_number one)) (votes.VoteCommit ∷ votes.VoteRollback ∷ votes.VoteReadOnly ∷ []) v e)

vote_only : (v : Vote) → vote_of (vote_number v) ≡ Some v
unfolding vote_of
vote_only votes.VoteCommit = refl
vote_only votes.VoteRollback = refl
vote_only votes.VoteReadOnly = refl

completed_found : (n : ℕ) (c : Completed) → completed_of n ≡ Some c → n ≡ completed_number c
unfolding completed_of
completed_found n c e = same_number n (completed_number c) (found (λ (one : Completed). eqb n (completed_number one)) (completed.Yes ∷ completed.No ∷ completed.Maybe ∷ []) c e)

completed_only : (c : Completed) → completed_of (completed_number c) ≡ Some c
unfolding completed_of
completed_only completed.Yes = refl
completed_only completed.No = refl
completed_only completed.Maybe = refl

-- ---- what is given

-- such as the operations give, and left by the reader
abbrev IsFound : Gives → Reading → Given → Type 0
IsFound such r g = (gives_of g ≡ such) × IsGiven g r

is_found : (such : Gives) (r : Reading) (x g : Given) → x ≡ g → IsFound such r x → IsFound such r g
is_found such r x g same h = subst (IsFound such r) same h

state_found : ReadingLaws → (r : Reading) (g : Given) → given_at gives.State r ≡ Ok g → IsFound gives.State r g
unfolding given_at
state_found laws r g e =
    let a = bind_ok (told_as fault_of (ulong_at r)) (λ n. or_refuse (Marshal r.place) (status_of n.0) >>= (λ s. ended (given.State s) n.1)) g e in
    let b = bind_ok (or_refuse (Marshal r.place) (status_of a.0.0)) (λ s. ended (given.State s) a.0.1) g a.2 in
    let d = ended_found (given.State b.0) g a.0.1 b.2 in
    let number = status_found a.0.0 b.0 (there_ok (Marshal r.place) (status_of a.0.0) b.0 b.1) in
    let one = laws.ulong.found r a.0.0 a.0.1 (told_ok fault_of (ulong_at r) a.0 a.1) in
    let stand : ReadsAll r (ULong a.0.0 ∷ []) a.0.1 = (a.0.1, one, refl) in
    is_found gives.State r (given.State b.0) g d.0
    (refl, record { behind = a.0.1; stand = subst (λ (n : ℕ). ReadsAll r (ULong n ∷ []) a.0.1) number stand; few = d.1 })

ballot_found : ReadingLaws → (r : Reading) (g : Given) → given_at gives.Ballot r ≡ Ok g → IsFound gives.Ballot r g
unfolding given_at
ballot_found laws r g e =
    let a = bind_ok (told_as fault_of (ulong_at r)) (λ n. or_refuse (Marshal r.place) (vote_of n.0) >>= (λ s. ended (given.Ballot s) n.1)) g e in
    let b = bind_ok (or_refuse (Marshal r.place) (vote_of a.0.0)) (λ s. ended (given.Ballot s) a.0.1) g a.2 in
    let d = ended_found (given.Ballot b.0) g a.0.1 b.2 in
    let number = vote_found a.0.0 b.0 (there_ok (Marshal r.place) (vote_of a.0.0) b.0 b.1) in
    let one = laws.ulong.found r a.0.0 a.0.1 (told_ok fault_of (ulong_at r) a.0 a.1) in
    let stand : ReadsAll r (ULong a.0.0 ∷ []) a.0.1 = (a.0.1, one, refl) in
    is_found gives.Ballot r (given.Ballot b.0) g d.0
    (refl, record { behind = a.0.1; stand = subst (λ (n : ℕ). ReadsAll r (ULong n ∷ []) a.0.1) number stand; few = d.1 })

value_found : (b : Bool) (v : ℕ) (r : Reading) → AreLeft (Boolean b ∷ ULongLong v ∷ []) r → IsGiven (given.Found (found_value b v)) r
value_found true v r h = h
value_found false v r h = (v, h)

found_found : ReadingLaws → (r : Reading) (g : Given) → given_at gives.Found r ≡ Ok g → IsFound gives.Found r g
unfolding given_at
found_found laws r g e =
    let a = bind_ok (told_as fault_of (boolean_at r)) (λ b. told_as fault_of (ulonglong_at b.1) >>= (λ v. ended (given.Found (found_value b.0 v.0)) v.1)) g e in
    let b = bind_ok (told_as fault_of (ulonglong_at a.0.1)) (λ v. ended (given.Found (found_value a.0.0 v.0)) v.1) g a.2 in
    let d = ended_found (given.Found (found_value a.0.0 b.0.0)) g b.0.1 b.2 in
    let one = laws.boolean.found r a.0.0 a.0.1 (told_ok fault_of (boolean_at r) a.0 a.1) in
    let two = laws.ulonglong.found a.0.1 b.0.0 b.0.1 (told_ok fault_of (ulonglong_at a.0.1) b.0 b.1) in
    is_found gives.Found r (given.Found (found_value a.0.0 b.0.0)) g d.0
    (refl, value_found a.0.0 b.0.0 r (record { behind = b.0.1; stand = (a.0.1, one, (b.0.1, two, refl)); few = d.1 }))

given_found : ReferencesAreReadExactly → ContextsStandExactly → ReadingLaws → (such : Gives) (r : Reading) (g : Given) → given_at such r ≡ Ok g → IsFound such r g
unfolding given_at
given_found refs contexts laws gives.Nothing r g e =
    let d = ended_found given.Nothing g r e in
    is_found gives.Nothing r given.Nothing g d.0 (refl, record { behind = r; stand = refl; few = d.1 })
given_found refs contexts laws gives.Flag r g e =
    let a = bind_ok (told_as fault_of (boolean_at r)) (λ b. ended (given.Flag b.0) b.1) g e in
    let d = ended_found (given.Flag a.0.0) g a.0.1 a.2 in
    let one = laws.boolean.found r a.0.0 a.0.1 (told_ok fault_of (boolean_at r) a.0 a.1) in
    is_found gives.Flag r (given.Flag a.0.0) g d.0 (refl, record { behind = a.0.1; stand = (a.0.1, one, refl); few = d.1 })
given_found refs contexts laws gives.Number r g e =
    let a = bind_ok (told_as fault_of (ulong_at r)) (λ n. ended (given.Number n.0) n.1) g e in
    let d = ended_found (given.Number a.0.0) g a.0.1 a.2 in
    let one = laws.ulong.found r a.0.0 a.0.1 (told_ok fault_of (ulong_at r) a.0 a.1) in
    is_found gives.Number r (given.Number a.0.0) g d.0 (refl, record { behind = a.0.1; stand = (a.0.1, one, refl); few = d.1 })
given_found refs contexts laws gives.Reference r g e =
    let a = bind_ok (told_as fault_of_reference (short_reference_at r)) (λ x. ended (given.Reference x.0) x.1) g e in
    let d = ended_found (given.Reference a.0.0) g a.0.1 a.2 in
    let stands = refs.found r a.0.0 a.0.1 (told_ok fault_of_reference (short_reference_at r) a.0 a.1) in
    is_found gives.Reference r (given.Reference a.0.0) g d.0 (refl, (record { behind = a.0.1; stand = stands.0; few = d.1 }, stands.1))
given_found refs contexts laws gives.State r g e = state_found laws r g e
given_found refs contexts laws gives.Ballot r g e = ballot_found laws r g e
given_found refs contexts laws gives.Word r g e =
    let a = bind_ok (told_as fault_of (string_at r)) (λ t. ended (given.Word t.0) t.1) g e in
    let d = ended_found (given.Word a.0.0) g a.0.1 a.2 in
    let one = laws.string.found r a.0.0 a.0.1 (told_ok fault_of (string_at r) a.0 a.1) in
    is_found gives.Word r (given.Word a.0.0) g d.0 (refl, record { behind = a.0.1; stand = (a.0.1, one, refl); few = d.1 })
given_found refs contexts laws gives.Transaction r g e =
    let a = bind_ok (told_as fault_of_context (context_at r)) (λ c. Ok (given.Transaction c)) g e in
    is_found gives.Transaction r (given.Transaction a.0) g (ok_is {F = CallFault} (given.Transaction a.0) g a.2) (refl, (contexts r a.0).0 (told_ok fault_of_context (context_at r) a.0 a.1))
given_found refs contexts laws gives.Found r g e = found_found laws r g e

given_only : ReferencesAreReadExactly → ContextsStandExactly → ReadingLaws → (g : Given) (r : Reading) → IsGiven g r → given_at (gives_of g) r ≡ Ok g
unfolding given_at
given_only refs contexts laws given.Nothing r h = ended_only given.Nothing r (omega (arith, h.few, ap (λ (s : Reading). length s.rest) h.stand))
given_only refs contexts laws (given.Flag b) r h =
    rw (laws.boolean.only r b h.stand.0 h.stand.1) (ended_only (given.Flag b) h.stand.0 (few_left r h.behind (Boolean b) h.stand h.few))
given_only refs contexts laws (given.Number n) r h =
    rw (laws.ulong.only r n h.stand.0 h.stand.1) (ended_only (given.Number n) h.stand.0 (few_left r h.behind (ULong n) h.stand h.few))
given_only refs contexts laws (given.Reference x) r h =
    rw (refs.only r x h.0.behind h.0.stand h.1) (ended_only (given.Reference x) h.0.behind h.0.few)
given_only refs contexts laws (given.State s) r h =
    rw (laws.ulong.only r (number_of_status s) h.stand.0 h.stand.1, status_only s) (ended_only (given.State s) h.stand.0 (few_left r h.behind (ULong (number_of_status s)) h.stand h.few))
given_only refs contexts laws (given.Ballot v) r h =
    rw (laws.ulong.only r (vote_number v) h.stand.0 h.stand.1, vote_only v) (ended_only (given.Ballot v) h.stand.0 (few_left r h.behind (ULong (vote_number v)) h.stand h.few))
given_only refs contexts laws (given.Word t) r h =
    rw (laws.string.only r t h.stand.0 h.stand.1) (ended_only (given.Word t) h.stand.0 (few_left r h.behind (Text t) h.stand h.few))
given_only refs contexts laws (given.Transaction c) r h = rw ((contexts r c).1 h) refl
given_only refs contexts laws (given.Found (Some v)) r h =
    let s = h.stand in
    rw (laws.boolean.only r true s.0 s.1, laws.ulonglong.only s.0 v s.2.0 s.2.1) (ended_only (given.Found (Some v)) s.2.0 (few_left s.0 h.behind (ULongLong v) s.2 h.few))
given_only refs contexts laws (given.Found None) r h =
    let s = h.1.stand in
    rw (laws.boolean.only r false s.0 s.1, laws.ulonglong.only s.0 h.0 s.2.0 s.2.1) (ended_only (given.Found None) s.2.0 (few_left s.0 h.1.behind (ULongLong h.0) s.2 h.1.few))

-- ---- answers

-- the operation may be answered so by a reply of that status, and the reader has left that
abbrev IsSaid : Operation → ℕ → Reading → Answer → Type 0
IsSaid operation status r answer = IsOf operation answer × (status ≡ status_number answer) × Says answer r

is_said : (operation : Operation) (status : ℕ) (r : Reading) (x answer : Answer) → x ≡ answer → IsSaid operation status r x → IsSaid operation status r answer
is_said operation status r x answer same h = subst (IsSaid operation status r) same h

not_false : (b : Bool) → not b ≡ false → b ≡ true
not_false true e = refl
not_false false e = absurd cc

raised_found : ReadingLaws → (operation : Operation) (r : Reading) (answer : Answer) → raised_at operation r ≡ Ok answer → IsSaid operation 1 r answer
unfolding raised_at
raised_found laws operation r answer e =
    let a = bind_ok (told_as fault_of (string_at r)) (λ id. or_refuse (Marshal r.place) (user_named id.0) >>= (λ x. cond (not (raises operation x)) (Err (Marshal r.place)) (ended (answers.User x) id.1))) answer e in
    let b = bind_ok (or_refuse (Marshal r.place) (user_named a.0.0)) (λ x. cond (not (raises operation x)) (Err (Marshal r.place)) (ended (answers.User x) a.0.1)) answer a.2 in
    let g = guard_ok (not (raises operation b.0)) (Marshal r.place) (ended (answers.User b.0) a.0.1) answer b.2 in
    let d = ended_found (answers.User b.0) answer a.0.1 g.1 in
    let id = user_found a.0.0 b.0 (there_ok (Marshal r.place) (user_named a.0.0) b.0 b.1) in
    let one = laws.string.found r a.0.0 a.0.1 (told_ok fault_of (string_at r) a.0 a.1) in
    let stand : ReadsAll r (Text a.0.0 ∷ []) a.0.1 = (a.0.1, one, refl) in
    is_said operation 1 r (answers.User b.0) answer d.0
    (not_false (raises operation b.0) g.0, refl, record { behind = a.0.1; stand = subst (λ (t : List ℕ). ReadsAll r (Text t ∷ []) a.0.1) id stand; few = d.1 })

-- the values of a system exception
abbrev Values : List ℕ → ℕ → ℕ → List Value
Values id minor number = Text id ∷ ULong minor ∷ ULong number ∷ []

system_at_found : ReadingLaws → (operation : Operation) (r : Reading) (answer : Answer) → system_at r ≡ Ok answer → IsSaid operation 2 r answer
unfolding system_at
system_at_found laws operation r answer e =
    let a = bind_ok (told_as fault_of (string_at r)) (λ id. or_refuse (Marshal r.place) (system_named id.0) >>= (λ x. told_as fault_of (ulong_at id.1) >>= (λ m. told_as fault_of (ulong_at m.1) >>= (λ n. or_refuse (Marshal m.1.place) (completed_of n.0) >>= (λ c. ended (answers.System x m.0 c) n.1))))) answer e in
    let b = bind_ok (or_refuse (Marshal r.place) (system_named a.0.0)) (λ x. told_as fault_of (ulong_at a.0.1) >>= (λ m. told_as fault_of (ulong_at m.1) >>= (λ n. or_refuse (Marshal m.1.place) (completed_of n.0) >>= (λ c. ended (answers.System x m.0 c) n.1)))) answer a.2 in
    let m = bind_ok (told_as fault_of (ulong_at a.0.1)) (λ m. told_as fault_of (ulong_at m.1) >>= (λ n. or_refuse (Marshal m.1.place) (completed_of n.0) >>= (λ c. ended (answers.System b.0 m.0 c) n.1))) answer b.2 in
    let n = bind_ok (told_as fault_of (ulong_at m.0.1)) (λ n. or_refuse (Marshal m.0.1.place) (completed_of n.0) >>= (λ c. ended (answers.System b.0 m.0.0 c) n.1)) answer m.2 in
    let c = bind_ok (or_refuse (Marshal m.0.1.place) (completed_of n.0.0)) (λ c. ended (answers.System b.0 m.0.0 c) n.0.1) answer n.2 in
    let d = ended_found (answers.System b.0 m.0.0 c.0) answer n.0.1 c.2 in
    let id = system_found a.0.0 b.0 (there_ok (Marshal r.place) (system_named a.0.0) b.0 b.1) in
    let number = completed_found n.0.0 c.0 (there_ok (Marshal m.0.1.place) (completed_of n.0.0) c.0 c.1) in
    let one = laws.string.found r a.0.0 a.0.1 (told_ok fault_of (string_at r) a.0 a.1) in
    let two = laws.ulong.found a.0.1 m.0.0 m.0.1 (told_ok fault_of (ulong_at a.0.1) m.0 m.1) in
    let three = laws.ulong.found m.0.1 n.0.0 n.0.1 (told_ok fault_of (ulong_at m.0.1) n.0 n.1) in
    let stand : ReadsAll r (Values a.0.0 m.0.0 n.0.0) n.0.1 = (a.0.1, one, (m.0.1, two, (n.0.1, three, refl))) in
    let named : ReadsAll r (Values (system_id b.0) m.0.0 n.0.0) n.0.1 = subst (λ (t : List ℕ). ReadsAll r (Values t m.0.0 n.0.0) n.0.1) id stand in
    is_said operation 2 r (answers.System b.0 m.0.0 c.0) answer d.0
    (tt, refl, record { behind = n.0.1; stand = subst (λ (k : ℕ). ReadsAll r (Values (system_id b.0) m.0.0 k) n.0.1) number named; few = d.1 })

plain_found : ReferencesAreReadExactly → ContextsStandExactly → ReadingLaws → (operation : Operation) (r : Reading) (answer : Answer) → (given_at (row_of operation).gives r >>= (λ g. Ok (answers.Plain g))) ≡ Ok answer → IsSaid operation 0 r answer
plain_found refs contexts laws operation r answer e =
    let a = bind_ok (given_at (row_of operation).gives r) (λ g. Ok (answers.Plain g)) answer e in
    let h = given_found refs contexts laws (row_of operation).gives r a.0 a.1 in
    is_said operation 0 r (answers.Plain a.0) answer (ok_is {F = CallFault} (answers.Plain a.0) answer a.2) (h.0, refl, h.1)

-- the answer of a reply whose status is, or isn't, each of the three
abbrev by_status : Bool → Bool → Bool → Operation → Reading → Result Answer CallFault
by_status none user system operation r =
    cond none (given_at (row_of operation).gives r >>= (λ g. Ok (answers.Plain g))) (cond user (raised_at operation r) (cond system (system_at r) (Err (Marshal r.place))))

said_by : ReferencesAreReadExactly → ContextsStandExactly → ReadingLaws → (operation : Operation) (status : ℕ) (r : Reading) (answer : Answer) (none user system : Bool) → eqb status 0 ≡ none → eqb status 1 ≡ user → eqb status 2 ≡ system → by_status none user system operation r ≡ Ok answer → IsSaid operation status r answer
said_by refs contexts laws operation status r answer true user system e f g h =
    subst (λ (n : ℕ). IsSaid operation n r answer) (sym (same_number status 0 e)) (plain_found refs contexts laws operation r answer h)
said_by refs contexts laws operation status r answer false true system e f g h =
    subst (λ (n : ℕ). IsSaid operation n r answer) (sym (same_number status 1 f)) (raised_found laws operation r answer h)
said_by refs contexts laws operation status r answer false false true e f g h =
    subst (λ (n : ℕ). IsSaid operation n r answer) (sym (same_number status 2 g)) (system_at_found laws operation r answer h)
said_by refs contexts laws operation status r answer false false false e f g h = absurd cc

answer_found : ReferencesAreReadExactly → ContextsStandExactly → ReadingLaws → (operation : Operation) (status : ℕ) (r : Reading) (answer : Answer) → answer_at operation status r ≡ Ok answer → IsSaid operation status r answer
unfolding answer_at
answer_found refs contexts laws operation status r answer e = said_by refs contexts laws operation status r answer (eqb status 0) (eqb status 1) (eqb status 2) refl refl refl e

answer_only : ReferencesAreReadExactly → ContextsStandExactly → ReadingLaws → (operation : Operation) (answer : Answer) (r : Reading) → IsOf operation answer → Says answer r → answer_at operation (status_number answer) r ≡ Ok answer
unfolding answer_at raised_at system_at
answer_only refs contexts laws operation (answers.Plain g) r is h =
    let such : (row_of operation).gives ≡ gives_of g = sym is in
    rw (such, given_only refs contexts laws g r h) refl
answer_only refs contexts laws operation (answers.User x) r is h =
    let raised : raises operation x ≡ true = is in
    rw (laws.string.only r (user_id x) h.stand.0 h.stand.1, user_only x, raised) (ended_only (answers.User x) h.stand.0 (few_left r h.behind (Text (user_id x)) h.stand h.few))
answer_only refs contexts laws operation (answers.System x m c) r is h =
    let s = h.stand in
    rw (laws.string.only r (system_id x) s.0 s.1, system_only x, laws.ulong.only s.0 m s.2.0 s.2.1, laws.ulong.only s.2.0 (completed_number c) s.2.2.0 s.2.2.1, completed_only c) (ended_only (answers.System x m c) s.2.2.0 (few_left s.2.0 h.behind (ULong (completed_number c)) s.2.2 h.few))

with_found : ReferencesAreReadExactly → ContextsStandExactly → ReadingLaws → (call : Call) (answer : Answer) (reply : Reply) → answer_with call reply ≡ Ok answer → IsAnswer call answer reply
unfolding answer_with
with_found refs contexts laws call answer reply e =
    let body = standing reply.order 0 reply.body in
    let h = answer_found refs contexts laws (operation_of call) reply.status body answer (told_ok garbled (answer_at (operation_of call) reply.status body) answer e) in
    record { ours = h.0; status = h.1; says = h.2 }

with_only : ReferencesAreReadExactly → ContextsStandExactly → ReadingLaws → (call : Call) (answer : Answer) (reply : Reply) → IsAnswer call answer reply → answer_with call reply ≡ Ok answer
unfolding answer_with
with_only refs contexts laws call answer reply h =
    rw (h.status, answer_only refs contexts laws (operation_of call) answer (standing reply.order 0 reply.body) h.ours h.says) refl

pub answers_exact : ReferencesAreReadExactly → ContextsStandExactly → ReadingLaws → AnswersAreReadExactly
answers_exact refs contexts laws call answer reply = (with_found refs contexts laws call answer reply, with_only refs contexts laws call answer reply)

-- a status that is none of the three: the reply is no answer
pub other_status : (call : Call) (reply : Reply) → 2 < reply.status → answer_with call reply ≡ Err (Garbled 0)
unfolding answer_with answer_at
other_status call reply h =
    let none : eqb reply.status 0 ≡ false = grind arith in
    let user : eqb reply.status 1 ≡ false = grind arith in
    let system : eqb reply.status 2 ≡ false = grind arith in
    rw (none, user, system) refl
