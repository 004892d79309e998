-- Calls that put, refuse and choose, put together.
use Rattle.std.proofs.Common.{◌≡◌, inl, inr, ℕ, true, false, cond, Option, Some, None, refl, sym, ap, subst}
use Rattle.std.specs.Prelude.{List, find, is_some, Result, Ok, Err}
use Rattle.std.specs.Option.{option_map, unwrap_or}
use Rattle.std.specs.Result.{IsOk}
use Rattle.std.proofs.lemmas.Bool.{both_ways}
use Rattle.ior_refs.specs.declared.key.ObjectKey.{ObjectKey}
use Rattle.ots_model.specs.declared.line.Decision.{Decision}
use Rattle.ots_outside.specs.Disk.{DiskState}
use Rattle.resource_end.specs.declared.fault.EndFault.{EndFault}
use Rattle.resource_end.specs.declared.fault.EndFault.TheVariants as faults
use Rattle.resource_end.specs.declared.state.State.{State}
use Rattle.resource_end.specs.declared.state.State.TheVariants as states
use Rattle.resource_end.specs.States.{is_prepared}
use Rattle.resource_end.specs.Calls.{Called, Written, StandsAt, behind, changing, choice, choose_heuristic, chooses, chosen_of, done, has_room, is_open, on, put, puts, puts_unheld, refuse, refused, refuses, wanted_by_choice, with_cell}
use Rattle.resource_end.specs.End.{End, Resource, changes, named, other_holder, record_for, with_resource}
use Rattle.resource_end.specs.End as ends
use Rattle.resource_end.specs.Recall.{reread}
use Rattle.resource_end.specs.Inside.{HasMoved, HasReadAgain, Id, IsNotOpen, is_other_holder, numbered}
use Rattle.resource_end.specs.Journaling.{Comes, EndState, IsCalled, IsStarved, IsWrittenWhere, nothing}
use Rattle.resource_end.proofs.Calling.{behind_called, behind_starved, unread_called}
use Rattle.resource_end.proofs.Claims.{its_number, itself}
use Rattle.resource_end.proofs.Named.{one_number}

-- ---- a put

module _ {D : Type 0} (tells : D → Option DiskState) (s : EndState D) (key : ObjectKey) (cell value : ℕ) where
  abbrev put_act : Written → End → Called (Unit {0})
  put_act written later = on (named key later) later (puts cell value later)

  as_put : (after : EndState D) (answer : Result (Unit {0}) EndFault) → IsCalled tells s after answer nothing (λ j e. behind (reread j.reread e) e (put_act j.written))
      → IsCalled tells s after answer nothing (put key cell value)
  unfolding put
  as_put after answer h = record { journaled = h.journaled; journal = h.journal; comes = h.comes }

  pub put_unread : (after : EndState D) (fault : EndFault) → HasReadAgain tells s after (Err fault) → IsCalled tells s after (Err fault) nothing (put key cell value)
  put_unread after fault h = as_put after (Err fault) (unread_called tells s after fault nothing put_act h)

  module _ (ready : EndState D) (h : HasReadAgain tells s ready (Ok tt)) where
    put_comes : (after : EndState D) (answer : Result (Unit {0}) EndFault) → after.journal ≡ ready.journal
        → Comes after answer (put_act (StandsAt 0) ready.end) → IsCalled tells s after answer nothing (put key cell value)
    put_comes after answer same comes = as_put after answer (behind_called tells s ready after answer nothing put_act h (StandsAt 0) same comes)

    pub put_closed : (fault : EndFault) → IsNotOpen key ready.end fault → IsCalled tells s ready (Err fault) nothing (put key cell value)
    put_closed fault (inl k) =
        put_comes ready (Err fault) refl
        (subst (λ o. Comes ready (Err fault) (on o ready.end (puts cell value ready.end))) (sym k.1) (record { end = refl; answer = ap (λ f. Err f) k.0 }))
    put_closed fault (inr k) =
        put_comes ready (Err fault) refl
        (subst (λ o. Comes ready (Err fault) (on o ready.end (puts cell value ready.end))) (sym k.1.1)
        (subst (λ b. Comes ready (Err fault) (cond b (puts_unheld (other_holder k.1.0 cell ready.end) cell value k.1.0 ready.end) (refused faults.Inactive ready.end)))
        (sym k.1.2) (record { end = refl; answer = ap (λ f. Err f) k.0 })))

    module _ (r : Resource) (is : named key ready.end ≡ Some r) (opened : is_open r.state ≡ true) where
      put_open : (after : EndState D) (answer : Result (Unit {0}) EndFault) → after.journal ≡ ready.journal
          → Comes after answer (puts_unheld (other_holder r cell ready.end) cell value r ready.end) → IsCalled tells s after answer nothing (put key cell value)
      put_open after answer same comes =
          put_comes after answer same
          (subst (λ o. Comes after answer (on o ready.end (puts cell value ready.end))) (sym is)
          (subst (λ b. Comes after answer (cond b (puts_unheld (other_holder r cell ready.end) cell value r ready.end) (refused faults.Inactive ready.end)))
          (sym opened) comes))

      pub put_held : (number : ℕ) → Some number ≡ option_map (λ x. x.number) (other_holder r cell ready.end)
          → IsCalled tells s ready (Err (faults.Transient number)) nothing (put key cell value)
      put_held number h = put_open ready (Err (faults.Transient number)) refl (by (other_holder r cell ready.end) h)
        where
          by : (o : Option Resource) → Some number ≡ option_map (λ x. x.number) o → Comes ready (Err (faults.Transient number)) (puts_unheld o cell value r ready.end)
          by None k = absurd (both_ways _ refl (ap is_some (sym k)))
          by (Some holder) k = record { end = refl; answer = ap (λ n. Err (faults.Transient n)) (ap (λ o. unwrap_or o number) k) }

      pub put_full : other_holder r cell ready.end ≡ None → has_room cell r ≡ false → IsCalled tells s ready (Err faults.NoResources) nothing (put key cell value)
      put_full none room =
          put_open ready (Err faults.NoResources) refl
          (subst (λ o. Comes ready (Err faults.NoResources) (puts_unheld o cell value r ready.end)) (sym none)
          (subst (λ b. Comes ready (Err faults.NoResources) (cond b (done (record ready.end { resources = with_resource (with_cell cell value r) ready.end.resources })) (refused faults.NoResources ready.end)))
          (sym room) (record { end = refl; answer = refl })))

      pub put_done : (after : EndState D) → other_holder r cell ready.end ≡ None → has_room cell r ≡ true → after.journal ≡ ready.journal
          → after.end ≡ record ready.end { resources = with_resource (with_cell cell value r) ready.end.resources } → IsCalled tells s after (Ok tt) nothing (put key cell value)
      put_done after none room same end =
          put_open after (Ok tt) same
          (subst (λ o. Comes after (Ok tt) (puts_unheld o cell value r ready.end)) (sym none)
          (subst (λ b. Comes after (Ok tt) (cond b (done (record ready.end { resources = with_resource (with_cell cell value r) ready.end.resources })) (refused faults.NoResources ready.end)))
          (sym room) (record { end = end; answer = refl })))

      pub put_starved : other_holder r cell ready.end ≡ None → has_room cell r ≡ true → IsStarved tells s ready (Err faults.Memory) (put key cell value)
      unfolding put
      put_starved none room =
          let k = behind_starved tells s ready put_act h
          (subst (λ o. IsOk (on o ready.end (puts cell value ready.end)).answer) (sym is)
          (subst (λ b. IsOk (cond b (puts_unheld (other_holder r cell ready.end) cell value r ready.end) (refused faults.Inactive ready.end)).answer) (sym opened)
          (subst (λ o. IsOk (puts_unheld o cell value r ready.end).answer) (sym none)
          (subst (λ b. IsOk (cond b (done (record ready.end { resources = with_resource (with_cell cell value r) ready.end.resources })) (refused faults.NoResources ready.end)).answer)
          (sym room) refl)))) in
          record { journaled = k.journaled; read = k.read; end = k.end; granted = k.granted; answer = k.answer }

-- who else holds a cell, by the number of the resource
pub holder_by : (id : Id) (r : Resource) (cell : ℕ) (rs : List Resource) → numbered id rs ≡ Some r
    → find (is_other_holder id cell) rs ≡ find (ends.is_other_holder r cell) rs
holder_by id r cell rs is = ap (λ k. find (is_other_holder k cell) rs) (one_number id (r.life, r.number) r (its_number id rs r is) (itself r))

pub no_holder : (o : Option Resource) → None ≡ option_map (λ x. x.number) o → o ≡ None
no_holder None h = refl
no_holder (Some x) h = absurd (both_ways _ refl (ap is_some h))

-- ---- one that is to vote rollback

module _ {D : Type 0} (tells : D → Option DiskState) (s : EndState D) (key : ObjectKey) where
  abbrev refuse_act : Written → End → Called (Unit {0})
  refuse_act written later = on (named key later) later (refuses later)

  as_refuse : (after : EndState D) (answer : Result (Unit {0}) EndFault) → IsCalled tells s after answer nothing (λ j e. behind (reread j.reread e) e (refuse_act j.written))
      → IsCalled tells s after answer nothing (refuse key)
  unfolding refuse
  as_refuse after answer h = record { journaled = h.journaled; journal = h.journal; comes = h.comes }

  pub refuse_unread : (after : EndState D) (fault : EndFault) → HasReadAgain tells s after (Err fault) → IsCalled tells s after (Err fault) nothing (refuse key)
  refuse_unread after fault h = as_refuse after (Err fault) (unread_called tells s after fault nothing refuse_act h)

  module _ (ready : EndState D) (h : HasReadAgain tells s ready (Ok tt)) where
    refuse_comes : (after : EndState D) (answer : Result (Unit {0}) EndFault) → after.journal ≡ ready.journal
        → Comes after answer (refuse_act (StandsAt 0) ready.end) → IsCalled tells s after answer nothing (refuse key)
    refuse_comes after answer same comes = as_refuse after answer (behind_called tells s ready after answer nothing refuse_act h (StandsAt 0) same comes)

    pub refuse_closed : (fault : EndFault) → IsNotOpen key ready.end fault → IsCalled tells s ready (Err fault) nothing (refuse key)
    refuse_closed fault (inl k) =
        refuse_comes ready (Err fault) refl
        (subst (λ o. Comes ready (Err fault) (on o ready.end (refuses ready.end))) (sym k.1) (record { end = refl; answer = ap (λ f. Err f) k.0 }))
    refuse_closed fault (inr k) =
        refuse_comes ready (Err fault) refl
        (subst (λ o. Comes ready (Err fault) (on o ready.end (refuses ready.end))) (sym k.1.1)
        (subst (λ b. Comes ready (Err fault) (cond b (done (changes states.Refused k.1.0 ready.end)) (refused faults.Inactive ready.end)))
        (sym k.1.2) (record { end = refl; answer = ap (λ f. Err f) k.0 })))

    pub refuse_done : (r : Resource) (after : EndState D) → named key ready.end ≡ Some r → is_open r.state ≡ true → after.journal ≡ ready.journal
        → after.end ≡ changes states.Refused r ready.end → IsCalled tells s after (Ok tt) nothing (refuse key)
    refuse_done r after is opened same end =
        refuse_comes after (Ok tt) same
        (subst (λ o. Comes after (Ok tt) (on o ready.end (refuses ready.end))) (sym is)
        (subst (λ b. Comes after (Ok tt) (cond b (done (changes states.Refused r ready.end)) (refused faults.Inactive ready.end)))
        (sym opened) (record { end = end; answer = refl })))

-- ---- one that decides by itself

module _ {D : Type 0} (tells : D → Option DiskState) (s : EndState D) (key : ObjectKey) (d : Decision) where
  abbrev choose_act : Written → End → Called (Unit {0})
  choose_act written later = on (named key later) later (chooses d written later)

  as_choose : (after : EndState D) (answer : Result (Unit {0}) EndFault)
      → IsCalled tells s after answer (wanted_by_choice d key) (λ j e. behind (reread j.reread e) e (choose_act j.written))
      → IsCalled tells s after answer (wanted_by_choice d key) (choose_heuristic key d)
  unfolding choose_heuristic
  as_choose after answer h = record { journaled = h.journaled; journal = h.journal; comes = h.comes }

  pub choose_unread : (after : EndState D) (fault : EndFault) → HasReadAgain tells s after (Err fault)
      → IsCalled tells s after (Err fault) (wanted_by_choice d key) (choose_heuristic key d)
  choose_unread after fault h = as_choose after (Err fault) (unread_called tells s after fault (wanted_by_choice d key) choose_act h)

  module _ (ready : EndState D) (h : HasReadAgain tells s ready (Ok tt)) where
    pub choose_nobody : named key ready.end ≡ None → IsCalled tells s ready (Err faults.ObjectNotExist) (wanted_by_choice d key) (choose_heuristic key d)
    unfolding wanted_by_choice
    choose_nobody none =
        as_choose ready (Err faults.ObjectNotExist)
        (behind_called tells s ready ready (Err faults.ObjectNotExist) (wanted_by_choice d key) choose_act h (StandsAt 0)
        (subst (λ o. IsWrittenWhere (chosen_of d o) tells ready.journal ready.journal (StandsAt 0)) (sym none) refl)
        (subst (λ o. Comes ready (Err faults.ObjectNotExist) (on o ready.end (chooses d (StandsAt 0) ready.end))) (sym none) (record { end = refl; answer = refl })))

    module _ (r : Resource) (is : named key ready.end ≡ Some r) where
      pub choose_not : is_prepared r.state ≡ false → IsCalled tells s ready (Err faults.Inactive) (wanted_by_choice d key) (choose_heuristic key d)
      unfolding wanted_by_choice
      choose_not not =
          as_choose ready (Err faults.Inactive)
          (behind_called tells s ready ready (Err faults.Inactive) (wanted_by_choice d key) choose_act h (StandsAt 0)
          (subst (λ o. IsWrittenWhere (chosen_of d o) tells ready.journal ready.journal (StandsAt 0)) (sym is)
          (subst (λ b. IsWrittenWhere (cond b (record_for (choice d) r) None) tells ready.journal ready.journal (StandsAt 0)) (sym not) refl))
          (subst (λ o. Comes ready (Err faults.Inactive) (on o ready.end (chooses d (StandsAt 0) ready.end))) (sym is)
          (subst (λ b. Comes ready (Err faults.Inactive) (cond b (changing (StandsAt 0) (Ok tt) (choice d) r ready.end) (refused faults.Inactive ready.end)))
          (sym not) (record { end = refl; answer = refl }))))

      pub choose_moved : (after : EndState D) (answer : Result (Unit {0}) EndFault) → is_prepared r.state ≡ true → HasMoved tells ready after answer (choice d) r
          → IsCalled tells s after answer (wanted_by_choice d key) (choose_heuristic key d)
      unfolding wanted_by_choice
      choose_moved after answer waits m =
          as_choose after answer
          (behind_called tells s ready after answer (wanted_by_choice d key) choose_act h m.written
          (subst (λ o. IsWrittenWhere (chosen_of d o) tells ready.journal after.journal m.written) (sym is)
          (subst (λ b. IsWrittenWhere (cond b (record_for (choice d) r) None) tells ready.journal after.journal m.written) (sym waits) m.wrote))
          (subst (λ o. Comes after answer (on o ready.end (chooses d m.written ready.end))) (sym is)
          (subst (λ b. Comes after answer (cond b (changing m.written (Ok tt) (choice d) r ready.end) (refused faults.Inactive ready.end)))
          (sym waits) m.comes)))

pub prepared_state : (x : State) → is_prepared x ≡ true → x ≡ states.Prepared
prepared_state states.Fresh h = absurd (both_ways _ refl h)
prepared_state states.Working h = absurd (both_ways _ refl h)
prepared_state states.Refused h = absurd (both_ways _ refl h)
prepared_state states.Prepared h = refl
prepared_state states.Applied h = absurd (both_ways _ refl h)
prepared_state states.Undone h = absurd (both_ways _ refl h)
prepared_state states.ChoseCommit h = absurd (both_ways _ refl h)
prepared_state states.ChoseRollback h = absurd (both_ways _ refl h)
prepared_state states.Forgotten h = absurd (both_ways _ refl h)
