-- A resource that changes its state: which record has to stand first, and that it tells the change.
use Rattle.std.proofs.Common.{◌≡◌, ◌∙◌, ℕ, ◌<◌, ◌^◌, Bool, true, false, cond, ◌||◌, List, [], ◌∷◌, Option, Some, None, refl, sym, ap, subst}
use Rattle.std.specs.Prelude.{◌==◌, find, IfSome, IsSome, IsTrue, is_some, Result, Ok}
use Rattle.std.specs.List.{list_any}
use Rattle.std.specs.Option.{option_and_then, option_map, unwrap_or}
use Rattle.std.proofs.lemmas.Bool.{and_from, both_ways, eq-eqb}
use Rattle.ots_model.specs.declared.service.Status.{Status}
use Rattle.ots_outside.specs.Disk.{DiskState}
use Rattle.decision_journal.specs.Journal.{Found, are_cells_at, can_follow, is_cells_prepared}
use Rattle.decision_journal.specs.Layout.{Fits}
use Rattle.decision_journal.specs.State.{JournalState, cells_in}
use Rattle.decision_journal.specs.declared.journal.Standing.{Standing}
use Rattle.decision_journal.specs.declared.record.CellsEnd.{CellsEnd}
use Rattle.decision_journal.specs.declared.record.JournalRecord.{JournalRecord}
use Rattle.decision_journal.specs.declared.record.JournalRecord.TheVariants.{Life, Decision, Done, Prepared, CellsPrepared, CellsOutcome, CellsOnePhase}
use Rattle.resource_end.specs.declared.fault.EndFault.{EndFault}
use Rattle.resource_end.specs.declared.state.State.{State}
use Rattle.resource_end.specs.declared.state.State.TheVariants as states
use Rattle.resource_end.specs.States.{end_of}
use Rattle.resource_end.specs.Calls.{Called, Written, StandsAt, Unwritten, InDoubt, changes_with, changing, done}
use Rattle.resource_end.specs.End.{End, Resource, changes, is_numbered, outcome_record, puts_record, record_by, record_for}
use Rattle.resource_end.specs.Recall.{has_place, is_recorded_at}
use Rattle.resource_end.specs.Laws.{IsOf}
use Rattle.resource_end.specs.Inside.{AreApart, AreRecorded, ContentsState, HasMoved, HasWritten, Id, IsRecallable, IsRecorded, IsSomeSo, IsUnrecordedWith, IsWritable, changed, if_passes, named_by, numbered, prepared_at, prepared_id, told_by_record}
use Rattle.resource_end.specs.Journaling.{EndState, IsWrittenWhere}
use Rattle.resource_end.proofs.Claims.{at_known, its_number, itself}
use Rattle.resource_end.proofs.Named.{one_number}
use Rattle.resource_end.proofs.Recalled.{nothing_is, records_tell_changes}
use Rattle.resource_end.proofs.Told.{alone_of, recorded_alone}
use Rattle.resource_end.proofs.Writing.{seen}

-- ---- which record it is

-- what holds of the record that a change has to write, whichever it is
pub by_record : (next : State) (r : Resource) (item : JournalRecord) (P : JournalRecord → Type 0) → record_for next r ≡ Some item
    → ((place : ℕ) (how : CellsEnd) → r.record_place ≡ Some place → P (CellsOutcome place how))
    → (r.record_place ≡ None → r.state ≡ states.Working → P (CellsPrepared r.life r.number r.recovery r.puts))
    → (r.record_place ≡ None → r.state ≡ states.Working → P (CellsOnePhase r.life r.number r.puts))
    → P item
by_record next r item P is outcome prepares applies = at r.record_place refl is
  where
    it : (x : JournalRecord) → Some x ≡ Some item → P x → P item
    it x same p = subst (λ o. IfSome o P) same p

    ends : (place : ℕ) → r.record_place ≡ Some place → (o : Option CellsEnd) → outcome_record place o ≡ Some item → P item
    ends place n None h = absurd (nothing_is item h)
    ends place n (Some how) h = it (CellsOutcome place how) h (outcome place how n)

    begins : r.record_place ≡ None → (now s : State) → r.state ≡ now → puts_record now s r ≡ Some item → P item
    begins n states.Working states.Prepared w h = it _ h (prepares n w)
    begins n states.Working states.Applied w h = it _ h (applies n w)
    begins n now s w h = absurd (nothing_is item h)

    at : (o : Option ℕ) → r.record_place ≡ o → record_by o next r ≡ Some item → P item
    at (Some place) n h = ends place n (end_of next) h
    at None n h = begins n r.state next refl h

-- ---- it can be written

prepared_kind : (item : JournalRecord) (id : Id) → prepared_id item ≡ Some id → is_cells_prepared item ≡ true
prepared_kind (Life life) id h = absurd (both_ways _ refl (ap is_some h))
prepared_kind (Decision life slot generation k asked regs) id h = absurd (both_ways _ refl (ap is_some h))
prepared_kind (Done done) id h = absurd (both_ways _ refl (ap is_some h))
prepared_kind (Prepared life slot generation recovery regs) id h = absurd (both_ways _ refl (ap is_some h))
prepared_kind (CellsPrepared life number recovery puts) id h = refl
prepared_kind (CellsOutcome done how) id h = absurd (both_ways _ refl (ap is_some h))
prepared_kind (CellsOnePhase life number puts) id h = absurd (both_ways _ refl (ap is_some h))

either_true : (a b : Bool) → b ≡ true → (a || b) ≡ true
either_true true b h = refl
either_true false b h = h

-- an outcome can follow the record that it names
cells_stand : (place : ℕ) (id : Id) (xs : List Standing) → prepared_at place xs ≡ Some id → list_any (are_cells_at place) xs ≡ true
cells_stand place id [] h = absurd (both_ways _ refl (ap is_some h))
cells_stand place id (x ∷ xs) h = by (cells_stand place id xs) (x.place == place) refl h
  where
    by : (prepared_at place xs ≡ Some id → list_any (are_cells_at place) xs ≡ true) → (b : Bool) → (x.place == place) ≡ b → option_and_then (λ (s : Standing). prepared_id s.item) (cond b (Some x) (find (λ s. s.place == place) xs)) ≡ Some id
        → list_any (are_cells_at place) (x ∷ xs) ≡ true
    by rest true is k = ap (λ b. b || list_any (are_cells_at place) xs) (and_from _ _ is (prepared_kind x.item id k))
    by rest false is k = either_true (are_cells_at place x) (list_any (are_cells_at place) xs) (rest k)

module _ (found : Found) (drawn : ℕ) (rs : List Resource) (id : Id) (r : Resource) (next : State) (item : JournalRecord) (there : numbered id rs ≡ Some r)
    (is : record_for next r ≡ Some item) where
  pub due_cells : cells_in item ≡ 1
  due_cells = by_record next r item (λ x. cells_in x ≡ 1) is (λ place how n. refl) (λ n w. refl) (λ n w. refl)

  pub due_follows : IsRecorded found.standing id r → IsTrue (can_follow found item)
  due_follows recorded =
      by_record next r item (λ x. can_follow found x ≡ true) is
      (λ place how n. cells_stand place id found.standing (subst (λ o. IfSome o (λ p. prepared_at p found.standing ≡ Some id)) n recorded))
      (λ n w. refl) (λ n w. refl)

  own_number : numbered (r.life, r.number) rs ≡ Some r
  own_number = ap (λ k. numbered k rs) (one_number (r.life, r.number) id r (itself r) (its_number id rs r there)) ∙ there

  pub due_recallable : IsRecallable item (named_by item) rs
  due_recallable =
      by_record next r item (λ x. IsRecallable x (named_by x) rs) is
      (λ place how n. tt)
      (λ n w. (refl, so (record { unrecorded = record { works = w; unrecorded = n }; puts_are = refl })))
      (λ n w. so (record { unrecorded = record { works = w; unrecorded = n }; puts_are = refl }))
    where
      so : IsUnrecordedWith r.puts r → IsSomeSo (numbered (r.life, r.number) rs) (IsUnrecordedWith r.puts)
      so h = subst (λ o. IsSomeSo o (IsUnrecordedWith r.puts)) (sym own_number) h

  pub due_fits : IsWritable drawn r.state r → IfSome r.record_place (λ place. place < 2 ^ 32) → Fits item
  due_fits writable places =
      by_record next r item Fits is
      (λ place how n. subst (λ o. IfSome o (λ p. p < 2 ^ 32)) n places)
      (λ n w. fits w)
      (λ n w. ((fits w).0, (fits w).1, (fits w).3))
    where
      fits : r.state ≡ states.Working → Fits (CellsPrepared r.life r.number r.recovery r.puts)
      fits w = (subst (λ s. IsWritable drawn s r) w writable).fits

-- ---- it tells the change

module _ (standing : List Standing) (rs : List Resource) (id : Id) (r : Resource) (there : numbered id rs ≡ Some r) (recorded : AreRecorded standing rs)
    (apart : AreApart rs) where
  found_at : (place : ℕ) → r.record_place ≡ Some place → find (is_recorded_at place) rs ≡ Some r
  found_at place n =
      apart (is_recorded_at place) id
      (alone_of place (prepared_at place standing) id rs
      (subst (λ o. IfSome o (λ p. prepared_at p standing ≡ Some id)) n (at_known (numbered id rs) r (IsRecorded standing id) there (recorded id)))
      (recorded_alone standing place rs recorded))
      ∙ ap (if_passes (is_recorded_at place)) there
      ∙ ap (λ b. cond b (Some r) None) (ap (has_place place) n ∙ itself_at place)
    where
      itself_at : (p : ℕ) → (p == p) ≡ true
      itself_at p = eq-eqb p p refl

  its_place : (o : Option ℕ) → r.record_place ≡ o → IfSome o (λ place. find (is_recorded_at place) rs ≡ Some r)
  its_place None n = tt
  its_place (Some place) n = found_at place n

  pub is_of : (e : End) → e.resources ≡ rs → IsOf e r
  is_of e same = record {
    numbered = ap (find (is_numbered r.life r.number)) same ∙ ap (λ k. numbered k rs) (one_number (r.life, r.number) id r (itself r) (its_number id rs r there)) ∙ there;
    recorded = subst (λ xs. IfSome r.record_place (λ place. find (is_recorded_at place) xs ≡ Some r)) (sym same) (its_place r.record_place refl);
  }

pub moved_by_record : {D : Type 0} (told : D → Option DiskState) (before after : EndState D) (answer : Result (Unit {0}) EndFault) (next : State) (r : Resource)
    (item : JournalRecord) → record_for next r ≡ Some item → IsOf before.end r
    → HasWritten told before after answer (Some item) (λ written. told_by_record written item) → HasMoved told before after answer next r
unfolding changing
moved_by_record told before after answer next r item is of h =
    let same = by h.written in
    record {
      written = h.written;
      wrote = subst (λ o. IsWrittenWhere o told before.journal after.journal h.written) (sym is) h.wrote;
      comes = record { end = h.comes.end ∙ ap (λ (c : Called (Unit {0})). c.end) same; answer = h.comes.answer ∙ ap (λ (c : Called (Unit {0})). c.answer) same };
    }
  where
    by : (w : Written) → told_by_record w item before.end ≡ changing w (Ok tt) next r before.end
    by (StandsAt place) = ap done (records_tell_changes next r before.end place item of is) ∙ ap (λ o. changes_with o (StandsAt place) (Ok tt) next r before.end) (sym is)
    by (Unwritten fault) = ap (λ o. changes_with o (Unwritten fault) (Ok tt) next r before.end) (sym is)
    by (InDoubt fault) = ap (λ o. changes_with o (InDoubt fault) (Ok tt) next r before.end) (sym is)

-- nothing has to be written
pub moved_alone : {D : Type 0} (told : D → Option DiskState) (before after : EndState D) (next : State) (r : Resource) → record_for next r ≡ None
    → after.journal ≡ before.journal → after.end ≡ changes next r before.end → HasMoved told before after (Ok tt) next r
unfolding changing
moved_alone told before after next r is journal end = record {
  written = StandsAt 0;
  wrote = subst (λ o. IsWrittenWhere o told before.journal after.journal (StandsAt 0)) (sym is) journal;
  comes = record {
    end = end ∙ ap (λ o. (changes_with o (StandsAt 0) (Ok tt) next r before.end).end) (sym is);
    answer = ap (λ o. (changes_with o (StandsAt 0) (Ok tt) next r before.end).answer) (sym is);
  };
}

-- ---- what a call knows of the record

pub due_is : (x : Option JournalRecord) (o : Option Resource) (r : Resource) (next : State) → o ≡ Some r → Some x ≡ option_map (record_for next) o → record_for next r ≡ x
due_is x o r next is h = sym (ap (λ y. unwrap_or y None) (h ∙ ap (option_map (record_for next)) is))

pub some_of : {A : Type 0} (o : Option A) → IsSome o → (x : A) × (o ≡ Some x)
some_of None h = absurd (both_ways _ refl h)
some_of (Some x) h = (x, refl)

pub changes_seen : {D : Type 0} (j : JournalState D) (drawn : ℕ) (c later : ContentsState) (shown : Option Status) (next : State) (r : Resource)
    → later ≡ changed next r c → (seen j drawn later shown).end ≡ changes next r (seen j drawn c shown).end
unfolding changes
changes_seen j drawn c later shown next r is = ap (λ x. (seen j drawn x shown).end) is
