-- What stays on record of an end where nothing is written, and where a change of a resource may lead.
use Rattle.std.proofs.Common.{◌≡◌, ◌∙◌, inl, inr, ℕ, ◌+◌, Bool, true, false, cond, ◌&&◌, ◌||◌, List, [], ◌∷◌, length, Option, Some, None, refl, sym, ap, subst, arith}
use Rattle.std.specs.Prelude.{◌==◌, IfSome, IsSome, is_some, IfOk}
use Rattle.std.specs.List.{AllByRecursion}
use Rattle.std.specs.Option.{option_and_then}
use Rattle.std.proofs.lemmas.Bool.{both_ways}
use Rattle.std.proofs.lemmas.Bool.Decides.{nat_tests}
use Rattle.ior_refs.specs.declared.key.ObjectKey.{ObjectKey}
use Rattle.ots_model.specs.declared.line.Decision.{Decision}
use Rattle.ots_model.specs.declared.line.Decision.TheVariants as decision
use Rattle.ots_model.specs.declared.service.Status.{Status}
use Rattle.ots_model.specs.declared.service.Status.TheVariants as status
use Rattle.ots_model.specs.declared.tree.Heard.{Heard}
use Rattle.ots_model.specs.declared.completion.Heard.TheVariants as phase_hears
use Rattle.ots_model.specs.declared.tree.Heard.TheVariants as heard
use Rattle.decision_journal.specs.Journal.{Found, with_record}
use Rattle.decision_journal.specs.State.{JournalState}
use Rattle.decision_journal.specs.declared.journal.Standing.{Standing}
use Rattle.decision_journal.specs.declared.record.CellsEnd.{CellsEnd}
use Rattle.decision_journal.specs.declared.record.JournalRecord.{JournalRecord}
use Rattle.decision_journal.specs.declared.record.JournalRecord.TheVariants.{Life, Decision as Decided, Done, Prepared, CellsPrepared, CellsOutcome, CellsOnePhase}
use Rattle.resource_end.specs.declared.fault.EndFault.TheVariants as faults
use Rattle.resource_end.specs.declared.state.State.{State}
use Rattle.resource_end.specs.declared.state.State.TheVariants as states
use Rattle.resource_end.specs.declared.state.Word.{Word}
use Rattle.resource_end.specs.declared.state.Word.TheVariants as words
use Rattle.resource_end.specs.Calls.{bind, bound, choice, done, drawn, fresh, has_room, is_fresh, is_open, is_spent, key_of, new_resource, on, puts, puts_unheld, refused, refuses, unmake, unmakes, with_cell}
use Rattle.resource_end.specs.Cells.{with_puts}
use Rattle.resource_end.specs.Crashes.{restarted}
use Rattle.resource_end.specs.End.{End, Resource, changes, is_named, is_numbered, kept, moved, named, other_holder, outcome_record, puts_record, record_by, record_for, with_resource}
use Rattle.resource_end.specs.Inside.{numbered, prepared_at}
use Rattle.resource_end.specs.Journaling.{EndState}
use Rattle.resource_end.specs.Limits.{synchronization_kind}
use Rattle.resource_end.specs.OnRecord.{AreInPlace, HasDrawn, IsDrawn, IsLoadOf, IsOfDrawn, IsOnRecord, MayHavePlace, is_recorded, on_record, recorded_of}
use Rattle.resource_end.specs.Recall.{recalls, sure}
use Rattle.resource_end.specs.States.{end_of, holds, is_prepared, is_stored, learnt, outcome_heard, outcome_told}
use Rattle.resource_end.specs.Table.{row}
use Rattle.resource_end.proofs.Claims.{at_known}
use Rattle.resource_end.proofs.Making.{fresh_made, fresh_spent}
use Rattle.resource_end.proofs.Named.{named_alone}
use Rattle.resource_end.proofs.Recorded.{each_kept, each_weaker, each_with, found_passes, its_own, one_found, recorded_of_none, same_kept, same_with, sorted_with}
use Rattle.resource_end.proofs.Recorded.{Stands as IsStanding}
use Rattle.resource_end.proofs.Reloading.{Stays, is_load, kept_in_place, stays_more}

-- ---- where a change may lead

-- into a state in which nothing of a resource is on record that wasn't
abbrev is_calm : State → Bool
is_calm states.Fresh = false
is_calm states.Working = false
is_calm states.Refused = true
is_calm states.Prepared = false
is_calm states.Applied = false
is_calm states.Undone = true
is_calm states.ChoseCommit = false
is_calm states.ChoseRollback = false
is_calm states.Forgotten = true

-- a working one writes a record of its puts
abbrev writes_puts : State → Bool
writes_puts states.Fresh = false
writes_puts states.Working = false
writes_puts states.Refused = false
writes_puts states.Prepared = true
writes_puts states.Applied = true
writes_puts states.Undone = false
writes_puts states.ChoseCommit = false
writes_puts states.ChoseRollback = false
writes_puts states.Forgotten = false

abbrev pub goes : State → State → Bool
goes states.Fresh s = is_calm s
goes states.Working s = writes_puts s || is_calm s
goes states.Refused s = is_calm s
goes states.Prepared s = is_some (end_of s)
goes states.Applied s = false
goes states.Undone s = false
goes states.ChoseCommit s = is_some (end_of s)
goes states.ChoseRollback s = is_some (end_of s)
goes states.Forgotten s = false

pub row_goes : (w : Word) (s : State) → IfSome (row w s).next (λ n. goes s n ≡ true)
row_goes words.Prepare states.Fresh = refl
row_goes words.Prepare states.Working = refl
row_goes words.Prepare states.Refused = refl
row_goes words.Prepare states.Prepared = tt
row_goes words.Prepare states.Applied = tt
row_goes words.Prepare states.Undone = tt
row_goes words.Prepare states.ChoseCommit = tt
row_goes words.Prepare states.ChoseRollback = tt
row_goes words.Prepare states.Forgotten = tt
row_goes words.Commit states.Prepared = refl
row_goes words.Commit states.ChoseCommit = refl
row_goes words.Commit _ = tt
row_goes words.Rollback states.Fresh = refl
row_goes words.Rollback states.Working = refl
row_goes words.Rollback states.Refused = refl
row_goes words.Rollback states.Prepared = refl
row_goes words.Rollback states.ChoseRollback = refl
row_goes words.Rollback _ = tt
row_goes words.CommitOnePhase states.Fresh = refl
row_goes words.CommitOnePhase states.Working = refl
row_goes words.CommitOnePhase states.Refused = refl
row_goes words.CommitOnePhase states.Prepared = refl
row_goes words.CommitOnePhase states.ChoseCommit = refl
row_goes words.CommitOnePhase _ = tt
row_goes words.Forget states.ChoseCommit = refl
row_goes words.Forget states.ChoseRollback = refl
row_goes words.Forget _ = tt

told_goes : (s : Status) → IfSome (outcome_told s) (λ n. goes states.Prepared n ≡ true)
told_goes status.Committing = refl
told_goes status.Committed = refl
told_goes status.RollingBack = refl
told_goes status.RolledBack = refl
told_goes _ = tt

heard_goes : (h : Heard) → IfSome (outcome_heard h) (λ n. goes states.Prepared n ≡ true)
heard_goes (heard.Told s) = told_goes s
heard_goes (heard.Phase phase_hears.NoObject) = refl
heard_goes _ = tt

pub learnt_goes : (s : State) (h : Heard) → IfSome (learnt s h) (λ n. goes s n ≡ true)
learnt_goes states.Prepared h = heard_goes h
learnt_goes _ h = tt

pub choice_goes : (s : State) (d : Decision) → is_prepared s ≡ true → goes s (choice d) ≡ true
choice_goes states.Prepared decision.Commit h = refl
choice_goes states.Prepared decision.Rollback h = refl
choice_goes _ d h = absurd (both_ways _ refl h)

-- ---- a change that writes nothing

-- one that isn't on record changes, and isn't afterwards
pub record IsQuiet (s : State) (r : Resource) : Type 0 where
  place : r.record_place ≡ None
  before : is_stored r.state ≡ false
  after : is_stored s ≡ false
  may : MayHavePlace s None

calm_may : (s : State) → is_calm s ≡ true → (is_stored s ≡ false) × MayHavePlace s None
calm_may states.Refused h = (refl, refl)
calm_may states.Undone h = (refl, tt)
calm_may states.Forgotten h = (refl, tt)
calm_may states.Fresh h = absurd (both_ways _ refl h)
calm_may states.Working h = absurd (both_ways _ refl h)
calm_may states.Prepared h = absurd (both_ways _ refl h)
calm_may states.Applied h = absurd (both_ways _ refl h)
calm_may states.ChoseCommit h = absurd (both_ways _ refl h)
calm_may states.ChoseRollback h = absurd (both_ways _ refl h)

writes_some : (s : State) (r : Resource) → writes_puts s ≡ true → puts_record states.Working s r ≡ None → ⊥
writes_some states.Prepared r h n = both_ways _ (ap is_some n) refl
writes_some states.Applied r h n = both_ways _ (ap is_some n) refl
writes_some states.Fresh r h n = both_ways _ refl h
writes_some states.Working r h n = both_ways _ refl h
writes_some states.Refused r h n = both_ways _ refl h
writes_some states.Undone r h n = both_ways _ refl h
writes_some states.ChoseCommit r h n = both_ways _ refl h
writes_some states.ChoseRollback r h n = both_ways _ refl h
writes_some states.Forgotten r h n = both_ways _ refl h

outcome_some : (place : ℕ) (o : Option CellsEnd) → is_some o ≡ true → outcome_record place o ≡ None → ⊥
outcome_some place None h n = both_ways _ refl h
outcome_some place (Some how) h n = both_ways _ (ap is_some n) refl

calm : (s : State) (r : Resource) → r.record_place ≡ None → is_stored r.state ≡ false → is_calm s ≡ true → IsQuiet s r
calm s r place before h = let k = calm_may s h in record { place = place; before = before; after = k.0; may = k.1 }

-- one that can put isn't on record
open_place : (x : State) (o : Option ℕ) → is_open x ≡ true → MayHavePlace x o → (o ≡ None) × (is_stored x ≡ false)
open_place states.Fresh o h p = (p, refl)
open_place states.Working o h p = (p, refl)
open_place _ o h p = absurd (both_ways _ refl h)

fresh_place : (x : State) (o : Option ℕ) → is_fresh x ≡ true → MayHavePlace x o → (o ≡ None) × (is_stored x ≡ false)
fresh_place states.Fresh o h p = (p, refl)
fresh_place _ o h p = absurd (both_ways _ refl h)

module _ (s : State) (r : Resource) (n : record_for s r ≡ None) where
  ended : IsSome r.record_place → is_some (end_of s) ≡ true → IsQuiet s r
  ended there h = by r.record_place refl there
    where
      by : (o : Option ℕ) → r.record_place ≡ o → IsSome o → IsQuiet s r
      by None is t = absurd (both_ways _ refl t)
      by (Some place) is t = absurd (outcome_some place (end_of s) h (sym (ap (λ o. record_by o s r) is) ∙ n))

  worked : r.record_place ≡ None → r.state ≡ states.Working → (b : Bool) → writes_puts s ≡ b → (b || is_calm s) ≡ true → IsQuiet s r
  worked place works true w h =
      absurd (writes_some s r w (sym (ap (λ o. record_by o s r) place ∙ ap (λ x. puts_record x s r) works) ∙ n))
  worked place works false w h = calm s r place (ap is_stored works) h

  pub quiet : (x : State) → r.state ≡ x → MayHavePlace x r.record_place → goes x s ≡ true → IsQuiet s r
  quiet states.Fresh is p g = calm s r p (ap is_stored is) g
  quiet states.Working is p g = worked p is (writes_puts s) refl g
  quiet states.Refused is p g = calm s r p (ap is_stored is) g
  quiet states.Prepared is p g = ended p g
  quiet states.ChoseCommit is p g = ended p g
  quiet states.ChoseRollback is p g = ended p g
  quiet states.Applied is p g = absurd (both_ways _ refl g)
  quiet states.Undone is p g = absurd (both_ways _ refl g)
  quiet states.Forgotten is p g = absurd (both_ways _ refl g)

and_false : (b c : Bool) → c ≡ false → (b && c) ≡ false
and_false true c h = h
and_false false c h = refl

-- one without the place of a record
unplaced : (xs : List Standing) (r : Resource) → r.record_place ≡ None → IsStanding xs r
unplaced xs r is = subst (λ o. IfSome o (λ p. prepared_at p xs ≡ Some (r.life, r.number))) (sym is) tt

with_in_place : (xs : List Standing) (n : ℕ) (rs : List Resource) (r : Resource) → AreInPlace xs n rs → MayHavePlace r.state r.record_place → IsStanding xs r
    → AreInPlace xs n (with_resource r rs)
with_in_place xs n rs r h may stands = record {
  sorted = sorted_with r rs h.sorted;
  places = each_with (λ r. MayHavePlace r.state r.record_place) r rs may h.places;
  records = each_with (IsStanding xs) r rs stands h.records;
  below = h.below;
}

module _ (service : ℕ) (e : End) (found : Found) (n : ℕ) (h : Stays service e found n) where
  pub may_have : (r : Resource) → numbered (r.life, r.number) e.resources ≡ Some r → MayHavePlace r.state r.record_place
  may_have r there =
      at_known (numbered (r.life, r.number) e.resources) r (λ x. MayHavePlace x.state x.record_place) there
      (one_found (λ x. MayHavePlace x.state x.record_place) (is_numbered r.life r.number) e.resources h.in_place.places)

  pub has_drawn : (r : Resource) → numbered (r.life, r.number) e.resources ≡ Some r → HasDrawn e.life e.drawn r
  has_drawn r there =
      at_known (numbered (r.life, r.number) e.resources) r (HasDrawn e.life e.drawn) there
      (one_found (HasDrawn e.life e.drawn) (is_numbered r.life r.number) e.resources h.drawn)

  -- resources of which the same is on record
  stays_same : (rs : List Resource) → on_record rs ≡ on_record e.resources → AreInPlace found.standing n rs → AllByRecursion (HasDrawn e.life e.drawn) rs
      → Stays service (record e { resources = rs }) found n
  stays_same rs same in_place drawn = record {
    same = record { resources = h.same.resources ∙ sym same; cells = h.same.cells };
    in_place = in_place;
    drawn = drawn;
    life = h.life;
  }

  stays_quiet : (s : State) (r : Resource) → numbered (r.life, r.number) e.resources ≡ Some r → IsQuiet s r → Stays service (changes s r e) found n
  unfolding changes
  stays_quiet s r there q =
      let unlisted : option_and_then recorded_of (numbered (r.life, r.number) e.resources) ≡ None =
      ap (option_and_then recorded_of) there ∙ recorded_of_none r q.place q.before in
      record {
        same = record {
          resources = h.same.resources
              ∙ sym (same_kept (moved s r) e.resources h.in_place.sorted unlisted (λ f. recorded_of_none (moved s r) q.place q.after));
          cells = h.same.cells ∙ sym (ap (λ b. cond b (with_puts r.puts e.cells) e.cells) (and_false (holds r.state) (is_stored s) q.after));
        };
        in_place = kept_in_place found.standing n e.resources (moved s r) h.in_place
            (subst (MayHavePlace s) (sym q.place) q.may) (unplaced found.standing (moved s r) q.place);
        drawn = each_kept (HasDrawn e.life e.drawn) (moved s r) e.resources (has_drawn r there) h.drawn;
        life = h.life;
      }

-- ---- an end and its journal

pub record Rec {D : Type 0} (e : End) (j : JournalState D) : Type 0 where
  pub stays : Stays j.service e j.found (length j.octets)
  pub doubts : e.doubted ≡ j.doubted
  pub failed : j.failed ≡ is_some j.doubted
  pub of_drawn : IfSome j.doubted (IsOfDrawn e.life e.drawn)

-- what the last word made is no matter of it, nor is what is doubted
stays_changed : (service : ℕ) (e : End) (found : Found) (n : ℕ) (c : Option Status) → Stays service e found n → Stays service (record e { changed = c }) found n
stays_changed service e found n c h = record {
  same = record { resources = h.same.resources; cells = h.same.cells };
  in_place = h.in_place;
  drawn = h.drawn;
  life = h.life;
}

pub stays_doubting : (service : ℕ) (e : End) (found : Found) (n : ℕ) (d : Option JournalRecord) → Stays service e found n → Stays service (record e { doubted = d }) found n
stays_doubting service e found n d h = record {
  same = record { resources = h.same.resources; cells = h.same.cells };
  in_place = h.in_place;
  drawn = h.drawn;
  life = h.life;
}

module _ {D : Type 0} where
  pub rec_changed : (e : End) (j : JournalState D) (c : Option Status) → Rec e j → Rec (record e { changed = c }) j
  rec_changed e j c h = record {
    stays = stays_changed j.service e j.found (length j.octets) c h.stays;
    doubts = h.doubts;
    failed = h.failed;
    of_drawn = h.of_drawn;
  }

  -- a journal in which nothing is in doubt
  pub sure_rec : (e : End) (j : JournalState D) → Stays j.service e j.found (length j.octets) → e.doubted ≡ None → j.doubted ≡ None → j.failed ≡ false → Rec e j
  sure_rec e j stays sure none ready = record {
    stays = stays;
    doubts = sure ∙ sym none;
    failed = ready ∙ sym (ap is_some none);
    of_drawn = subst (λ d. IfSome d (IsOfDrawn e.life e.drawn)) (sym none) tt;
  }

  pub on_record_of : (s : EndState D) → Rec s.end s.journal → IsOnRecord s
  on_record_of s h = record {
    known = is_load s.journal.service s.end s.journal.found (length s.journal.octets) h.stays;
    doubted = by s.journal.doubted h.of_drawn;
    doubts = h.doubts;
    failed = h.failed;
    life = h.stays.life;
    in_place = h.stays.in_place;
    drawn = h.stays.drawn;
    of_drawn = h.of_drawn;
  }
    where
      n : ℕ
      n = length s.journal.octets

      by : (o : Option JournalRecord) → IfSome o (IsOfDrawn s.end.life s.end.drawn)
          → IfSome o (λ item. IsLoadOf (recalls (record { place = length s.journal.octets; item = item }) s.end)
          (restarted s.journal.service (with_record s.journal.found (length s.journal.octets) item)))
      by None k = tt
      by (Some item) k =
          is_load s.journal.service (recalls (record { place = length s.journal.octets; item = item }) s.end)
          (with_record s.journal.found (length s.journal.octets) item) (length s.journal.octets + 1)
          (stays_more s.journal.service s.end s.journal.found (length s.journal.octets) (length s.journal.octets + 1) item h.stays k (omega arith))

  pub of_record : (s : EndState D) → IsOnRecord s → Rec s.end s.journal
  of_record s h = record {
    stays = record {
      same = record { resources = h.known.resources; cells = h.known.cells };
      in_place = h.in_place;
      drawn = h.drawn;
      life = h.life;
    };
    doubts = h.doubts;
    failed = h.failed;
    of_drawn = h.of_drawn;
  }

-- ---- calls that write nothing

more_drawn : (now drawn life number : ℕ) → IsDrawn now drawn life number → IsDrawn now (drawn + 1) life number
more_drawn now drawn life number (inl h) = inl h
more_drawn now drawn life number (inr h) = inr (h.0, omega (arith, h.1))

more_of_drawn : (now drawn : ℕ) (item : JournalRecord) → IsOfDrawn now drawn item → IsOfDrawn now (drawn + 1) item
more_of_drawn now drawn (Life life) h = absurd h
more_of_drawn now drawn (Decided life slot generation key asked regs) h = absurd h
more_of_drawn now drawn (Done named) h = absurd h
more_of_drawn now drawn (Prepared life slot generation recovery regs) h = absurd h
more_of_drawn now drawn (CellsPrepared life number recovery puts) h = more_drawn now drawn life number h
more_of_drawn now drawn (CellsOutcome at how) h = tt
more_of_drawn now drawn (CellsOnePhase life number puts) h = more_drawn now drawn life number h

not_drawn : (now drawn : ℕ) (r : Resource) → HasDrawn now drawn r → is_numbered now (drawn + 1) r ≡ false
not_drawn now drawn r (inl h) = grind (arith, nat_tests, h)
not_drawn now drawn r (inr h) = grind (arith, nat_tests, h)

none_drawn : (now drawn : ℕ) (rs : List Resource) → AllByRecursion (HasDrawn now drawn) rs → numbered (now, drawn + 1) rs ≡ None
none_drawn now drawn [] all = refl
none_drawn now drawn (r ∷ rs) all =
    ap (λ b. cond b (Some r) (numbered (now, drawn + 1) rs)) (not_drawn now drawn r all.0) ∙ none_drawn now drawn rs all.1

module _ {D : Type 0} (e : End) (j : JournalState D) (rec : Rec e j) where
  abbrev n : ℕ
  n = length j.octets

  -- other resources of which the same is on record
  other_rec : (rs : List Resource) → on_record rs ≡ on_record e.resources → AreInPlace j.found.standing n rs
      → AllByRecursion (HasDrawn e.life e.drawn) rs → Rec (record e { resources = rs }) j
  other_rec rs same in_place drawn = record {
    stays = stays_same j.service e j.found n rec.stays rs same in_place drawn;
    doubts = rec.doubts;
    failed = rec.failed;
    of_drawn = rec.of_drawn;
  }

  pub calm_rec : (s : State) (r : Resource) → numbered (r.life, r.number) e.resources ≡ Some r → IsQuiet s r → Rec (changes s r e) j
  unfolding changes
  calm_rec s r there q = record {
    stays = stays_quiet j.service e j.found n rec.stays s r there q;
    doubts = rec.doubts;
    failed = rec.failed;
    of_drawn = rec.of_drawn;
  }

  pub named_there : (key : ObjectKey) (r : Resource) → named key e ≡ Some r → numbered (r.life, r.number) e.resources ≡ Some r
  named_there key r is = its_own (is_named e.service key) e.resources r rec.stays.in_place.sorted is

  may : (r : Resource) → numbered (r.life, r.number) e.resources ≡ Some r → MayHavePlace r.state r.record_place
  may = may_have j.service e j.found n rec.stays

  pub refused_rec : (key : ObjectKey) → Rec (on (named key e) e (refuses e)).end j
  refused_rec key = by (named key e) refl
    where
      at : (r : Resource) → numbered (r.life, r.number) e.resources ≡ Some r → (b : Bool) → is_open r.state ≡ b
          → Rec (cond b (done (changes states.Refused r e)) (refused faults.Inactive e)).end j
      at r there true is =
          let k = open_place r.state r.record_place is (may r there) in calm_rec states.Refused r there (calm states.Refused r k.0 k.1 refl)
      at r there false is = rec

      by : (o : Option Resource) → named key e ≡ o → Rec (on o e (refuses e)).end j
      by (Some r) is = at r (named_there key r is) (is_open r.state) refl
      by None is = rec

  -- one that isn't on record is another one, which isn't
  put_rec : (r s : Resource) → numbered (s.life, s.number) e.resources ≡ Some r → HasDrawn e.life e.drawn s → r.record_place ≡ None → is_stored r.state ≡ false
      → s.record_place ≡ None → is_stored s.state ≡ false → MayHavePlace s.state s.record_place → Rec (record e { resources = with_resource s e.resources }) j
  put_rec r s there drawn p q k l may_s =
      other_rec (with_resource s e.resources)
      (same_with s e.resources rec.stays.in_place.sorted (ap (option_and_then recorded_of) there ∙ recorded_of_none r p q ∙ sym (recorded_of_none s k l)))
      (with_in_place j.found.standing n e.resources s rec.stays.in_place may_s (unplaced j.found.standing s k))
      (each_with (HasDrawn e.life e.drawn) s e.resources drawn rec.stays.drawn)

  pub puts_rec : (key : ObjectKey) (cell value : ℕ) → Rec (on (named key e) e (puts cell value e)).end j
  puts_rec key cell value = by (named key e) refl
    where
      room : (r : Resource) → numbered (r.life, r.number) e.resources ≡ Some r → is_open r.state ≡ true → (b : Bool)
          → Rec (cond b (done (record e { resources = kept (with_cell cell value r) e.resources })) (refused faults.NoResources e)).end j
      room r there is true =
          let k = open_place r.state r.record_place is (may r there) in
          put_rec r (with_cell cell value r) there (has_drawn j.service e j.found n rec.stays r there) k.0 k.1 k.0 refl k.0
      room r there is false = rec

      held : (r : Resource) → numbered (r.life, r.number) e.resources ≡ Some r → is_open r.state ≡ true → (o : Option Resource) → Rec (puts_unheld o cell value r e).end j
      held r there is (Some holder) = rec
      held r there is None = room r there is (has_room cell r)

      at : (r : Resource) → numbered (r.life, r.number) e.resources ≡ Some r → (b : Bool) → is_open r.state ≡ b
          → Rec (cond b (puts_unheld (other_holder r cell e) cell value r e) (refused faults.Inactive e)).end j
      at r there true is = held r there is (other_holder r cell e)
      at r there false is = rec

      by : (o : Option Resource) → named key e ≡ o → Rec (on o e (puts cell value e)).end j
      by (Some r) is = at r (named_there key r is) (is_open r.state) refl
      by None is = rec

  pub unmade_rec : (key : ObjectKey) → Rec (unmake key e) j
  unfolding unmake
  unmade_rec key = by (named key e) refl
    where
      at : (r : Resource) → numbered (r.life, r.number) e.resources ≡ Some r → (b : Bool) → is_fresh r.state ≡ b → Rec (cond b (changes states.Forgotten r e) e) j
      at r there true is =
          let k = fresh_place r.state r.record_place is (may r there) in calm_rec states.Forgotten r there (calm states.Forgotten r k.0 k.1 refl)
      at r there false is = rec

      by : (o : Option Resource) → named key e ≡ o → Rec (unmakes o e) j
      by (Some r) is = at r (named_there key r is) (is_fresh r.state) refl
      by None is = rec

  -- another recovery coordinator is on record of none that hasn't prepared
  bound_place : (x : State) (o : Option ℕ) → MayHavePlace x o → o ≡ None → is_prepared x ≡ false
  bound_place states.Prepared o h none = absurd (both_ways _ (ap is_some none) h)
  bound_place _ o h none = refl

  pub bound_rec : (key : ObjectKey) (given : List ℕ) → Rec (bind key given e).end j
  unfolding bind
  bound_rec key given = by (named key e) refl
    where
      at : (r : Resource) → numbered (r.life, r.number) e.resources ≡ Some r → (o : Option ℕ) → r.record_place ≡ o
          → Rec (record e { resources = with_resource (cond (is_some o) r (record r { recovery = given })) e.resources }) j
      at r there (Some place) is =
          other_rec (with_resource r e.resources)
          (same_with r e.resources rec.stays.in_place.sorted (ap (option_and_then recorded_of) there))
          (with_in_place j.found.standing n e.resources r rec.stays.in_place (may r there)
          (at_known (numbered (r.life, r.number) e.resources) r (IsStanding j.found.standing) there
          (one_found (IsStanding j.found.standing) (is_numbered r.life r.number) e.resources rec.stays.in_place.records)))
          (each_with (HasDrawn e.life e.drawn) r e.resources (has_drawn j.service e j.found n rec.stays r there) rec.stays.drawn)
      at r there None is =
          let waits = bound_place r.state r.record_place (may r there) is in
          other_rec (with_resource (record r { recovery = given }) e.resources)
          (same_with (record r { recovery = given }) e.resources rec.stays.in_place.sorted
          (ap (option_and_then recorded_of) there
          ∙ (λ i. cond (is_recorded r) (Some (record r { kind = None; recovery = cond (waits i) r.recovery [] })) None)
          ∙ sym (λ i. cond (is_recorded r) (Some (record r { kind = None; recovery = cond (waits i) given [] })) None)))
          (with_in_place j.found.standing n e.resources (record r { recovery = given }) rec.stays.in_place (may r there)
          (unplaced j.found.standing (record r { recovery = given }) is))
          (each_with (HasDrawn e.life e.drawn) (record r { recovery = given }) e.resources (has_drawn j.service e j.found n rec.stays r there) rec.stays.drawn)

      by : (o : Option Resource) → named key e ≡ o → Rec (on {A = Unit {0}} o e (λ r. done (record e { resources = with_resource (bound given r) e.resources }))).end j
      by (Some r) is = at r (named_there key r is) r.record_place refl
      by None is = rec

  -- another number is drawn
  drawn_rec : (rs : List Resource) → on_record rs ≡ on_record e.resources → AreInPlace j.found.standing n rs
      → AllByRecursion (HasDrawn e.life (e.drawn + 1)) rs → Rec (record e { drawn = e.drawn + 1; resources = rs }) j
  drawn_rec rs same in_place drawn = record {
    stays = record {
      same = record { resources = rec.stays.same.resources ∙ sym same; cells = rec.stays.same.cells };
      in_place = in_place;
      drawn = drawn;
      life = rec.stays.life;
    };
    doubts = rec.doubts;
    failed = rec.failed;
    of_drawn = more j.doubted rec.of_drawn;
  }
    where
      more : (o : Option JournalRecord) → IfSome o (IsOfDrawn e.life e.drawn) → IfSome o (IsOfDrawn e.life (e.drawn + 1))
      more None h = tt
      more (Some item) h = more_of_drawn e.life e.drawn item h

  -- no resource has the next number
  none_named : (key : ObjectKey) → numbered (key.life, key.generation) e.resources ≡ None → named key e ≡ None
  none_named key none_there = by (named key e) refl
    where
      by : (o : Option Resource) → named key e ≡ o → o ≡ None
      by None is = refl
      by (Some r) is =
          let passes = at_known (named key e) r (λ x. is_named e.service key x ≡ true) is (found_passes (is_named e.service key) e.resources) in
          let there = named_there key r is in
          let same = at_known (numbered (r.life, r.number) e.resources) r (λ x. is_named e.service key x ≡ true → (r.life, r.number) ≡ (key.life, key.generation)) there
          (named_alone e.service key e.resources (r.life, r.number)) passes in
          sym there ∙ ap (λ k. numbered k e.resources) same ∙ none_there

  pub made_apart : (letter : ℕ) → IfOk (fresh letter e).answer (λ key. named key e ≡ None)
  made_apart letter = by (is_spent letter e) refl
    where
      by : (b : Bool) → is_spent letter e ≡ b → IfOk (fresh letter e).answer (λ key. named key e ≡ None)
      by true is = subst (λ c. IfOk c.answer (λ key. named key e ≡ None)) (sym (fresh_spent letter e is)) tt
      by false is =
          subst (λ c. IfOk c.answer (λ key. named key e ≡ None)) (sym (fresh_made letter e is))
          (none_named (key_of letter (e.drawn + 1) e) (none_drawn e.life e.drawn e.resources rec.stays.drawn))

  pub made_rec : (letter : ℕ) → Rec (fresh letter e).end j
  made_rec letter = by (is_spent letter e) refl
    where
      all : AllByRecursion (HasDrawn e.life (e.drawn + 1)) e.resources
      all = each_weaker (HasDrawn e.life e.drawn) (HasDrawn e.life (e.drawn + 1)) e.resources (λ r. more_drawn e.life e.drawn r.life r.number) rec.stays.drawn

      object : (b : Bool) → Rec (cond b (drawn e) (record (drawn e) { resources = kept (new_resource letter (e.drawn + 1) e) e.resources })) j
      object true = drawn_rec e.resources refl rec.stays.in_place all
      object false =
          let r : Resource = new_resource letter (e.drawn + 1) e in
          drawn_rec (with_resource r e.resources)
          (same_with r e.resources rec.stays.in_place.sorted (ap (option_and_then recorded_of) (none_drawn e.life e.drawn e.resources rec.stays.drawn)))
          (with_in_place j.found.standing n e.resources r rec.stays.in_place refl tt)
          (each_with (HasDrawn e.life (e.drawn + 1)) r e.resources (inr (refl, omega arith)) all)

      by : (b : Bool) → is_spent letter e ≡ b → Rec (fresh letter e).end j
      by true is = subst (λ c. Rec c.end j) (sym (fresh_spent letter e is)) rec
      by false is = subst (λ c. Rec c.end j) (sym (fresh_made letter e is)) (object (letter == synchronization_kind))
