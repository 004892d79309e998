-- Which calls make an end count, and what a load of one record more leaves.
use Rattle.std.proofs.Common.{◌≡◌, ◌∙◌, ℕ, ◌+◌, Bool, true, false, cond, List, [], ◌∷◌, ◌++◌, Option, Some, None, refl, ap}
use Rattle.std.specs.Prelude.{◌==◌, IfOk, Result, Ok, Err, find}
use Rattle.ots_model.specs.declared.tree.Heard.{Heard}
use Rattle.decision_journal.specs.declared.journal.Standing.{Standing}
use Rattle.decision_journal.specs.declared.record.CellsEnd.{CellsEnd}
use Rattle.decision_journal.specs.declared.record.JournalRecord.{JournalRecord}
use Rattle.decision_journal.specs.declared.record.JournalRecord.TheVariants.{Life, Decision as Decided, Done, Prepared, CellsPrepared, CellsOutcome, CellsOnePhase}
use Rattle.resource_end.specs.declared.fault.EndFault.{EndFault}
use Rattle.resource_end.specs.declared.state.State.{State}
use Rattle.resource_end.specs.declared.state.State.TheVariants as states
use Rattle.resource_end.specs.Limits.{synchronization_kind}
use Rattle.resource_end.specs.States.{is_prepared, learnt}
use Rattle.resource_end.specs.Table.{row}
use Rattle.resource_end.specs.Calls.{Called, Written, StandsAt, Unwritten, InDoubt, behind, bind, changes_with, changing, choice, choose_heuristic, chooses, does, done, drawn, has_room, is_fresh, is_open, learn, learns_by, learns_in, obeys, on, put, puts, puts_unheld, refuse, refused, refuses, told, unchanged, unmake, unmakes, with_cell}
use Rattle.resource_end.specs.End.{End, Resource, changes, kept, named, other_holder, record_for}
use Rattle.resource_end.specs.Recall.{Reread, Stands, StandsNot, Unread, ends_as, is_recorded_at, new_end, recalls, recalls_all, reread, reread_by, tells}
use Rattle.resource_end.specs.Laws.{IsSameLife, LoadsTellOneMore, NumbersRise}
use Rattle.resource_end.proofs.Making.{fresh_made}

-- ---- loads

behind_all : (xs : List Standing) (s : Standing) (e : End) → recalls_all (xs ++ s ∷ []) e ≡ recalls s (recalls_all xs e)
behind_all [] s e = refl
behind_all (x ∷ xs) s e = behind_all xs s (recalls x e)

pub loads_tell_one_more : LoadsTellOneMore
loads_tell_one_more service found s = behind_all found.standing s (new_end service found.life)

-- ---- numbers

itself : (e : End) → IsSameLife e e
itself e = record { service = refl; life = refl; drawn = refl }

then : (a b c : End) → IsSameLife a b → IsSameLife b c → IsSameLife a c
then a b c h k = record { service = k.service ∙ h.service; life = k.life ∙ h.life; drawn = k.drawn ∙ h.drawn }

changed_same : (s : State) (r : Resource) (e : End) → IsSameLife e (changes s r e)
unfolding changes
changed_same s r e = record { service = refl; life = refl; drawn = refl }

ended_same : (how : CellsEnd) (o : Option Resource) (e : End) → IsSameLife e (ends_as how o e)
ended_same how None e = itself e
ended_same how (Some r) e = changed_same _ r e

pub told_same : (place : ℕ) (item : JournalRecord) (e : End) → IsSameLife e (tells place item e)
told_same place (Life life) e = itself e
told_same place (Decided life slot generation key asked regs) e = itself e
told_same place (Done named) e = itself e
told_same place (Prepared life slot generation recovery regs) e = itself e
told_same place (CellsPrepared life number recovery puts) e = changed_same _ _ e
told_same place (CellsOutcome at how) e = ended_same how (find (is_recorded_at at) e.resources) e
told_same place (CellsOnePhase life number puts) e = changed_same _ _ e

reread_same : (found : Reread) (o : Option JournalRecord) (e : End) → IfOk (reread_by o found e) (λ later. IsSameLife e later)
unfolding recalls
reread_same found None e = itself e
reread_same (Stands place) (Some r) e =
    let h = told_same place r (record e { doubted = None }) in record { service = h.service; life = h.life; drawn = h.drawn }
reread_same StandsNot (Some r) e = record { service = refl; life = refl; drawn = refl }
reread_same (Unread fault) (Some r) e = tt

module _ {A : Type 0} where
  behind_same : (e : End) (o : Result End EndFault) (next : End → Called A) → IfOk o (λ later. IsSameLife e later)
      → ((later : End) → IsSameLife later (next later).end) → IsSameLife e (behind o e next).end
  behind_same e (Ok later) next h k = then e later (next later).end h (k later)
  behind_same e (Err fault) next h k = itself e

  on_same : (o : Option Resource) (e : End) (act : Resource → Called A) → ((r : Resource) → IsSameLife e (act r).end) → IsSameLife e (on o e act).end
  on_same (Some r) e act h = h r
  on_same None e act h = itself e

  written_same : (o : Option JournalRecord) (w : Written) (said : Result A EndFault) (s : State) (r : Resource) (e : End)
      → IsSameLife e (changes_with o w said s r e).end
  written_same (Some item) (StandsAt place) said s r e = changed_same s _ e
  written_same (Some item) (Unwritten fault) said s r e = itself e
  written_same (Some item) (InDoubt fault) said s r e = record { service = refl; life = refl; drawn = refl }
  written_same None w said s r e = changed_same s r e

  moved_same : (w : Written) (said : Result A EndFault) (s : State) (r : Resource) (e : End) → IsSameLife e (changing w said s r e).end
  unfolding changing
  moved_same w said s r e = written_same (record_for s r) w said s r e

does_same : (o : Option State) (said : Result Heard EndFault) (w : Written) (e : End) (r : Resource) → IsSameLife e (does o said w e r).end
does_same (Some s) said w e r =
    let h = moved_same w said s r e in record { service = h.service; life = h.life; drawn = h.drawn }
does_same None said w e r = itself e

learns_same : (o : Option State) (w : Written) (e : End) (r : Resource) → IsSameLife e (learns_by o w e r).end
learns_same (Some s) w e r =
    let h = moved_same {A = Unit {0}} w (Ok tt) s r e in record { service = h.service; life = h.life; drawn = h.drawn }
learns_same None w e r = itself e

hears_same : (o : Option Resource) (h : Heard) (w : Written) (e : End) → IsSameLife e (learns_in o h w e).end
hears_same (Some r) h w e = learns_same (learnt r.state h) w e r
hears_same None h w e = itself e

either_same : {A : Type 0} (b : Bool) (x y : Called A) (e : End) → IsSameLife e x.end → IsSameLife e y.end → IsSameLife e (cond b x y).end
either_same true x y e h k = h
either_same false x y e h k = k

unheld_same : (o : Option Resource) (cell value : ℕ) (r : Resource) (e : End) → IsSameLife e (puts_unheld o cell value r e).end
unheld_same (Some holder) cell value r e = itself e
unheld_same None cell value r e =
    either_same (has_room cell r) (done (record e { resources = kept (with_cell cell value r) e.resources })) (refused _ e) e
    (record { service = refl; life = refl; drawn = refl }) (itself e)

unmade_same : (o : Option Resource) (e : End) → IsSameLife e (unmakes o e)
unmade_same (Some r) e = by (is_fresh r.state)
  where
    by : (b : Bool) → IsSameLife e (cond b (changes states.Forgotten r e) e)
    by true = changed_same states.Forgotten r e
    by false = itself e
unmade_same None e = itself e

counted : (b : Bool) (letter number : ℕ) (e : End) (x : List Resource) → (cond b (drawn e) (record (drawn e) { resources = x })).drawn ≡ e.drawn + 1
counted true letter number e x = refl
counted false letter number e x = refl

pub numbers_rise : NumbersRise
unfolding told learn choose_heuristic put refuse bind unmake reread
numbers_rise = record {
  key = λ letter e left. ap (λ c. c.answer) (fresh_made letter e left);
  counts = λ letter e left. ap (λ c. c.end.drawn) (fresh_made letter e left) ∙ counted (letter == synchronization_kind) letter (e.drawn + 1) e _;
  words = λ w key j e.
      let h : IsSameLife (unchanged e) (told w key j e).end =
      behind_same {A = Heard} (unchanged e) (reread_by e.doubted j.reread (unchanged e)) (λ later. on (named key later) later (obeys w j.written later))
      (reread_same j.reread e.doubted (unchanged e))
      (λ later. on_same (named key later) later (obeys w j.written later) (λ r. does_same (row w r.state).next (row w r.state).said j.written later r)) in
      record { service = h.service; life = h.life; drawn = h.drawn };
  learns = λ key h j e.
      let k : IsSameLife (unchanged e) (learn key h j e).end =
      behind_same {A = Unit {0}} (unchanged e) (reread_by e.doubted j.reread (unchanged e)) (λ later. learns_in (named key later) h j.written later)
      (reread_same j.reread e.doubted (unchanged e)) (λ later. hears_same (named key later) h j.written later) in
      record { service = k.service; life = k.life; drawn = k.drawn };
  chooses = λ key d j e.
      behind_same e (reread_by e.doubted j.reread e) _ (reread_same j.reread e.doubted e)
      (λ later. on_same (named key later) later (chooses d j.written later) (λ r.
      either_same (is_prepared r.state) (changing j.written (Ok tt) (choice d) r later) (refused _ later) later (moved_same j.written (Ok tt) (choice d) r later) (itself later)));
  puts = λ key cell value j e.
      behind_same e (reread_by e.doubted j.reread e) _ (reread_same j.reread e.doubted e)
      (λ later. on_same (named key later) later (puts cell value later) (λ r.
      either_same (is_open r.state) (puts_unheld (other_holder r cell later) cell value r later) (refused _ later) later
      (unheld_same (other_holder r cell later) cell value r later) (itself later)));
  refuses = λ key j e.
      behind_same e (reread_by e.doubted j.reread e) _ (reread_same j.reread e.doubted e)
      (λ later. on_same (named key later) later (refuses later) (λ r.
      either_same (is_open r.state) (done (changes _ r later)) (refused _ later) later (changed_same _ r later) (itself later)));
  binds = λ key recovery e.
      on_same (named key e) e _ (λ r. record { service = refl; life = refl; drawn = refl });
  unmakes = λ key e. unmade_same (named key e) e;
}
