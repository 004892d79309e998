-- What each call makes of each cell.
use Rattle.std.proofs.Common.{◌≡◌, ◌∙◌, ℕ, Bool, true, false, cond, List, Option, Some, None, refl, ap}
use Rattle.std.specs.Prelude.{◌+◌, ◌==◌, ◌&&◌, is_some, Result, Ok}
use Rattle.std.proofs.lemmas.Bool.{both_ways}
use Rattle.ots_model.specs.declared.line.Decision.{Decision}
use Rattle.ots_model.specs.declared.tree.Heard.{Heard}
use Rattle.decision_journal.specs.declared.record.JournalRecord.{JournalRecord}
use Rattle.resource_end.specs.declared.fault.EndFault.{EndFault}
use Rattle.resource_end.specs.declared.fault.EndFault.TheVariants as faults
use Rattle.resource_end.specs.declared.state.State.{State}
use Rattle.resource_end.specs.declared.state.State.TheVariants as states
use Rattle.resource_end.specs.declared.state.Word.{Word}
use Rattle.resource_end.specs.Limits.{synchronization_kind}
use Rattle.resource_end.specs.States.{holds, is_prepared, learnt, stores}
use Rattle.resource_end.specs.Table.{row}
use Rattle.resource_end.specs.End.{End, Resource, changes, kept, named, other_holder, record_for, stored, with_place}
use Rattle.resource_end.specs.Recall.{Reread, reread, reread_by}
use Rattle.resource_end.specs.Calls.{Called, Written, StandsAt, Unwritten, InDoubt, answers, behind, bind, changes_with, changing, choice, choose_heuristic, chooses, does, done, drawn, fresh, has_room, is_fresh, is_open, is_spent, key_of, learn, learns_by, learns_in, new_resource, obeys, on, put, puts, puts_unheld, refuse, refused, refuses, told, unchanged, unmake, unmakes, with_cell, with_object}
use Rattle.resource_end.specs.Laws.{CellsAreApplied, cell_behind, cell_by, chosen, is_carried, next, stored_by}
use Rattle.resource_end.proofs.Stored.{changes_store_once}

-- a resource with the place of its record has put the same
flag_placed : (b : Bool) (cell place : ℕ) (r : Resource) (e : End) → stored_by b cell (record r { record_place = Some place }) e ≡ stored_by b cell r e
flag_placed true cell place r e = refl
flag_placed false cell place r e = refl

placed_same : (s : State) (cell place : ℕ) (r : Resource) (e : End)
    → stored_by (stores (with_place s place r).state s) cell (with_place s place r) e ≡ stored_by (stores r.state s) cell r e
placed_same states.Prepared cell place r e = flag_placed (stores r.state states.Prepared) cell place r e
placed_same _ cell place r e = refl

-- what the last word made of its resource is no matter of cells
flag_fresh : (b : Bool) (cell : ℕ) (r : Resource) (e : End) → stored_by b cell r (unchanged e) ≡ stored_by b cell r e
flag_fresh true cell r e = refl
flag_fresh false cell r e = refl

fresh_same : (o : Option State) (w : Written) (r : Resource) (cell : ℕ) (e : End) → cell_behind o w r cell (unchanged e) ≡ cell_behind o w r cell e
fresh_same (Some s) w r cell e = flag_fresh (is_carried (record_for s r) w && stores r.state s) cell r e
fresh_same None w r cell e = refl

-- a change into a state in which nothing is stored
never : (b : Bool) (cell : ℕ) (r : Resource) (e : End) → stored_by (b && false) cell r e ≡ stored cell e
never true cell r e = refl
never false cell r e = refl

module _ {A : Type 0} where
  behind_cell : (e : End) (doubted : Option JournalRecord) (found : Reread) (then : End → Called A) (cell : ℕ) → doubted ≡ None
      → stored cell (behind (reread_by doubted found e) e then).end ≡ stored cell (then e).end
  behind_cell e None found then cell none = refl
  behind_cell e (Some r) found then cell none = absurd (both_ways (is_some (Some r)) (ap is_some none) refl)

  written_cell : (o : Option JournalRecord) (w : Written) (said : Result A EndFault) (s : State) (r : Resource) (e : End) (cell : ℕ)
      → stored cell (changes_with o w said s r e).end ≡ stored_by (is_carried o w && stores r.state s) cell r e
  written_cell (Some item) (StandsAt place) said s r e cell = changes_store_once s (with_place s place r) e cell ∙ placed_same s cell place r e
  written_cell (Some item) (Unwritten fault) said s r e cell = refl
  written_cell (Some item) (InDoubt fault) said s r e cell = refl
  written_cell None w said s r e cell = changes_store_once s r e cell

  moved_cell : (w : Written) (said : Result A EndFault) (s : State) (r : Resource) (e : End) (cell : ℕ)
      → stored cell (changing w said s r e).end ≡ cell_behind (Some s) w r cell e
  unfolding changing
  moved_cell w said s r e cell = written_cell (record_for s r) w said s r e cell

  either_cell : (b : Bool) (x y : Called A) (cell : ℕ) (had : Option ℕ) → stored cell x.end ≡ had → stored cell y.end ≡ had → stored cell (cond b x y).end ≡ had
  either_cell true x y cell had h k = h
  either_cell false x y cell had h k = k

  on_cell : (o : Option Resource) (e : End) (act : Resource → Called A) (cell : ℕ) → ((r : Resource) → stored cell (act r).end ≡ stored cell e)
      → stored cell (on o e act).end ≡ stored cell e
  on_cell (Some r) e act cell h = h r
  on_cell None e act cell h = refl

-- ---- words, answers and choices

abbrev plain : Result (Unit {0}) EndFault
plain = Ok tt

does_cell : (o : Option State) (said : Result Heard EndFault) (w : Written) (e : End) (r : Resource) (cell : ℕ)
    → stored cell (does o said w e r).end ≡ cell_behind o w r cell e
does_cell (Some s) said w e r cell = moved_cell w said s r e cell
does_cell None said w e r cell = refl

obeyed : (o : Option Resource) (w : Word) (written : Written) (e : End) (cell : ℕ)
    → stored cell (on o (unchanged e) (obeys w written (unchanged e))).end ≡ cell_by (next w) o written cell e
obeyed (Some r) w written e cell =
    does_cell (row w r.state).next (row w r.state).said written (unchanged e) r cell ∙ fresh_same (row w r.state).next written r cell e
obeyed None w written e cell = refl

learns_cell : (o : Option State) (w : Written) (e : End) (r : Resource) (cell : ℕ) → stored cell (learns_by o w e r).end ≡ cell_behind o w r cell e
learns_cell (Some s) w e r cell = moved_cell w plain s r e cell
learns_cell None w e r cell = refl

hears_cell : (o : Option Resource) (h : Heard) (w : Written) (e : End) (cell : ℕ)
    → stored cell (learns_in o h w (unchanged e)).end ≡ cell_by (λ s. learnt s h) o w cell e
hears_cell (Some r) h w e cell = learns_cell (learnt r.state h) w (unchanged e) r cell ∙ fresh_same (learnt r.state h) w r cell e
hears_cell None h w e cell = refl

chooses_by : (b : Bool) (d : Decision) (w : Written) (e : End) (r : Resource) (cell : ℕ)
    → stored cell (cond b (changing w plain (choice d) r e) (refused faults.Inactive e)).end ≡ cell_behind (cond b (Some (choice d)) None) w r cell e
chooses_by true d w e r cell = moved_cell w plain (choice d) r e cell
chooses_by false d w e r cell = refl

chosen_cell : (o : Option Resource) (d : Decision) (w : Written) (e : End) (cell : ℕ) → stored cell (on o e (chooses d w e)).end ≡ cell_by (chosen d) o w cell e
chosen_cell (Some r) d w e cell = chooses_by (is_prepared r.state) d w e r cell
chosen_cell None d w e cell = refl

-- ---- the other calls

unheld_cell : (o : Option Resource) (place value : ℕ) (r : Resource) (e : End) (cell : ℕ) → stored cell (puts_unheld o place value r e).end ≡ stored cell e
unheld_cell (Some holder) place value r e cell = refl
unheld_cell None place value r e cell =
    either_cell (has_room place r) (done (record e { resources = kept (with_cell place value r) e.resources })) (refused faults.NoResources e) cell (stored cell e) refl refl

puts_cell : (place value : ℕ) (e : End) (r : Resource) (cell : ℕ) → stored cell (puts place value e r).end ≡ stored cell e
puts_cell place value e r cell =
    either_cell (is_open r.state) (puts_unheld (other_holder r place e) place value r e) (refused faults.Inactive e) cell (stored cell e)
    (unheld_cell (other_holder r place e) place value r e cell) refl

refuses_cell : (e : End) (r : Resource) (cell : ℕ) → stored cell (refuses e r).end ≡ stored cell e
refuses_cell e r cell =
    either_cell (is_open r.state) (done (changes states.Refused r e)) (refused faults.Inactive e) cell (stored cell e)
    (changes_store_once states.Refused r e cell ∙ never (holds r.state) cell r e) refl

unmade_cell : (o : Option Resource) (e : End) (cell : ℕ) → stored cell (unmakes o e) ≡ stored cell e
unmade_cell (Some r) e cell = by (is_fresh r.state)
  where
    by : (b : Bool) → stored cell (cond b (changes states.Forgotten r e) e) ≡ stored cell e
    by true = changes_store_once states.Forgotten r e cell ∙ never (holds r.state) cell r e
    by false = refl
unmade_cell None e cell = refl

object_cell : (b : Bool) (e : End) (rs : List Resource) (cell : ℕ) → stored cell (cond b (drawn e) (record (drawn e) { resources = rs })) ≡ stored cell e
object_cell true e rs cell = refl
object_cell false e rs cell = refl

made_cell : (b : Bool) (letter : ℕ) (e : End) (cell : ℕ)
    → stored cell (cond b (refused faults.NoResources e) (answers (Ok (key_of letter (e.drawn + 1) e)) (with_object letter (e.drawn + 1) e))).end ≡ stored cell e
made_cell true letter e cell = refl
made_cell false letter e cell = object_cell (letter == synchronization_kind) e (kept (new_resource letter (e.drawn + 1) e) e.resources) cell

pub cells_are_applied : CellsAreApplied
unfolding told learn choose_heuristic put refuse bind unmake fresh reread
cells_are_applied = record {
  words = λ w key j e cell none.
      behind_cell {A = Heard} (unchanged e) e.doubted j.reread (λ later. on (named key later) later (obeys w j.written later)) cell none
      ∙ obeyed (named key e) w j.written e cell;
  learns = λ key h j e cell none.
      behind_cell {A = Unit {0}} (unchanged e) e.doubted j.reread (λ later. learns_in (named key later) h j.written later) cell none
      ∙ hears_cell (named key e) h j.written e cell;
  chooses = λ key d j e cell none.
      behind_cell {A = Unit {0}} e e.doubted j.reread (λ later. on (named key later) later (chooses d j.written later)) cell none
      ∙ chosen_cell (named key e) d j.written e cell;
  puts = λ key place value j e cell none.
      behind_cell {A = Unit {0}} e e.doubted j.reread (λ later. on (named key later) later (puts place value later)) cell none
      ∙ on_cell (named key e) e (puts place value e) cell (λ r. puts_cell place value e r cell);
  refuses = λ key j e cell none.
      behind_cell {A = Unit {0}} e e.doubted j.reread (λ later. on (named key later) later (refuses later)) cell none
      ∙ on_cell (named key e) e (refuses e) cell (λ r. refuses_cell e r cell);
  binds = λ key recovery e cell. on_cell {A = Unit {0}} (named key e) e _ cell (λ r. refl);
  unmakes = λ key e cell. unmade_cell (named key e) e cell;
  makes = λ letter e cell. made_cell (is_spent letter e) letter e cell;
}
