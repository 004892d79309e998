-- The life of a node stays, its numbers rise, and a load begins the next life.
use Rattle.std.proofs.Common.{◌≡◌, ◌∙◌, refl, sym, ap, subst, ℕ, ◌+◌, Bool, true, false, List, [], ◌∷◌, ◌++◌, length, Option, Some, None, Ok, arith, if◌then◌else◌}
use Rattle.std.specs.Prelude.{nat_lt}
use Rattle.std.specs.Option.{option_and_then, option_map}
use Rattle.ior_refs.specs.declared.key.ObjectKey.{ObjectKey}
use Rattle.ots_model.specs.declared.completion.CallNumber.{CallNumber}
use Rattle.ots_model.specs.declared.completion.Stood.{Stood}
use Rattle.ots_model.specs.declared.completion.Stood.TheVariants as answers
use Rattle.ots_model.specs.declared.tree.Heard.{Heard}
use Rattle.decision_journal.specs.Journal.{Found, found_in, nothing_found, first_gate, with_record, with_records}
use Rattle.decision_journal.specs.Layout.{record_octets}
use Rattle.decision_journal.specs.declared.record.JournalRecord.{JournalRecord}
use Rattle.decision_journal.specs.declared.record.JournalRecord.TheVariants.{Life}
use Rattle.recovery_coord.specs.Held.{is_held}
use Rattle.recovery_coord.specs.Hearing.{completed}
use Rattle.coordinator.specs.declared.event.Event.{Event}
use Rattle.coordinator.specs.declared.node.NodeFault.TheVariants as faults
use Rattle.coordinator.specs.declared.said.Said.{Said}
use Rattle.coordinator.specs.Family.{Family}
use Rattle.coordinator.specs.Hearing.{decision_record}
use Rattle.coordinator.specs.Limits.{generation_limit}
use Rattle.coordinator.specs.Step.{Stepped, family_step, Wanted, Appends, WritesDone, Rereads, wanted}
use Rattle.coordinator.specs.Node.{Node, life}
use Rattle.coordinator.specs.NodeSlots.{makes, makes_in, makes_no_family, with_new, next_key, free_slot}
use Rattle.coordinator.specs.NodeRecords.{record_of, record_says}
use Rattle.coordinator.specs.History.{has_room}
use Rattle.coordinator.specs.NodeCalls.{RetoldAnswer, retold_answer, journaled, steps_to, refuses, replies, records_hear, hears_record, by_records, answers_recovered, family_for, applied_by, applies}
use Rattle.coordinator.specs.NodeTick.{ticks}
use Rattle.coordinator.specs.NodeLaws.{NodeBecomes, by_making, by_call, by_tick, still, further, KeepsNumbers, NodesKeepNumbers, KeysAreNew, LivesRise}
use Rattle.coordinator.proofs.Outcomes.{appended_draft}

-- ---- lives

last_life : (found : Found) (place : ℕ) (rs : List JournalRecord) (l : ℕ) → (with_records found place (rs ++ Life l ∷ [])).life ≡ l
last_life found place [] l = refl
last_life found place (r ∷ rs) l = last_life (with_record found place r) (place + length (record_octets r)) rs l

pub lives_rise : LivesRise
lives_rise service records = last_life nothing_found first_gate records ((found_in records).life + 1)

-- ---- numbers

same : (n : Node) → KeepsNumbers n n
same n = record { same_life = refl; rises = omega arith }

made_in : (b : Bool) (slot : ℕ) (make : ObjectKey → Family) (n : Node)
    → KeepsNumbers n (if b then record { node = with_new make slot n; answer = Ok (next_key n slot) } else makes_no_family n).node
made_in true slot make n = record { same_life = refl; rises = omega arith }
made_in false slot make n = same n

made : (o : Option ℕ) (make : ObjectKey → Family) (n : Node) → KeepsNumbers n (makes_in o make n).node
made None make n = same n
made (Some slot) make n = made_in (nat_lt n.generation generation_limit) slot make n

-- the journal's answer begins no life
keeps_life : (w : Option Wanted) (stood : Option Stood) (found : Found)
    → ((item : JournalRecord) (place : ℕ) → w ≡ Some (Appends item) → (with_record found place item).life ≡ found.life)
    → (journaled w stood found).life ≡ found.life
keeps_life None stood found h = refl
keeps_life (Some (Appends item)) None found h = refl
keeps_life (Some (Appends item)) (Some (answers.Stands place)) found h = h item place refl
keeps_life (Some (Appends item)) (Some (answers.Full used need)) found h = refl
keeps_life (Some (Appends item)) (Some (answers.Unsure why)) found h = refl
keeps_life (Some (WritesDone named)) None found h = refl
keeps_life (Some (WritesDone named)) (Some (answers.Stands place)) found h = refl
keeps_life (Some (WritesDone named)) (Some (answers.Full used need)) found h = refl
keeps_life (Some (WritesDone named)) (Some (answers.Unsure why)) found h = refl
keeps_life (Some Rereads) stood found h = refl

decision_keeps_life : (f : Family) (found : Found) (place : ℕ) → (with_record found place (decision_record f)).life ≡ found.life
unfolding decision_record
decision_keeps_life f found place = refl

step_keeps_life : (f : Family) (e : Event) (stood : Option Stood) (found : Found) → (journaled (wanted f e) stood found).life ≡ found.life
step_keeps_life f e stood found = keeps_life (wanted f e) stood found (λ item place is.
    let by = appended_draft f e item is in
    subst (λ (r : JournalRecord). (with_record found place r).life ≡ found.life) (sym by.is_record) (decision_keeps_life by.heard found place))

done_keeps_life : (o : Option ℕ) (stood : Option Stood) (found : Found) → (journaled (option_map WritesDone o) stood found).life ≡ found.life
done_keeps_life None stood found = refl
done_keeps_life (Some place) stood found = keeps_life (Some (WritesDone place)) stood found (λ item at is. absurd (cc (is)))

by_room : (b : Bool) (f : Family) (e : Event) (stood : Option Stood) (s : Stepped) (n : Node)
    → KeepsNumbers n (if b then steps_to n f e stood s else refuses faults.NoResources n).node
by_room true f e stood s n = record { same_life = step_keeps_life f e stood n.found; rises = omega arith }
by_room false f e stood s n = same n

replied : (o : Option Said) (n : Node) → KeepsNumbers n (replies o n).node
replied (Some answer) n = same n
replied None n = same n

heard_by : (b : Bool) (number : CallNumber) (h : Heard) (stood : Option Stood) (n : Node)
    → KeepsNumbers n (if b then records_hear number h stood n else refuses faults.ObjectNotExist n).node
heard_by true number h stood n = record { same_life = done_keeps_life (completed (life n) number h n.recovered) stood n.found; rises = omega arith }
heard_by false number h stood n = same n

recovered_by : (o : Option RetoldAnswer) (k : ObjectKey) (e : Event) (stood : Option Stood) (n : Node) → KeepsNumbers n (by_records o k e stood n).node
unfolding hears_record
recovered_by (Some a) k e stood n = heard_by (is_held a.number.generation n.recovered) a.number a.heard stood n
recovered_by None k e stood n = replied (option_and_then (record_says k e.key e.act) (record_of k n)) n

called : (o : Option Family) (k : ObjectKey) (e : Event) (stood : Option Stood) (n : Node) → KeepsNumbers n (applied_by o k e stood n).node
unfolding answers_recovered
called (Some f) k e stood n = by_room (has_room f.entries e) f e stood (family_step f e stood) n
called None k e stood n = recovered_by (retold_answer e.act) k e stood n

becomes : (n later : Node) → NodeBecomes n later → KeepsNumbers n later
unfolding makes applies ticks
becomes _ _ (by_making make n) = made (free_slot n) make n
becomes _ _ (by_call k e stood n) = called (family_for k e n) k e stood n
becomes _ _ (by_tick now n) = record { same_life = refl; rises = omega arith }

pub keep_numbers : NodesKeepNumbers
keep_numbers n _ still = same n
keep_numbers n _ (further between later before b) =
    let first : KeepsNumbers n between = keep_numbers n between before in
    let second : KeepsNumbers between later = becomes between later b in
    record { same_life = second.same_life ∙ first.same_life; rises = omega (arith, first.rises, second.rises) }

-- a key that is given is the next one
record IsNext (k : ObjectKey) (n later : Node) : Type 0 where
  pub of_life : k.life ≡ life n
  pub number : k.generation ≡ n.generation + 1
  pub given : later.generation ≡ n.generation + 1
  pub same_life : life later ≡ life n

next_in : (b : Bool) (slot : ℕ) (make : ObjectKey → Family) (n : Node) (k : ObjectKey)
    → (if b then record { node = with_new make slot n; answer = Ok (next_key n slot) } else makes_no_family n).answer ≡ Ok k
    → IsNext k n (if b then record { node = with_new make slot n; answer = Ok (next_key n slot) } else makes_no_family n).node
next_in true slot make n k e =
    let is : next_key n slot ≡ k = cc (e) in
    record {
      of_life = ap (λ (x : ObjectKey). x.life) (sym is);
      number = ap (λ (x : ObjectKey). x.generation) (sym is);
      given = refl;
      same_life = refl;
    }
next_in false slot make n k e = absurd (cc (e))

next_by : (o : Option ℕ) (make : ObjectKey → Family) (n : Node) (k : ObjectKey)
    → (makes_in o make n).answer ≡ Ok k → IsNext k n (makes_in o make n).node
next_by None make n k e = absurd (cc (e))
next_by (Some slot) make n k e = next_in (nat_lt n.generation generation_limit) slot make n k e

next : (make : ObjectKey → Family) (n : Node) (k : ObjectKey) → (makes make n).answer ≡ Ok k → IsNext k n (makes make n).node
unfolding makes
next make n k e = next_by (free_slot n) make n k e

pub keys_are_new : KeysAreNew
keys_are_new make other n later first second made_first goes_on made_second =
    let one : IsNext first n (makes make n).node = next make n first made_first in
    let two : IsNext second later (makes other later).node = next other later second made_second in
    let between : KeepsNumbers (makes make n).node later = keep_numbers (makes make n).node later goes_on in
    record {
      same_life = two.of_life ∙ between.same_life ∙ one.same_life ∙ sym one.of_life;
      greater = omega (arith, one.number, one.given, between.rises, two.number);
    }
