-- A decision that a family appends is its own, and decides it.
use Rattle.std.proofs.Common.{◌≡◌, Option, Some, ap, sym, subst, ◌∙◌}
use Rattle.ior_refs.specs.declared.key.ObjectKey.{ObjectKey}
use Rattle.ots_model.specs.declared.completion.Stood.{Stood}
use Rattle.decision_journal.specs.declared.journal.Standing.{Standing}
use Rattle.decision_journal.specs.declared.record.JournalRecord.{JournalRecord}
use Rattle.two_phase.specs.LawsOfReached.{TreeOutcomeStays}
use Rattle.two_phase.specs.Stages as stages
use Rattle.coordinator.specs.declared.event.Event.{Event}
use Rattle.coordinator.specs.Family.{Family}
use Rattle.coordinator.specs.Hearing.{decision_record}
use Rattle.coordinator.specs.Step.{family_step, wanted, hears}
use Rattle.family_laws.specs.LawsOfJournal.{AppendsOwn}
use Rattle.family_laws.specs.SoundNode.{IsDecisionOf}
use Rattle.family_laws.specs.LawsBelow.{Laws}
use Rattle.family_laws.proofs.Journal.{families_append_own}
use Rattle.family_laws.proofs.Standing.{IsNew}
use Rattle.family_laws.proofs.StepsTell.{families_number_words}
use Rattle.family_laws.proofs.Votes.{hears_is}

-- the decision that a family appends is its own
record_own : (f g : Family) → f.key ≡ g.key → IsDecisionOf f (decision_record g)
unfolding decision_record
record_own f g e = (ap (λ (k : ObjectKey). k.life) e, ap (λ (k : ObjectKey). k.slot) e, ap (λ (k : ObjectKey). k.generation) e)

pub appended_own : Laws → TreeOutcomeStays → (f : Family) (e : Event) (stood : Option Stood) (s : Standing) → IsNew (wanted f e) stood s
    → IsDecisionOf (family_step f e stood).family s.item × (stages.record_place (family_step f e stood).family.completion ≡ Some s.place)
appended_own law stays f e stood s x =
    let a : AppendsOwn f e x.item = families_append_own law stays f e x.item x.wanted in
    let g : Family = (hears a.number a.heard f).family in
    let later : Family = (family_step f e stood).family in
    let key : later.key ≡ g.key = families_number_words.key f e stood ∙ sym (hears_is a.number a.heard f).told.key_stays in
    let own : IsDecisionOf later x.item = subst (λ (r : JournalRecord). IsDecisionOf later r) (sym a.is_record) (record_own later g key) in
    let at : stages.record_place later.completion ≡ Some x.place =
    subst (λ (o : Option Stood). stages.record_place (family_step f e o).family.completion ≡ Some x.place) (sym x.stands) (a.stands x.place) in
    (subst (λ (t : Standing). IsDecisionOf later t.item) (sym x.is) own, subst (λ (t : Standing). stages.record_place later.completion ≡ Some t.place) (sym x.is) at)
