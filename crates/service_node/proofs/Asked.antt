-- What a journal has found once it was asked for the Done of a record, and what is held then.
use Rattle.std.proofs.Common.{◌≡◌, ◌∙◌, inl, inr, ℕ, Bool, true, false, cond, List, [], ◌∷◌, length, Option, Some, None, refl, sym, ap, subst}
use Rattle.std.specs.Prelude.{IfSome}
use Rattle.std.specs.List.{filter}
use Rattle.ots_model.specs.declared.completion.Stood.TheVariants as answers
use Rattle.ots_outside.specs.Disk.{DiskState}
use Rattle.decision_journal.specs.declared.journal.JournalFault.{JournalFault}
use Rattle.decision_journal.specs.declared.journal.JournalFault.TheVariants.{DiskFault, Full, BadHeader, BadRecord, LivesSpent, Memory}
use Rattle.decision_journal.specs.declared.record.JournalRecord.{JournalRecord}
use Rattle.decision_journal.specs.declared.record.JournalRecord.TheVariants.{Done}
use Rattle.decision_journal.specs.Calls.{HasAppended, HasDone, HasDoubt, IsAfterDone, IsReady, IsRefusedAppend, IsUnready}
use Rattle.decision_journal.specs.Journal.{Found, with_record}
use Rattle.decision_journal.specs.State.{IsReadFault, JournalState, MayFind}
use Rattle.recovery_coord.specs.Held.{Recoveries, without}
use Rattle.recovery_coord.specs.declared.held.Held.{Held}
use Rattle.coordinator.specs.declared.effect.Effect.{Effect}
use Rattle.coordinator.specs.declared.effect.Effect.TheVariants as effects
use Rattle.coordinator.specs.NodeCalls.{done_told, records_with}
use Rattle.family_step.specs.Asking.{IsCaused, is_full, stood_by}
use Rattle.service_node.specs.Journaling.{HasConcluded, kept_after, still_stands}

-- ---- the journal was asked

-- a refusal lets go of nothing, and tells nothing
pub refused_records : (place : ℕ) (fault : JournalFault) (a b : ℕ) (rs : List Held) → records_with (Some place) (Some (stood_by fault a b)) rs ≡ rs
refused_records place DiskFault a b rs = refl
refused_records place (Full used need) a b rs = refl
refused_records place (BadHeader at) a b rs = refl
refused_records place (BadRecord at) a b rs = refl
refused_records place LivesSpent a b rs = refl
refused_records place Memory a b rs = refl

refused_told : (place : ℕ) (fault : JournalFault) (a b : ℕ) → done_told (Some place) (Some (stood_by fault a b)) ≡ []
refused_told place DiskFault a b = refl
refused_told place (Full used need) a b = refl
refused_told place (BadHeader at) a b = refl
refused_told place (BadRecord at) a b = refl
refused_told place LivesSpent a b = refl
refused_told place Memory a b = refl

-- a refusal has the cause of its fault
caused_by : (wants : Bool) (o : Option DiskState) (a b : ℕ) (fault : JournalFault) → IsReadFault wants o a b fault → IsCaused wants o a b (stood_by fault a b)
caused_by wants o a b DiskFault cause = cause
caused_by wants o a b (Full used need) cause = absurd cause
caused_by wants o a b (BadHeader at) cause = cause
caused_by wants o a b (BadRecord at) cause = cause
caused_by wants o a b LivesSpent cause = absurd cause
caused_by wants o a b Memory cause = cause

roomy_by : (wants : Bool) (o : Option DiskState) (a b : ℕ) (fault : JournalFault) → IsReadFault wants o a b fault → is_full fault ≡ false
roomy_by wants o a b DiskFault cause = refl
roomy_by wants o a b (Full used need) cause = absurd cause
roomy_by wants o a b (BadHeader at) cause = refl
roomy_by wants o a b (BadRecord at) cause = refl
roomy_by wants o a b LivesSpent cause = refl
roomy_by wants o a b Memory cause = refl

module _ {D : Type 0} (wants : Bool) (told : D → Option DiskState) (counts : D → ℕ) (before after : JournalState D) (held mid later : Recoveries) (place : ℕ) (failed : Bool) (happened : List Effect) where
  all : (rs : List Held) → failed ≡ before.failed → mid ≡ record held { records = rs }
      → later ≡ record mid { records = cond failed (filter (still_stands after.found) mid.records) mid.records }
      → later ≡ record held { records = kept_after before.failed after.found rs }
  all rs same mid_is later_is =
      later_is
      ∙ ap (λ (x : Recoveries). record x { records = cond failed (filter (still_stands after.found) x.records) x.records }) mid_is
      ∙ ap (λ (b : Bool). record held { records = cond b (filter (still_stands after.found) rs) rs }) same

  pub concluded : (stands : Bool) → failed ≡ before.failed → (stands ≡ true → IsAfterDone told before after place)
      → (stands ≡ false → (fault : JournalFault) × (IsRefusedAppend told before (Done place) after fault
      × IsReadFault wants (told after.disk) (counts before.disk) (counts after.disk) fault))
      → mid ≡ record held { records = cond stands (without place held.records) held.records }
      → happened ≡ cond stands (effects.Done ∷ []) []
      → later ≡ record mid { records = cond failed (filter (still_stands after.found) mid.records) mid.records }
      → HasConcluded wants told counts (Some place) before after held later happened
  concluded true same done refused mid_is happened_is later_is = record {
    stood = Some (answers.Stands place);
    caused = tt;
    asked = inl (record { done = done refl; stood_is = refl });
    later_is = all (without place held.records) same mid_is later_is;
    happened_is = happened_is;
  }
  concluded false same done refused mid_is happened_is later_is =
      let r = refused refl in
      let a = counts before.disk in
      let b = counts after.disk in
      record {
        stood = Some (stood_by r.0 a b);
        caused = caused_by wants (told after.disk) a b r.0 r.1.1;
        asked = inr (record { fault = r.0; left = r.1.0; stood_is = refl; roomy = roomy_by wants (told after.disk) a b r.0 r.1.1 });
        later_is = all held.records same mid_is later_is
            ∙ ap (λ (xs : List Held). record held { records = kept_after before.failed after.found xs }) (sym (refused_records place r.0 a b held.records));
        happened_is = happened_is ∙ sym (refused_told place r.0 a b);
      }

-- ---- what it has found then

-- no life is in doubt
abbrev pub Stays : Found → Option JournalRecord → Type 0
Stays found doubted = IfSome doubted (λ r. (place : ℕ) → (with_record found place r).life ≡ found.life)

same_life : (octets more : List ℕ) (found after : Found) (doubted : Option JournalRecord) → MayFind octets found doubted more after → Stays found doubted → after.life ≡ found.life
same_life octets more found after None known stays = ap (λ (f : Found). f.life) known.1
same_life octets more found after (Some r) known stays = elim known [
  | inl as_known ↦ ap (λ (f : Found). f.life) as_known.1
  | inr with_it ↦ ap (λ (f : Found). f.life) with_it.1 ∙ stays (length octets)
]

pub same_found : (octets more : List ℕ) (found after : Found) (doubted : Option JournalRecord) → MayFind octets found doubted more after → doubted ≡ None → after ≡ found
same_found octets more found after None known sure = known.1
same_found octets more found after (Some r) known sure = absurd cc

no_doubt : (found : Found) (doubted : Option JournalRecord) → doubted ≡ None → Stays found doubted
no_doubt found doubted sure = subst (Stays found) (sym sure) tt

-- a record that begins no life
abbrev pub KeepsLife : JournalRecord → Type 0
KeepsLife r = (found : Found) (place : ℕ) → (with_record found place r).life ≡ found.life

-- what a call leaves of a journal, whatever it answered
pub record Leaves {D : Type 0} (before after : JournalState D) : Type 0 where
  pub service : after.service ≡ before.service
  pub life : after.found.life ≡ before.found.life
  pub stays : Stays after.found after.doubted

module _ {D : Type 0} (told : D → Option DiskState) (before after : JournalState D) (stays : Stays before.found before.doubted) where
  ready_leaves : (ready : JournalState D) → IsReady told before ready → Leaves before ready
  ready_leaves ready is = record {
    service = is.journal.service;
    life = same_life before.octets ready.octets before.found ready.found before.doubted is.journal.known stays;
    stays = no_doubt ready.found ready.doubted is.journal.doubted;
  }

  unready_leaves : IsUnready told before after → Leaves before after
  unready_leaves un = record {
    service = un.journal.service;
    life = ap (λ (f : Found). f.life) un.journal.found;
    stays = subst (λ (f : Found). Stays f after.doubted) (sym un.journal.found) (subst (Stays before.found) (sym un.journal.doubted) stays);
  }

  doubt_leaves : (r : JournalRecord) → KeepsLife r → HasDoubt told before r after → Leaves before after
  doubt_leaves r keeps d =
      let ready = ready_leaves d.ready d.is_ready in
      record {
        service = d.doubt.journal.service ∙ ready.service;
        life = ap (λ (f : Found). f.life) d.doubt.journal.found ∙ ready.life;
        stays = subst (Stays after.found) (sym d.doubt.journal.doubted) (λ at. keeps after.found at);
      }

  done_leaves : (place : ℕ) → HasDone told before after place → Leaves before after
  done_leaves place d =
      let ready = ready_leaves d.ready d.is_ready in
      record {
        service = d.appended.journal.service ∙ ready.service;
        life = ap (λ (f : Found). f.life) d.appended.journal.found_is ∙ ready.life;
        stays = no_doubt after.found after.doubted d.appended.journal.doubted;
      }

  pub after_leaves : (place : ℕ) → IsAfterDone told before after place → Leaves before after
  after_leaves place d = elim d [ inl has ↦ done_leaves place has | inr none ↦ ready_leaves after none.ready ]

  pub refused_leaves : (r : JournalRecord) (fault : JournalFault) → KeepsLife r → IsRefusedAppend told before r after fault → Leaves before after
  refused_leaves r DiskFault keeps left = elim left [ inl un ↦ unready_leaves un | inr doubt ↦ doubt_leaves r keeps doubt ]
  refused_leaves r (Full u n) keeps left = ready_leaves after left.0
  refused_leaves r (BadHeader at) keeps left = unready_leaves left
  refused_leaves r (BadRecord at) keeps left = unready_leaves left
  refused_leaves r LivesSpent keeps left = absurd left
  refused_leaves r Memory keeps left = elim left [ inl un ↦ unready_leaves un | inr doubt ↦ doubt_leaves r keeps doubt ]

  pub appended_leaves : (r : JournalRecord) (place : ℕ) → KeepsLife r → HasAppended told before r after place → Leaves before after
  appended_leaves r place keeps d =
      let ready = ready_leaves d.ready d.is_ready in
      record {
        service = d.appended.journal.service ∙ ready.service;
        life = ap (λ (f : Found). f.life) d.appended.journal.found_is ∙ keeps d.ready.found (length d.ready.octets) ∙ ready.life;
        stays = no_doubt after.found after.doubted d.appended.journal.doubted;
      }
