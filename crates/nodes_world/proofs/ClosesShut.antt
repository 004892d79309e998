-- A node in which the Done of a family's decision was asked for: so the family is in its slot, and once the Done is written all else
-- stands still.
use Rattle.std.proofs.Common.{◌≡◌, ◌≢◌, ◌⊎◌, inl, inr, ℕ, ◌<◌, ◌≤◌, zero, suc, true, length, List, [], ◌∷◌, position, slice_set, Contains, Option, Some, None, refl, sym, ap, subst, ◌∙◌, arith}
use Rattle.std.specs.List.{remove}
use Rattle.ots_model.specs.declared.completion.Stood.{Stood}
use Rattle.ots_model.specs.declared.completion.Stood.TheVariants as answers
use Rattle.decision_journal.specs.Journal.{Found, is_decision, is_decision_at, taken_away}
use Rattle.decision_journal.specs.declared.journal.Standing.{Standing}
use Rattle.decision_journal.specs.declared.record.JournalRecord.{JournalRecord}
use Rattle.decision_journal.specs.declared.record.JournalRecord.TheVariants.{Life, Decision, Done, Prepared, CellsPrepared, CellsOutcome, CellsOnePhase}
use Rattle.recovery_coord.specs.declared.held.Held.{Held}
use Rattle.coordinator.specs.Family.{Family}
use Rattle.coordinator.specs.Node.{Node, family_in, with_family}
use Rattle.coordinator.specs.NodeCalls.{journaled}
use Rattle.coordinator.specs.Step.{WritesDone}
use Rattle.family_laws.specs.OwnDecisions.{HasDecision, IsUnclosed, KeepsDecisions, StandsAt}
use Rattle.family_laws.specs.SoundNode.{AreInOrder, IsDecisionOf, IsSoundNode}
use Rattle.nodes_world.proofs.DoneKnown.{stands_still}
use Rattle.nodes_world.proofs.KnownFamilies.{all_at}
use Rattle.nodes_world.proofs.SameRecords.{as_far_keeps}
use Rattle.nodes_world.proofs.SoundNodes.{all_of}
use Rattle.nodes_world.proofs.StepSeats as seats

-- ---- what stands once a Done is written, stood before

was_in : {A : Type 0} (xs : List A) (i : ℕ) (x : A) → Contains (remove xs i) x → Contains xs x
was_in [] zero x c = c
was_in [] (suc i) x c = c
was_in (y ∷ xs) zero x (j, less, is) = (suc j, omega (arith, less), is)
was_in (y ∷ xs) (suc i) x (zero, less, is) = (0, omega arith, is)
was_in (y ∷ xs) (suc i) x (suc j, less, is) =
    let at = was_in xs i x (j, omega (arith, less), is) in
    let l = at.1 in
    (suc at.0, omega (arith, l), at.2)

was_among : (o : Option ℕ) (standing : List Standing) (x : Standing) → Contains (taken_away o standing) x → Contains standing x
was_among None standing x c = c
was_among (Some i) standing x c = was_in standing i x c

was_standing : (done : ℕ) (stood : Option Stood) (found : Found) (x : Standing) → Contains (journaled (Some (WritesDone done)) stood found).standing x
    → Contains found.standing x
was_standing done (Some (answers.Stands at)) found x c = was_among (position (is_decision_at done) found.standing) found.standing x c
was_standing done (Some (answers.Full used need)) found x c = c
was_standing done (Some (answers.Unsure why)) found x c = c
was_standing done None found x c = c

-- and what stands at another place, stands still
pub is_standing : (done : ℕ) (stood : Option Stood) (found : Found) (x : Standing) → x.place ≢ done → Contains found.standing x
    → Contains (journaled (Some (WritesDone done)) stood found).standing x
is_standing done (Some (answers.Stands at)) found x other c = stands_still done found.standing x c other
is_standing done (Some (answers.Full used need)) found x other c = c
is_standing done (Some (answers.Unsure why)) found x other c = c
is_standing done None found x other c = c

same_life : (done : ℕ) (stood : Option Stood) (found : Found) → found.life ≡ (journaled (Some (WritesDone done)) stood found).life
same_life done (Some (answers.Stands at)) found = refl
same_life done (Some (answers.Full used need)) found = refl
same_life done (Some (answers.Unsure why)) found = refl
same_life done None found = refl

-- a record of which a family is the owner is a decision
pub own_decision : (f : Family) (r : JournalRecord) → IsDecisionOf f r → is_decision r ≡ true
own_decision f (Decision in_life slot generation by asked regs) own = refl
own_decision f (Life in_life) own = absurd own
own_decision f (Done named) own = absurd own
own_decision f (Prepared in_life slot generation recovery regs) own = absurd own
own_decision f (CellsPrepared in_life number recovery puts) own = absurd own
own_decision f (CellsOutcome named how) own = absurd own
own_decision f (CellsOnePhase in_life number puts) own = absurd own

-- one of another family is of another slot
one_slot : (f g : Family) (r : JournalRecord) → IsDecisionOf f r → IsDecisionOf g r → f.key.slot ≡ g.key.slot
one_slot f g (Decision in_life slot generation by asked regs) own other = own.1 ∙ sym other.1
one_slot f g (Life in_life) own other = absurd own
one_slot f g (Done named) own other = absurd own
one_slot f g (Prepared in_life slot generation recovery regs) own other = absurd own
one_slot f g (CellsPrepared in_life number recovery puts) own other = absurd own
one_slot f g (CellsOutcome named how) own other = absurd own
one_slot f g (CellsOnePhase in_life number puts) own other = absurd own

as_long : {A : Type 0} (xs : List A) (i : ℕ) (y : A) → length (slice_set xs i y) ≡ length xs
as_long [] i y = refl
as_long (z ∷ xs) zero y = refl
as_long (z ∷ xs) (suc i) y = ap suc (as_long xs i y)

-- it was asked for
abbrev pub shut : Family → Family
shut f = record f { closed = Some (answers.Stands 0) }

same_or_not : (a b : ℕ) → (a ≡ b) ⊎ (a ≢ b)
same_or_not a b = grind arith

inner : {A : Type 0} {a b : A} → Some a ≡ Some b → a ≡ b
inner e = cc

module _ (n : Node) (f : Family) (slotted : family_in n.families f.key.slot ≡ Some f) (edge : ℕ)
    (keeps : KeepsDecisions edge n) where
  abbrev pub shut_node : Node
  shut_node = with_family (shut f) n

  not_unclosed : {place : ℕ} {A : Type 0} → IsUnclosed (shut f) place → A
  not_unclosed u = absurd (no u.unasked)
    where
      no : {x : Stood} → Some x ≡ None → ⊥
      no e = cc

  pub shut_keeps : KeepsDecisions edge shut_node
  shut_keeps = as_far_keeps n f (shut f) slotted edge keeps
      (record { key = refl; sound = (keeps.sound.families f.key.slot f slotted).1; places = refl; unclosed = λ place u. not_unclosed u })

  -- ---- its Done is written

  module _ (done : ℕ) (stood : Option Stood) (decision : HasDecision n f done) (order : AreInOrder (journaled (Some (WritesDone done)) stood n.found).standing)
      (later : ℕ) (grows : edge ≤ later) where
    abbrev pub written_node : Node
    written_node = record shut_node { found = journaled (Some (WritesDone done)) stood n.found }

    pub not_at : (h : Held) → Contains n.recovered h → (x : Standing) → x.place ≡ h.place → x.place ≢ done
    not_at h c x same is = decision.untold h c (sym same ∙ is)

    held_still : (h : Held) → Contains n.recovered h → StandsAt written_node.found.standing h.place
    held_still h c =
        let was = keeps.held h c in
        record { stood = was.stood; there = is_standing done stood n.found was.stood (not_at h c was.stood was.at) was.there; at = was.at }

    unclosed_still : (slot : ℕ) (h : Family) → family_in shut_node.families slot ≡ Some h → (place : ℕ) → IsUnclosed h place → HasDecision written_node h place
    unclosed_still slot h there place u = elim (seats.slot_cases n f (shut f) refl slotted slot h there) [
      | inl here ↦ not_unclosed (subst (λ (y : Family). IsUnclosed y place) here.1 u)
      | inr other ↦
          let was = keeps.unclosed slot place h other.1 u in
          record {
            stood = was.stood;
            there = is_standing done stood n.found was.stood (λ same. other.0 (same_slot slot h other.1 place u was same)) was.there;
            at = was.at;
            own = was.own;
            untold = was.untold;
          }
    ]
      where
        same_slot : (slot : ℕ) (h : Family) → family_in n.families slot ≡ Some h → (place : ℕ) → IsUnclosed h place → (was : HasDecision n h place) → was.stood.place ≡ done
            → slot ≡ f.key.slot
        same_slot slot h at place u was same =
            let theirs : IsDecisionOf h decision.stood.item = keeps.own slot h decision.stood at decision.there
            (u.decided ∙ ap (λ (i : ℕ). Some i) (sym was.at ∙ same ∙ sym decision.at)) in
            sym (keeps.sound.families slot h at).0.own_slot ∙ one_slot h f decision.stood.item theirs decision.own

    sound_written : IsSoundNode written_node
    sound_written =
        let was = shut_keeps.sound in
        record {
          slots = was.slots;
          families = λ slot h at. let in_it = was.families slot h at in
              (record { of_service = in_it.0.of_service; of_life = in_it.0.of_life ∙ same_life done stood n.found; own_slot = in_it.0.own_slot; given = in_it.0.given }, in_it.1);
          last = was.last;
          numbers = was.numbers;
          order = order;
          decisions = λ x c is. was.decisions x (was_standing done stood n.found x c) is;
        }

    pub written_keeps : KeepsDecisions later written_node
    written_keeps = record {
      sound = sound_written;
      before = all_of (λ (x : Standing). x.place < later) written_node.found.standing
          (λ x c. let b = all_at (λ (y : Standing). y.place < edge) n.found.standing x keeps.before (was_standing done stood n.found x c) in omega (arith, b, grows));
      decided = λ slot place h at is. let b = shut_keeps.decided slot place h at is in omega (arith, b, grows);
      own = λ slot h x at c decided. shut_keeps.own slot h x at (was_standing done stood n.found x c) decided;
      held = held_still;
      unclosed = λ slot place h at u. unclosed_still slot h at place u;
    }
