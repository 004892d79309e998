-- A sound node is whole and holds each decision that stands, where what it holds is of records that stand.
use Rattle.std.proofs.Common.{◌≡◌, ◌⊎◌, inl, inr, ℕ, ◌==◌, ◌&&◌, ◌||◌, Bool, true, false, cond, is_some, IsTrue, List, [], ◌∷◌, Any, Contains, Option, Some, None, refl, sym, ap, subst, ◌∙◌, arith}
use Rattle.std.specs.List.{AllByRecursion}
use Rattle.std.specs.Option.{option_and_then}
use Rattle.std.proofs.lemmas.Bool.Decides.{nat_tests}
use Rattle.std.proofs.lemmas.List.Elements.{Contains-append_right}
use Rattle.ior_refs.specs.declared.key.ObjectKey.{ObjectKey}
use Rattle.ots_model.specs.declared.service.RetryKey.{RetryKey}
use Rattle.decision_journal.specs.declared.journal.Standing.{Standing}
use Rattle.decision_journal.specs.declared.record.JournalRecord.TheVariants.{Decision}
use Rattle.decision_journal.specs.declared.record.Registration.{Registration}
use Rattle.recovery_coord.specs.declared.held.Held.{Held}
use Rattle.coordinator.specs.Family.{Family}
use Rattle.coordinator.specs.Node.{Node, family_in, family_of, is_of, only_of}
use Rattle.coordinator.specs.NodeParts.{IsWhole}
use Rattle.family_laws.specs.HeldRecords.{IsOfStanding, WasHeld}
use Rattle.family_laws.specs.SoundNode.{HasFamilyOf, IsDecisionOf, IsSoundNode, is_family_decision}
use Rattle.nodes_world.specs.Agreement.{HoldsDecisions, recorded_key}
use Rattle.nodes_world.specs.Objects.{service_at}

-- what holds of each element
pub all_of : {A : Type 0} (P : A → Type 0) (xs : List A) → ((x : A) → Contains xs x → P x) → AllByRecursion P xs
all_of P [] each = tt
all_of P (x ∷ xs) each = (each x (0, omega arith, refl), all_of P xs (λ y among. each y (Contains-append_right (x ∷ []) xs y among)))

pub any_among : {A : Type 0} (P : A → Type 0) (xs : List A) (x : A) → Contains xs x → P x → Any P xs
any_among P xs x among is = (among.0, x, among.1, among.2, is)

-- what was held before, or stands, is of a record that stands
pub held_whole : (n c : Node) → c.found ≡ n.found → ((h : Held) → Contains n.recovered h → IsOfStanding n.found.standing h) → (h : Held)
    → WasHeld n.recovered h ⊎ IsOfStanding n.found.standing h → IsOfStanding c.found.standing h
held_whole n c same whole h (inl was) =
    let old = whole was.before was.there in
    record {
      stood = old.stood;
      there = subst (λ (found : _). Contains found.standing old.stood) (sym same) old.there;
      same_place = old.same_place ∙ was.same_place;
      numbers = was.numbers ∙ old.numbers;
      references = was.references ∙ old.references;
    }
held_whole n c same whole h (inr stands) = subst (λ (found : _). IsOfStanding found.standing h) (sym same) stands

module _ (place : ℕ) (c : Node) (service : c.service ≡ service_at place) (sound : IsSoundNode c)
    (whole : (h : Held) → Contains c.recovered h → IsOfStanding c.found.standing h) where
  in_slot : (key : ObjectKey) (slot : ℕ) (f : Family) → family_in c.families slot ≡ Some f → key.slot ≡ slot → is_of key f ≡ true → family_of key c ≡ Some f
  unfolding family_of
  in_slot key slot f at same is =
      ap (λ (i : ℕ). option_and_then (only_of key) (family_in c.families i)) same
      ∙ ap (λ (o : Option Family). option_and_then (only_of key) o) at ∙ ap (λ (b : Bool). cond b (Some f) None) is

  same_four : (a b d e p q r s : ℕ) → a ≡ p → b ≡ q → d ≡ r → e ≡ s → IsTrue (a == p && b == q && d == r && e == s)
  same_four a b d e p q r s one two three four = grind (arith, nat_tests)

  family_there : (stood : Standing) (life slot generation : ℕ) (retry : Option RetryKey) (asked : Bool) (regs : List Registration)
      → stood.item ≡ Decision life slot generation retry asked regs → HasFamilyOf c.families stood
      → is_some (family_of (recorded_key place life slot generation) c) ≡ true
  family_there stood life slot generation retry asked regs is has =
      let own : IsDecisionOf has.family (Decision life slot generation retry asked regs) = subst (IsDecisionOf has.family) is has.own in
      let seat = (sound.families has.slot has.family has.there).0 in
      ap is_some (in_slot (recorded_key place life slot generation) has.slot has.family has.there (sym own.1 ∙ seat.own_slot)
      (same_four _ _ _ _ _ _ _ _ (sym service ∙ sym seat.of_service) (sym own.0) (sym own.1) (sym own.2)))

  pub node_holds : HoldsDecisions place c
  node_holds = record {
    whole = whole;
    held = λ stood life slot generation retry asked regs among is. elim (sound.decisions stood among (ap is_family_decision is)) [
      | inl held ↦ ap (λ (b : Bool). b || is_some (family_of (recorded_key place life slot generation) c)) held
      | inr has ↦ or_last _ (family_there stood life slot generation retry asked regs is has)
    ];
  }
    where
      or_last : {b : Bool} (a : Bool) → b ≡ true → (a || b) ≡ true
      or_last true is = refl
      or_last false is = is

  pub node_whole : IsWhole c
  node_whole = record {
    slots = sound.slots;
    families = λ slot f at. (sound.families slot f at).0;
    last = sound.last;
    numbers = sound.numbers;
    held = all_of (λ (r : Held). Any (λ (s : Standing). s.place ≡ r.place) c.found.standing) c.recovered
        (λ h among. let is = whole h among in any_among (λ (s : Standing). s.place ≡ h.place) c.found.standing is.stood is.there is.same_place);
  }
