-- The word for which the call at the decision waits, while a participant is asked: it went to that one, and is the first word of its
-- completion. So one that is to decide alone answers no vote.
use Rattle.std.proofs.Common.{◌≡◌, ℕ, ◌==◌, ◌&&◌, Bool, true, false, if◌then◌else◌, List, [], ◌∷◌, position, slice_get, Option, Some, None, refl, sym, ap, ◌∙◌, arith}
use Rattle.std.proofs.lemmas.Bool.Decides.{nat_tests}
use Rattle.std.proofs.lemmas.List.Quantifiers.{position-Some}
use Rattle.std.specs.Option.{option_and_then, option_map, option_map_or}
use Rattle.ots_model.specs.declared.completion.CallNumber.{CallNumber}
use Rattle.ots_model.specs.declared.tree.Outward.{Outward}
use Rattle.ots_model.specs.declared.completion.Word.TheVariants as phase_words
use Rattle.ots_model.specs.declared.tree.Word.TheVariants as words
use Rattle.two_phase.specs.Course as course
use Rattle.two_phase.specs.Course.{Course}
use Rattle.two_phase.specs.Stages as stages
use Rattle.two_phase.specs.Stages.{Standing, Waiting, Going as UnderWay}
use Rattle.two_phase.specs.declared.party.Errand.{Errand}
use Rattle.two_phase.specs.declared.party.Party.{Party}
use Rattle.two_phase.specs.declared.party.Stage.{Stage as Round}
use Rattle.coordinator.specs.declared.call.Leg.{Leg}
use Rattle.coordinator.specs.declared.call.Leg.TheVariants.{Deciding}
use Rattle.coordinator.specs.Closing.{notice_of}
use Rattle.coordinator.specs.Family.{Family, Call, call_at, has_out, is_own_number, waiting_for}
use Rattle.coordinator.specs.Moves.{Notice}
use Rattle.nodes_world.specs.CompletionLaws.{CompletionLaws}
use Rattle.nodes_world.specs.AgreementInside.{AsksOne, IsNumberedBy, decides_out, notice_at, notice_out, out_at, is_asking}
use Rattle.coordinator.specs.Laws.{IsThere}
use Rattle.nodes_world.proofs.AskedCalls.{IsAskedOf, asked_of}

-- the first call has that word out
out_serial : (out : Option ℕ) (serial : ℕ) → option_map_or (λ (s : ℕ). s == serial) out false ≡ true → out ≡ Some serial
out_serial (Some x) serial is = ap (λ (y : ℕ). Some y) (equal is)
  where
    equal : (x == serial) ≡ true → x ≡ serial
    equal is = grind (arith, nat_tests, is)
out_serial None serial is = absurd cc

first_out : (calls : List (Option Call)) (serial : ℕ) (c : Call) → position (has_out serial) calls ≡ Some 0 → option_and_then (λ (x : Option Call). x) (slice_get calls 0) ≡ Some c
    → c.out ≡ Some serial
first_out [] serial c first at = absurd cc
first_out (x ∷ calls) serial c first at =
    let passes = position-Some (has_out serial) (x ∷ calls) 0 x first in
    out_serial c.out serial (sym (ap (has_out serial) at) ∙ passes.1)

pub first_waits : (f : Family) (n : CallNumber) (c : Call) → waiting_for f n ≡ Some 0 → call_at f 0 ≡ Some c → c.out ≡ Some n.serial
unfolding waiting_for
first_waits f n c waits at = by (is_own_number f n) waits
  where
    by : (t : Bool) → (if t then position (has_out n.serial) f.calls else None) ≡ Some 0 → c.out ≡ Some n.serial
    by true first = first_out f.calls n.serial c first at
    by false first = absurd cc

-- its number is one of the family
pub own_number : (f : Family) (n : CallNumber) → waiting_for f n ≡ Some 0 → (n.life ≡ f.key.life) × (n.slot ≡ f.key.slot) × (n.generation ≡ f.key.generation)
unfolding waiting_for
own_number f n waits = by (is_own_number f n) refl waits
  where
    parts : (a b c x y z : ℕ) → (a == x && b == y && c == z) ≡ true → (a ≡ x) × (b ≡ y) × (c ≡ z)
    parts a b c x y z is = grind (arith, nat_tests)

    by : (t : Bool) → is_own_number f n ≡ t → (if t then position (has_out n.serial) f.calls else None) ≡ Some 0
        → (n.life ≡ f.key.life) × (n.slot ≡ f.key.slot) × (n.generation ≡ f.key.generation)
    by true own first = parts n.life n.slot n.generation f.key.life f.key.slot f.key.generation own
    by false own first = absurd cc

-- the word that asks this one
abbrev pub asked_notice : (k : Course) → IsAskedOf k → Notice
asked_notice k asked = record { word = course.first_word (course.decides_alone k); registration = asked.party.index; to = asked.party.to }

notice_is : (k : Course) (asked : IsAskedOf k) → notice_out (UnderWay k) ≡ Some (AsksOne (asked_notice k asked))
notice_is k asked =
    ap (λ (o : Option Errand). option_and_then (notice_at k) o) asked.out
    ∙ ap (λ (r : Round). notice_at k (record asked.errand { stage = r })) asked.round
    ∙ ap (λ (o : Option Party). option_map (λ (p : Party). AsksOne (record { word = course.first_word (course.decides_alone k); registration = p.index; to = p.to })) o) asked.there

pub asked_word : (f : Family) (o : Outward) (c : Call) → IsNumberedBy f o → waiting_for f o.number ≡ Some 0 → call_at f 0 ≡ Some c → c.leg ≡ Deciding
    → (k : Course) → f.completion ≡ UnderWay k → (asked : IsAskedOf k) → asked_notice k asked ≡ notice_of o
asked_word f o c numbered waits at decides k going asked =
    numbered.out (AsksOne (asked_notice k asked))
    (ap decides_out at ∙ ap (λ (leg : Leg). out_at leg c.out) decides ∙ first_waits f o.number c waits at)
    (ap notice_out going ∙ notice_is k asked)

-- one that is to decide alone was not asked to prepare
pub not_alone : (f : Family) (o : Outward) (c : Call) → IsNumberedBy f o → waiting_for f o.number ≡ Some 0 → call_at f 0 ≡ Some c → c.leg ≡ Deciding
    → (k : Course) → f.completion ≡ UnderWay k → IsAskedOf k → o.word ≡ words.Phase phase_words.Prepare → course.decides_alone k ≡ false
not_alone f o c numbered waits at decides k going asked prepare = by (course.decides_alone k) refl
  where
    by : (t : Bool) → course.decides_alone k ≡ t → t ≡ false
    by true alone = absurd (no (sym (ap course.first_word alone) ∙ ap (λ (n : Notice). n.word) (asked_word f o c numbered waits at decides k going asked) ∙ prepare))
      where
        no : (words.Phase phase_words.CommitOnePhase) ≡ words.Phase phase_words.Prepare → ⊥
        no e = cc
    by false alone = refl

pub vote_not_alone : CompletionLaws → (f : Family) (o : Outward) (c : Call) → IsNumberedBy f o → waiting_for f o.number ≡ Some 0 → call_at f 0 ≡ Some c → c.leg ≡ Deciding
    → IsThere f.completion → is_asking f.completion ≡ true → o.word ≡ words.Phase phase_words.Prepare → stages.decides_alone f.completion ≡ false
vote_not_alone completions f o c numbered waits at decides there asks prepare = by f.completion refl there asks
  where
    by : (s : Standing) → f.completion ≡ s → IsThere s → is_asking s ≡ true → stages.decides_alone s ≡ false
    by (Waiting room) going there asks = refl
    by (UnderWay k) going there asks = not_alone f o c numbered waits at decides k going (asked_of completions k there asks) prepare
